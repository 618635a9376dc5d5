-- What `office records` prints of a record: its request's number and its reply's status, in JSON, the members in the order of their names, which
-- is how a canonical text has them (RFC 8785). The number is hyphenated and in lower case (RFC 9562), so nothing in it is escaped.
use Rattle.std.specs.Prelude.{ℕ, List, ◌++◌, codes, decimal}

-- a line `{"number":"N","status":K}`
abbrev pub record_line : List ℕ → ℕ → List ℕ
record_line number status = codes "{\"number\":\"" ++ (number ++ (codes "\",\"status\":" ++ (decimal status ++ codes "}\n")))
