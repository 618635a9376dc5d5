-- Which rows are a domain's entry of a key.
use Rattle.std.specs.Prelude.{Bool, List, ℕ, ◌&&◌}
use Rattle.sqlite.specs.Order.{Row}
use Rattle.sql_schema.specs.Keys.{has_text}

abbrev pub is_entry_of : (domain key : List ℕ) → Row → Bool
is_entry_of domain key row = has_text 1 domain row && has_text 3 key row
