-- What the queries show of one row by its key, column by column.
use Rattle.std.specs.Prelude.{pos, ℕ, List, [], ◌∷◌, Option, codes}
use Rattle.sqlite.specs.declared.types.Value.TheVariants.{Int}
use Rattle.sqlite.specs.Order.{Row}
use Rattle.sqlite.specs.Effect.{Database}
use Rattle.sql_schema.specs.Keys.{first_text, row_number, columns}
use Rattle.sql_laws.specs.RowMaps.{IsFound}
use Rattle.sql_schema.specs.Layouts.{NamedRows, rows_named}
use Rattle.sql_schema.specs.Inside.{ShowsKey}

-- content, status, body
abbrev pub ShowsRecord : List ℕ → Database → Option Row → Type 0
ShowsRecord = ShowsKey (codes "record") first_text (columns (2 ∷ 3 ∷ 4 ∷ []))

-- role
abbrev pub ShowsMember : List ℕ → Database → Option Row → Type 0
ShowsMember = ShowsKey (codes "team") first_text (columns (2 ∷ []))

-- schema, and the six values
abbrev pub ShowsPolicyIn : NamedRows → Option Row → Type 0
ShowsPolicyIn tables = IsFound row_number (columns (2 ∷ 3 ∷ 4 ∷ 5 ∷ 6 ∷ 7 ∷ 8 ∷ [])) (tables (codes "policy")) (Int (pos 1))

abbrev pub ShowsPolicy : Database → Option Row → Type 0
ShowsPolicy db found = ShowsPolicyIn (rows_named db) found
