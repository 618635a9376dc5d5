-- What a read of all records shows.
use Rattle.std.specs.Prelude.{List, [], ◌∷◌, codes}
use Rattle.sqlite.specs.Order.{Row}
use Rattle.sqlite.specs.Effect.{Database}
use Rattle.sql_schema.specs.Layouts.{NamedRows, rows_named}
use Rattle.sql_statements.specs.Tables.{ShowsTableIn}

-- content, status, body, number
abbrev pub ShowsRecordsIn : NamedRows → List Row → Type 0
ShowsRecordsIn = ShowsTableIn (codes "record") (2 ∷ 3 ∷ 4 ∷ 1 ∷ []) (3 ∷ [])

-- those of a database
abbrev pub ShowsRecords : Database → List Row → Type 0
ShowsRecords db rows = ShowsRecordsIn (rows_named db) rows
