-- When a database holds the tables of an office. This project's own words.
use Rattle.sqlite.specs.Effect.{Database}
use Rattle.sql_schema.specs.Inside.{AreTablesOf}
use Rattle.sql_schema.specs.Layouts.{Form, HasLayoutOf, rows_named}

-- The tables are what the texts of a form define, each in its place, with nothing beside them but the tables of an earlier form, and each has
-- its rowids apart. How the texts are spelled that made them is not asked.
pub record HoldsOfficeOf (form : Form) (db : Database) : Type 0 where
  pub schema : HasLayoutOf form db
  pub tables : AreTablesOf form (rows_named db)

-- of some form
abbrev pub HoldsOffice : Database → Type 0
HoldsOffice db = (form : Form) × HoldsOfficeOf form db
