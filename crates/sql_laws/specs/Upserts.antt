-- What INSERT .. ON CONFLICT (..) DO UPDATE writes for one row.
use Rattle.std.specs.Prelude.{◌⊎◌, ℕ, List, [], ◌∷◌, ◌++◌, Option, Ok}
use Rattle.sqlite.specs.Order.{Row}
use Rattle.sqlite.specs.Tree.{Trees, rowid}
use Rattle.sqlite.specs.Effect.{Answers}
use Rattle.sqlite.specs.Rows.{shown}
use Rattle.sqlite_schema.specs.declared.program.Program.{Program}
use Rattle.sqlite_schema.specs.declared.schema.Table.{Table}
use Rattle.sqlite_schema.specs.declared.schema.Schema.{Schema}
use Rattle.sqlite_schema.specs.declared.schema.Keys.{Keys}
use Rattle.sqlite_rules.specs.declared.error.Rowids.TheVariants.{Given}
use Rattle.sqlite_rules.specs.Edit.{edit_of}
use Rattle.sqlite_rules.specs.Action.{Writes}
use Rattle.sqlite_rules.specs.Keys.{AreConflicts}
use Rattle.sqlite_rules.specs.Calls.{ids_of}

-- a row that conflicts with none goes in; else the update is made of the row that is there
abbrev pub PutsOrRenews : Schema → Keys → Trees → Trees → Table → Row → Row → Option (List ℕ) → Program → Type 0
PutsOrRenews schema keys db after table params new target update =
    (AreConflicts target schema.indexes table (db table.tree) new [] ×
    Writes schema keys db (edit_of db table [] Given 0 (new ∷ [])) (Ok after))
    ⊎ ((there : Row) × (more : List Row) × AreConflicts target schema.indexes table (db table.tree) new (there ∷ more)
    × (rows : List Row) × Answers (record { schema = schema; trees = db }) update (params ++ rowid there ∷ shown table new) rows
    × Writes schema keys db (edit_of db table (ids_of rows) Given 1 rows) (Ok after))
