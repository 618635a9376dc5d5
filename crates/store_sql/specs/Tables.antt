-- What clauses say of tables on SQLite, by their type. This project's own words.
use Rattle.sqlite.specs.Held.{Held}
use Rattle.sqlite_trees.specs.declared.store.Store as store
use Rattle.store_sql.specs.declared.sqlite_tables.SqliteTables.{SqliteTables}
use Rattle.store_sql.specs.TablesInFile.{Flags}

module _ {S : Type 0} (g : store.Ghosts S) where
  -- what their connection holds, whether they are stopped, and which part of the office is at hand
  abbrev pub held_by : SqliteTables S g → Held S × Flags
  held_by tables = tables.held

  -- their connection
  abbrev pub connection_of : SqliteTables S g → Held S
  connection_of tables = (held_by tables).0
