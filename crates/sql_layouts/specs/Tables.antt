-- The tables and the layouts that constants tell. This project's own words.
use Rattle.std.specs.Prelude.{◌≡◌, true, false, List, [], map}
use Rattle.sqlite.specs.Schema.{Schema}
use Rattle.sqlite_schema.specs.declared.schema.Index.{Index}
use Rattle.sqlite_schema.specs.declared.schema.Stamps.{Stamps}
use Rattle.sqlite_schema.specs.declared.schema.Table.{Table}
use Rattle.sqlite_value.specs.Keys.{plain}
use Rattle.sql_schema.specs.Layouts as layouts
use Rattle.sql_layouts.specs.Shapes.{column_of, reference_of}
use Rattle.sql_layouts.specs.Checks.{check_of}
use Rattle.sql_layouts.specs.declared.office_tables.Form.{Form}
use Rattle.sql_layouts.specs.declared.office_tables.Form.TheVariants.{ForMain, WithFigures, ByDomain}
use Rattle.sql_layouts.specs.declared.office_tables.IndexAt.{IndexAt}
use Rattle.sql_layouts.specs.declared.office_tables.TableAt.{TableAt}
use Rattle.sql_layouts.specs.declared.office_tables.TableShape.{TableShape}

-- ---- a table

abbrev pub no_stamps : Stamps
no_stamps = record { places = []; terms = []; formats = [] }

-- what is told of the place, the columns and the keys
pub record HasKeys (table : Table) (at : TableAt) : Type 0 where
  pub named : table.name ≡ at.1.name.now
  pub placed : table.tree ≡ at.0
  pub columns : table.columns ≡ map column_of at.1.columns.now
  pub key : table.key ≡ at.1.key
  pub primary : table.primary ≡ at.1.primary.now
  pub uniques : table.uniques ≡ map (λ places. places.0.now) at.1.uniques.now
  pub orders : table.orders ≡ map (λ _. plain) at.1.orders.now

-- and of the rest
pub record HasRules (table : Table) (shape : TableShape) : Type 0 where
  pub tested : table.checks ≡ map check_of shape.checks.now
  pub references : table.references ≡ map reference_of shape.references.now
  pub literal : table.computed ≡ []
  pub bare : table.stamps ≡ no_stamps
  pub uncounted : table.is_counted ≡ false

abbrev pub table_of : TableAt → Table
table_of at = record {
  name = at.1.name.now;
  tree = at.0;
  columns = map column_of at.1.columns.now;
  key = at.1.key;
  primary = at.1.primary.now;
  uniques = map (λ places. places.0.now) at.1.uniques.now;
  orders = map (λ _. plain) at.1.orders.now;
  checks = map check_of at.1.checks.now;
  references = map reference_of at.1.references.now;
  computed = [];
  stamps = no_stamps;
  is_counted = false;
}

-- ---- an index

abbrev pub index_of : IndexAt → Index
index_of at = record { name = at.1.name.now; tree = at.0.0; table = at.0.1; columns = at.1.columns.now; order = plain; is_unique = true }

-- ---- all of a layout

-- these tables and indexes, and nothing beside them
abbrev pub schema_told : List TableAt → List IndexAt → Schema
schema_told tables indexes = record { tables = map table_of tables; indexes = map index_of indexes; views = [] }

-- the form of the tables that a test of a schema tells
abbrev pub form_told : Form → layouts.Form
form_told ForMain = layouts.for_main false
form_told WithFigures = layouts.for_main true
form_told ByDomain = layouts.by_domain
