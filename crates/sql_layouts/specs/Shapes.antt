-- The parts of a schema that constants tell. This project's own words.
use Rattle.std.specs.Prelude.{◌≡◌, Bool, true, false, List, ℕ, map}
use Rattle.sqlite.specs.Collation.{Collation}
use Rattle.sqlite.specs.Collation.TheVariants.{Binary}
use Rattle.sqlite.specs.declared.types.Value.TheVariants.{Null}
use Rattle.sqlite.specs.Kind.{Kind}
use Rattle.sqlite.specs.Kind.TheVariants.{Integer, Text}
use Rattle.sqlite_schema.specs.declared.schema.Column.{Column}
use Rattle.sqlite_schema.specs.declared.schema.Reference.{Reference}
use Rattle.sqlite_schema.specs.declared.schema.Action.{Action}
use Rattle.sqlite_schema.specs.declared.schema.Action.TheVariants.{NoAction, Cascade}
use Rattle.sql_schema.specs.Schema.{text_column, nullable_column, int_column, rowid_column}
use Rattle.sql_layouts.specs.declared.shapes.ColumnShape.{ColumnShape}
use Rattle.sql_layouts.specs.declared.shapes.ColumnShape.TheVariants as shape
use Rattle.sql_layouts.specs.declared.shapes.ReferenceShape.{ReferenceShape}

abbrev pub binary : Collation
binary = Binary

abbrev pub text : Kind
text = Text

abbrev pub integer : Kind
integer = Integer

-- what a column of a STRICT table is beside its kind
pub record IsStrict (column : Column) (name : List ℕ) (not_null : Bool) : Type 0 where
  pub named : column.name ≡ name
  pub strict : column.is_strict ≡ true
  pub told : column.not_null ≡ not_null
  pub bare : column.default ≡ Null
  pub by_bytes : column.collation ≡ Binary

abbrev pub column_of : ColumnShape → Column
column_of (shape.Text name) = text_column name.now
column_of (shape.Nullable name) = nullable_column name.now
column_of (shape.Integer name) = int_column name.now
column_of (shape.Rowid name) = rowid_column name.now

abbrev pub action_of : Bool → Action
action_of true = Cascade
action_of false = NoAction

abbrev pub reference_of : ReferenceShape → Reference
reference_of shape = record {
  columns = shape.columns.now;
  parent = shape.parent.now;
  parent_columns = map (λ name. name.0.now) shape.parent_columns.now;
  on_delete = action_of shape.cascades;
  on_update = NoAction;
  is_deferred = false;
}
