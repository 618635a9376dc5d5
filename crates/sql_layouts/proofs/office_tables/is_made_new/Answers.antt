use Rattle.std.specs.Fmt.{digits}
use Rattle.sql_layouts.proofs.office_tables.is_made_new.Goals as goal

-- what the constants tell is the schema of the layout
pub returns : goal.returns
unfolding digits
returns c = c.is_told.ensures
