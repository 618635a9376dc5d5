use Rattle.std.proofs.Common.{rules}
use Rattle.office_maps.proofs.unit_rows.unapprove.Goals as goal

pub returns-then-ne : goal.returns-then-ne
returns-then-ne c = search rules
