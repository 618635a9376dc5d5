use Rattle.std.proofs.Common.{rules}
use Rattle.views.proofs.unit_view.put_state.Goals as goal

pub returns : goal.returns
returns c = search rules
