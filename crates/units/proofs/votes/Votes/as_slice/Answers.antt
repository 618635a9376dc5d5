use Rattle.std.proofs.Common.{sym, ◌∙◌, ap}
use Rattle.std.specs.FinMap as map
use Rattle.units.proofs.Placing.{entries-view}
use Rattle.units.proofs.votes.Votes.as_slice.Goals as goal

pub returns : goal.returns
returns c = c.as_slice.ensures.value ∙ sym (ap map.entries (sym c.self.view_is) ∙ entries-view _ c.self.invariant.0)
