use Rattle.std.proofs.Common.{sym, ◌∙◌, ap, length, arith}
use Rattle.std.specs.FinMap as map
use Rattle.units.proofs.Placing.{len-view}
use Rattle.units.proofs.votes.Votes.len.Goals as goal

pub returns-clause-value : goal.returns-clause-value
returns-clause-value c =
    let same = ap map.len (sym c.self.view_is) ∙ len-view _ c.self.invariant.0 in
    ap length c.as_slice.ensures.value ∙ sym same

pub returns-clause-fits : goal.returns-clause-fits
returns-clause-fits c =
    let same = ap map.len (sym c.self.view_is) ∙ len-view _ c.self.invariant.0 in
    let listed = ap length c.as_slice.ensures.value in
    omega (arith, same, listed, c.as_slice.type_inv.1)
