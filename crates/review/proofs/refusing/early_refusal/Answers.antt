use Rattle.std.proofs.Common.{sym, Option, Some, None, IfSome, List, ℕ, ◌≡◌, ◌∙◌}
use Rattle.review.specs.UnitStep.{unit_step}
use Rattle.review.specs.Parts.{with_these}
use Rattle.review.proofs.Parts.{early_step}
use Rattle.review.proofs.refusing.early_refusal.Goals as goal

pub returns-clause-refuses : goal.returns-clause-refuses
returns-clause-refuses c =
    let a = c.args in
    early_step a.policy.now a.rule.now a.role a.view.now a.act.now _ c.first_refusal.ensures
