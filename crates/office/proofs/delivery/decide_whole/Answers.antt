use Rattle.std.proofs.Common.{Option, subst}
use Rattle.std.proofs.lemmas.Result.{err_from_is_err_and}
use Rattle.office_specification.specs.declared.values.ActContext.{ActContext}
use Rattle.office.specs.UnitReads.{Decides}
use Rattle.office.proofs.Stopped.{read_done, read_failed, read_then_memory}
use Rattle.office.proofs.delivery.decide_whole.Goals as goal

pub returns-clause-answer : goal.returns-clause-answer
returns-clause-answer g c = λ honest.
    subst (λ (found : Option ActContext). Decides found c.args.asked.request.now c.args.asked.act.now c.in_ok-outcome.field-0) (c.in_ok-found.ensures.answer honest) c.in_ok-outcome.ensures

pub returns-clause-kept : goal.returns-clause-kept
returns-clause-kept g c = read_done c.in_ok-found.ensures.kept

pub returns-in_err-found-clause-kept : goal.returns-in_err-found-clause-kept
returns-in_err-found-clause-kept g c =
    let p = err_from_is_err_and c.from_residual.result c.from_residual.ensures.1 in rw (p.1, p.2) (read_failed c.in_err-found.ensures.kept)

pub returns-in_err-outcome-clause-kept : goal.returns-in_err-outcome-clause-kept
returns-in_err-outcome-clause-kept g c =
    let p = err_from_is_err_and c.from_residual-in_err-outcome.result c.from_residual-in_err-outcome.ensures.1 in rw (p.1, p.2) (read_then_memory c.in_ok-found.ensures.kept)
