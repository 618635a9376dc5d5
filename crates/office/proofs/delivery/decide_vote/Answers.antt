use Rattle.std.proofs.lemmas.Result.{err_from_is_err_and}
use Rattle.units.specs.Office.{project_in}
use Rattle.office.specs.UnitReads.{found_for}
use Rattle.office.proofs.Stopped.{read_done, read_failed, read_then_memory}
use Rattle.office.proofs.UnitReads.{suggestion_found}
use Rattle.office.proofs.delivery.decide_vote.Goals as goal

pub returns-clause-answer : goal.returns-clause-answer
returns-clause-answer g c = λ honest.
    c.in_ok-outcome.ensures.decided (found_for (g.T.Tables.means c.args.tables.now).office c.args.asked.domain.now c.args.asked.lang.now c.args.asked.key.now c.args.asked.request.now) c.args.named.now c.requires.named
    (c.requires.found (c.in_ok-suggestion.ensures.kept.honest honest))
    (suggestion_found (project_in (g.T.Tables.means c.args.tables.now).office c.args.asked.domain.now) c.args.asked.lang.now c.args.asked.key.now c.args.asked.request.now.caller c.args.named.now c.in_ok-suggestion.suggestion (c.in_ok-suggestion.ensures.answer honest))

pub returns-clause-kept : goal.returns-clause-kept
returns-clause-kept g c = read_done c.in_ok-suggestion.ensures.kept

pub returns-in_err-suggestion-clause-kept : goal.returns-in_err-suggestion-clause-kept
returns-in_err-suggestion-clause-kept g c =
    let p = err_from_is_err_and c.from_residual.result c.from_residual.ensures.1 in rw (p.1, p.2) (read_failed c.in_err-suggestion.ensures.kept)

pub returns-in_err-outcome-clause-kept : goal.returns-in_err-outcome-clause-kept
returns-in_err-outcome-clause-kept g c =
    let p = err_from_is_err_and c.from_residual-in_err-outcome.result c.from_residual-in_err-outcome.ensures.1 in rw (p.1, p.2) (read_then_memory c.in_ok-suggestion.ensures.kept)
