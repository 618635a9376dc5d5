use Rattle.std.proofs.lemmas.Result.{err_from_is_err_and}
use Rattle.units.specs.Office.{project_in}
use Rattle.office.specs.UnitReads.{found_for}
use Rattle.office.proofs.Stopped.{read_done, read_failed, read_then_memory}
use Rattle.office.proofs.UnitReads.{suggestions_found}
use Rattle.office.proofs.delivery.decide_suggestion.Goals as goal

pub returns-clause-answer : goal.returns-clause-answer
returns-clause-answer g c = λ honest.
    c.in_ok-outcome.ensures (found_for (g.T.Tables.means c.args.tables.now).office c.args.asked.domain.now c.args.asked.lang.now c.args.asked.key.now c.args.asked.request.now)
    (c.requires.found (c.in_ok-suggestions.ensures.kept.honest honest))
    (suggestions_found (project_in (g.T.Tables.means c.args.tables.now).office c.args.asked.domain.now) c.args.asked.lang.now c.args.asked.key.now c.args.asked.request.now.caller c.in_ok-suggestions.suggestions (c.in_ok-suggestions.ensures.answer honest))

pub returns-clause-kept : goal.returns-clause-kept
returns-clause-kept g c = read_done c.in_ok-suggestions.ensures.kept

pub returns-in_err-suggestions-clause-kept : goal.returns-in_err-suggestions-clause-kept
returns-in_err-suggestions-clause-kept g c =
    let p = err_from_is_err_and c.from_residual.result c.from_residual.ensures.1 in rw (p.1, p.2) (read_failed c.in_err-suggestions.ensures.kept)

pub returns-in_err-outcome-clause-kept : goal.returns-in_err-outcome-clause-kept
returns-in_err-outcome-clause-kept g c =
    let p = err_from_is_err_and c.from_residual-in_err-outcome.result c.from_residual-in_err-outcome.ensures.1 in rw (p.1, p.2) (read_then_memory c.in_ok-suggestions.ensures.kept)
