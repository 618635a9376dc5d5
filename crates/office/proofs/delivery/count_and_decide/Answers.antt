use Rattle.std.proofs.Common.{sym}
use Rattle.std.proofs.lemmas.Result.{err_from_is_err_and}
use Rattle.office.proofs.Stopped.{read_done, read_failed, read_then_memory}
use Rattle.office.proofs.delivery.count_and_decide.Goals as goal

pub returns-clause-answer : goal.returns-clause-answer
returns-clause-answer g c = λ honest.
    let whole = c.in_ok-approvals.ensures.kept.open_still honest in
    let kept = g.met.T.Tables.rules c.args.tables.now (c.in_ok-approvals.ensures.kept.honest honest) (c.in_ok-approvals.ensures.kept.whole honest whole) in
    c.in_ok-outcome.ensures (g.T.Tables.means c.args.tables.now).office kept.office (sym (c.in_ok-approvals.ensures.answer honest))

pub returns-clause-kept : goal.returns-clause-kept
returns-clause-kept g c = read_done c.in_ok-approvals.ensures.kept

pub returns-in_err-approvals-clause-kept : goal.returns-in_err-approvals-clause-kept
returns-in_err-approvals-clause-kept g c =
    let p = err_from_is_err_and c.from_residual.result c.from_residual.ensures.1 in rw (p.1, p.2) (read_failed c.in_err-approvals.ensures.kept)

pub returns-in_err-outcome-clause-kept : goal.returns-in_err-outcome-clause-kept
returns-in_err-outcome-clause-kept g c =
    let p = err_from_is_err_and c.from_residual-in_err-outcome.result c.from_residual-in_err-outcome.ensures.1 in rw (p.1, p.2) (read_then_memory c.in_ok-approvals.ensures.kept)
