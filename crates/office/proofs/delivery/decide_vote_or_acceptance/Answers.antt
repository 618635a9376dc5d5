use Rattle.std.proofs.Common.{◌∙◌, Option, IfSome, subst}
use Rattle.std.specs.Prelude.{IfOk}
use Rattle.std.proofs.lemmas.Result.{err_from_is_err_and}
use Rattle.request_book.specs.Book.{OfficeWithBook}
use Rattle.office_specification.specs.declared.values.UnitOutcome.{UnitOutcome}
use Rattle.office.specs.UnitReads.{found_for, Decides}
use Rattle.office.proofs.Stopped.{alike, read_done, read_failed, read_then}
use Rattle.office.proofs.delivery.decide_vote_or_acceptance.Goals as goal

pub returns-in-Some-clause-answer : goal.returns-in-Some-clause-answer
returns-in-Some-clause-answer g c = λ honest.
    subst (λ (o : Option UnitOutcome). IfSome o (Decides (found_for (g.T.Tables.means c.args.tables.now).office c.args.asked.domain.now c.args.asked.lang.now c.args.asked.key.now c.args.asked.request.now) c.args.asked.request.now c.args.asked.act.now)) c.in-Some.is (c.in_ok-outcome.ensures.answer honest)

pub returns-in-Some-clause-kept : goal.returns-in-Some-clause-kept
returns-in-Some-clause-kept g c = read_done c.in_ok-outcome.ensures.kept

pub returns-in-None-clause-answer : goal.returns-in-None-clause-answer
returns-in-None-clause-answer g c = λ honest.
    let was = c.decide_whole.ensures.kept.honest honest in
    subst (λ (m : OfficeWithBook). IfOk c.decide_whole.result (Decides (found_for m.office c.args.asked.domain.now c.args.asked.lang.now c.args.asked.key.now c.args.asked.request.now) c.args.asked.request.now c.args.asked.act.now))
    (c.decide_vote.ensures.same was (c.in_ok-outcome.ensures.kept.open_still was)) (c.decide_whole.ensures.answer honest)

pub returns-in-None-clause-same : goal.returns-in-None-clause-same
returns-in-None-clause-same g c = λ honest whole.
    let was = c.decide_whole.ensures.kept.honest honest in
    c.decide_whole.ensures.same honest whole ∙ c.decide_vote.ensures.same was (c.decide_whole.ensures.kept.whole honest whole)

pub returns-in-None-clause-kept : goal.returns-in-None-clause-kept
returns-in-None-clause-kept g c =
    read_then (alike c.decide_whole.result) c.in_ok-outcome.ensures.kept c.decide_whole.ensures.kept (λ honest m never. never)

pub returns-in_err-outcome-clause-kept : goal.returns-in_err-outcome-clause-kept
returns-in_err-outcome-clause-kept g c =
    let p = err_from_is_err_and c.from_residual.result c.from_residual.ensures.1 in rw (p.1, p.2) (read_failed c.in_err-outcome.ensures.kept)
