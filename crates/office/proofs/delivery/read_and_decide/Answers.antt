use Rattle.std.proofs.Common.{◌≡◌, ◌∙◌, Option, IfSome, sym, subst}
use Rattle.std.specs.Prelude.{IfOk}
use Rattle.std.proofs.lemmas.Result.{err_from_is_err_and}
use Rattle.request_book.specs.Book.{OfficeWithBook}
use Rattle.office_specification.specs.declared.values.UnitOutcome.{UnitOutcome}
use Rattle.office_specification.specs.UnitAccess.{without_suggestions}
use Rattle.office.specs.UnitReads.{found_for, Decides}
use Rattle.office.proofs.Stopped.{alike, read_done, read_failed, read_then, read_then_memory}
use Rattle.office.proofs.delivery.read_and_decide.Goals as goal

-- decided without suggestions
pub returns-in-Some-clause-answer : goal.returns-in-Some-clause-answer
returns-in-Some-clause-answer g c = λ honest.
    subst (λ (o : Option UnitOutcome). IfSome o (Decides (found_for (g.T.Tables.means c.args.tables.now).office c.args.asked.domain.now c.args.asked.lang.now c.args.asked.key.now c.args.asked.request.now) c.args.asked.request.now c.args.asked.act.now)) c.in-Some.is
    (c.in_ok-outcome.ensures.decided (found_for (g.T.Tables.means c.args.tables.now).office c.args.asked.domain.now c.args.asked.lang.now c.args.asked.key.now c.args.asked.request.now) (c.in_ok-found.ensures.answer honest))

pub returns-in-Some-clause-kept : goal.returns-in-Some-clause-kept
returns-in-Some-clause-kept g c = read_done c.in_ok-found.ensures.kept

-- decided with them
pub decide_with_suggestions-requires : goal.decide_with_suggestions-requires
decide_with_suggestions-requires g c = record {
  found = λ honest.
      subst (λ (m : OfficeWithBook). c.in_ok-found.found ≡ without_suggestions (found_for m.office c.args.asked.domain.now c.args.asked.lang.now c.args.asked.key.now c.args.asked.request.now))
      (sym (c.unit_of.ensures.same honest (c.in_ok-found.ensures.kept.open_still honest))) (c.in_ok-found.ensures.answer honest);
}

pub returns-in-None-clause-answer : goal.returns-in-None-clause-answer
returns-in-None-clause-answer g c = λ honest.
    let was = c.decide_with_suggestions.ensures.kept.honest honest in
    subst (λ (m : OfficeWithBook). IfOk c.decide_with_suggestions.result (Decides (found_for m.office c.args.asked.domain.now c.args.asked.lang.now c.args.asked.key.now c.args.asked.request.now) c.args.asked.request.now c.args.asked.act.now))
    (c.unit_of.ensures.same was (c.in_ok-found.ensures.kept.open_still was)) (c.decide_with_suggestions.ensures.answer honest)

pub returns-in-None-clause-same : goal.returns-in-None-clause-same
returns-in-None-clause-same g c = λ honest whole.
    let was = c.decide_with_suggestions.ensures.kept.honest honest in
    c.decide_with_suggestions.ensures.same honest whole ∙ c.unit_of.ensures.same was (c.decide_with_suggestions.ensures.kept.whole honest whole)

pub returns-in-None-clause-kept : goal.returns-in-None-clause-kept
returns-in-None-clause-kept g c =
    read_then (alike c.decide_with_suggestions.result) c.in_ok-found.ensures.kept c.decide_with_suggestions.ensures.kept (λ honest m never. never)

pub returns-in_err-found-clause-kept : goal.returns-in_err-found-clause-kept
returns-in_err-found-clause-kept g c =
    let p = err_from_is_err_and c.from_residual.result c.from_residual.ensures.1 in rw (p.1, p.2) (read_failed c.in_err-found.ensures.kept)

pub returns-in_err-outcome-clause-kept : goal.returns-in_err-outcome-clause-kept
returns-in_err-outcome-clause-kept g c =
    let p = err_from_is_err_and c.from_residual-in_err-outcome.result c.from_residual-in_err-outcome.ensures.1 in rw (p.1, p.2) (read_then_memory c.in_ok-found.ensures.kept)
