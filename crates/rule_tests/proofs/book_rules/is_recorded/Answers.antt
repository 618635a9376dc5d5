use Rattle.std.proofs.Common.{◌∙◌, List, sym, subst, false}
use Rattle.std.specs.Bool.{Decides}
use Rattle.std.specs.Prelude.{All}
use Rattle.units.specs.declared.unit.Suggestion.{Suggestion}
use Rattle.rule_tests.proofs.BookTests.{HasStatus}
use Rattle.rule_tests.proofs.Tests.{all_more, one_failed}
use Rattle.rule_tests.proofs.book_rules.is_recorded.Goals as goal

pub loop-suggestion-preserved : goal.loop-suggestion-preserved
loop-suggestion-preserved c =
    all_more (HasStatus c.args.statuses.now) c.as_slice-suggestion-items.result.now c.loop-suggestion.suggestion-index c.suggestion-item.result c.loop-suggestion-test.true c.suggestion-item.is
    c.loop-suggestion.invariant (sym c.contains_key.ensures ∙ c.if-not-contains_key.false)

pub returns-then-not-contains_key : goal.returns-then-not-contains_key
returns-then-not-contains_key c =
    subst (λ (xs : List Suggestion). Decides false (All (HasStatus c.args.statuses.now) xs)) c.as_slice-suggestion-items.ensures
    (one_failed (HasStatus c.args.statuses.now) c.as_slice-suggestion-items.result.now c.loop-suggestion.suggestion-index c.suggestion-item.result c.contains_key.result c.loop-suggestion-test.true
    c.suggestion-item.is (λ e. sym c.contains_key.ensures ∙ e, λ h. c.contains_key.ensures ∙ h) c.if-not-contains_key.true)
