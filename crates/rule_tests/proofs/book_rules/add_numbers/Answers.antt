use Rattle.std.proofs.Common.{◌∙◌, ◌++◌, List, false, refl, sym, subst}
use Rattle.std.specs.Bool.{Decides}
use Rattle.std.specs.List.{IsDistinct}
use Rattle.po_text.specs.Texts.{text_eq}
use Rattle.units.specs.declared.unit.Suggestion.{Suggestion}
use Rattle.rule_tests.proofs.BookTests.{numbers_among, not_true, not_false, one_added, number_twice}
use Rattle.rule_tests.proofs.book_rules.add_numbers.Goals as goal

pub loop-suggestion-preserved : goal.loop-suggestion-preserved
loop-suggestion-preserved c =
    one_added c.args.seen.now c.loop-suggestion.seen c.insert.new.self c.as_slice-suggestion-items.result.now c.loop-suggestion.suggestion-index c.suggestion-item.result c.suggestion-item.result.number
    c.loop-suggestion-test.true c.suggestion-item.is refl (not_true _ (sym c.in_ok-insert.ensures.added ∙ c.if-not-branch.false)) c.in_ok-insert.ensures.updates c.loop-suggestion.invariant

pub returns-then-not-branch-clause-new : goal.returns-then-not-branch-clause-new
returns-then-not-branch-clause-new c = λ before are distinct.
    subst (λ (xs : List Suggestion). Decides false (IsDistinct text_eq (before ++ numbers_among xs))) c.as_slice-suggestion-items.ensures
    (number_twice c.args.seen.now c.loop-suggestion.seen c.as_slice-suggestion-items.result.now c.loop-suggestion.suggestion-index c.suggestion-item.result c.suggestion-item.result.number
    c.loop-suggestion-test.true c.suggestion-item.is refl (not_false _ (sym c.in_ok-insert.ensures.added ∙ c.if-not-branch.true)) c.loop-suggestion.invariant before are distinct)
