use Rattle.std.proofs.Common.{◌∙◌}
use Rattle.rule_tests.proofs.LanguageTests.{none_counted}
use Rattle.rule_tests.proofs.language_rules.has_few_units.Goals as goal

pub loop-place-init : goal.loop-place-init
loop-place-init c =
    none_counted c.args.project.now c.args.lang.now c.in_ok-first.first c.into_iter-place-iterator.result c.in_ok-first.ensures.lang c.in_ok-first.ensures.key c.range-place-items.ensures.ordered
    (c.into_iter-place-iterator.ensures.into_iter_gives ∙ c.range-place-items.ensures.between tt)
