use Rattle.std.proofs.Common.{List, length, ap, ◌∙◌}
use Rattle.std.specs.Prelude.{◌==◌}
use Rattle.units.specs.declared.unit.Suggestion.{Suggestion}
use Rattle.rule_tests.proofs.UnitTests.{put_away_told}
use Rattle.rule_tests.proofs.unit_rules.is_put_away.Goals as goal

pub returns : goal.returns
returns c =
    put_away_told c.args.unit.now c.hold_all.result c.is_empty.result c.is_single.result c.hold_all.ensures c.hold_forms.ensures.some c.hold_forms.ensures.most
    (c.is_empty.ensures ∙ ap (λ (xs : List Suggestion). length xs == 0) c.as_slice.ensures) c.is_single.ensures
