use Rattle.std.proofs.Common.{◌∙◌, ap, length}
use Rattle.std.specs.List.{list_all}
use Rattle.std.specs.Prelude.{◌==◌}
use Rattle.units.specs.Units.{forms_needed}
use Rattle.units.specs.declared.unit.Suggestion.{Suggestion}
use Rattle.po_text.specs.declared.string.PoString.{PoString}
use Rattle.std.proofs.Common.{Option}
use Rattle.rule_tests.proofs.UnitTests.{forms_told}
use Rattle.rule_tests.proofs.unit_rules.has_forms.Goals as goal

pub returns : goal.returns
returns c =
    forms_told c.args.rule.now c.args.unit.now c.forms_needed-count.result c.hold_all.result c.has_count-own.result c.have_count.result c.hold_all.ensures
    (c.forms_needed-count.ensures ∙ ap (λ (plural : Option PoString). forms_needed c.args.rule.now plural) c.as_ref.ensures.value) c.has_count-own.ensures
    (c.have_count.ensures ∙ ap (list_all (λ (s : Suggestion). length s.forms == c.forms_needed-count.result)) c.as_slice.ensures)
