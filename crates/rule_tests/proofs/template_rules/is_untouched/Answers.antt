use Rattle.std.proofs.Common.{List, length, ap, ◌∙◌}
use Rattle.std.specs.Prelude.{◌==◌}
use Rattle.po_text.specs.declared.text.Text.{Text}
use Rattle.rule_tests.proofs.TemplateTests.{untouched_told}
use Rattle.rule_tests.proofs.template_rules.is_untouched.Goals as goal

pub returns : goal.returns
returns c =
    untouched_told c.args.entry.now c.hold_all.result c.is_one_empty.result c.is_empty-bare.result c.has_no_previous.result c.hold_all.ensures c.is_one_empty.ensures
    (c.is_empty-bare.ensures ∙ ap (λ (xs : List Text). length xs == 0) c.as_slice.ensures) c.has_no_previous.ensures
