use Rattle.std.proofs.Common.{ap, ◌∙◌}
use Rattle.std.specs.List.{list_all}
use Rattle.po_lex.specs.Lines.{is_comment_text}
use Rattle.rule_tests.proofs.UnitTests.{texts_told}
use Rattle.rule_tests.proofs.unit_rules.has_its_texts.Goals as goal

pub returns : goal.returns
returns c =
    texts_told c.args.unit.now c.hold_all.result c.is_named-named.result c.keeps_previous.result c.are_comment_texts.result c.hold_all.ensures c.is_named-named.ensures c.keeps_previous.ensures
    (c.are_comment_texts.ensures ∙ ap (list_all is_comment_text) c.as_slice.ensures)
