use Rattle.std.proofs.Common.{sym, ◌∙◌, ap}
use Rattle.po_lex.specs.Lines.{lines_of}
use Rattle.po_text.specs.Header.{field_value}
use Rattle.po_text.proofs.HeaderLemmas.{first_value, value_found}
use Rattle.po_text.proofs.header.field_value.Goals as goal

pub returns-in-Some-value_in : goal.returns-in-Some-value_in
unfolding field_value
returns-in-Some-value_in c =
    value_found c.args.name.now c.in-Some.line.now (lines_of c.in-Some.more.now) _ c.in-Some-value_in.ensures
    ∙ ap (first_value c.args.name.now) (sym c.in-Some.ensures.cut) ∙ c.loop-line.invariant.same

pub returns : goal.returns
unfolding field_value
returns c = ap (first_value c.args.name.now) (sym c.in_default.ensures.cut) ∙ c.loop-line.invariant.same
