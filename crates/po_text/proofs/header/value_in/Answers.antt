use Rattle.std.proofs.Common.{lit<, sym, ◌∙◌}
use Rattle.std.proofs.lemmas.Str.Pattern.{split_parts}
use Rattle.po_text.proofs.HeaderLemmas.{field_at, no_field, value_is, value_is_not, no_value}
use Rattle.po_text.proofs.header.value_in.Goals as goal

pub returns-then-eq : goal.returns-then-eq
returns-then-eq c =
    let parts = split_parts 58 c.args.line.now c.split_once.result c.split_once.ensures.cases (lit< tt) in
    value_is c.args.name.now c.args.line.now c.in-Some.found.now c.in-Some.value.now c.trim.result.now (field_at c.args.line.now c.in-Some.found.now c.in-Some.value.now (rw c.in-Some.is at parts)) (sym c.eq.ensures ∙ c.if-eq.true) c.trim.ensures

pub returns-else-eq : goal.returns-else-eq
returns-else-eq c =
    let parts = split_parts 58 c.args.line.now c.split_once.result c.split_once.ensures.cases (lit< tt) in
    value_is_not c.args.name.now c.args.line.now c.in-Some.found.now c.in-Some.value.now (field_at c.args.line.now c.in-Some.found.now c.in-Some.value.now (rw c.in-Some.is at parts)) (sym c.eq.ensures ∙ c.if-eq.false)

pub returns-in-None : goal.returns-in-None
returns-in-None c =
    let parts = split_parts 58 c.args.line.now c.split_once.result c.split_once.ensures.cases (lit< tt) in
    no_value c.args.name.now c.args.line.now (no_field c.args.line.now (rw c.in-None.is at parts))
