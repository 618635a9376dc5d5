use Rattle.std.proofs.Common.{◌∙◌, ap}
use Rattle.plural_expr.specs.Plain.{rule_of}
use Rattle.plural_expr.proofs.Readings.{read_long, read_nothing, read_counted, reading_fault, says_rule, says_fault, says_read, says_read_fault}
use Rattle.plural_expr.proofs.rule.PluralForms.parse.Goals as goal

pub returns-then-text-gt-MAX_BYTES-clause-read_fault : goal.returns-then-text-gt-MAX_BYTES-clause-read_fault
returns-then-text-gt-MAX_BYTES-clause-read_fault c = λ _. read_long c.args.text.now c.if-text-gt-MAX_BYTES.true

pub returns-in-None-clause-fault : goal.returns-in-None-clause-fault
returns-in-None-clause-fault c =
    let nothing = rw c.in-None.is at c.in_ok-read_rule.ensures ∙ ap rule_of c.as_bytes.ensures.value in
    λ _. reading_fault c.args.text.now _ (read_nothing c.args.text.now c.if-text-gt-MAX_BYTES.false nothing)

pub returns-in-None-clause-read_fault : goal.returns-in-None-clause-read_fault
returns-in-None-clause-read_fault c =
    let nothing = rw c.in-None.is at c.in_ok-read_rule.ensures ∙ ap rule_of c.as_bytes.ensures.value in
    λ _. read_nothing c.args.text.now c.if-text-gt-MAX_BYTES.false nothing

pub returns-in-Some-clause-rule : goal.returns-in-Some-clause-rule
returns-in-Some-clause-rule c =
    let spelled = rw c.in-Some.is at c.in_ok-read_rule.ensures ∙ ap rule_of c.as_bytes.ensures.value in
    says_rule c.args.text.now _ (read_counted c.args.text.now _ _ _ c.if-text-gt-MAX_BYTES.false spelled c.counted.ensures)

pub returns-in-Some-clause-fault : goal.returns-in-Some-clause-fault
returns-in-Some-clause-fault c =
    let spelled = rw c.in-Some.is at c.in_ok-read_rule.ensures ∙ ap rule_of c.as_bytes.ensures.value in
    says_fault c.args.text.now _ (read_counted c.args.text.now _ _ _ c.if-text-gt-MAX_BYTES.false spelled c.counted.ensures)

pub returns-in-Some-clause-read : goal.returns-in-Some-clause-read
returns-in-Some-clause-read c =
    let spelled = rw c.in-Some.is at c.in_ok-read_rule.ensures ∙ ap rule_of c.as_bytes.ensures.value in
    says_read c.args.text.now _ (read_counted c.args.text.now _ _ _ c.if-text-gt-MAX_BYTES.false spelled c.counted.ensures)

pub returns-in-Some-clause-read_fault : goal.returns-in-Some-clause-read_fault
returns-in-Some-clause-read_fault c =
    let spelled = rw c.in-Some.is at c.in_ok-read_rule.ensures ∙ ap rule_of c.as_bytes.ensures.value in
    says_read_fault c.args.text.now _ (read_counted c.args.text.now _ _ _ c.if-text-gt-MAX_BYTES.false spelled c.counted.ensures)
