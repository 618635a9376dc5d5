use Rattle.std.proofs.Common.{◌≡◌, rules}
use Rattle.sqlite.specs.declared.types.Value.TheVariants.{Text as Words}
use Rattle.sqlite.specs.Order.{column}
use Rattle.sql_decoding.specs.RowTests.{holds_text, is_rule_of}
use Rattle.sql_decoding.proofs.RowsTold.{handed_on}
use Rattle.sql_decoding.proofs.ColumnsTested.{fault_tells, not_given, text_stands, text_falls, rule_stands, rule_falls}
use Rattle.sql_decoding.proofs.act_contexts.rule_beside.Goals as goal

pub returns-in_err-column-clause-unread : goal.returns-in_err-column-clause-unread
returns-in_err-column-clause-unread c =
    let stands = holds_text (is_rule_of c.args.header.now) 1 c.args.row.now in
    handed_on c.from_residual.result c.in_err-column.field-0.0 stands stands c.from_residual.ensures (λ fails. fails) (c.in_err-column.ensures.unread (is_rule_of c.args.header.now))

pub returns-in_err-rule_from-clause-unread : goal.returns-in_err-rule_from-clause-unread
returns-in_err-rule_from-clause-unread c =
    let header = c.args.header.now in
    let t = c.as_str.result.now in
    let holds : column c.args.row.now 1 ≡ Words t = search rules in
    fault_tells c.from_residual-in_err-rule_from.result (holds_text (is_rule_of header) 1 c.args.row.now) c.in_err-rule_from.field-0.0 c.from_residual-in_err-rule_from.ensures
    (λ other. text_falls 1 c.args.row.now t holds (is_rule_of header) (rule_falls t header (λ rule field is. not_given c.in_err-rule_from.field-0.0 other rule (c.in_err-rule_from.ensures.back rule field is))))

pub returns-clause-stands : goal.returns-clause-stands
returns-clause-stands c =
    let t = c.as_str.result.now in
    let holds : column c.args.row.now 1 ≡ Words t = search rules in
    text_stands 1 c.args.row.now t holds (is_rule_of c.args.header.now) c.as_str.utf8
    (rule_stands t c.args.header.now c.in_ok-rule_from.field-0 c.in_ok-rule_from.ensures.is_field c.in_ok-rule_from.ensures.ok)
