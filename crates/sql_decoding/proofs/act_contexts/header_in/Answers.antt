use Rattle.std.proofs.Common.{rules, ◌≡◌}
use Rattle.sqlite.specs.declared.types.Value.TheVariants.{Text as Words}
use Rattle.sqlite.specs.Order.{column}
use Rattle.sql_decoding.proofs.ColumnsRead.{header_of_shown}
use Rattle.sql_decoding.specs.RowTests.{holds_text, is_header}
use Rattle.sql_decoding.proofs.RowsTold.{handed_on}
use Rattle.sql_decoding.proofs.ColumnsTested.{fault_tells, header_stands, header_falls, not_given, text_stands, text_falls}
use Rattle.sql_decoding.proofs.act_contexts.header_in.Goals as goal

pub returns-clause-shown : goal.returns-clause-shown
returns-clause-shown c =
    header_of_shown c.args.row.now c.as_str.result.now (search rules) c.in_ok-header_from.field-0 c.in_ok-header_from.ensures.fits c.in_ok-header_from.ensures.ok

pub returns-in_err-column-clause-unread : goal.returns-in_err-column-clause-unread
returns-in_err-column-clause-unread c = handed_on c.from_residual.result c.in_err-column.field-0.0 (holds_text is_header 0 c.args.row.now) (holds_text is_header 0 c.args.row.now) c.from_residual.ensures (λ fails. fails) (c.in_err-column.ensures.unread is_header)

pub returns-in_err-header_from-clause-unread : goal.returns-in_err-header_from-clause-unread
returns-in_err-header_from-clause-unread c =
    let t = c.as_str.result.now in
    let holds : column c.args.row.now 0 ≡ Words t = search rules in
    fault_tells c.from_residual-in_err-header_from.result (holds_text is_header 0 c.args.row.now) c.in_err-header_from.field-0.0 c.from_residual-in_err-header_from.ensures (λ other. text_falls 0 c.args.row.now t holds is_header (header_falls t (λ h fits is. not_given c.in_err-header_from.field-0.0 other h (c.in_err-header_from.ensures.back h fits is))))

pub returns-clause-stands : goal.returns-clause-stands
returns-clause-stands c =
    let t = c.as_str.result.now in
    let holds : column c.args.row.now 0 ≡ Words t = search rules in
    text_stands 0 c.args.row.now t holds is_header c.as_str.utf8 (header_stands t c.in_ok-header_from.field-0 c.in_ok-header_from.ensures.fits c.in_ok-header_from.ensures.ok)
