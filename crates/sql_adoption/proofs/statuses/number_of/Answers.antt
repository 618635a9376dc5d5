use Rattle.std.proofs.Common.{◌≡◌, ◌∙◌, sym, rules}
use Rattle.sqlite.specs.declared.types.Value.TheVariants.{Text as Words}
use Rattle.sqlite.specs.Order.{column}
use Rattle.request_book.specs.Acts.{IsNumber}
use Rattle.sql_columns.proofs.Readers.{number_found}
use Rattle.sql_schema.specs.Keys.{text_at}
use Rattle.sql_decoding.specs.RowTests.{holds_text, is_number}
use Rattle.sql_decoding.proofs.RowsTold.{handed_on}
use Rattle.sql_decoding.proofs.ColumnsTested.{fault_tells, text_stands, text_falls, number_stands, number_falls}
use Rattle.sql_adoption.proofs.statuses.number_of.Goals as goal

pub returns-clause-shown : goal.returns-clause-shown
returns-clause-shown c =
    let is : c.as_str.result.now ≡ text_at 3 c.args.row.now = search rules in
    let valid : IsNumber c.in_ok-number.number = search rules in
    number_found (text_at 3 c.args.row.now) c.in_ok-number.number valid (sym is ∙ c.in_ok-number.ensures.ok)

pub returns-in_err-column-clause-unread : goal.returns-in_err-column-clause-unread
returns-in_err-column-clause-unread c =
    let row = c.args.row.now in
    handed_on c.from_residual.result c.in_err-column.field-0.0 (holds_text is_number 3 row) (holds_text is_number 3 row) c.from_residual.ensures (λ fails. fails) (c.in_err-column.ensures.unread is_number)

pub returns-in_err-number-clause-unread : goal.returns-in_err-number-clause-unread
returns-in_err-number-clause-unread c =
    let t = c.as_str.result.now in
    let holds : column c.args.row.now 3 ≡ Words t = search rules in
    fault_tells c.from_residual-in_err-number.result (holds_text is_number 3 c.args.row.now) c.in_err-number.field-0.0 c.from_residual-in_err-number.ensures
    (λ other. text_falls 3 c.args.row.now t holds is_number (number_falls t (λ n fits is. absurd (let h = c.in_err-number.ensures.back n fits is in cc))))

pub returns-clause-stands : goal.returns-clause-stands
returns-clause-stands c =
    let t = c.as_str.result.now in
    let holds : column c.args.row.now 3 ≡ Words t = search rules in
    text_stands 3 c.args.row.now t holds is_number c.as_str.utf8 (number_stands t c.in_ok-number.number (search rules) c.in_ok-number.ensures.ok)
