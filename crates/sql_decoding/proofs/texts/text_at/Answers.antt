use Rattle.std.proofs.Common.{rules, ◌≡◌}
use Rattle.sqlite.specs.declared.types.Value.TheVariants.{Text as Words}
use Rattle.sqlite.specs.Order.{column}
use Rattle.sql_decoding.specs.RowTests.{holds_text}
use Rattle.sql_decoding.proofs.RowsTold.{handed_on}
use Rattle.sql_decoding.proofs.ColumnsTested.{fault_tells, text_stands, text_falls}
use Rattle.sql_decoding.proofs.texts.text_at.Goals as goal

pub returns-in_err-column-clause-unread : goal.returns-in_err-column-clause-unread
returns-in_err-column-clause-unread g c =
    let stands = holds_text g.V.FromText.passes c.args.at c.args.row.now in
    handed_on c.from_residual.result c.in_err-column.field-0.0 stands stands c.from_residual.ensures (λ fails. fails) (c.in_err-column.ensures.unread g.V.FromText.passes)

pub returns-in_err-from_text-clause-unread : goal.returns-in_err-from_text-clause-unread
returns-in_err-from_text-clause-unread g c =
    let passes = g.V.FromText.passes in
    let t = c.as_str.result.now in
    let holds : column c.args.row.now c.args.at ≡ Words t = search rules in
    fault_tells c.from_residual-in_err-from_text.result (holds_text passes c.args.at c.args.row.now) c.in_err-from_text.field-0.0 c.from_residual-in_err-from_text.ensures
    (λ other. text_falls c.args.at c.args.row.now t holds passes (c.in_err-from_text.ensures.falls other))

pub returns-clause-stands : goal.returns-clause-stands
returns-clause-stands g c =
    let t = c.as_str.result.now in
    let holds : column c.args.row.now c.args.at ≡ Words t = search rules in
    text_stands c.args.at c.args.row.now t holds g.V.FromText.passes c.as_str.utf8 c.in_ok-from_text.ensures.stands

pub returns-clause-shown : goal.returns-clause-shown
returns-clause-shown g c =
    let t = c.as_str.result.now in
    let holds : column c.args.row.now c.args.at ≡ Words t = search rules in
    c.in_ok-from_text.ensures.shown c.args.at c.args.row.now holds
