use Rattle.std.proofs.Common.{ap, inl, rules, ◌∙◌, ◌≡◌}
use Rattle.sqlite.specs.declared.types.Value.TheVariants.{Text as Words}
use Rattle.sqlite.specs.Order.{column}
use Rattle.units.specs.Limits.{is_name}
use Rattle.sql_decoding.specs.RowTests.{holds_text}
use Rattle.sql_decoding.proofs.RowsTold.{handed_on}
use Rattle.sql_decoding.proofs.ColumnsTested.{fault_tells, unless, not_given, text_stands, text_falls}
use Rattle.sql_decoding.proofs.columns.name_text_at.Goals as goal

pub returns-in_err-column-clause-unread : goal.returns-in_err-column-clause-unread
returns-in_err-column-clause-unread c = handed_on c.from_residual.result c.in_err-column.field-0.0 (holds_text is_name c.args.at c.args.row.now) (holds_text is_name c.args.at c.args.row.now) c.from_residual.ensures (λ fails. fails) (c.in_err-column.ensures.unread is_name)

pub returns-in_err-name-clause-unread : goal.returns-in_err-name-clause-unread
returns-in_err-name-clause-unread c =
    let t = c.as_str.result.now in
    let holds : column c.args.row.now c.args.at ≡ Words t = search rules in
    fault_tells c.from_residual-in_err-name.result (holds_text is_name c.args.at c.args.row.now) c.in_err-name.field-0.0 c.from_residual-in_err-name.ensures (λ other. text_falls c.args.at c.args.row.now t holds is_name (unless (is_name t) (λ fits. not_given c.in_err-name.field-0.0 other t (inl (c.in_err-name.ensures.back fits)))))

pub returns-clause-stands : goal.returns-clause-stands
returns-clause-stands c =
    let t = c.as_str.result.now in
    let holds : column c.args.row.now c.args.at ≡ Words t = search rules in
    text_stands c.args.at c.args.row.now t holds is_name c.as_str.utf8 (ap is_name c.in_ok-name.ensures.ok ∙ c.in_ok-name.ensures.fits)
