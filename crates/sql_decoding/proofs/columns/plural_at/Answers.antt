use Rattle.std.proofs.Common.{◌≡◌, true, Some, rules, ap, ◌∙◌}
use Rattle.std.specs.Option.{option_map_or}
use Rattle.sqlite.specs.declared.types.Value.TheVariants.{Null, Text as Words}
use Rattle.sqlite.specs.Order.{column}
use Rattle.po_text.specs.Strings.{is_string}
use Rattle.sql_decoding.specs.RowTests.{holds_text_or_null}
use Rattle.sql_decoding.proofs.RowsTold.{handed_on}
use Rattle.sql_decoding.proofs.ColumnsTested.{fault_tells, unless, not_given, some_stands, some_falls, null_stands}
use Rattle.sql_decoding.proofs.columns.plural_at.Goals as goal

pub returns-in_err-column-clause-unread : goal.returns-in_err-column-clause-unread
returns-in_err-column-clause-unread c =
    let stands = holds_text_or_null is_string c.args.at c.args.row.now in
    handed_on c.from_residual.result c.in_err-column.field-0.0 stands stands c.from_residual.ensures (λ fails. fails) (c.in_err-column.ensures.unread is_string)

pub returns-in_err-plural_from-in-Some-clause-unread : goal.returns-in_err-plural_from-in-Some-clause-unread
returns-in_err-plural_from-in-Some-clause-unread c =
    let t = c.as_str.result.now in
    let holds : column c.args.row.now c.args.at ≡ Words t = search rules in
    fault_tells c.from_residual-in_err-plural_from-in-Some.result (holds_text_or_null is_string c.args.at c.args.row.now) c.in_err-plural_from-in-Some.field-0.0 c.from_residual-in_err-plural_from-in-Some.ensures
    (λ other. some_falls c.args.at c.args.row.now t holds is_string (unless (is_string t) (λ fits. not_given c.in_err-plural_from-in-Some.field-0.0 other (Some t) (c.in_err-plural_from-in-Some.ensures.back fits))))

pub returns-in_ok-plural_from-in-Some-clause-stands : goal.returns-in_ok-plural_from-in-Some-clause-stands
returns-in_ok-plural_from-in-Some-clause-stands c =
    let t = c.as_str.result.now in
    let holds : column c.args.row.now c.args.at ≡ Words t = search rules in
    some_stands c.args.at c.args.row.now t holds is_string c.in_ok-column.ensures.there c.as_str.utf8
    (ap (λ o. option_map_or is_string o true) c.in_ok-plural_from-in-Some.ensures.ok ∙ c.in_ok-plural_from-in-Some.ensures.fits)

pub returns-in-None-clause-stands : goal.returns-in-None-clause-stands
returns-in-None-clause-stands c =
    let holds : column c.args.row.now c.args.at ≡ Null = search rules in
    null_stands c.args.at c.args.row.now c.in_ok-column.ensures.there holds is_string
