use Rattle.std.proofs.Common.{◌≡◌, inl, rules}
use Rattle.sqlite.specs.declared.types.Value.TheVariants.{Text as Words}
use Rattle.sqlite.specs.Order.{column}
use Rattle.units.specs.Limits.{is_lang}
use Rattle.sql_decoding.specs.RowTests.{holds_text, is_language, is_language_row}
use Rattle.sql_decoding.proofs.RowsTold.{first_fails, handed_on}
use Rattle.sql_decoding.proofs.ColumnsTested.{fault_tells, unless, not_given, text_falls}
use Rattle.sql_adoption.proofs.langs_read.lang_of.Goals as goal

pub returns-in_err-column-clause-unread : goal.returns-in_err-column-clause-unread
returns-in_err-column-clause-unread c =
    let row = c.args.row.now in
    handed_on c.from_residual.result c.in_err-column.field-0.0 (is_language_row row) (holds_text is_lang 2 row) c.from_residual.ensures
    (first_fails (holds_text is_lang 2 row) (is_language row)) (c.in_err-column.ensures.unread is_lang)

pub returns-in_err-lang_from-clause-unread : goal.returns-in_err-lang_from-clause-unread
returns-in_err-lang_from-clause-unread c =
    let row = c.args.row.now in
    let t = c.as_str.result.now in
    let holds : column row 2 ≡ Words t = search rules in
    fault_tells c.from_residual-in_err-lang_from.result (is_language_row row) c.in_err-lang_from.field-0.0 c.from_residual-in_err-lang_from.ensures
    (λ other. first_fails (holds_text is_lang 2 row) (is_language row) (text_falls 2 row t holds is_lang (unless (is_lang t) (λ fits. not_given c.in_err-lang_from.field-0.0 other t (inl (c.in_err-lang_from.ensures.back fits))))))
