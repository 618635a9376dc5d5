use Rattle.std.proofs.Common.{◌≡◌, rules, sym, ap, ◌∙◌}
use Rattle.std.proofs.lemmas.Bool.{and_from}
use Rattle.sqlite.specs.declared.types.Value.TheVariants.{Text as Words}
use Rattle.sqlite.specs.Order.{column}
use Rattle.sql_meaning.specs.Shown.{shown_header}
use Rattle.sql_decoding.specs.RowTests.{holds_text, is_header, is_rule_of, is_language}
use Rattle.sql_decoding.proofs.RowsTold.{first_fails, second_fails, memory_tells, handed_on}
use Rattle.sql_decoding.proofs.ColumnsTested.{not_given, text_stands, text_falls, rule_stands, rule_falls}
use Rattle.sql_loading.proofs.office_tables.language_in.Goals as goal

pub returns-in_err-column-clause-unread : goal.returns-in_err-column-clause-unread
returns-in_err-column-clause-unread c =
    let row = c.args.row.now in
    let second = holds_text (is_rule_of (shown_header row)) 1 row in
    handed_on c.from_residual.result c.in_err-column.field-0.0 (is_language row) second c.from_residual.ensures (second_fails (holds_text is_header 0 row) second) (c.in_err-column.ensures.unread (is_rule_of (shown_header row)))

pub returns-in_err-header-clause-unread : goal.returns-in_err-header-clause-unread
returns-in_err-header-clause-unread c =
    let row = c.args.row.now in
    let first = holds_text is_header 0 row in
    handed_on c.from_residual-in_err-header.result c.in_err-header.field-0.0 (is_language row) first c.from_residual-in_err-header.ensures (first_fails first (holds_text (is_rule_of (shown_header row)) 1 row)) c.in_err-header.ensures.unread

pub returns-clause-unread : goal.returns-clause-unread
returns-clause-unread c = λ other.
    let row = c.args.row.now in
    let t = c.as_str.result.now in
    let holds : column row 1 ≡ Words t = search rules in
    second_fails (holds_text is_header 0 row) (holds_text (is_rule_of (shown_header row)) 1 row) (text_falls 1 row t holds (is_rule_of (shown_header row)) (ap (λ h. is_rule_of h t) (sym c.in_ok-header.ensures.shown)
    ∙ rule_falls t c.in_ok-header.header (λ rule field is. not_given c.in-Err.fault (λ memory. memory_tells c.from.result (c.from.ensures.1 memory) other) rule (c.in-Err.ensures.back rule field is))))

pub returns-in-Ok-clause-stands : goal.returns-in-Ok-clause-stands
returns-in-Ok-clause-stands c =
    let row = c.args.row.now in
    let t = c.as_str.result.now in
    let holds : column row 1 ≡ Words t = search rules in
    and_from _ _ c.in_ok-header.ensures.stands (text_stands 1 row t holds (is_rule_of (shown_header row)) c.as_str.utf8
    (ap (λ h. is_rule_of h t) (sym c.in_ok-header.ensures.shown) ∙ rule_stands t c.in_ok-header.header c.in-Ok.rule c.in-Ok.ensures.is_field c.in-Ok.ensures.ok))
