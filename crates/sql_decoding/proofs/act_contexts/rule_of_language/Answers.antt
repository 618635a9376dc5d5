use Rattle.std.proofs.Common.{sym, ap, ◌∙◌}
use Rattle.std.proofs.lemmas.Bool.{and_from}
use Rattle.std.proofs.lemmas.Result.{IfErr-weaker, on_ok_weaker}
use Rattle.sql_decoding.specs.RowTests.{holds_text, is_header, is_rule_of, is_language, IsUnread}
use Rattle.sql_meaning.specs.Shown.{shown_header}
use Rattle.sql_decoding.proofs.RowsTold.{first_fails, second_fails, handed_on}
use Rattle.sql_decoding.proofs.ContextsRead.{rule_shown}
use Rattle.sql_decoding.proofs.act_contexts.rule_of_language.Goals as goal

pub returns-clause-shown : goal.returns-clause-shown
returns-clause-shown c = rule_shown c.args.row.now c.in_ok-header.header c.rule_beside-rule.result c.in_ok-header.ensures.shown c.rule_beside-rule.ensures.shown

pub returns-in_err-header-clause-unread : goal.returns-in_err-header-clause-unread
returns-in_err-header-clause-unread c =
    let row = c.args.row.now in
    let first = holds_text is_header 0 row in
    handed_on c.from_residual.result c.in_err-header.field-0.0 (is_language row) first c.from_residual.ensures (first_fails first (holds_text (is_rule_of (shown_header row)) 1 row)) c.in_err-header.ensures.unread

pub returns-clause-stands : goal.returns-clause-stands
returns-clause-stands c =
    let row = c.args.row.now in
    on_ok_weaker c.rule_beside-rule.result (λ ruled. and_from _ _ c.in_ok-header.ensures.stands (ap (λ h. holds_text (is_rule_of h) 1 row) (sym c.in_ok-header.ensures.shown) ∙ ruled)) c.rule_beside-rule.ensures.stands

pub returns-clause-unread : goal.returns-clause-unread
returns-clause-unread c =
    let row = c.args.row.now in
    IfErr-weaker c.rule_beside-rule.result (IsUnread (holds_text (is_rule_of c.in_ok-header.header) 1 row)) (IsUnread (is_language row))
    (λ failure unread other. second_fails (holds_text is_header 0 row) (holds_text (is_rule_of (shown_header row)) 1 row) (ap (λ h. holds_text (is_rule_of h) 1 row) (sym c.in_ok-header.ensures.shown) ∙ unread other))
    c.rule_beside-rule.ensures.unread
