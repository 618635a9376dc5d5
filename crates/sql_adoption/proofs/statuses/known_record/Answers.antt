use Rattle.std.proofs.Common.{◌≡◌, true, false, sym, ap, subst, ◌∙◌, rules}
use Rattle.std.proofs.lemmas.Bool.{false≢true}
use Rattle.request_book.specs.declared.book.Record.{Record}
use Rattle.request_book.specs.Contents.{IsContent}
use Rattle.sql_decoding.specs.RowTests.{is_record_row}
use Rattle.sql_decoding.proofs.RowsTold.{not_read, handed_on_of}
use Rattle.sql_adoption.specs.BookShown.{IsRecordRow}
use Rattle.sql_adoption.proofs.statuses.known_record.Goals as goal

pub returns-in_err-record-clause-unread : goal.returns-in_err-record-clause-unread
returns-in_err-record-clause-unread c =
    handed_on_of c.from_residual.result c.in_err-record.field-0.0 {P = is_record_row c.args.row.now ≡ true} {Q = IsRecordRow c.args.row.now} c.from_residual.ensures (λ is. is.stands)
    (not_read (is_record_row c.args.row.now) c.in_err-record.field-0.0 c.in_err-record.ensures.unread)

pub returns-then-branch-clause-stands : goal.returns-then-branch-clause-stands
returns-then-branch-clause-stands c =
    let content = ap (λ (r : Record). r.content) c.in_ok-record.ensures.value in
    let same : c.as_str.result.now ≡ c.in_ok-record.record.content = search rules in
    record { stands = c.in_ok-record.ensures.stands; content = subst IsContent (same ∙ content) (c.in_ok-is_content.ensures.0 c.if-branch.true) }

pub returns-else-branch-clause-unread : goal.returns-else-branch-clause-unread
returns-else-branch-clause-unread c =
    let content = ap (λ (r : Record). r.content) c.in_ok-record.ensures.value in
    let same : c.as_str.result.now ≡ c.in_ok-record.record.content = search rules in
    λ other is. false≢true (sym c.if-branch.false ∙ c.in_ok-is_content.ensures.1 (subst IsContent (sym (same ∙ content)) is.content))
