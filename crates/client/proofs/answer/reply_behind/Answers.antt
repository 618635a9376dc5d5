use Rattle.std.proofs.Common.{◌≡◌, length, map, take, true, sym, ap, subst, ◌∙◌}
use Rattle.std.specs.Prelude.{IsUtf8}
use Rattle.httparse.specs.Spans.{header_bytes}
use Rattle.po_text.specs.Texts.{Text}
use Rattle.client.specs.Answers.{says_length, has_unseen}
use Rattle.client.proofs.LineLemmas.{behind_of}
use Rattle.client.proofs.AnswerLemmas.{is_behind, other_status, other_length, other_text, other_letters}
use Rattle.client.proofs.answer.reply_behind.Goals.{then-not-is_reply_status-via-then-not-is_reply_status, then-not-is_reply_status-via-else-not-is_reply_status+then-not-says_length}
use Rattle.client.proofs.answer.reply_behind.Goals as goal

pub returns-in-Ok-2-clause-some : goal.returns-in-Ok-2-clause-some
returns-in-Ok-2-clause-some c = λ h at.
    let answer = c.args.answer.now in
    let headers = c.args.headers.now in
    let head = c.args.head in
    let says : says_length (length c.in-Ok.text.now) (map (header_bytes answer) (take head.headers headers)) ≡ true =
    ap (λ (body : Text). says_length (length body) (map (header_bytes answer) (take head.headers headers))) c.in-Ok.ensures.cases.0 ∙ (sym c.says_length.ensures ∙ c.if-not-says_length.false) in
    is_behind answer c.in-Ok.text.now headers head h at (sym c.is_reply_status.ensures ∙ c.if-not-is_reply_status.false) says (c.in-Ok.ensures.cases.0 ∙ behind_of answer head.len)
    (subst (λ (body : Text). IsUtf8 body) (sym c.in-Ok.ensures.cases.0) c.in-Ok.ensures.cases.1)
    (sym c.has_unseen.ensures ∙ c.if-has_unseen.false)

pub returns-in-Ok-clause-none : goal.returns-in-Ok-clause-none
returns-in-Ok-clause-none c = λ h at.
    other_letters c.args.answer.now c.args.head
    (ap has_unseen (sym (behind_of c.args.answer.now c.args.head.len)) ∙ (ap has_unseen (sym c.in-Ok.ensures.cases.0) ∙ (sym c.has_unseen.ensures ∙ c.if-has_unseen.true))) h

pub returns-in-Err-clause-none : goal.returns-in-Err-clause-none
returns-in-Err-clause-none c = λ h at.
    other_text c.args.answer.now c.args.head (λ is. c.in-Err.ensures.cases.0 (subst (λ (body : Text). IsUtf8 body) (sym (behind_of c.args.answer.now c.args.head.len)) is)) h

pub returns-then-not-is_reply_status-clause-none : goal.returns-then-not-is_reply_status-clause-none
returns-then-not-is_reply_status-clause-none c = elim c.then-not-is_reply_status.branch [
  | then-not-is_reply_status-via-then-not-is_reply_status w ↦ other_status c.args.answer.now c.args.headers.now c.args.head (sym c.is_reply_status.ensures ∙ w.if-not-is_reply_status.true)
  | then-not-is_reply_status-via-else-not-is_reply_status+then-not-says_length w ↦
      other_length c.args.answer.now c.args.headers.now c.args.head
      (ap (λ (body : Text). says_length (length body) (map (header_bytes c.args.answer.now) (take c.args.head.headers c.args.headers.now))) (sym (behind_of c.args.answer.now c.args.head.len)) ∙ (sym w.says_length.ensures ∙ w.if-not-says_length.true))
]
