-- Header lines of an answer.
use Rattle.std.proofs.Common.{◌≡◌, ◌<◌, ◌≤◌, ℕ, List, [], ◌∷◌, ◌++◌, map, get_or, take, drop, length, Bool, true, false, not, ◌&&◌, Option, Some, None, Bor, refl, sym, ap, subst, ◌∙◌, arith}
use Rattle.std.specs.List.{list_any}
use Rattle.std.proofs.lemmas.List.{get_or-map}
use Rattle.std.proofs.lemmas.List.Folds.{list_any_at}
use Rattle.httparse.specs.declared.spans.HeaderSpan.{HeaderSpan}
use Rattle.std.specs.Prelude.{IsUtf8, IfSome, IfNone}
use Rattle.std.proofs.lemmas.List.{length-map, length-take-le}
use Rattle.httparse.specs.declared.spans.ResponseSpans.{ResponseSpans}
use Rattle.httparse.specs.Grammar.{ResponseHead, ReadsResponse, print_response}
use Rattle.httparse.specs.Spans.{header_bytes, name_and_value, IsResponseAt, IsResponseOf}
use Rattle.po_text.specs.Texts.{Text}
use Rattle.request_book.specs.Replies.{Reply}
use Rattle.client.specs.Answers.{Line, is_length, is_other, lines_say, says_length, is_reply_status, has_unseen, IsReplyBehind, IsReplyIn}

said_otherwise : (digits : Text) (lines : List Line) → list_any (is_other digits) lines ≡ true → false ≡ lines_say digits lines
said_otherwise digits lines e = rw e (ends (list_any is_length lines)) where
  ends : (b : Bool) → false ≡ (b && not true)
  ends true = refl
  ends false = refl

count_lines : (buf : Text) (headers : List HeaderSpan) → length (map (header_bytes buf) headers) ≡ length headers
count_lines buf [] = refl
count_lines buf (h ∷ headers) = rw (count_lines buf headers) refl

-- a line says otherwise
pub other_line : (buf digits : Text) (headers : List HeaderSpan) (i : ℕ) (d : HeaderSpan) → i < length headers → is_other digits (header_bytes buf (get_or headers i d)) ≡ true → false ≡ lines_say digits (map (header_bytes buf) headers)
other_line buf digits headers i d lt e =
    said_otherwise digits (map (header_bytes buf) headers)
    (list_any_at (is_other digits) (map (header_bytes buf) headers) i (header_bytes buf d) (rw (count_lines buf headers) lt) (rw (get_or-map (header_bytes buf) headers i d (header_bytes buf d) lt) e))

-- ---- what stands behind a head

pub is_behind : (answer body : Text) (headers : List HeaderSpan) (spans : ResponseSpans) (h : ResponseHead) → IsResponseAt answer headers spans h → is_reply_status spans.code ≡ true →
    says_length (length body) (map (header_bytes answer) (take spans.headers headers)) ≡ true → body ≡ drop spans.len answer → IsUtf8 body → has_unseen body ≡ false →
    IsReplyBehind h (record { status = spans.code; body = body }) × (body ≡ drop spans.len answer)
is_behind answer body headers spans h at status says same text plain = (
  record {
    status = at.code;
    is_one = ap is_reply_status (sym at.code) ∙ status;
    length = ap (says_length (length body)) (sym at.fields) ∙ says;
    text = text;
    plain = plain;
  },
  same,
)

pub other_status : (answer : Text) (headers : List HeaderSpan) (spans : ResponseSpans) → is_reply_status spans.code ≡ false → (h : ResponseHead) → IsResponseAt answer headers spans h →
    (reply : Reply) → reply.body ≡ drop spans.len answer → ¬ IsReplyBehind h reply
other_status answer headers spans status h at reply same is = let wrong : true ≡ false = sym is.is_one ∙ (ap is_reply_status (sym at.code) ∙ status) in cc

pub other_length : (answer : Text) (headers : List HeaderSpan) (spans : ResponseSpans) → says_length (length (drop spans.len answer)) (map (header_bytes answer) (take spans.headers headers)) ≡ false →
    (h : ResponseHead) → IsResponseAt answer headers spans h → (reply : Reply) → reply.body ≡ drop spans.len answer → ¬ IsReplyBehind h reply
other_length answer headers spans says h at reply same is =
    let wrong : true ≡ false = sym is.length ∙ ((λ i. says_length (length (same i)) (sym at.fields i)) ∙ says) in cc

pub other_text : (answer : Text) (spans : ResponseSpans) → (IsUtf8 (drop spans.len answer) → ⊥) → (h : ResponseHead) (reply : Reply) → reply.body ≡ drop spans.len answer → ¬ IsReplyBehind h reply
other_text answer spans none h reply same is = none (subst IsUtf8 same is.text)

pub other_letters : (answer : Text) (spans : ResponseSpans) → has_unseen (drop spans.len answer) ≡ true → (h : ResponseHead) (reply : Reply) → reply.body ≡ drop spans.len answer → ¬ IsReplyBehind h reply
other_letters answer spans some h reply same is = let wrong : true ≡ false = sym some ∙ (ap has_unseen (sym same) ∙ is.plain) in cc

-- ---- a whole answer

behind_head : (xs ys : Text) → drop (length xs) (xs ++ ys) ≡ ys
behind_head [] ys = refl
behind_head (x ∷ xs) ys = behind_head xs ys

fields_fit : (answer : Text) (headers : List HeaderSpan) (spans : ResponseSpans) (h : ResponseHead) → IsResponseAt answer headers spans h → spans.headers ≤ length headers → length h.fields ≤ length headers
fields_fit answer headers spans h at fits =
    let count : length h.fields ≡ spans.headers =
    sym (length-map h.fields name_and_value) ∙ (ap (λ (lines : List Line). length lines) (sym at.fields) ∙ (length-map (take spans.headers headers) (header_bytes answer) ∙ length-take-le spans.headers headers fits)) in
    omega arith

pub whole : (answer : Text) (headers : List HeaderSpan) (spans : ResponseSpans) (found : Option (ℕ × Bor Text)) → IsResponseOf answer headers spans → spans.headers ≤ length headers → length headers ≡ 32 →
    IfSome found (λ f. (h : ResponseHead) → IsResponseAt answer headers spans h → IsReplyBehind h (record { status = f.0; body = f.1.now }) × (f.1.now ≡ drop spans.len answer)) →
    IfSome found (λ f. IsReplyIn answer (record { status = f.0; body = f.1.now }))
whole answer headers spans None of fits room behind = tt
whole answer headers spans (Some f) of fits room behind =
    let its = behind of.0 of.1 in
    let lines : length of.0.fields ≤ length headers = fields_fit answer headers spans of.0 of.1 fits in
    record { head = of.0; reads = subst (ReadsResponse answer of.0) (sym its.1) of.1.reads; lines = omega arith; behind = its.0 }

pub no_reply : (answer : Text) (headers : List HeaderSpan) (spans : ResponseSpans) (found : Option (ℕ × Bor Text)) →
    ((h : ResponseHead) (rest : Text) → ReadsResponse answer h rest → length h.fields ≤ 32 → IsResponseAt answer headers spans h) →
    IfNone found ((h : ResponseHead) → IsResponseAt answer headers spans h → (reply : Reply) → reply.body ≡ drop spans.len answer → ¬ IsReplyBehind h reply) → IfNone found ((reply : Reply) → ¬ IsReplyIn answer reply)
no_reply answer headers spans (Some f) at none = tt
no_reply answer headers spans None at none = λ reply is.
    let here = at is.head reply.body is.reads is.lines in
    none is.head here reply (sym (ap (drop spans.len) is.reads.1 ∙ (ap (λ n. drop n (print_response is.head ++ reply.body)) here.len ∙ behind_head (print_response is.head) reply.body))) is.behind
