-- What is told of a sender, request by request.
use Rattle.std.proofs.Common.{◌≡◌, ◌⊎◌, inl, inr, ℕ, zero, suc, ◌+◌, ◌<◌, List, [], ◌∷◌, ◌++◌, drop, length, Option, Result, Ok, Err, MatchResult, refl, sym, ap, subst, ◌∙◌, add-one, arith}
use Rattle.std.specs.Prelude.{IfOk}
use Rattle.request_book.specs.declared.act.Request.{Request}
use Rattle.sender.specs.Sending.{Sending, held, unanswered}
use Rattle.client.specs.Talks.{Said, Turn, Talked, requests_of}
use Rattle.client.specs.SendLines.{told_line, told_lines}
use Rattle.client.proofs.TalkLemmas.{talked_keeps}

next : (sending : Sending) (place : ℕ) → place < length sending → told_lines (drop place sending) ≡ told_line (held sending place) ++ told_lines (drop (suc place) sending)
next [] place low = absurd (omega arith)
next (exchange ∷ sending) zero low = refl
next (exchange ∷ sending) (suc place) low = next sending place (omega arith)

pub next_told : (sending : Sending) (place : ℕ) → place < length sending → told_lines (drop place sending) ≡ told_line (held sending place) ++ told_lines (drop (place + 1) sending)
next_told sending place low = rw (add-one place) (next sending place low)

-- wholly or in part
pub either_way : {T E : Type 0} {All Part : Type 0} (r : Result T E) → MatchResult r (λ _. All) (λ _. Part) → All ⊎ Part
either_way (Ok x) all = inl all
either_way (Err e) part = inr part

pub ok_more : {T E : Type 0} (r : Result T E) (P Q : T → Type 0) → IfOk r P → ((t : T) → P t → Q t) → IfOk r Q
ok_more (Ok x) P Q is more = more x is
ok_more (Err e) P Q is more = tt

-- ---- the requests of a sender

pub requests_unanswered : (requests : List Request) → requests_of (unanswered requests) ≡ requests
requests_unanswered [] = refl
requests_unanswered (request ∷ requests) = ap (λ (rest : List Request). request ∷ rest) (requests_unanswered requests)

request_each : (sending : Sending) → length (requests_of sending) ≡ length sending
request_each [] = refl
request_each (exchange ∷ sending) = ap suc (request_each sending)

-- a sender that was made of requests, and talked
pub talked_from : (Turns : List Turn → Type 0) (said_old said_new : Option (List Said)) (requests : List Request) (old new : Sending) → old ≡ unanswered requests →
    (requests_of old ≡ requests → Talked Turns said_old said_new old new) → Talked Turns said_old said_new (unanswered requests) new
talked_from Turns said_old said_new requests old new made talks =
    subst (λ (sending : Sending). Talked Turns said_old said_new sending new) made (talks (ap (λ (sending : Sending). requests_of sending) made ∙ requests_unanswered requests))

-- a sender that talked still has each request
pub as_many : (Turns : List Turn → Type 0) (said_old said_new : Option (List Said)) (requests : List Request) (sending : Sending) → Talked Turns said_old said_new (unanswered requests) sending → length requests ≡ length sending
as_many Turns said_old said_new requests sending talked =
    ap (λ (list : List Request). length list) (sym (talked_keeps Turns said_old said_new (unanswered requests) sending talked ∙ requests_unanswered requests)) ∙ request_each sending
