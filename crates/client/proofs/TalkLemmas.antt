-- Talks one behind another.
use Rattle.std.proofs.Common.{◌≡◌, ◌≢◌, ◌≤◌, ℕ, zero, suc, ◌+◌, List, [], ◌∷◌, ◌++◌, map, replicate, append-nil, append_assoc, Bool, true, false, Option, Some, None, refl, sym, ap, subst, ◌∙◌, if◌then◌else◌, nat_eq, inl, inr, arith}
use Rattle.std.specs.Prelude.{slice_get, option_map}
use Rattle.std.proofs.lemmas.Bool.Decides.{eqb_tells}
use Rattle.std.proofs.lemmas.Option.{same_Some, slice_get-map}
use Rattle.po_text.specs.Texts.{Text, text_eq}
use Rattle.request_book.specs.declared.act.Request.{Request}
use Rattle.request_book.specs.Replies.{Reply}
use Rattle.sender.specs.declared.exchange.Exchange.{Exchange}
use Rattle.sender.specs.Sending.{Sending, is_open, is_ready, replied, hear}
use Rattle.client.specs.Talks.{Said, said_behind, Hears, heard, missed, Turn, IsTalk, times, IsWithin, requests_of, Talked}
use Rattle.client.specs.Messages.{message}
use Rattle.client.specs.Answers.{IsReplyIn}
use Rattle.client.specs.TalkSteps.{Exchanged, Sent, once, never, tries_at, Takes, IsPaid}

-- ---- what was said

none_behind : (o : Option (List Said)) → said_behind o [] ≡ o
none_behind None = refl
none_behind (Some xs) = ap Some (append-nil xs)

more_behind : (o : Option (List Said)) (xs ys : List Said) → said_behind (said_behind o xs) ys ≡ said_behind o (xs ++ ys)
more_behind None xs ys = refl
more_behind (Some ws) xs ys = ap Some (append_assoc ws xs ys)

-- ---- the requests stay

replied_keeps : (reply : Reply) (exchange : Exchange) → (replied reply exchange).request ≡ exchange.request
replied_keeps reply exchange = kept (is_open exchange) where
  kept : (b : Bool) → (if b then record exchange { reply = Some reply } else exchange).request ≡ exchange.request
  kept true = refl
  kept false = refl

heard_keeps : (number : Text) (reply : Reply) (exchange : Exchange) → (if text_eq number exchange.request.number then replied reply exchange else exchange).request ≡ exchange.request
heard_keeps number reply exchange = kept (text_eq number exchange.request.number) where
  kept : (b : Bool) → (if b then replied reply exchange else exchange).request ≡ exchange.request
  kept true = replied_keeps reply exchange
  kept false = refl

hear_keeps : (number : Text) (reply : Reply) (sending : Sending) → requests_of (hear number reply sending) ≡ requests_of sending
hear_keeps number reply [] = refl
hear_keeps number reply (exchange ∷ sending) = rw (heard_keeps number reply exchange, hear_keeps number reply sending) refl

hears_keeps : (number : Text) (answer : Option (List ℕ)) (old new : Sending) → Hears number answer old new → requests_of new ≡ requests_of old
hears_keeps number answer old new (heard bytes reply is one to) = ap requests_of to ∙ hear_keeps number reply old
hears_keeps number answer old new (missed same) = ap requests_of same

talk_keeps : (old : Sending) (talk : List Turn) (new : Sending) → IsTalk old talk new → requests_of new ≡ requests_of old
talk_keeps old [] new is = ap requests_of is
talk_keeps old (turn ∷ more) new is = talk_keeps is.4 more new is.6 ∙ hears_keeps is.0.request.number turn.said.answer old is.4 is.5

pub talked_keeps : (Turns : List Turn → Type 0) (said_old said_new : Option (List Said)) (old new : Sending) → Talked Turns said_old said_new old new → requests_of new ≡ requests_of old
talked_keeps Turns said_old said_new old new talked = talk_keeps old talked.talk new talked.is

-- ---- how often each was sent

times-append : (place : ℕ) (xs ys : List Turn) → times place (xs ++ ys) ≡ times place xs + times place ys
times-append place [] ys = omega arith
times-append place (x ∷ xs) ys = let rest = times-append place xs ys in let here : ℕ = if nat_eq x.place place then 1 else 0 in omega (arith, rest)

pub none_paid : (left : List ℕ) → IsPaid left left []
none_paid left place = omega arith

pub paid_more : (a b c : List ℕ) (xs ys : List Turn) → IsPaid a b xs → IsPaid b c ys → IsPaid a c (xs ++ ys)
paid_more a b c xs ys first next place = omega (arith, times-append place xs ys, first place, next place)

-- a try that was taken pays for one turn, or for none
by_place : (P : ℕ → Type 0) (place other : ℕ) → (other ≡ place → P 1) → (other ≢ place → P 0) → P (if nat_eq place other then 1 else 0)
by_place P place other here there = elim (eqb_tells place other) [ inl e ↦ rw e.0 (here (sym e.1)) | inr e ↦ rw e.0 (there (λ (same : other ≡ place). e.1 (sym same))) ]

pub one_paid : (old new : List ℕ) (turn : Turn) → Takes turn.place old new → IsPaid old new (turn ∷ [])
one_paid old new turn takes place = by_place (λ n. n + 0 + tries_at new place ≤ tries_at old place) turn.place place
    (λ same. rw same (omega (arith, takes.one))) (λ other. omega (arith, takes.others place other))

pub unused_paid : (old new : List ℕ) (place : ℕ) → Takes place old new → IsPaid old new []
unused_paid old new place takes other = by_place (λ n. 0 + tries_at new other ≤ tries_at old other) place other
    (λ same. rw same (omega (arith, takes.one))) (λ apart. omega (arith, takes.others other apart))

-- each had so many tries at first
tries_there : (tries count place : ℕ) → tries_at (replicate count tries) place ≤ tries
tries_there tries zero place = omega arith
tries_there tries (suc count) zero = omega arith
tries_there tries (suc count) (suc place) = tries_there tries count place

pub all_within : (tries count : ℕ) (new : List ℕ) (talk : List Turn) → IsPaid (replicate count tries) new talk → IsWithin tries talk
all_within tries count new talk paid place = omega (arith, paid place, tries_there tries count place)

-- ---- one talk behind another

said-append : (xs ys : List Turn) → map (λ (turn : Turn). turn.said) (xs ++ ys) ≡ map (λ (turn : Turn). turn.said) xs ++ map (λ (turn : Turn). turn.said) ys
said-append [] ys = refl
said-append (x ∷ xs) ys = ap (λ rest. x.said ∷ rest) (said-append xs ys)

talk_more : (old : Sending) (xs : List Turn) (mid : Sending) (ys : List Turn) (new : Sending) → IsTalk old xs mid → IsTalk mid ys new → IsTalk old (xs ++ ys) new
talk_more old [] mid ys new first next = subst (λ (s : Sending). IsTalk s ys new) first next
talk_more old (x ∷ xs) mid ys new first next = (first.0, first.1, first.2, first.3, first.4, first.5, talk_more first.4 xs mid ys new first.6 next)

pub silent : (Turns : List Turn → Type 0) (said : Option (List Said)) (sending : Sending) → Turns [] → Talked Turns said said sending sending
silent Turns said sending none = record { talk = []; said = sym (none_behind said); is = refl; turns = none }

pub talked_more : (First Then All : List Turn → Type 0) (a b c : Option (List Said)) (old mid new : Sending) → ((xs ys : List Turn) → First xs → Then ys → All (xs ++ ys))
    → Talked First a b old mid → Talked Then b c mid new → Talked All a c old new
talked_more First Then All a b c old mid new all first next = record {
  talk = first.talk ++ next.talk;
  said = next.said ∙ (ap (λ (o : Option (List Said)). said_behind o (map (λ (turn : Turn). turn.said) next.talk)) first.said
      ∙ (more_behind a (map (λ (turn : Turn). turn.said) first.talk) (map (λ (turn : Turn). turn.said) next.talk)
      ∙ ap (λ (said : List Said). said_behind a said) (sym (said-append first.talk next.talk))));
  is = talk_more old first.talk mid next.talk new first.is next.is;
  turns = all first.talk next.talk first.turns next.turns;
}

-- the same talk, said of its turns in other words
pub talked_so : (These Those : List Turn → Type 0) (said_old said_new : Option (List Said)) (old new : Sending) → ((talk : List Turn) → These talk → Those talk) → Talked These said_old said_new old new → Talked Those said_old said_new old new
talked_so These Those said_old said_new old new so talked = record { talk = talked.talk; said = talked.said; is = talked.is; turns = so talked.talk talked.turns }

-- ---- one request

same_request : (sending : Sending) (requests : List Request) (place : ℕ) (request : Request) (exchange : Exchange) → requests_of sending ≡ requests → slice_get requests place ≡ Some request → slice_get sending place ≡ Some exchange → exchange.request ≡ request
same_request sending requests place request exchange are there at =
    same_Some exchange.request request
    (sym (slice_get-map (λ (x : Exchange). x.request) sending place ∙ ap (option_map (λ (x : Exchange). x.request)) at) ∙ (ap (λ (rs : List Request). slice_get rs place) are ∙ there))

-- a ready place has a request
ready_has : (sending : Sending) (place : ℕ) → is_ready sending place ≡ true → (exchange : Exchange) × (slice_get sending place ≡ Some exchange)
ready_has sending place ready = found (slice_get sending place) refl where
  found : (o : Option Exchange) → slice_get sending place ≡ o → (exchange : Exchange) × (slice_get sending place ≡ Some exchange)
  found None e = absurd (let nothing : is_ready sending place ≡ false = rw e refl in cc)
  found (Some exchange) e = (exchange, e)

-- a ready request that was sent once, or not at all
pub sent_talked : (left_old left_new : List ℕ) (said_old said_new : Option (List Said)) (old new : Sending) (requests : List Request) (place : ℕ) (request : Request) → Takes place left_old left_new
    → requests_of old ≡ requests → slice_get requests place ≡ Some request → is_ready old place ≡ true → Sent request said_old said_new old new → Talked (IsPaid left_old left_new) said_old said_new old new
sent_talked left_old left_new said_old said_new old new requests place request takes are there ready (never said same) =
    rw (said, same) (silent (IsPaid left_old left_new) said_old old (unused_paid left_old left_new place takes))
sent_talked left_old left_new said_old said_new old new requests place request takes are there ready (once answer said hears) =
    let at = ready_has old place ready in
    let one = same_request old requests place request at.0 are there at.1 in
    let turn : Turn = record { place = place; said = record { message = message request; answer = answer } } in
    record {
      talk = turn ∷ [];
      said = said;
      is = (at.0, at.1, ready, ap message (sym one), new, subst (λ (r : Request). Hears r.number answer old new) (sym one) hears, refl);
      turns = one_paid left_old left_new turn takes;
    }

-- ---- one message

pub spoke : (request : Request) (said_old said_new : Option (List Said)) (old new : Sending) (reply : Reply) (text : List ℕ) (found : Option Reply) → text ≡ message request → Exchanged said_old said_new text found → found ≡ Some reply → new ≡ hear request.number reply old → Sent request said_old said_new old new
spoke request said_old said_new old new reply text found is exchanged got to =
    let heard_is : (bytes : List ℕ) × (exchanged.answer ≡ Some bytes) × IsReplyIn bytes reply = rw got at exchanged.is in
    once exchanged.answer (exchanged.said ∙ ap (λ (m : List ℕ). said_behind said_old (record { message = m; answer = exchanged.answer } ∷ [])) is)
    (heard heard_is.0 reply heard_is.1 heard_is.2 to)

pub unheard : (request : Request) (said_old said_new : Option (List Said)) (old : Sending) (text : List ℕ) (found : Option Reply) → text ≡ message request → Exchanged said_old said_new text found → Sent request said_old said_new old old
unheard request said_old said_new old text found is exchanged =
    once exchanged.answer (exchanged.said ∙ ap (λ (m : List ℕ). said_behind said_old (record { message = m; answer = exchanged.answer } ∷ [])) is) (missed refl)
