-- One delivery, by one look into the book, is what a list of one leaves and answers.
use Rattle.std.proofs.Common.{◌≡◌, [], ◌∷◌, ◌∙◌, ap, Option, Some, None}
use Rattle.std.specs.Prelude.{option_map, ◌≢◌, Result, Ok, Err, IfOk}
use Rattle.std.specs.Option.{option_map_or}
use Rattle.std.specs.FinMap as maps
use Rattle.request_book.specs.declared.act.Request.{Request}
use Rattle.request_book.specs.Replies.{Reply}
use Rattle.request_book.specs.Book.{OfficeWithBook, Recorded}
use Rattle.office_specification.specs.Deliveries.{reply_from, first_delivered, delivered, left_by, answers_of}
use Rattle.office_specification.proofs.retries.Once.{delivered-last}
use Rattle.office_specification.proofs.acts.OfficeEnds.{step_still}

-- what a delivery leaves and answers
pub record IsDelivery (old new : OfficeWithBook) (x : Request) (reply : Reply) : Type 0 where
  pub tables : new ≡ left_by old (x ∷ [])
  pub answer : reply ∷ [] ≡ answers_of old (x ∷ [])
  pub still : reply.status ≢ 200 → new.office ≡ old.office

by_step : (old new : OfficeWithBook) (x : Request) (reply : Reply) → ◌≡◌ {A = OfficeWithBook × Reply} (new, reply) (delivered old x) → (reply.status ≢ 200 → new.office ≡ old.office) → IsDelivery old new x reply
by_step old new x reply e s =
    let both : ◌≡◌ {A = OfficeWithBook × Reply} (new, reply) _ = e ∙ delivered-last old [] x in
    record { tables = ap (λ (p : OfficeWithBook × Reply). p.0) both; answer = ap (λ (p : OfficeWithBook × Reply). p.1 ∷ []) both; still = s }

-- the number is recorded
pub repeated : (old new : OfficeWithBook) (x : Request) (reply : Reply) → new ≡ old → Some reply ≡ option_map (λ recorded. reply_from recorded x) (maps.get old.book x.number) → IsDelivery old new x reply
repeated old new x reply same answer = by_step old new x reply (by_record (maps.get old.book x.number) answer) (λ _. ap (λ (m : OfficeWithBook). m.office) same)
  where
    by_record : (r : Option Recorded) → Some reply ≡ option_map (λ recorded. reply_from recorded x) r →
        ◌≡◌ {A = OfficeWithBook × Reply} (new, reply) (option_map_or (λ recorded. (old, reply_from recorded x)) r (first_delivered old x))
    by_record None e = cc
    by_record (Some recorded) e =
        let told : reply ≡ reply_from recorded x = cc in
        λ i. (same i, told i)

-- the number is new
pub first_time : (old mid new : OfficeWithBook) (x : Request) (reply : Reply) → mid ≡ old → None ≡ option_map (λ recorded. reply_from recorded x) (maps.get old.book x.number) →
    ◌≡◌ {A = OfficeWithBook × Reply} (new, reply) (first_delivered mid x) → IsDelivery old new x reply
first_time old mid new x reply same answer is =
    let first : ◌≡◌ {A = OfficeWithBook × Reply} (new, reply) (first_delivered old x) = is ∙ ap (λ (m : OfficeWithBook). first_delivered m x) same in
    by_step old new x reply (by_record (maps.get old.book x.number) answer first)
    (λ h. ap (λ (p : OfficeWithBook × Reply). p.0.office) first ∙ step_still old.office x (λ t. h (ap (λ (p : OfficeWithBook × Reply). p.1.status) first ∙ t)))
  where
    by_record : (r : Option Recorded) → None ≡ option_map (λ recorded. reply_from recorded x) r →
        ◌≡◌ {A = OfficeWithBook × Reply} (new, reply) (first_delivered old x) →
        ◌≡◌ {A = OfficeWithBook × Reply} (new, reply) (option_map_or (λ recorded. (old, reply_from recorded x)) r (first_delivered old x))
    by_record None e h = h
    by_record (Some recorded) e h = cc

-- a fact for a result's value gives another
pub each_ok : {T E : Type 0} (r : Result T E) (P Q : T → Type 0) → ((t : T) → P t → Q t) → IfOk r P → IfOk r Q
each_ok (Ok t) P Q f h = f t h
each_ok (Err e) P Q f h = tt

pub first_delivery : {E : Type 0} (old mid new : OfficeWithBook) (x : Request) (r : Result Reply E) → mid ≡ old → None ≡ option_map (λ recorded. reply_from recorded x) (maps.get old.book x.number) →
    IfOk r (λ reply. ◌≡◌ {A = OfficeWithBook × Reply} (new, reply) (first_delivered mid x)) → IfOk r (IsDelivery old new x)
first_delivery old mid new x r same answer ok = each_ok r _ _ (λ reply is. first_time old mid new x reply same answer is) ok
