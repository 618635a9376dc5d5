-- What requests with their results left and were told, over tables of which something is said only while they are honest and whole.
-- This project's own rule.
use Rattle.std.specs.Prelude.{◌≡◌, ◌+◌, List, [], ◌∷◌, ◌++◌, length, drop, Result}
use Rattle.request_book.specs.declared.act.Request.{Request}
use Rattle.request_book.specs.Replies.{Reply}
use Rattle.request_book.specs.Book.{OfficeWithBook}
use Rattle.office_specification.specs.Deliveries.{left_by, answers_of, told, kept, lost_marks}
use Rattle.tables.specs.Stops.{AddsOnly}

-- Retries act once: the tables mean what the requests leave, the lost ones struck out, and the others got their one reply. A later
-- reply shows that the tables were whole before it, so what was told needs honest tables alone.
pub record HasRun {E : Type 0} (Honest Whole : Type 0) (old now : OfficeWithBook) (requests : List Request) (results : List (Result Reply E)) : Type 0 where
  pub left : Honest → Whole → now ≡ left_by old (kept requests (lost_marks results))
  pub answers : Honest → told results ≡ answers_of old (kept requests (lost_marks results))

-- What is left by a beginning of the requests: the lost ones are struck out, but its last one is recorded, whatever its result. Behind it
-- none got a reply.
pub record IsLeftByBeginning {E : Type 0} (old : OfficeWithBook) (requests : List Request) (results : List (Result Reply E)) (now : OfficeWithBook) : Type 0 where
  pub front : List Request
  pub last : Request
  pub rest : List Request
  pub whole : requests ≡ front ++ last ∷ rest
  pub left : now ≡ left_by old (kept front (lost_marks results) ++ last ∷ [])
  pub unanswered : told (drop (length front + 1) results) ≡ []

-- What a stop may leave behind requests: what it might have left before them, if none of them got a reply; or, of tables that weren't shut
-- before them, what a beginning of them leaves. So it loses no request that got a reply.
abbrev pub LeavesBeginning : {E : Type 0} → Type 0 → (OfficeWithBook → Type 0) → (OfficeWithBook → Type 0) → OfficeWithBook → List Request → List (Result Reply E) → Type 0
LeavesBeginning Whole before after old requests results =
    AddsOnly (λ now. before now × (told results ≡ [])) after (λ now. Whole × IsLeftByBeginning old requests results now)
