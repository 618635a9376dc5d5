-- One delivery after others: what is recorded stays, and a request that is recorded changes nothing.
use Rattle.std.proofs.Common.{◌≡◌, ℕ, zero, suc, List, [], ◌∷◌, ◌++◌, Bool, true, false, cond, Option, Some, None, refl, sym, ◌∙◌, ap, subst}
use Rattle.std.specs.Prelude.{slice_get}
use Rattle.std.specs.Option.{option_map_or}
use Rattle.std.specs.FinMap as maps
use Rattle.std.specs.Cmp.Lexicographic.{texts_ties}
use Rattle.std.proofs.lemmas.Option.{same_Some}
use Rattle.po_text.specs.Texts.{Text, text_eq}
use Rattle.units.specs.Orders.{text_total}
use Rattle.request_book.specs.declared.act.Request.{Request}
use Rattle.request_book.specs.Replies.{Reply}
use Rattle.request_book.specs.Acts.{content_text}
use Rattle.request_book.specs.Book.{Book, OfficeWithBook, Recorded, recorded_as}
use Rattle.replies.specs.Bodies.{number_used}
use Rattle.office_specification.specs.Step.{step}
use Rattle.office_specification.specs.Deliveries.{left_by, answers_of, reply_at, reply_from, delivered, first_delivered}
use Rattle.office_specification.proofs.retries.Once.{joined, delivered-last}
use Rattle.sender.proofs.Places.{same, itself}

-- what one delivery leaves
abbrev pub one : OfficeWithBook → Request → OfficeWithBook
one m x = left_by m (x ∷ [])

pub left_by-cons : (m : OfficeWithBook) (x : Request) (xs : List Request) → left_by m (x ∷ xs) ≡ left_by (one m x) xs
left_by-cons m x xs = (joined m (x ∷ []) xs).0

pub left_by-last : (m : OfficeWithBook) (xs : List Request) (x : Request) → left_by m (xs ++ x ∷ []) ≡ one (left_by m xs) x
left_by-last m xs x = (joined m xs (x ∷ [])).0

pub left_by-append : (m : OfficeWithBook) (xs ys : List Request) → left_by m (xs ++ ys) ≡ left_by (left_by m xs) ys
left_by-append m xs ys = (joined m xs ys).0

-- ---- by the record of the number, or as a first arrival

is_delivery : (m : OfficeWithBook) (x : Request) → ◌≡◌ {A = OfficeWithBook × Reply} (delivered m x) (one m x, reply_at m [] x)
is_delivery m x = delivered-last m [] x

pub recorded_before : (m : OfficeWithBook) (x : Request) (r : Recorded) → maps.get m.book x.number ≡ Some r → ◌≡◌ {A = OfficeWithBook × Reply} (one m x, reply_at m [] x) (m, reply_from r x)
recorded_before m x r e = sym (is_delivery m x) ∙ ap (λ (o : Option Recorded). option_map_or (λ recorded. (m, reply_from recorded x)) o (first_delivered m x)) e

pub arrived_first : (m : OfficeWithBook) (x : Request) → maps.get m.book x.number ≡ None → ◌≡◌ {A = OfficeWithBook × Reply} (one m x, reply_at m [] x) (first_delivered m x)
arrived_first m x e = sym (is_delivery m x) ∙ ap (λ (o : Option Recorded). option_map_or (λ recorded. (m, reply_from recorded x)) o (first_delivered m x)) e

-- a request that is recorded changes nothing
pub unchanged : (m : OfficeWithBook) (x : Request) (r : Recorded) → maps.get m.book x.number ≡ Some r → one m x ≡ m
unchanged m x r e = ap (λ (p : OfficeWithBook × Reply). p.0) (recorded_before m x r e)

pub stepped : (m : OfficeWithBook) (x : Request) → maps.get m.book x.number ≡ None → one m x ≡ (first_delivered m x).0
stepped m x e = ap (λ (p : OfficeWithBook × Reply). p.0) (arrived_first m x e)

-- ---- the book

pub get-inserted : (b : Book) (k : Text) (r : Recorded) (n : Text) (c : Bool) → text_eq n k ≡ c → maps.get (maps.insert b k r) n ≡ cond c (Some r) (maps.get b n)
get-inserted b k r n c e = maps.get-insert text_total b k r n ∙ ap (λ d. cond d (Some r) (maps.get b n)) (sym (texts_ties n k) ∙ e)

-- what is recorded stays
pub stays : (m : OfficeWithBook) (x : Request) (n : Text) (r : Recorded) → maps.get m.book n ≡ Some r → maps.get (one m x).book n ≡ Some r
stays m x n r e = by_record (maps.get m.book x.number) refl
  where
    by_number : (c : Bool) → text_eq n x.number ≡ c → maps.get m.book x.number ≡ None → maps.get (one m x).book n ≡ Some r
    by_number true t none =
        let wrong : Some r ≡ None = sym e ∙ (ap (maps.get m.book) (same n x.number t) ∙ none) in
        cc
    by_number false t none = ap (λ (l : OfficeWithBook). maps.get l.book n) (stepped m x none) ∙ (get-inserted m.book x.number _ n false t ∙ e)

    by_record : (g : Option Recorded) → maps.get m.book x.number ≡ g → maps.get (one m x).book n ≡ Some r
    by_record (Some s) known = ap (λ (l : OfficeWithBook). maps.get l.book n) (unchanged m x s known) ∙ e
    by_record None none = by_number (text_eq n x.number) refl none

pub all_stay : (m : OfficeWithBook) (xs : List Request) (n : Text) (r : Recorded) → maps.get m.book n ≡ Some r → maps.get (left_by m xs).book n ≡ Some r
all_stay m [] n r e = e
all_stay m (x ∷ xs) n r e = ap (λ (l : OfficeWithBook). maps.get l.book n) (left_by-cons m x xs) ∙ all_stay (one m x) xs n r (stays m x n r e)

-- another request's number stays unrecorded
pub still_new : (m : OfficeWithBook) (x : Request) (n : Text) → maps.get m.book n ≡ None → text_eq n x.number ≡ false → maps.get (one m x).book n ≡ None
still_new m x n e t = by_record (maps.get m.book x.number) refl
  where
    by_record : (g : Option Recorded) → maps.get m.book x.number ≡ g → maps.get (one m x).book n ≡ None
    by_record (Some s) known = ap (λ (l : OfficeWithBook). maps.get l.book n) (unchanged m x s known) ∙ e
    by_record None none = ap (λ (l : OfficeWithBook). maps.get l.book n) (stepped m x none) ∙ (get-inserted m.book x.number _ n false t ∙ e)

-- ---- what is answered is the reply of the record

pub same_content : (x : Request) (r : Reply) → reply_from (recorded_as x r) x ≡ r
same_content x r = ap (λ c. cond c r number_used) (itself (content_text x))

-- a number is recorded, and a reply is what the record gives
pub record IsAnswered (book : Book) (x : Request) (reply : Reply) : Type 0 where
  pub record_of : Recorded
  pub recorded : maps.get book x.number ≡ Some record_of
  pub answer : reply ≡ reply_from record_of x

pub answered_one : (m : OfficeWithBook) (x : Request) → IsAnswered (one m x).book x (reply_at m [] x)
answered_one m x = by_record (maps.get m.book x.number) refl
  where
    by_record : (g : Option Recorded) → maps.get m.book x.number ≡ g → IsAnswered (one m x).book x (reply_at m [] x)
    by_record (Some s) known = record {
      record_of = s;
      recorded = ap (λ (l : OfficeWithBook). maps.get l.book x.number) (unchanged m x s known) ∙ known;
      answer = ap (λ (p : OfficeWithBook × Reply). p.1) (recorded_before m x s known);
    }
    by_record None none = record {
      record_of = recorded_as x (step m.office x).1;
      recorded = ap (λ (l : OfficeWithBook). maps.get l.book x.number) (stepped m x none) ∙ get-inserted m.book x.number _ x.number true (itself x.number);
      answer = ap (λ (p : OfficeWithBook × Reply). p.1) (arrived_first m x none) ∙ sym (same_content x (step m.office x).1);
    }

-- each reply of a run is what the record of its request's number gives
pub answered_all : (m : OfficeWithBook) (xs : List Request) (p : ℕ) (x : Request) (reply : Reply) → slice_get xs p ≡ Some x → slice_get (answers_of m xs) p ≡ Some reply → IsAnswered (left_by m xs).book x reply
answered_all m [] p x reply ex er = cc
answered_all m (y ∷ ys) zero x reply ex er =
    let here : y ≡ x = same_Some y x ex in
    let told : reply_at m [] y ≡ reply = same_Some _ reply er in
    let a : IsAnswered (one m x).book x reply = subst (λ (r : Reply). IsAnswered (one m x).book x r) (subst (λ (z : Request). reply_at m [] z ≡ reply) here told) (answered_one m x) in
    record {
      record_of = a.record_of;
      recorded =
          ap (λ (z : Request). maps.get (left_by m (z ∷ ys)).book x.number) here
          ∙ (ap (λ (l : OfficeWithBook). maps.get l.book x.number) (left_by-cons m x ys) ∙ all_stay (one m x) ys x.number a.record_of a.recorded);
      answer = a.answer;
    }
answered_all m (y ∷ ys) (suc p) x reply ex er =
    let rest = answered_all (one m y) ys p x reply ex (sym (ap (λ (rs : List Reply). slice_get rs (suc p)) (joined m (y ∷ []) ys).1) ∙ er) in
    subst (λ (l : OfficeWithBook). IsAnswered l.book x reply) (sym (left_by-cons m y ys)) rest
