-- A request may come before requests that are recorded or that it doesn't clash with: what all leave is the same.
use Rattle.std.proofs.Common.{◌≡◌, ℕ, zero, suc, List, [], ◌∷◌, ◌++◌, Bool, true, false, Option, Some, None, refl, sym, ◌∙◌, ap, subst, inl, inr}
use Rattle.std.specs.Prelude.{◌⊎◌, slice_get}
use Rattle.std.specs.FinMap as maps
use Rattle.po_text.specs.Texts.{Text, text_eq}
use Rattle.units.specs.Orders.{text_total, text_IsAntisymmetric}
use Rattle.request_book.specs.declared.act.Request.{Request}
use Rattle.request_book.specs.Replies.{Reply}
use Rattle.request_book.specs.Book.{Book, OfficeWithBook, Recorded, recorded_as}
use Rattle.request_book.specs.Clash.{clash}
use Rattle.office_specification.specs.Step.{step}
use Rattle.office_specification.specs.Deliveries.{left_by, first_delivered}
use Rattle.office_specification.proofs.commuting.Between.{either}
use Rattle.sender.proofs.Places.{same, other_way}
use Rattle.office_laws.proofs.OneDelivery.{one, left_by-cons, left_by-append, unchanged, stepped, stays, still_new, get-inserted, answered_one}

-- the number of a request is recorded
pub record IsKnown (m : OfficeWithBook) (x : Request) : Type 0 where
  pub record_of : Recorded
  pub recorded : maps.get m.book x.number ≡ Some record_of

pub still_known : (m : OfficeWithBook) (x y : Request) → IsKnown m y → IsKnown (one m x) y
still_known m x y k = record { record_of = k.record_of; recorded = stays m x y.number k.record_of k.recorded }

-- ---- two requests

both_not : (a x y : Text) → text_eq x y ≡ false → text_eq a x ≡ true → text_eq a y ≡ true → ⊥
both_not a x y apart t u =
    let wrong : text_eq x y ≡ true = subst (λ (z : Text). text_eq z y ≡ true) (same a x t) u in
    let no : true ≡ false = sym wrong ∙ apart in
    cc

inserted : (b : Book) (x y : Text) (r s : Recorded) → text_eq x y ≡ false → maps.insert (maps.insert b x r) y s ≡ maps.insert (maps.insert b y s) x r
inserted b x y r s apart = maps.same_map text_total text_IsAntisymmetric _ _ (λ n. by_number n (text_eq n x) (text_eq n y) refl refl)
  where
    by_number : (n : Text) (c d : Bool) → text_eq n x ≡ c → text_eq n y ≡ d → maps.get (maps.insert (maps.insert b x r) y s) n ≡ maps.get (maps.insert (maps.insert b y s) x r) n
    by_number n true true t u = absurd (both_not n x y apart t u)
    by_number n true false t u =
        get-inserted (maps.insert b x r) y s n false u ∙ (get-inserted b x r n true t ∙ sym (get-inserted (maps.insert b y s) x r n true t))
    by_number n false true t u =
        get-inserted (maps.insert b x r) y s n true u ∙ sym (get-inserted (maps.insert b y s) x r n false t ∙ get-inserted b y s n true u)
    by_number n false false t u =
        get-inserted (maps.insert b x r) y s n false u ∙ (get-inserted b x r n false t ∙ sym (get-inserted (maps.insert b y s) x r n false t ∙ get-inserted b y s n false u))

-- two new requests that don't clash
both_new : (m : OfficeWithBook) (x y : Request) → maps.get m.book x.number ≡ None → maps.get m.book y.number ≡ None → text_eq x.number y.number ≡ false → clash y x ≡ false →
    one (one m x) y ≡ one (one m y) x
both_new m x y new_x new_y apart c =
    let e = either m.office y x c in
    let left : one (one m x) y ≡ (first_delivered (first_delivered m x).0 y).0 =
    stepped (one m x) y (still_new m x y.number new_y (other_way x.number y.number false apart)) ∙ ap (λ (l : OfficeWithBook). (first_delivered l y).0) (stepped m x new_x) in
    let right : one (one m y) x ≡ (first_delivered (first_delivered m y).0 x).0 =
    stepped (one m y) x (still_new m y x.number new_x apart) ∙ ap (λ (l : OfficeWithBook). (first_delivered l x).0) (stepped m y new_y) in
    let office : (step (step m.office x).0 y).0 ≡ (step (step m.office y).0 x).0 = sym e.left in
    let book : maps.insert (maps.insert m.book x.number (recorded_as x (step m.office x).1)) y.number (recorded_as y (step (step m.office x).0 y).1)
    ≡ maps.insert (maps.insert m.book y.number (recorded_as y (step m.office y).1)) x.number (recorded_as x (step (step m.office y).0 x).1) =
    ap (λ (r : Reply). maps.insert (maps.insert m.book x.number (recorded_as x (step m.office x).1)) y.number (recorded_as y r)) e.first
    ∙ (inserted m.book x.number y.number (recorded_as x (step m.office x).1) (recorded_as y (step m.office y).1) apart
    ∙ ap (λ (r : Reply). maps.insert (maps.insert m.book y.number (recorded_as y (step m.office y).1)) x.number (recorded_as x r)) (sym e.second)) in
    let middle : (first_delivered (first_delivered m x).0 y).0 ≡ (first_delivered (first_delivered m y).0 x).0 = λ i. record { office = office i; book = book i } in
    left ∙ (middle ∙ sym right)

-- y is recorded, or doesn't clash with x
abbrev pub Yields : OfficeWithBook → Request → Request → Type 0
Yields m x y = IsKnown m y ⊎ (clash y x ≡ false)

exchanged : (m : OfficeWithBook) (x y : Request) → maps.get m.book x.number ≡ None → text_eq x.number y.number ≡ false → Yields m x y → one (one m x) y ≡ one (one m y) x
exchanged m x y new_x apart (inl k) =
    unchanged (one m x) y k.record_of (stays m x y.number k.record_of k.recorded) ∙ ap (λ (l : OfficeWithBook). one l x) (sym (unchanged m y k.record_of k.recorded))
exchanged m x y new_x apart (inr c) = by_record (maps.get m.book y.number) refl
  where
    by_record : (g : Option Recorded) → maps.get m.book y.number ≡ g → one (one m x) y ≡ one (one m y) x
    by_record (Some s) known =
        unchanged (one m x) y s (stays m x y.number s known) ∙ ap (λ (l : OfficeWithBook). one l x) (sym (unchanged m y s known))
    by_record None none = both_new m x y new_x none apart c

-- ---- a list that yields

-- each of a list has another number than x, and is recorded or doesn't clash with x
pub record AllYield (m : OfficeWithBook) (x : Request) (ys : List Request) : Type 0 where
  pub apart : (j : ℕ) (y : Request) → slice_get ys j ≡ Some y → text_eq x.number y.number ≡ false
  pub yields : (j : ℕ) (y : Request) → slice_get ys j ≡ Some y → Yields m x y

still_yields : (m : OfficeWithBook) (x y z : Request) → Yields m x z → Yields (one m y) x z
still_yields m x y z (inl k) = inl (still_known m y z k)
still_yields m x y z (inr c) = inr c

rest_yields : (m : OfficeWithBook) (x y : Request) (ys : List Request) → AllYield m x (y ∷ ys) → AllYield (one m y) x ys
rest_yields m x y ys all = record {
  apart = λ j z e. all.apart (suc j) z e;
  yields = λ j z e. still_yields m x y z (all.yields (suc j) z e);
}

first_or_last : (m : OfficeWithBook) (x : Request) (ys : List Request) → maps.get m.book x.number ≡ None → AllYield m x ys → left_by (one m x) ys ≡ one (left_by m ys) x
first_or_last m x [] new_x all = refl
first_or_last m x (y ∷ ys) new_x all =
    let apart = all.apart zero y refl in
    left_by-cons (one m x) y ys
    ∙ (ap (λ (l : OfficeWithBook). left_by l ys) (exchanged m x y new_x apart (all.yields zero y refl))
    ∙ (first_or_last (one m y) x ys (still_new m y x.number new_x apart) (rest_yields m x y ys all)
    ∙ ap (λ (l : OfficeWithBook). one l x) (sym (left_by-cons m y ys))))

twice : (m : OfficeWithBook) (x : Request) → one (one m x) x ≡ one m x
twice m x = let a = answered_one m x in unchanged (one m x) x a.record_of a.recorded

-- a new request of a list may come before the list, where those before it yield
pub comes_before : (m : OfficeWithBook) (front : List Request) (x : Request) (back : List Request) → maps.get m.book x.number ≡ None → AllYield m x front →
    left_by (one m x) (front ++ x ∷ back) ≡ left_by m (front ++ x ∷ back)
comes_before m front x back new_x all =
    left_by-append (one m x) front (x ∷ back)
    ∙ (ap (λ (l : OfficeWithBook). left_by l (x ∷ back)) (first_or_last m x front new_x all)
    ∙ (left_by-cons (one (left_by m front) x) x back
    ∙ (ap (λ (l : OfficeWithBook). left_by l back) (twice (left_by m front) x)
    ∙ (sym (left_by-cons (left_by m front) x back)
    ∙ sym (left_by-append m front (x ∷ back))))))

-- a list of requests that are recorded changes nothing
pub all_known : (m : OfficeWithBook) (xs : List Request) → ((j : ℕ) (x : Request) → slice_get xs j ≡ Some x → IsKnown m x) → left_by m xs ≡ m
all_known m [] known = refl
all_known m (x ∷ xs) known =
    let k = known zero x refl in
    left_by-cons m x xs ∙ (ap (λ (l : OfficeWithBook). left_by l xs) (unchanged m x k.record_of k.recorded) ∙ all_known m xs (λ j z e. known (suc j) z e))
