-- The book has each first arrival with its reply, and alike lists give each request one reply.
use Rattle.std.proofs.Common.{◌≡◌, List, [], ◌∷◌, ◌++◌, Bool, true, false, cond, refl, sym, ◌∙◌, ap, subst, Option, Some, None, is_some, ◌||◌}
use Rattle.std.specs.FinMap as maps
use Rattle.std.specs.Prelude.{option_map}
use Rattle.std.specs.Option.{option_or}
use Rattle.std.proofs.lemmas.List.{append-nil}
use Rattle.std.specs.Cmp.Lexicographic.{same_text, texts_ties}
use Rattle.po_text.specs.Texts.{Text, text_eq}
use Rattle.units.specs.Office.{Office}
use Rattle.units.specs.Orders.{text_total}
use Rattle.request_book.specs.declared.act.Request.{Request}
use Rattle.request_book.specs.Replies.{Reply}
use Rattle.request_book.specs.Book.{Book, OfficeWithBook, Recorded, recorded_as}
use Rattle.request_book.specs.Clash.{clash, Alike}
use Rattle.office_specification.specs.Step.{step}
use Rattle.office_specification.specs.Deliveries.{after, first_of, left_by, IsRecordedIn, record_of}
use Rattle.office_specification.proofs.retries.Once.{from_end, left_by-last, first_of-last, first_with, is_known, is_known-is, one_of, has_firsts, same_number}
use Rattle.office_specification.specs.Laws.{Swaps, same, swap}
use Rattle.office_specification.proofs.commuting.Between.{either}
use Rattle.office_specification.proofs.commuting.Swaps.{alike_swaps, alike_after}

-- ---- a chain of swaps gives each request one reply

told_swapped : (b : Book) (front : List Request) (x y : Request) (back : List Request) → clash x y ≡ false → (o : Office) → IsRecordedIn b o (front ++ y ∷ x ∷ back) → IsRecordedIn b o (front ++ x ∷ y ∷ back)
told_swapped b [] x y back c o h =
    let e = either o x y c in (
      h.1.0 ∙ ap (λ (r : Reply). Some (recorded_as x r)) e.first,
      (
        h.0 ∙ ap (λ (r : Reply). Some (recorded_as y r)) (sym e.second),
        subst (λ (s : Office). IsRecordedIn b s back) (sym e.left) h.1.1,
      ),
    )
told_swapped b (w ∷ front) x y back c o h = (h.0, told_swapped b front x y back c (step o w).0 h.1)

told_swaps : (b : Book) (ys xs : List Request) → Swaps ys xs → (o : Office) → IsRecordedIn b o ys → IsRecordedIn b o xs
told_swaps b ys xs same o h = h
told_swaps b ys xs (swap front x y back c rest) o h = told_swapped b front x y back c o (told_swaps b ys (front ++ y ∷ x ∷ back) rest o h)

-- ---- the book that a list leaves has its first arrivals with their replies

keeps : (b c : Book) (o : Office) (xs : List Request) → ((n : Text) (r : Recorded) → maps.get b n ≡ Some r → maps.get c n ≡ Some r) → IsRecordedIn b o xs → IsRecordedIn c o xs
keeps b c o [] k h = tt
keeps b c o (x ∷ xs) k h = (k x.number _ h.0, keeps b c (step o x).0 xs k h.1)

told-last : (b : Book) (o : Office) (xs : List Request) (x : Request) → IsRecordedIn b o xs → maps.get b x.number ≡ Some (recorded_as x (step (after o xs) x).1) → IsRecordedIn b o (xs ++ x ∷ [])
told-last b o [] x h e = (e, tt)
told-last b o (y ∷ ys) x h e = (h.0, told-last b (step o y).0 ys x h.1 e)

-- a new number's record leaves the others
others_stay : (b : Book) (k : Text) (r : Recorded) → maps.get b k ≡ None → (n : Text) (s : Recorded) → maps.get b n ≡ Some s → maps.get (maps.insert b k r) n ≡ Some s
others_stay b k r fresh n s e =
    maps.get-insert text_total b k r n ∙ (ap (λ c. cond c (Some r) (maps.get b n)) (sym (texts_ties n k)) ∙ by_test (text_eq n k) refl)
  where
    by_test : (c : Bool) → text_eq n k ≡ c → cond c (Some r) (maps.get b n) ≡ Some s
    by_test true t =
        let same : maps.get b n ≡ None = ap (maps.get b) (same_text n k (sym t)) ∙ fresh in
        cc
    by_test false t = e

nothing_found : {A B : Type 0} (g : Option A) (f : Option B) (h : B → A) → (is_some g || is_some f) ≡ false → option_or g (option_map h f) ≡ None
nothing_found (Some r) f h e = cc
nothing_found None (Some y) h e = cc
nothing_found None None h e = refl

-- a request with a number that isn't known finds no record
pub fresh_number : (m : OfficeWithBook) (ys : List Request) (x : Request) → is_known m.book ys x ≡ false → maps.get (left_by m ys).book x.number ≡ None
fresh_number m ys x e =
    has_firsts m ys x.number ∙ nothing_found (maps.get m.book x.number) (first_with x.number ys) (record_of m)
    (sym (is_known-is m ys x (maps.get m.book x.number) (first_with x.number ys) refl refl) ∙ e)

abbrev HasReplies : OfficeWithBook → List Request → Type 0
HasReplies m ys = IsRecordedIn (left_by m ys).book m.office (first_of m.book ys)

one_more : (m : OfficeWithBook) (ys : List Request) (x : Request) (c : Bool) → is_known m.book ys x ≡ c → HasReplies m ys → HasReplies m (ys ++ x ∷ [])
one_more m ys x true e h =
    let left = left_by-last m ys x true e in
    let firsts : first_of m.book (ys ++ x ∷ []) ≡ first_of m.book ys =
    first_of-last m.book ys x ∙ (ap (λ d. first_of m.book ys ++ one_of x d) e ∙ append-nil (first_of m.book ys)) in
    subst (λ (l : OfficeWithBook). IsRecordedIn l.book m.office (first_of m.book (ys ++ x ∷ []))) (sym left)
    (subst (IsRecordedIn (left_by m ys).book m.office) (sym firsts) h)
one_more m ys x false e h =
    let left = left_by-last m ys x false e in
    let firsts : first_of m.book (ys ++ x ∷ []) ≡ first_of m.book ys ++ x ∷ [] =
    first_of-last m.book ys x ∙ ap (λ d. first_of m.book ys ++ one_of x d) e in
    let r : Recorded = recorded_as x (step (left_by m ys).office x).1 in
    let b : Book = maps.insert (left_by m ys).book x.number r in
    let own_record : maps.get b x.number ≡ Some r =
    maps.get-insert text_total (left_by m ys).book x.number r x.number
    ∙ ap (λ c. cond c (Some r) (maps.get (left_by m ys).book x.number)) (sym (texts_ties x.number x.number) ∙ same_number x) in
    let told = told-last b m.office (first_of m.book ys) x
    (keeps (left_by m ys).book b m.office (first_of m.book ys) (others_stay (left_by m ys).book x.number r (fresh_number m ys x e)) h) own_record in
    subst (λ (l : OfficeWithBook). IsRecordedIn l.book m.office (first_of m.book (ys ++ x ∷ []))) (sym left)
    (subst (IsRecordedIn b m.office) (sym firsts) told)

-- each first arrival is in the book with the reply of its place
pub has_replies : (m : OfficeWithBook) (ys : List Request) → HasReplies m ys
has_replies m ys = from_end (HasReplies m) tt (λ xs x ih. one_more m xs x _ refl ih) [] ys tt

-- a list that is alike to the first arrivals leaves the same office, and the book has its requests with the replies of their places in it
pub any_order : (m : OfficeWithBook) (ys xs : List Request) → Alike xs (first_of m.book ys) → ((left_by m ys).office ≡ after m.office xs) × IsRecordedIn (left_by m ys).book m.office xs
any_order m ys xs alike = (sym (alike_after xs (first_of m.book ys) m.office alike), told_swaps (left_by m ys).book (first_of m.book ys) xs (alike_swaps xs (first_of m.book ys) alike) m.office (has_replies m ys))
