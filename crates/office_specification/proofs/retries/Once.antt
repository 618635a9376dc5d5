-- One delivery after a list is the list's next step: a request acts once.
use Rattle.std.proofs.Common.{◌≡◌, List, [], ◌∷◌, ◌++◌, Bool, true, false, cond, ◌||◌, Option, Some, None, refl, sym, ◌∙◌, ap, subst, append_assoc, is_some}
use Rattle.std.specs.Prelude.{if◌then◌else◌, option_map, unwrap_or, not}
use Rattle.std.specs.Option.{option_map_or, option_or}
use Rattle.std.specs.List.{list_any}
use Rattle.std.proofs.lemmas.List.{append-nil}
use Rattle.std.proofs.lemmas.List.Elements.{filter-append}
use Rattle.std.proofs.Math.Seq.{append_snoc}
use Rattle.std.specs.FinMap as maps
use Rattle.std.specs.Cmp.Lexicographic.{same_text, texts_ties, nat_list_eq_equiv}
use Rattle.po_text.specs.Texts.{Text}
use Rattle.units.specs.Office.{Office}
use Rattle.units.specs.Orders.{text_total}
use Rattle.request_book.specs.declared.act.Request.{Request}
use Rattle.request_book.specs.Replies.{Reply}
use Rattle.request_book.specs.Acts.{content_text}
use Rattle.request_book.specs.Book.{Book, OfficeWithBook, Recorded, recorded_as, has_number}
use Rattle.replies.specs.Bodies.{number_used}
use Rattle.office_specification.specs.Step.{step}
use Rattle.office_specification.specs.Deliveries.{without, first_of, after, book_of, arrival_of, record_of, reply_from, reply_at, left_by, delivered, replies_after, answers_of}
use Rattle.office_specification.specs.Laws.{IsJoined}

-- ---- the last of a list

pub after-last : (o : Office) (xs : List Request) (x : Request) → after o (xs ++ x ∷ []) ≡ (step (after o xs) x).0
after-last o [] x = refl
after-last o (y ∷ ys) x = after-last (step o y).0 ys x

pub book_of-last : (o : Office) (b : Book) (xs : List Request) (x : Request) →
    book_of o b (xs ++ x ∷ []) ≡ maps.insert (book_of o b xs) x.number (recorded_as x (step (after o xs) x).1)
book_of-last o b [] x = refl
book_of-last o b (y ∷ ys) x = book_of-last (step o y).0 (maps.insert b y.number (recorded_as y (step o y).1)) ys x

-- ---- first arrivals

abbrev pub one_of : {X : Type 0} → X → Bool → List X
one_of x known = if known then [] else x ∷ []

-- the book or a request before has its number
abbrev pub is_known : Book → List Request → Request → Bool
is_known b before x = maps.contains_key b x.number || list_any (has_number x.number) before

struck : (n : Text) (x : Request) (k c : Bool) → has_number n x ≡ c → without n (one_of x k) ≡ one_of x (k || c)
struck n x true c e = refl
struck n x false c e = ap (λ d. cond (not d) (x ∷ []) []) e ∙ by_test c
  where
    by_test : (c : Bool) → cond (not c) (x ∷ []) [] ≡ one_of x c
    by_test true = refl
    by_test false = refl

same_way : (x y : Request) → has_number y.number x ≡ has_number x.number y
same_way x y = nat_list_eq_equiv.symm y.number x.number

-- whether x is known, by whether the book has a number y's, which may be x's
known_too : (b : Book) (ys : List Request) (x y : Request) (h : Bool) → has_number x.number y ≡ h → maps.contains_key b y.number ≡ true →
    (maps.contains_key b x.number || (h || list_any (has_number x.number) ys)) ≡ is_known b ys x
known_too b ys x y true e k =
    let there : maps.contains_key b x.number ≡ true = ap (maps.contains_key b) (same_text x.number y.number (sym e)) ∙ k in
    rw there refl
known_too b ys x y false e k = refl

moved : (c h a : Bool) → ((c || a) || h) ≡ (c || (h || a))
moved true h a = refl
moved false true true = refl
moved false true false = refl
moved false false true = refl
moved false false false = refl

-- the firsts of a longer list
pub first_of-last : (b : Book) (xs : List Request) (x : Request) → first_of b (xs ++ x ∷ []) ≡ first_of b xs ++ one_of x (is_known b xs x)
first_of-last b [] x = by_test (maps.contains_key b x.number)
  where
    by_test : (c : Bool) → cond c [] (x ∷ []) ≡ one_of x (c || false)
    by_test true = refl
    by_test false = refl
first_of-last b (y ∷ ys) x =
    ap (λ zs. cond (maps.contains_key b y.number) zs (y ∷ without y.number zs)) (first_of-last b ys x) ∙ by_test (maps.contains_key b y.number) refl
  where
    by_test : (c : Bool) → maps.contains_key b y.number ≡ c →
        cond c (first_of b ys ++ one_of x (is_known b ys x)) (y ∷ without y.number (first_of b ys ++ one_of x (is_known b ys x)))
        ≡ cond c (first_of b ys) (y ∷ without y.number (first_of b ys)) ++ one_of x (maps.contains_key b x.number || (has_number x.number y || list_any (has_number x.number) ys))
    by_test true e = ap (λ k. first_of b ys ++ one_of x k) (sym (known_too b ys x y _ refl e))
    by_test false e =
        ap (λ zs. y ∷ zs) (filter-append (λ r. not (has_number y.number r)) (first_of b ys) (one_of x (is_known b ys x))
        ∙ (ap (λ zs. without y.number (first_of b ys) ++ zs) (struck y.number x (is_known b ys x) _ (same_way x y))
        ∙ ap (λ k. without y.number (first_of b ys) ++ one_of x k) (moved (maps.contains_key b x.number) (has_number x.number y) (list_any (has_number x.number) ys))))

-- a request with those before it
abbrev pub Arrival : Type 0
Arrival = List Request × Request

abbrev place : List Request → Request → Arrival
place before x = (before, x)

-- the same, where one more request comes before
abbrev one_later : Request → Arrival → Arrival
one_later y f = (y ∷ f.0, f.1)

-- the first request of a number, if there is one
abbrev pub first_with : Text → List Request → Option Arrival
first_with n [] = None
first_with n (y ∷ ys) = let later = first_with n ys in if has_number n y then Some ([], y) else option_map (one_later y) later

behind : (y x : Request) (ys : List Request) (f : Option Arrival) (c : Bool) →
    option_map (one_later y) (option_or f (cond c (Some (place ys x)) None)) ≡ option_or (option_map (one_later y) f) (cond c (Some (place (y ∷ ys) x)) None)
behind y x ys (Some f) c = refl
behind y x ys None true = refl
behind y x ys None false = refl

first_with-last : (n : Text) (xs : List Request) (x : Request) → first_with n (xs ++ x ∷ []) ≡ option_or (first_with n xs) (if has_number n x then Some (place xs x) else None)
first_with-last n [] x = by_test (has_number n x)
  where
    by_test : (c : Bool) → cond c (Some (place [] x)) None ≡ option_or None (cond c (Some (place [] x)) None)
    by_test true = refl
    by_test false = refl
first_with-last n (y ∷ ys) x =
    elim (has_number n y) as (λ c. cond c (Some (place [] y)) (option_map (one_later y) (first_with n (ys ++ x ∷ [])))
    ≡ option_or (cond c (Some (place [] y)) (option_map (one_later y) (first_with n ys))) (cond (has_number n x) (Some (place (y ∷ ys) x)) None)) [
      | true ↦ refl
      | false ↦ ap (option_map (one_later y)) (first_with-last n ys x) ∙ behind y x ys (first_with n ys) (has_number n x)
    ]

as_before : (y : Request) (f : Option Arrival) → is_some (option_map (one_later y) f) ≡ is_some f
as_before y (Some f) = refl
as_before y None = refl

-- a number has a first request exactly where one has it
is_some-first_with : (n : Text) (xs : List Request) → is_some (first_with n xs) ≡ list_any (has_number n) xs
is_some-first_with n [] = refl
is_some-first_with n (y ∷ ys) =
    elim (has_number n y) as (λ c. is_some (cond c (Some (place [] y)) (option_map (one_later y) (first_with n ys))) ≡ (c || list_any (has_number n) ys)) [
      | true ↦ refl
      | false ↦ as_before y (first_with n ys) ∙ is_some-first_with n ys
    ]

one_longer : (y x : Request) (ys : List Request) (f : Option Arrival) → one_later y (unwrap_or f (place ys x)) ≡ unwrap_or (option_map (one_later y) f) (place (y ∷ ys) x)
one_longer y x ys (Some f) = refl
one_longer y x ys None = refl

-- an arrival is that first request, or else the request itself
arrival_of-is : (n : Text) (xs : List Request) (x : Request) → arrival_of n xs x ≡ unwrap_or (first_with n xs) (place xs x)
arrival_of-is n [] x = refl
arrival_of-is n (y ∷ ys) x =
    elim (has_number n y) as (λ c. cond c (place [] y) (one_later y (arrival_of n ys x)) ≡ unwrap_or (cond c (Some (place [] y)) (option_map (one_later y) (first_with n ys))) (place (y ∷ ys) x)) [
      | true ↦ refl
      | false ↦ ap (one_later y) (arrival_of-is n ys x) ∙ one_longer y x ys (first_with n ys)
    ]

-- ---- what the book has

-- the start's record, else that of the first arrival
abbrev pub found : OfficeWithBook → List Request → Text → Option Recorded
found m xs n = option_or (maps.get m.book n) (option_map (record_of m) (first_with n xs))

the_means : OfficeWithBook → List Request → OfficeWithBook
the_means m zs = record { office = after m.office zs; book = book_of m.office m.book zs }

abbrev pub stepped : OfficeWithBook → Request → OfficeWithBook
stepped m x = record { office = (step m.office x).0; book = maps.insert m.book x.number (recorded_as x (step m.office x).1) }

pub left_by-last : (m : OfficeWithBook) (xs : List Request) (x : Request) (c : Bool) → is_known m.book xs x ≡ c →
    left_by m (xs ++ x ∷ []) ≡ cond c (left_by m xs) (stepped (left_by m xs) x)
unfolding the_means
left_by-last m xs x c e =
    let firsts = first_of-last m.book xs x ∙ ap (λ d. first_of m.book xs ++ one_of x d) e in
    ap (the_means m) firsts ∙ elim c as (λ d. the_means m (first_of m.book xs ++ one_of x d) ≡ cond d (left_by m xs) (stepped (left_by m xs) x)) [
      | true ↦ ap (the_means m) (append-nil (first_of m.book xs))
      | false ↦ λ i. record { office = after-last m.office (first_of m.book xs) x i; book = book_of-last m.office m.book (first_of m.book xs) x i }
    ]

-- an induction from the end
pub from_end : {X : Type 0} (P : List X → Type 0) → P [] → ((xs : List X) (x : X) → P xs → P (xs ++ x ∷ [])) → (done xs : List X) → P done → P (done ++ xs)
from_end P nil last done [] p = subst P (sym (append-nil done)) p
from_end P nil last done (x ∷ xs) p = subst P (append_snoc done x xs) (from_end P nil last (done ++ x ∷ []) xs (last done x p))

no_change : {A B : Type 0} (g : Option A) (f : Option B) (h : B → A) (z : B) → (is_some g || is_some f) ≡ true → option_or g (option_map h (option_or f (Some z))) ≡ option_or g (option_map h f)
no_change (Some r) f h z k = refl
no_change None (Some y) h z k = refl
no_change None None h z k = cc

unchanged : {A B : Type 0} (g : Option A) (f : Option B) (h : B → A) → option_or g (option_map h (option_or f None)) ≡ option_or g (option_map h f)
unchanged (Some r) f h = refl
unchanged None (Some y) h = refl
unchanged None None h = refl

its_own : {A B : Type 0} (g : Option A) (f : Option B) (h : B → A) (z : B) → (is_some g || is_some f) ≡ false → option_or g (option_map h (option_or f (Some z))) ≡ Some (h z)
its_own (Some r) f h z k = cc
its_own None (Some y) h z k = cc
its_own None None h z k = refl

-- whether something is found, by the number of a request
known_by : (m : OfficeWithBook) (xs : List Request) (x : Request) (n : Text) (c : Bool) → has_number n x ≡ true → is_known m.book xs x ≡ c →
    (is_some (maps.get m.book n) || is_some (first_with n xs)) ≡ c
known_by m xs x n c t e =
    ap (λ d. is_some (maps.get m.book n) || d) (is_some-first_with n xs)
    ∙ (ap (λ k. maps.contains_key m.book k || list_any (has_number k) xs) (same_text n x.number (sym t)) ∙ e)

abbrev found_last : OfficeWithBook → List Request → Request → Text → Bool → Option Recorded
found_last m xs x n c = option_or (maps.get m.book n) (option_map (record_of m) (option_or (first_with n xs) (cond c (Some (place xs x)) None)))

found-last : (m : OfficeWithBook) (xs : List Request) (x : Request) (n : Text) → found m (xs ++ x ∷ []) n ≡ found_last m xs x n (has_number n x)
found-last m xs x n = ap (λ f. option_or (maps.get m.book n) (option_map (record_of m) f)) (first_with-last n xs x)

-- a request that is known adds no record, and another adds its own
found_known : (m : OfficeWithBook) (xs : List Request) (x : Request) (n : Text) (c : Bool) → has_number n x ≡ c → is_known m.book xs x ≡ true → found_last m xs x n c ≡ found m xs n
found_known m xs x n true t e = no_change (maps.get m.book n) (first_with n xs) (record_of m) (place xs x) (known_by m xs x n true t e)
found_known m xs x n false t e = unchanged (maps.get m.book n) (first_with n xs) (record_of m)

found_new : (m : OfficeWithBook) (xs : List Request) (x : Request) (n : Text) (c : Bool) → has_number n x ≡ c → is_known m.book xs x ≡ false →
    found_last m xs x n c ≡ cond c (Some (record_of m (place xs x))) (found m xs n)
found_new m xs x n true t e = its_own (maps.get m.book n) (first_with n xs) (record_of m) (place xs x) (known_by m xs x n false t e)
found_new m xs x n false t e = unchanged (maps.get m.book n) (first_with n xs) (record_of m)

-- the book that a list leaves has the record of each number's first arrival
abbrev pub HasFirsts : OfficeWithBook → List Request → Type 0
HasFirsts m xs = (n : Text) → maps.get (left_by m xs).book n ≡ found m xs n

one_more : (m : OfficeWithBook) (xs : List Request) (x : Request) (c : Bool) → is_known m.book xs x ≡ c → HasFirsts m xs → HasFirsts m (xs ++ x ∷ [])
one_more m xs x true e ih n =
    ap (λ (l : OfficeWithBook). maps.get l.book n) (left_by-last m xs x true e) ∙ (ih n ∙ sym (found-last m xs x n ∙ found_known m xs x n _ refl e))
one_more m xs x false e ih n =
    ap (λ (l : OfficeWithBook). maps.get l.book n) (left_by-last m xs x false e)
    ∙ (maps.get-insert text_total (left_by m xs).book x.number _ n
    ∙ (ap (λ c. cond c (Some (record_of m (place xs x))) (maps.get (left_by m xs).book n)) (sym (texts_ties n x.number))
    ∙ (ap (λ r. cond (has_number n x) (Some (record_of m (place xs x))) r) (ih n)
    ∙ sym (found-last m xs x n ∙ found_new m xs x n _ refl e))))

no_first : {A B : Type 0} (g : Option A) (h : B → A) → g ≡ option_or g (option_map h None)
no_first (Some r) h = refl
no_first None h = refl

pub has_firsts : (m : OfficeWithBook) (xs : List Request) → HasFirsts m xs
has_firsts m xs = from_end (HasFirsts m) (λ n. no_first (maps.get m.book n) (record_of m)) (λ ys x ih. one_more m ys x _ refl ih) [] xs (λ n. no_first (maps.get m.book n) (record_of m))

-- ---- one delivery after a list

abbrev reply_by : OfficeWithBook → List Request → Request → Option Recorded → Option Arrival → Reply
reply_by m xs x g f = reply_from (unwrap_or g (record_of m (unwrap_or f (place xs x)))) x

reply_at-is : (m : OfficeWithBook) (xs : List Request) (x : Request) (g : Option Recorded) (f : Option Arrival) →
    maps.get m.book x.number ≡ g → first_with x.number xs ≡ f → reply_at m xs x ≡ reply_by m xs x g f
unfolding reply_at
reply_at-is m xs x g f eg ef =
    ap (λ h. reply_from (unwrap_or h (record_of m (arrival_of x.number xs x))) x) eg
    ∙ ap (λ a. reply_from (unwrap_or g (record_of m a)) x) (arrival_of-is x.number xs x ∙ ap (λ h. unwrap_or h (place xs x)) ef)

pub same_number : (x : Request) → has_number x.number x ≡ true
same_number x = nat_list_eq_equiv.refl x.number

same_content : (x : Request) (r : Reply) → reply_from (recorded_as x r) x ≡ r
same_content x r = ap (λ c. cond c r number_used) (nat_list_eq_equiv.refl (content_text x))

abbrev delivery : OfficeWithBook → List Request → Request → Option Recorded → OfficeWithBook × Reply
delivery m xs x r = option_map_or (λ recorded. (left_by m xs, reply_from recorded x)) r (stepped (left_by m xs) x, (step (left_by m xs).office x).1)

pub is_known-is : (m : OfficeWithBook) (xs : List Request) (x : Request) (g : Option Recorded) (f : Option Arrival) →
    maps.get m.book x.number ≡ g → first_with x.number xs ≡ f → is_known m.book xs x ≡ (is_some g || is_some f)
is_known-is m xs x g f eg ef =
    ap (λ d. maps.contains_key m.book x.number || d) (sym (is_some-first_with x.number xs))
    ∙ (ap (λ h. is_some h || is_some (first_with x.number xs)) eg ∙ ap (λ h. is_some g || is_some h) ef)

delivery-last : (m : OfficeWithBook) (xs : List Request) (x : Request) (g : Option Recorded) (f : Option Arrival) →
    maps.get m.book x.number ≡ g → first_with x.number xs ≡ f →
    delivery m xs x (option_or g (option_map (record_of m) f)) ≡ (left_by m (xs ++ x ∷ []), reply_at m xs x)
delivery-last m xs x (Some r) f eg ef =
    let left = left_by-last m xs x true (is_known-is m xs x (Some r) f eg ef) in
    let reply = reply_at-is m xs x (Some r) f eg ef in
    λ i. (sym left i, sym reply i)
delivery-last m xs x None (Some y) eg ef =
    let left = left_by-last m xs x true (is_known-is m xs x None (Some y) eg ef) in
    let reply = reply_at-is m xs x None (Some y) eg ef in
    λ i. (sym left i, sym reply i)
delivery-last m xs x None None eg ef =
    let left = left_by-last m xs x false (is_known-is m xs x None None eg ef) in
    let reply = reply_at-is m xs x None None eg ef ∙ same_content x (step (after m.office (first_of m.book xs)) x).1 in
    λ i. (sym left i, sym reply i)

-- a delivery after a list leaves what the longer list leaves, and answers what that list answers at its last place
pub delivered-last : (m : OfficeWithBook) (xs : List Request) (x : Request) → delivered (left_by m xs) x ≡ (left_by m (xs ++ x ∷ []), reply_at m xs x)
delivered-last m xs x = ap (delivery m xs x) (has_firsts m xs x.number) ∙ delivery-last m xs x _ _ refl refl

-- ---- lists that are joined

replies_after-last : (m : OfficeWithBook) (before xs : List Request) (x : Request) →
    replies_after m before (xs ++ x ∷ []) ≡ replies_after m before xs ++ reply_at m (before ++ xs) x ∷ []
replies_after-last m before [] x = ap (λ zs. reply_at m zs x ∷ []) (sym (append-nil before))
replies_after-last m before (y ∷ ys) x =
    ap (λ rs. reply_at m before y ∷ rs) (replies_after-last m (before ++ y ∷ []) ys x ∙ ap (λ zs. replies_after m (before ++ y ∷ []) ys ++ reply_at m zs x ∷ []) (append_snoc before y ys))

pub answers_of-last : (m : OfficeWithBook) (xs : List Request) (x : Request) → answers_of m (xs ++ x ∷ []) ≡ answers_of m xs ++ reply_at m xs x ∷ []
answers_of-last m xs x = replies_after-last m [] xs x

one_joined : (m : OfficeWithBook) (xs ys : List Request) (y : Request) → IsJoined m xs ys → IsJoined m xs (ys ++ y ∷ [])
one_joined m xs ys y ih =
    let whole = delivered-last m (xs ++ ys) y in
    let part = delivered-last (left_by m xs) ys y in
    let same : ◌≡◌ {A = OfficeWithBook × Reply} (left_by m ((xs ++ ys) ++ y ∷ []), reply_at m (xs ++ ys) y) (left_by (left_by m xs) (ys ++ y ∷ []), reply_at (left_by m xs) ys y) =
    sym whole ∙ (ap (λ (l : OfficeWithBook). delivered l y) ih.0 ∙ part) in
    let grouped = sym (append_assoc xs ys (y ∷ [])) in (
      ap (left_by m) grouped ∙ ap (λ (p : OfficeWithBook × Reply). p.0) same,
      ap (answers_of m) grouped ∙ (answers_of-last m (xs ++ ys) y
          ∙ (ap (λ rs. rs ++ reply_at m (xs ++ ys) y ∷ []) ih.1
          ∙ (append_assoc (answers_of m xs) (answers_of (left_by m xs) ys) _
          ∙ ap (λ rs. answers_of m xs ++ rs) (ap (λ (p : OfficeWithBook × Reply). answers_of (left_by m xs) ys ++ p.1 ∷ []) same ∙ sym (answers_of-last (left_by m xs) ys y))))),
    )

pub joined : (m : OfficeWithBook) (xs ys : List Request) → IsJoined m xs ys
joined m xs ys =
    let nothing : IsJoined m xs [] = (ap (left_by m) (append-nil xs), ap (answers_of m) (append-nil xs) ∙ sym (append-nil (answers_of m xs))) in
    from_end (IsJoined m xs) nothing (λ zs z ih. one_joined m xs zs z ih) [] ys nothing
