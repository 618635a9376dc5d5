-- What rising rowids tell: rows whose rowids are integers, no two the same.
use Rattle.std.proofs.Common.{◌≡◌, inl, inr, ℕ, zero, suc, ◌+◌, ◌<◌, ◌≤◌, ℤ, List, [], ◌∷◌, map, length, drop, get_or, Bool, true, false, cond, Option, Some, None, refl, sym, ap, subst, ◌∙◌, arith}
use Rattle.std.specs.Bool.{Decides}
use Rattle.std.specs.declared.cmp.Ordering.{Ordering}
use Rattle.std.specs.declared.cmp.Ordering.TheVariants.{Less, Equal, Greater}
use Rattle.std.specs.Ordering.{int_cmp, is_eq, is_lt, ordering_reverse}
use Rattle.std.specs.Cmp.{int_cmp_total, eq_by_cmp_equiv}
use Rattle.std.specs.List.{AllByRecursion, IsDistinct}
use Rattle.std.specs.List.Sorted.{IsPermutation}
use Rattle.std.proofs.lemmas.List.Sorted.{IsPermutation-map, IsPermutation-sym}
use Rattle.std.proofs.lemmas.List.{at_drop_more}
use Rattle.std.proofs.lemmas.Map.Keys.{IsDistinct-IsPermutation, IsDistinct-head, IsDistinct-tail}
use Rattle.sqlite.specs.declared.types.Value.{Value}
use Rattle.sqlite.specs.declared.types.Value.TheVariants.{Null, Int, Real, Text, Blob}
use Rattle.sqlite.specs.Order.{Row, column, value_cmp}
use Rattle.sqlite.specs.Effect.{Database}
use Rattle.sqlite.specs.Tree.{rowid}
use Rattle.sqlite_value.proofs.OrderLemmas.{value_cmp_total, value_cmp-Int}
use Rattle.sqlite_trees.specs.View.{is_int}
use Rattle.sqlite_trees.proofs.ListLemmas.{map-map, all-map}
use Rattle.sqlite_rules.specs.Lists.{Has}
use Rattle.sqlite_rules.specs.Edit.{id_in}
use Rattle.sqlite_rules.proofs.ListLemmas.{all_has, all_from}
use Rattle.sqlite_rules.proofs.TableLemmas.{int_is}
use Rattle.sql_laws.specs.ApartRows.{AreApart, AreOnce}
use Rattle.sql_laws.proofs.RemovedRows.{from_mapped, to_mapped, has_permuted}
use Rattle.sql_schema.specs.Keys.{columns}
use Rattle.sql_schema.specs.Inside.{IsInOrder}
use Rattle.sql_layouts.specs.RisingRows.{ShowsRowids, integer_in, is_above, follows, goes_on, are_rising}
use Rattle.sql_schema.specs.Layouts.{rows_named}

abbrev tied : Value → Value → Bool
tied a b = is_eq (value_cmp a b)

abbrev first : Row → Value
first row = column row 0

less_is : (o : Ordering) → is_lt o ≡ true → o ≡ Less
less_is Less e = refl
less_is Equal e = absurd cc
less_is Greater e = absurd cc

-- neither above nor tied
below : (o : Ordering) → is_lt (ordering_reverse o) ≡ false → is_eq o ≡ false → is_lt o ≡ true
below Less up apart = refl
below Equal up apart = absurd cc
below Greater up apart = absurd cc

-- ---- the head of rows that rise

abbrev IsHead : Option ℤ → Row → List Row → Type 0
IsHead last row rows = (n : ℤ) × (first row ≡ Int n) × (is_above last n ≡ true) × (are_rising (Some n) rows ≡ true)

rises : (last : Option ℤ) (row : Row) (rows : List Row) → are_rising last (row ∷ rows) ≡ true → IsHead last row rows
rises last row rows e = of_value (first row) refl e
  where
    of_above : (n : ℤ) → first row ≡ Int n → (b : Bool) → is_above last n ≡ b → goes_on (cond b (Some n) None) (λ next. are_rising next rows) ≡ true → IsHead last row rows
    of_above n is true above e = (n, is, above, e)
    of_above n is false above e = absurd cc

    of_value : (v : Value) → first row ≡ v → goes_on (follows last (integer_in v)) (λ next. are_rising next rows) ≡ true → IsHead last row rows
    of_value (Int n) is e = of_above n is (is_above last n) refl e
    of_value Null is e = absurd cc
    of_value (Real x) is e = absurd cc
    of_value (Text t) is e = absurd cc
    of_value (Blob b) is e = absurd cc

rise_on : (last : Option ℤ) (row : Row) (rows : List Row) → IsHead last row rows → are_rising last (row ∷ rows) ≡ true
rise_on last row rows head = rw (head.1, head.2) head.3

rise_lower : (m n : ℤ) (rows : List Row) → is_lt (int_cmp m n) ≡ true → are_rising (Some n) rows ≡ true → are_rising (Some m) rows ≡ true
rise_lower m n [] low up = refl
rise_lower m n (row ∷ rows) low up =
    let head = rises (Some n) row rows up in
    let more = int_cmp_total.trans m n head.0 (less_is _ low) (less_is _ head.2) in
    rise_on (Some m) row rows (head.0, head.1, ap is_lt more, head.3)

differ_above : (m : ℤ) (rows : List Row) → are_rising (Some m) rows ≡ true → AllByRecursion (λ v. tied (Int m) v ≡ false) (map first rows)
differ_above m [] up = tt
differ_above m (row ∷ rows) up =
    let head = rises (Some m) row rows up in
    let less : value_cmp (Int m) (first row) ≡ Less = ap (value_cmp (Int m)) head.1 ∙ value_cmp-Int m head.0 ∙ less_is _ head.2 in
    (ap is_eq less, differ_above m rows (rise_lower m head.0 rows head.2 head.3))

distinct : (last : Option ℤ) (rows : List Row) → are_rising last rows ≡ true → IsDistinct tied (map first rows)
unfolding IsDistinct
distinct last [] up = tt
distinct last (row ∷ rows) up =
    let head = rises last row rows up in
    (subst (λ v. AllByRecursion (λ w. tied v w ≡ false) (map first rows)) (sym head.1) (differ_above head.0 rows head.3), distinct (Some head.0) rows head.3)

integers : (last : Option ℤ) (rows : List Row) → are_rising last rows ≡ true → (row : Row) → Has rows row → is_int (first row) ≡ true
integers last [] up row there = absurd there
integers last (r ∷ rows) up row (inl e) = let head = rises last r rows up in ap (λ x. is_int (first x)) e ∙ ap is_int head.1
integers last (r ∷ rows) up row (inr more) = let head = rises last r rows up in integers (Some head.0) rows head.3 row more

-- ---- rows in order, no two the same

abbrev IsAboveHead : Option ℤ → List Row → Type 0
IsAboveHead last [] = Unit {0}
IsAboveHead last (row ∷ rows) = (n : ℤ) → first row ≡ Int n → is_above last n ≡ true

above_next : (row : Row) (rows : List Row) (n : ℤ) → first row ≡ Int n → IsInOrder 0 (row ∷ rows) → IsDistinct tied (map first (row ∷ rows)) → IsAboveHead (Some n) rows
above_next row [] n is up once = tt
above_next row (s ∷ rows) n is up once = λ k e.
    let as_integers : value_cmp (first s) (first row) ≡ int_cmp k n = (λ i. value_cmp (e i) (is i)) ∙ value_cmp-Int k n in
    let not_less : is_lt (value_cmp (first s) (first row)) ≡ false = up 0 row (omega arith) (omega arith) in
    let apart : is_eq (int_cmp n k) ≡ false = ap is_eq (sym ((λ i. value_cmp (is i) (e i)) ∙ value_cmp-Int n k)) ∙ (IsDistinct-head tied (first row) (map first (s ∷ rows)) once).0 in
    below (int_cmp n k) (ap is_lt (sym (as_integers ∙ int_cmp_total.antisymm k n)) ∙ not_less) apart

tail_in_order : (row : Row) (rows : List Row) → IsInOrder 0 (row ∷ rows) → IsInOrder 0 rows
tail_in_order row rows up k d low high = let e : suc k + 1 ≡ suc (k + 1) = omega arith in rw e at (up (suc k) d (omega arith) (omega arith))

in_turn : (last : Option ℤ) (rows : List Row) → IsInOrder 0 rows → ((row : Row) → Has rows row → is_int (first row) ≡ true) → IsDistinct tied (map first rows) → IsAboveHead last rows
    → are_rising last rows ≡ true
in_turn last [] up ints once head = refl
in_turn last (row ∷ rows) up ints once head =
    let is = int_is (first row) (ints row (inl refl)) in
    let n = id_in (first row) in
    rise_on last row rows (
      n,
      is,
      head n is,
      in_turn (Some n) rows (tail_in_order row rows up) (λ r there. ints r (inr there)) (IsDistinct-tail tied (first row) (map first rows) once) (above_next row rows n is up once),
    )

-- ---- what they tell of the table

tied_back : (a b : Value) → tied a b ≡ true → tied b a ≡ true
tied_back a b e = sym ((eq_by_cmp_equiv value_cmp_total).symm a b) ∙ e

once_of : (rows : List Row) → IsDistinct tied (map rowid rows) → AreOnce rows
once_of [] once = tt
once_of (row ∷ rows) once = (
  all_from (λ r. tied (rowid row) (rowid r) ≡ false) rows (λ r there. all_has (λ v. tied (rowid row) v ≡ false) (map rowid rows) (rowid r) (IsDistinct-head tied (rowid row) (map rowid rows) once) (to_mapped rowid rows r there)),
  once_of rows (IsDistinct-tail tied (rowid row) (map rowid rows) once),
)

distinct_of : (rows : List Row) → AreOnce rows → IsDistinct tied (map rowid rows)
unfolding IsDistinct
distinct_of [] once = tt
distinct_of (row ∷ rows) once = (all-map (λ v. tied (rowid row) v ≡ false) rowid rows once.0, distinct_of rows once.1)

one_of : (rows : List Row) → AreOnce rows → (r s : Row) → Has rows r → Has rows s → tied (rowid r) (rowid s) ≡ true → r ≡ s
one_of [] once r s in_r in_s e = absurd in_r
one_of (row ∷ rows) once r s (inl p) (inl q) e = p ∙ sym q
one_of (row ∷ rows) once r s (inl p) (inr q) e =
    let differ = all_has (λ x. tied (rowid row) (rowid x) ≡ false) rows s once.0 q in
    absurd (let tie : tied (rowid row) (rowid s) ≡ true = subst (λ x. tied (rowid x) (rowid s) ≡ true) p e in cc)
one_of (row ∷ rows) once r s (inr p) (inl q) e =
    let differ = all_has (λ x. tied (rowid row) (rowid x) ≡ false) rows r once.0 p in
    absurd (let tie : tied (rowid row) (rowid r) ≡ true = tied_back (rowid r) (rowid row) (subst (λ x. tied (rowid r) (rowid x) ≡ true) q e) in cc)
one_of (row ∷ rows) once r s (inr p) (inr q) e = one_of rows once.1 r s p q e

module _ (name : List ℕ) (db : Database) (rows : List Row) (shows : ShowsRowids name db rows) where
  abbrev all : List Row
  all = rows_named db name

  firsts : map first (map (columns (0 ∷ [])) all) ≡ map rowid all
  firsts = map-map first (columns (0 ∷ [])) all

  permuted : IsPermutation (map rowid all) (map first rows)
  permuted = subst (λ l. IsPermutation l (map first rows)) firsts (IsPermutation-map first (map (columns (0 ∷ [])) all) rows shows.all)

  flips : (a b : Value) → tied a b ≡ tied b a
  flips = (eq_by_cmp_equiv value_cmp_total).symm

  apart_from : are_rising None rows ≡ true → AreApart all
  apart_from up =
      let once = once_of all (IsDistinct-IsPermutation tied flips (map first rows) (map rowid all) (IsPermutation-sym (map rowid all) (map first rows) permuted) (distinct None rows up)) in
      record {
        ints = λ r there. integers None rows up (columns (0 ∷ []) r)
            (has_permuted rows (map (columns (0 ∷ [])) all) (columns (0 ∷ []) r) (IsPermutation-sym (map (columns (0 ∷ [])) all) rows shows.all) (to_mapped (columns (0 ∷ [])) all r there));
        apart = one_of all once;
        once = once;
      }

  apart_back : AreApart all → are_rising None rows ≡ true
  apart_back apart =
      in_turn None rows shows.in_order (λ row there.
      let from = from_mapped (columns (0 ∷ [])) all row (has_permuted (map (columns (0 ∷ [])) all) rows row shows.all there) in
      subst (λ r. is_int (first r) ≡ true) (sym from.2) (apart.ints from.0 from.1))
      (IsDistinct-IsPermutation tied flips (map rowid all) (map first rows) permuted (distinct_of all apart.once)) (above_none rows)
    where
      above_none : (rows : List Row) → IsAboveHead None rows
      above_none [] = tt
      above_none (row ∷ rows) = λ n e. refl

  pub rowids_told : (r : Bool) → r ≡ are_rising None rows → Decides r (AreApart all)
  rowids_told r e = (λ h. apart_from (sym e ∙ h), λ apart. e ∙ apart_back apart)

-- ---- the loop over the rows

drop_past : (rows : List Row) (i : ℕ) → length rows ≤ i → drop i rows ≡ []
drop_past [] zero past = refl
drop_past [] (suc i) past = refl
drop_past (row ∷ rows) zero past = absurd (omega arith)
drop_past (row ∷ rows) (suc i) past = drop_past rows i (omega arith)

module _ (last : Option ℤ) (rows : List Row) (i : ℕ) (row : Row) (total : Bool) (low : i < length rows) (is : row ≡ get_or rows i row) (before : are_rising last (drop i rows) ≡ total) where
  here : goes_on (follows last (integer_in (first row))) (λ next. are_rising next (drop (i + 1) rows)) ≡ total
  here = ap (λ r. are_rising last (r ∷ drop (i + 1) rows)) is ∙ sym (at_drop_more (are_rising last) rows i row low) ∙ before

  pub rising_next : (id : ℤ) (found : Option ℤ) → found ≡ follows last (integer_in (first row)) → found ≡ Some id → are_rising found (drop (i + 1) rows) ≡ total
  rising_next id found next some =
      ap (λ o. are_rising o (drop (i + 1) rows)) some ∙ sym (ap (λ o. goes_on o (λ next. are_rising next (drop (i + 1) rows))) (sym next ∙ some)) ∙ here

  pub rising_stops : (found : Option ℤ) → found ≡ follows last (integer_in (first row)) → found ≡ None → false ≡ total
  rising_stops found next none = sym (ap (λ o. goes_on o (λ next. are_rising next (drop (i + 1) rows))) (sym next ∙ none)) ∙ here

pub rising_ends : (last : Option ℤ) (rows : List Row) (i : ℕ) (total : Bool) → length rows ≤ i → are_rising last (drop i rows) ≡ total → true ≡ total
rising_ends last rows i total past before = sym (ap (are_rising last) (drop_past rows i past)) ∙ before
