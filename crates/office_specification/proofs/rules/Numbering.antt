-- The numbers that all values of a map give differ exactly where those of each value do, and those of two.
use Rattle.std.proofs.Common.{◌≡◌, List, [], ◌∷◌, ◌++◌, Bool, true, false, cond, Option, Some, None, refl, sym, ◌∙◌, ap, subst}
use Rattle.std.specs.Prelude.{T, flat_map}
use Rattle.std.specs.Option.{option_map_or}
use Rattle.std.specs.List.{AllByRecursion, IsDistinct}
use Rattle.std.specs.declared.cmp.Ordering.{Ordering}
use Rattle.std.specs.Ordering.{is_eq, eq_by_cmp}
use Rattle.std.specs.Cmp.{IsTotalOrder, tied_itself, eq_by_cmp_equiv}
use Rattle.std.specs.FinMap as maps
use Rattle.std.specs.FinMap.Entries.{below_all}
use Rattle.po_text.specs.Texts.{Text, text_eq}
use Rattle.units.specs.Project.{Place, place_cmp}
use Rattle.units.specs.declared.unit.Unit.{Unit}
use Rattle.units.specs.Orders.{place_total}
use Rattle.template_update.proofs.Listed.{clash, all_imply}
use Rattle.office_specification.proofs.rules.Numbers.{Part, part-self, part-all, part-distinct, part_found, all-append, all-flat_map, differs}
use Rattle.office_specification.proofs.rules.Replaced.{left_true, right_true, past, apart_from, all_rows, all_found}
use Rattle.office_specification.proofs.rules.UnitRules.{numbers_of}

-- ---- two lists of numbers

-- no number of one is in the other
abbrev pub AreApart : List Text → List Text → Type 0
AreApart xs ys = AllByRecursion (λ x. AllByRecursion (λ y. text_eq x y ≡ false) ys) xs

pub both_parts : (P : Text → Type 0) (xs ys : List Text) → AllByRecursion P (xs ++ ys) → AllByRecursion P xs × AllByRecursion P ys
both_parts P [] ys h = (tt, h)
both_parts P (x ∷ xs) ys h = let rest = both_parts P xs ys h.1 in ((h.0, rest.0), rest.1)

record Parted (xs ys : List Text) : Type 0 where
  front : IsDistinct text_eq xs
  between : AreApart xs ys
  back : IsDistinct text_eq ys

parted : (xs ys : List Text) → IsDistinct text_eq (xs ++ ys) → Parted xs ys
unfolding IsDistinct
parted [] ys d = record { front = tt; between = tt; back = d }
parted (x ∷ xs) ys d =
    let rest = parted xs ys d.1 in
    let first = both_parts (λ y. text_eq x y ≡ false) xs ys d.0 in
    record { front = (first.0, rest.front); between = (first.1, rest.between); back = rest.back }

distinct-joined : (xs ys : List Text) → IsDistinct text_eq xs → AreApart xs ys → IsDistinct text_eq ys → IsDistinct text_eq (xs ++ ys)
unfolding IsDistinct
distinct-joined [] ys d a e = e
distinct-joined (x ∷ xs) ys d a e = (all-append (λ y. text_eq x y ≡ false) xs ys d.0 a.0, distinct-joined xs ys d.1 a.1 e)

apart-part : (us xs vs ys : List Text) → Part us xs → Part vs ys → AreApart xs ys → AreApart us vs
apart-part us xs vs ys p q a =
    part-all (λ x. AllByRecursion (λ y. text_eq x y ≡ false) vs) us xs p
    (all_imply (λ x. AllByRecursion (λ y. text_eq x y ≡ false) ys) (λ x. AllByRecursion (λ y. text_eq x y ≡ false) vs) (λ x h. part-all (λ y. text_eq x y ≡ false) vs ys q h) xs a)

pub apart-back : (xs ys : List Text) → AreApart xs ys → AreApart ys xs
apart-back xs [] a = tt
apart-back xs (y ∷ ys) a = (
  all_imply (λ x. AllByRecursion (λ z. text_eq x z ≡ false) (y ∷ ys)) (λ x. text_eq y x ≡ false) (λ x h. differs x y h.0) xs a,
  apart-back xs ys (all_imply (λ x. AllByRecursion (λ z. text_eq x z ≡ false) (y ∷ ys)) (λ x. AllByRecursion (λ z. text_eq x z ≡ false) ys) (λ x h. h.1) xs a),
)

-- ---- the numbers of rows

module _ {K X : Type 0} (R : K → K → Ordering) (o : IsTotalOrder R) (g : X → List Text) where
  abbrev pub all_of : List (K × X) → List Text
  all_of es = flat_map (λ e. g e.1) es

  apart_at : (es : List (K × X)) → IsDistinct text_eq (all_of es) → (p q : K) (u v : X) → maps.find R p es ≡ Some u → maps.find R q es ≡ Some v → eq_by_cmp R p q ≡ false →
      AreApart (g u) (g v)
  apart_at [] d p q u v a b n = cc
  apart_at (e ∷ es) d p q u v a b n = by_tests (λ rest x y. apart_at es rest p q u v x y n) (eq_by_cmp R p e.0) (eq_by_cmp R q e.0) refl refl a b
    where
      d' : Parted (g e.1) (all_of es)
      d' = parted (g e.1) (all_of es) d

      its : (w : X) → e.1 ≡ w → Part (g w) (g e.1)
      its w same = subst (λ (x : X). Part (g x) (g e.1)) same (part-self (g e.1))

      by_tests : (IsDistinct text_eq (all_of es) → maps.find R p es ≡ Some u → maps.find R q es ≡ Some v → AreApart (g u) (g v)) → (s t : Bool) → eq_by_cmp R p e.0 ≡ s → eq_by_cmp R q e.0 ≡ t → cond s (Some e.1) (maps.find R p es) ≡ Some u → cond t (Some e.1) (maps.find R q es) ≡ Some v →
          AreApart (g u) (g v)
      by_tests later true true s t a b =
          let tie : eq_by_cmp R p q ≡ true = (eq_by_cmp_equiv o).congr p e.0 q s ∙ ((eq_by_cmp_equiv o).symm e.0 q ∙ t) in
          clash (eq_by_cmp R p q) n tie
      by_tests later true false s t a b =
          let same : e.1 ≡ u = cc in
          apart-part (g u) (g e.1) (g v) (all_of es) (its u same) (part_found R g q v es b) d'.between
      by_tests later false true s t a b =
          let same : e.1 ≡ v = cc in
          apart-back (g v) (g u)
          (apart-part (g v) (g e.1) (g u) (all_of es) (its v same) (part_found R g p u es a) d'.between)
      by_tests later false false s t a b = later d'.back a b

  listed_distinct : (es : List (K × X)) → T (maps.is_sorted R es) → ((p : K) (u : X) → maps.find R p es ≡ Some u → IsDistinct text_eq (g u)) →
      ((p q : K) (u v : X) → maps.find R p es ≡ Some u → maps.find R q es ≡ Some v → eq_by_cmp R p q ≡ false → AreApart (g u) (g v)) →
      IsDistinct text_eq (all_of es)
  unfolding IsDistinct
  listed_distinct [] s each apart = tt
  listed_distinct (e ∷ es) s each apart =
      let below = left_true (below_all R e.0 es) (maps.is_sorted R es) s in
      let sorted = right_true (below_all R e.0 es) (maps.is_sorted R es) s in
      let here : maps.find R e.0 (e ∷ es) ≡ Some e.1 = ap (λ r. cond (is_eq r) (Some e.1) (maps.find R e.0 es)) (tied_itself o e.0) in
      let later : (p : K) (u : X) → maps.find R p es ≡ Some u → maps.find R p (e ∷ es) ≡ Some u = λ p u found. past R o p u e es below found (R p e.0) refl in
      let others : AllByRecursion (λ f. AreApart (g f.1) (g e.1)) es =
      all_rows R o (λ p u. AreApart (g u) (g e.1)) es sorted
      (λ p u found. apart p e.0 u e.1 (later p u found) here (apart_from R o e.0 es below p u found)) in
      distinct-joined (g e.1) (all_of es) (each e.0 e.1 here)
      (apart-back (all_of es) (g e.1) (all-flat_map (λ x. AllByRecursion (λ y. text_eq x y ≡ false) (g e.1)) (λ (f : K × X). g f.1) es others))
      (listed_distinct es sorted (λ p u found. each p u (later p u found)) (λ p q u v a b n. apart p q u v (later p u a) (later q v b) n))

  -- ---- the numbers at keys

  abbrev pub values_at : maps.FinMap R X → K → List Text
  values_at units k = option_map_or g (maps.get units k) []

  -- some numbers may have gone
  abbrev pub AreFewerBy : maps.FinMap R X → maps.FinMap R X → Type 0
  AreFewerBy old new = (k : K) → Part (values_at new k) (values_at old k)

  -- what holds of all numbers holds of those at a key, and the other way round
  pub all_at : (P : Text → Type 0) (units : maps.FinMap R X) → AllByRecursion P (all_of (maps.entries units)) → (k : K) → AllByRecursion P (values_at units k)
  all_at P units all k = by (maps.get units k) refl
    where
      by : (value : Option X) → maps.get units k ≡ value → AllByRecursion P (option_map_or g value [])
      by None e = tt
      by (Some u) e = part-all P (g u) (all_of (maps.entries units)) (part_found R g k u (maps.entries units) (sym (maps.get-entries units k) ∙ e)) all

  pub all_from : (P : Text → Type 0) (units : maps.FinMap R X) → ((k : K) → AllByRecursion P (values_at units k)) → AllByRecursion P (all_of (maps.entries units))
  all_from P units each =
      all-flat_map P (λ (e : K × X). g e.1) (maps.entries units)
      (all_found R o (λ u. AllByRecursion P (g u)) (maps.entries units) (maps.entries_sorted units)
      (λ k u found. subst (λ (value : Option X). AllByRecursion P (option_map_or g value [])) (maps.get-entries units k ∙ found) (each k)))

  pub fewer_all : (P : Text → Type 0) (old new : maps.FinMap R X) → AreFewerBy old new → AllByRecursion P (all_of (maps.entries old)) → AllByRecursion P (all_of (maps.entries new))
  fewer_all P old new fewer all = all_from P new (λ k. part-all P (values_at new k) (values_at old k) (fewer k) (all_at P old all k))

  pub record AreOwn (units : maps.FinMap R X) : Type 0 where
    pub each : (p : K) → IsDistinct text_eq (values_at units p)
    pub apart : (p q : K) → eq_by_cmp R p q ≡ false → AreApart (values_at units p) (values_at units q)

  none_apart : (xs : List Text) → AreApart xs []
  none_apart [] = tt
  none_apart (x ∷ xs) = (tt, none_apart xs)

  pub own_from : (units : maps.FinMap R X) → IsDistinct text_eq (all_of (maps.entries units)) → AreOwn units
  unfolding IsDistinct
  own_from units d = record {
    each = λ p. by_one p (maps.get units p) refl;
    apart = λ p q n. by_two p q n (maps.get units p) (maps.get units q) refl refl;
  }
    where
      listed : (p : K) (u : X) → maps.get units p ≡ Some u → maps.find R p (maps.entries units) ≡ Some u
      listed p u e = sym (maps.get-entries units p) ∙ e

      by_one : (p : K) (value : Option X) → maps.get units p ≡ value → IsDistinct text_eq (option_map_or g value [])
      by_one p None e = tt
      by_one p (Some u) e = part-distinct (g u) (all_of (maps.entries units)) (part_found R g p u (maps.entries units) (listed p u e)) d

      by_two : (p q : K) → eq_by_cmp R p q ≡ false → (value other : Option X) → maps.get units p ≡ value → maps.get units q ≡ other → AreApart (option_map_or g value []) (option_map_or g other [])
      by_two p q n None r e f = tt
      by_two p q n (Some u) None e f = none_apart (g u)
      by_two p q n (Some u) (Some v) e f = apart_at (maps.entries units) d p q u v (listed p u e) (listed q v f) n

  pub distinct_from : (units : maps.FinMap R X) → AreOwn units → IsDistinct text_eq (all_of (maps.entries units))
  distinct_from units own = listed_distinct (maps.entries units) (maps.entries_sorted units)
      (λ p u found. subst (λ (value : Option X). IsDistinct text_eq (option_map_or g value [])) (maps.get-entries units p ∙ found) (own.each p))
      (λ p q u v a b n.
      subst (λ (value : Option X). AreApart (g u) (option_map_or g value [])) (maps.get-entries units q ∙ b)
      (subst (λ (value : Option X). AreApart (option_map_or g value []) (values_at units q)) (maps.get-entries units p ∙ a) (own.apart p q n)))

  -- where numbers only go they stay distinct
  pub fewer_by_distinct : (old new : maps.FinMap R X) → AreFewerBy old new → IsDistinct text_eq (flat_map (λ e. g e.1) (maps.entries old)) →
      IsDistinct text_eq (flat_map (λ e. g e.1) (maps.entries new))
  fewer_by_distinct old new fewer d =
      let own = own_from old d in
      distinct_from new (record {
        each = λ p. part-distinct (values_at new p) (values_at old p) (fewer p) (own.each p);
        apart = λ p q n. apart-part (values_at new p) (values_at old p) (values_at new q) (values_at old q) (fewer p) (fewer q) (own.apart p q n);
      })

-- ---- those of units at their places

abbrev pub numbers_at : maps.FinMap place_cmp Unit → Place → List Text
numbers_at units place = option_map_or numbers_of (maps.get units place) []

-- some numbers may have gone
abbrev pub AreFewer : maps.FinMap place_cmp Unit → maps.FinMap place_cmp Unit → Type 0
AreFewer old new = (place : Place) → Part (numbers_at new place) (numbers_at old place)

-- where numbers only go they stay distinct
pub fewer_distinct : (old new : maps.FinMap place_cmp Unit) → AreFewer old new → IsDistinct text_eq (flat_map (λ e. numbers_of e.1) (maps.entries old)) →
    IsDistinct text_eq (flat_map (λ e. numbers_of e.1) (maps.entries new))
fewer_distinct old new fewer d = fewer_by_distinct place_cmp place_total numbers_of old new fewer d
