-- The entries of a map in which an entry's value is replaced.
use Rattle.std.proofs.Common.{◌≡◌, List, [], ◌∷◌, ◌++◌, Bool, true, false, cond, ◌&&◌, Some, None, refl, sym, ◌∙◌, ap, subst, length, suc}
use Rattle.std.specs.Prelude.{T, filter, flat_map}
use Rattle.std.specs.declared.cmp.Ordering.{Ordering}
use Rattle.std.specs.declared.cmp.Ordering.TheVariants.{Less, Equal, Greater}
use Rattle.std.specs.Ordering.{is_lt, is_eq, eq_by_cmp}
use Rattle.std.specs.Cmp.{IsTotalOrder, tied_itself}
use Rattle.std.specs.FinMap as maps
use Rattle.std.specs.FinMap.Entries.{below_all, by_order, find_tied}
use Rattle.std.specs.List.{AllByRecursion}

pub left_true : (a b : Bool) → T (a && b) → T a
left_true true b p = tt
left_true false b p = p

pub right_true : (a b : Bool) → T (a && b) → T b
right_true true b p = p
right_true false b p = absurd p

less : (r : Ordering) → T (is_lt r) → r ≡ Less
less Less p = refl
less Equal p = absurd p
less Greater p = absurd p

no_tie : (r : Ordering) → T (is_lt r) → is_eq r ≡ false
no_tie Less p = refl
no_tie Equal p = absurd p
no_tie Greater p = absurd p

-- a relation of lists that holds on of longer ones, if the same is put in front of both
abbrev IsKeptBehind : {Y : Type 0} → (List Y → List Y → Type 0) → Type 0
IsKeptBehind {Y} S = (front xs ys : List Y) → S xs ys → S (front ++ xs) (front ++ ys)

module _ {K X : Type 0} (R : K → K → Ordering) (o : IsTotalOrder R) where
  -- a key below one that is below all isn't found
  not_found : (k x : K) (es : List (K × X)) → R k x ≡ Less → T (below_all R x es) → maps.find R k es ≡ None
  not_found k x [] p h = refl
  not_found k x (e ∷ es) p h =
      let first : R k e.0 ≡ Less = o.trans k x e.0 p (less (R x e.0) (left_true (is_lt (R x e.0)) (below_all R x es) h)) in
      ap (λ r. cond (is_eq r) (Some e.1) (maps.find R k es)) first ∙ not_found k x es p (right_true (is_lt (R x e.0)) (below_all R x es) h)

  abbrev pub Found : K → X → List (K × X) → Type 0
  Found k u es = T (maps.is_sorted R es) × (maps.find R k es ≡ Some u)

  abbrev with_key : (K → Bool) → List (K × X) → List (K × X)
  with_key p es = filter (λ e. p e.0) es

  abbrev SameLength : (K → Bool) → K → X → List (K × X) → Type 0
  SameLength p k v es = length (with_key p (maps.put R k v es)) ≡ length (with_key p es)

  same_head : (c : Bool) (d e : K × X) (xs : List (K × X)) → length (cond c (d ∷ xs) xs) ≡ length (cond c (e ∷ xs) xs)
  same_head true d e xs = refl
  same_head false d e xs = refl

  same_tail : (c : Bool) (e : K × X) (xs ys : List (K × X)) → length xs ≡ length ys → length (cond c (e ∷ xs) xs) ≡ length (cond c (e ∷ ys) ys)
  same_tail true e xs ys h = ap suc h
  same_tail false e xs ys h = h

  one_length : (p : K → Bool) (k : K) (u v : X) (e : K × X) (es : List (K × X)) → (Found k u es → SameLength p k v es) → (r : Ordering) → R k e.0 ≡ r → T (maps.is_sorted R (e ∷ es)) →
      cond (is_eq r) (Some e.1) (maps.find R k es) ≡ Some u →
      length (with_key p (by_order r ((k, v) ∷ e ∷ es) ((e.0, v) ∷ es) (e ∷ maps.put R k v es))) ≡ length (with_key p (e ∷ es))
  one_length p k u v e es rest Less t s found =
      let none : maps.find R k es ≡ None = not_found k e.0 es t (left_true (below_all R e.0 es) (maps.is_sorted R es) s) in
      cc
  one_length p k u v e es rest Equal t s found = same_head (p e.0) (e.0, v) e (with_key p es)
  one_length p k u v e es rest Greater t s found =
      same_tail (p e.0) e (with_key p (maps.put R k v es)) (with_key p es) (rest (right_true (below_all R e.0 es) (maps.is_sorted R es) s, found))

  -- as many entries have a key that passes a test
  pub length-filter-put : (p : K → Bool) (k : K) (u v : X) (es : List (K × X)) → Found k u es → SameLength p k v es
  length-filter-put p k u v [] h = let none = h.1 in cc
  length-filter-put p k u v (e ∷ es) h = one_length p k u v e es (length-filter-put p k u v es) (R k e.0) refl h.0 h.1

  -- ---- what the values give

  one_more_list : {Y : Type 0} (S : List Y → List Y → Type 0) → IsKeptBehind S → (g : X → List Y) (k : K) (u v : X) (e : K × X) (es : List (K × X)) →
      ((back : List Y) → S (g v ++ back) (g u ++ back)) → (Found k u es → S (flat_map (λ d. g d.1) (maps.put R k v es)) (flat_map (λ d. g d.1) es)) →
      (r : Ordering) → R k e.0 ≡ r → T (maps.is_sorted R (e ∷ es)) → cond (is_eq r) (Some e.1) (maps.find R k es) ≡ Some u →
      S (flat_map (λ d. g d.1) (by_order r ((k, v) ∷ e ∷ es) ((e.0, v) ∷ es) (e ∷ maps.put R k v es))) (flat_map (λ d. g d.1) (e ∷ es))
  one_more_list S behind g k u v e es here rest Less t s found =
      let none : maps.find R k es ≡ None = not_found k e.0 es t (left_true (below_all R e.0 es) (maps.is_sorted R es) s) in
      cc
  one_more_list {Y} S behind g k u v e es here rest Equal t s found =
      let value : e.1 ≡ u = cc in
      subst (λ (w : X). S (g v ++ flat_map (λ d. g d.1) es) (g w ++ flat_map (λ d. g d.1) es)) (sym value) (here (flat_map (λ d. g d.1) es))
  one_more_list S behind g k u v e es here rest Greater t s found =
      behind (g e.1) _ _ (rest (right_true (below_all R e.0 es) (maps.is_sorted R es) s, found))

  -- what the values give with the new one stands to what they gave as the lists of the new and the old one do
  pub flat_map-put : {Y : Type 0} (S : List Y → List Y → Type 0) → IsKeptBehind S → (g : X → List Y) (k : K) (u v : X) → ((back : List Y) → S (g v ++ back) (g u ++ back)) →
      (es : List (K × X)) → Found k u es → S (flat_map (λ d. g d.1) (maps.put R k v es)) (flat_map (λ d. g d.1) es)
  flat_map-put S behind g k u v here [] h = let none = h.1 in cc
  flat_map-put S behind g k u v here (e ∷ es) h = one_more_list S behind g k u v e es here (flat_map-put S behind g k u v here es) (R k e.0) refl h.0 h.1

  -- ---- each entry is found at its key

  pub absent : (x : K) (es : List (K × X)) → T (below_all R x es) → maps.find R x es ≡ None
  absent x [] h = refl
  absent x (e ∷ es) h =
      ap (λ c. cond c (Some e.1) (maps.find R x es)) (no_tie (R x e.0) (left_true (is_lt (R x e.0)) (below_all R x es) h))
      ∙ absent x es (right_true (is_lt (R x e.0)) (below_all R x es) h)

  pub past : (k : K) (v : X) (e : K × X) (es : List (K × X)) → T (below_all R e.0 es) → maps.find R k es ≡ Some v → (r : Ordering) → R k e.0 ≡ r →
      cond (is_eq r) (Some e.1) (maps.find R k es) ≡ Some v
  past k v e es below found Less t = found
  past k v e es below found Greater t = found
  past k v e es below found Equal t =
      let none : maps.find R k es ≡ None = sym (find_tied R o k e.0 t es) ∙ absent e.0 es below in
      cc

  -- a key that is found isn't tied to one below all
  pub apart_from : (x : K) (es : List (K × X)) → T (below_all R x es) → (k : K) (v : X) → maps.find R k es ≡ Some v → eq_by_cmp R k x ≡ false
  apart_from x es below k v found = by_order_of (R k x) refl
    where
      by_order_of : (r : Ordering) → R k x ≡ r → is_eq r ≡ false
      by_order_of Less t = refl
      by_order_of Greater t = refl
      by_order_of Equal t =
          let none : maps.find R k es ≡ None = sym (find_tied R o k x t es) ∙ absent x es below in
          cc

  -- what holds of each value that is found at its key holds of each entry
  pub all_rows : (P : K → X → Type 0) (es : List (K × X)) → T (maps.is_sorted R es) → ((k : K) (v : X) → maps.find R k es ≡ Some v → P k v) → AllByRecursion (λ e. P e.0 e.1) es
  all_rows P [] s h = tt
  all_rows P (e ∷ es) s h =
      let below = left_true (below_all R e.0 es) (maps.is_sorted R es) s in (
        h e.0 e.1 (ap (λ r. cond (is_eq r) (Some e.1) (maps.find R e.0 es)) (tied_itself o e.0)),
        all_rows P es (right_true (below_all R e.0 es) (maps.is_sorted R es) s) (λ k v found. h k v (past k v e es below found (R k e.0) refl)),
      )

  -- what holds of each value that is found holds of each entry's
  pub all_found : (P : X → Type 0) (es : List (K × X)) → T (maps.is_sorted R es) → ((k : K) (v : X) → maps.find R k es ≡ Some v → P v) → AllByRecursion (λ e. P e.1) es
  all_found P es s h = all_rows (λ k v. P v) es s h
