-- The values of a map that rows make: those of its rows, and what a search among them finds.
use Rattle.std.proofs.Common.{◌≡◌, ◌⊎◌, inl, inr, List, [], ◌∷◌, ◌++◌, map, length, find, Bool, true, false, cond, Some, None, refl, sym, ap, subst, ◌∙◌, arith}
use Rattle.std.specs.declared.cmp.Ordering.{Ordering}
use Rattle.std.specs.declared.cmp.Ordering.TheVariants.{Less, Equal, Greater}
use Rattle.std.specs.Ordering.{eq_by_cmp}
use Rattle.std.specs.Cmp.{IsTotalOrder}
use Rattle.std.specs.FinMap as maps
use Rattle.std.specs.FinMap.{IsAntisymmetric, entries-insert, get-entries, len-entries, len-empty}
use Rattle.std.specs.FinMap.Entries.{put, by_order}
use Rattle.std.proofs.lemmas.List.{map-append}
use Rattle.sqlite.specs.Order.{Row}
use Rattle.sqlite_rules.specs.Lists.{Has}
use Rattle.sql_laws.specs.RowMaps.{OneEach, map_of}
use Rattle.sql_laws.proofs.RowMaps.{get-is}

-- ---- a search in a list

-- the one element that passes is found
pub one_found : {X : Type 0} (test : X → Bool) (xs : List X) (x : X) → Has xs x → test x ≡ true → ((y : X) → Has xs y → test y ≡ true → y ≡ x)
    → find test xs ≡ Some x
one_found test [] x there passes only = absurd there
one_found {X} test (y ∷ ys) x there passes only = elim (test y) as (λ b. test y ≡ b → cond b (Some y) (find test ys) ≡ Some x) [
  | true ↦ λ e. ap (λ (z : X). Some z) (only y (inl refl) e)
  | false ↦ λ e. elim there [
    | inl here ↦ absurd (let no = subst (λ z. test z ≡ false) (sym here) e in cc)
    | inr later ↦ one_found test ys x later passes (λ z in_ys h. only z (inr in_ys) h)
  ]
] refl

pub none_found : {X : Type 0} (test : X → Bool) (xs : List X) → ((y : X) → Has xs y → test y ≡ true → ⊥) → find test xs ≡ None
none_found test [] none = refl
none_found test (y ∷ ys) none = elim (test y) as (λ b. test y ≡ b → cond b (Some y) (find test ys) ≡ None) [
  | true ↦ λ e. absurd (none y (inl refl) e)
  | false ↦ λ e. none_found test ys (λ z in_ys h. none z (inr in_ys) h)
] refl

-- ---- the values of a map

module _ {K X : Type 0} (R : K → K → Ordering) where
  abbrev values_of : List (K × X) → List X
  values_of es = map (λ e. e.1) es

  put_only : (k : K) (v x : X) (es : List (K × X)) → Has (values_of (put R k v es)) x → (x ≡ v) ⊎ Has (values_of es) x
  put_only k v x [] there = there
  put_only k v x (e ∷ es) there =
      elim (R k e.0) as (λ o. Has (values_of (by_order o ((k, v) ∷ e ∷ es) ((e.0, v) ∷ es) (e ∷ put R k v es))) x → (x ≡ v) ⊎ Has (values_of (e ∷ es)) x) [
        | Less ↦ λ h. h
        | Equal ↦ λ h. elim h [ inl is ↦ inl is | inr later ↦ inr (inr later) ]
        | Greater ↦ λ h. elim h [ inl is ↦ inr (inl is) | inr later ↦ elim (put_only k v x es later) [ inl is ↦ inl is | inr was ↦ inr (inr was) ] ]
      ] there

  value_found : (q : K) (es : List (K × X)) (x : X) → maps.find R q es ≡ Some x → Has (values_of es) x
  value_found q [] x is = absurd cc
  value_found q (e ∷ es) x is = elim (eq_by_cmp R q e.0) as (λ b. cond b (Some e.1) (maps.find R q es) ≡ Some x → Has (values_of (e ∷ es)) x) [
    | true ↦ λ h. inl (let same : e.1 ≡ x = cc in sym same)
    | false ↦ λ h. inr (value_found q es x h)
  ] is

  empty_has_none : (es : List (K × X)) (x : X) → length es ≡ 0 → Has (values_of es) x → ⊥
  empty_has_none [] x e there = there
  empty_has_none (f ∷ es) x e there = omega arith

  none_of_length : (es : List (K × X)) → length es ≡ 0 → es ≡ []
  none_of_length [] e = refl
  none_of_length (f ∷ es) e = absurd (omega arith)

  module _ (total : IsTotalOrder R) (key : Row → K) (value : Row → X) where
    -- each value is a row's
    pub value_of_row : (rows : List Row) (x : X) → Has (maps.values (map_of R key value rows)) x → (r : Row) × Has rows r × (x ≡ value r)
    value_of_row [] x there = absurd (empty_has_none (maps.entries maps.empty) x (sym (len-entries maps.empty) ∙ len-empty R X) there)
    value_of_row (row ∷ rows) x there =
        elim (put_only (key row) (value row) x (maps.entries (map_of R key value rows)) (subst (λ es. Has (values_of es) x) (entries-insert total (map_of R key value rows) (key row) (value row)) there)) [
          | inl is ↦ (row, inl refl, is)
          | inr was ↦ let from = value_of_row rows x was in (from.0, inr from.1, from.2)
        ]

    -- and each row's is a value
    pub row_has_value : IsAntisymmetric R → (rows : List Row) (row : Row) → OneEach key rows → Has rows row → Has (maps.values (map_of R key value rows)) (value row)
    row_has_value same rows row one there =
        value_found (key row) (maps.entries (map_of R key value rows)) (value row)
        (sym (get-entries (map_of R key value rows) (key row)) ∙ get-is R total same key value rows (key row) (Some (value row)) one (row, there, refl, refl))

    -- each becomes another where each row's does
    pub values_mapped : (after : Row → X) (f : X → X) (rows : List Row) → ((r : Row) → Has rows r → after r ≡ f (value r)) → maps.values (map_of R key after rows) ≡ map f (maps.values (map_of R key value rows))
    values_mapped after f rows each = ap values_of (entries_mapped rows each) ∙ values_of_turned (maps.entries (map_of R key value rows))
      where
        turned : List (K × X) → List (K × X)
        turned es = map (λ e. (e.0, f e.1)) es

        values_of_turned : (es : List (K × X)) → values_of (turned es) ≡ map f (values_of es)
        values_of_turned [] = refl
        values_of_turned (e ∷ es) = ap (λ (xs : List X). f e.1 ∷ xs) (values_of_turned es)

        put_turned : (k : K) (v : X) (es : List (K × X)) → put R k (f v) (turned es) ≡ turned (put R k v es)
        put_turned k v [] = refl
        put_turned k v (e ∷ es) =
            elim (R k e.0) as (λ o. by_order o ((k, f v) ∷ (e.0, f e.1) ∷ turned es) ((e.0, f v) ∷ turned es) ((e.0, f e.1) ∷ put R k (f v) (turned es))
            ≡ turned (by_order o ((k, v) ∷ e ∷ es) ((e.0, v) ∷ es) (e ∷ put R k v es))) [
              | Less ↦ refl
              | Equal ↦ refl
              | Greater ↦ ap (λ (rest : List (K × X)). (e.0, f e.1) ∷ rest) (put_turned k v es)
            ]

        entries_mapped : (rows : List Row) → ((r : Row) → Has rows r → after r ≡ f (value r)) → maps.entries (map_of R key after rows) ≡ turned (maps.entries (map_of R key value rows))
        entries_mapped [] each = none_of_length _ (sym (len-entries maps.empty) ∙ len-empty R X) ∙ sym (ap turned (none_of_length _ (sym (len-entries maps.empty) ∙ len-empty R X)))
        entries_mapped (row ∷ rows) each =
            entries-insert total (map_of R key after rows) (key row) (after row)
            ∙ (λ i. put R (key row) (each row (inl refl) i) (entries_mapped rows (λ r there. each r (inr there)) i))
            ∙ put_turned (key row) (value row) (maps.entries (map_of R key value rows))
            ∙ sym (ap turned (entries-insert total (map_of R key value rows) (key row) (value row)))

    -- a value at a key above all others is the last
    pub value_last : (m : maps.FinMap R X) (k : K) (v : X) → ((e : K × X) → Has (maps.entries m) e → R k e.0 ≡ Greater) → maps.values (maps.insert m k v) ≡ maps.values m ++ v ∷ []
    value_last m k v above = ap values_of (entries-insert total m k v ∙ put_last (maps.entries m) above) ∙ map-append (λ e. e.1) (maps.entries m) ((k, v) ∷ [])
      where
        put_last : (es : List (K × X)) → ((e : K × X) → Has es e → R k e.0 ≡ Greater) → put R k v es ≡ es ++ (k, v) ∷ []
        put_last [] above = refl
        put_last (e ∷ es) above =
            ap (λ o. by_order o ((k, v) ∷ e ∷ es) ((e.0, v) ∷ es) (e ∷ put R k v es)) (above e (inl refl))
            ∙ ap (λ (rest : List (K × X)). e ∷ rest) (put_last es (λ d there. above d (inr there)))
