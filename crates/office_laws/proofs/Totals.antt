-- Totals over the entries of a map: one value replaced, or new entries put in.
use Rattle.std.proofs.Common.{◌≡◌, List, [], ◌∷◌, cond, Some, None, refl, sym, ◌∙◌, ap, length, arith}
use Rattle.std.specs.Prelude.{T, ⊤}
use Rattle.std.specs.declared.cmp.Ordering.{Ordering}
use Rattle.std.specs.declared.cmp.Ordering.TheVariants.{Less, Equal, Greater}
use Rattle.std.specs.Ordering.{is_eq}
use Rattle.std.specs.Cmp.{IsTotalOrder}
use Rattle.std.specs.FinMap as maps
use Rattle.std.specs.FinMap.Entries.{below_all, by_order}
use Rattle.office_specification.proofs.rules.Replaced.{Found, left_true, right_true, absent}
use Rattle.std.specs.Ordering.{is_lt}

less : (r : Ordering) → T (is_lt r) → r ≡ Less
less Less p = refl
less Equal p = absurd p
less Greater p = absurd p

no_length : {A : Type 0} (xs : List A) → length xs ≡ 0 → xs ≡ []
no_length [] e = refl
no_length (x ∷ xs) e = absurd (omega arith)

module _ {K X M : Type 0} (R : K → K → Ordering) (o : IsTotalOrder R) (antisymmetric : (a b : K) → R a b ≡ Equal → a ≡ b)
    (plus : M → M → M) (assoc : (a b c : M) → plus (plus a b) c ≡ plus a (plus b c)) (comm : (a b : M) → plus a b ≡ plus b a)
    (one : K × X → M) (total : List (K × X) → M) (next : (e : K × X) (es : List (K × X)) → total (e ∷ es) ≡ plus (one e) (total es)) where
  not_found : (k x : K) (es : List (K × X)) → R k x ≡ Less → T (below_all R x es) → maps.find R k es ≡ None
  not_found k x [] p h = refl
  not_found k x (e ∷ es) p h =
      let first : R k e.0 ≡ Less = o.trans k x e.0 p (less (R x e.0) (left_true (is_lt (R x e.0)) (below_all R x es) h)) in
      ap (λ r. cond (is_eq r) (Some e.1) (maps.find R k es)) first ∙ not_found k x es p (right_true (is_lt (R x e.0)) (below_all R x es) h)

  turned : (a b t : M) → plus (plus a t) b ≡ plus (plus b t) a
  turned a b t = assoc a t b ∙ (comm a (plus t b) ∙ ap (λ m. plus m a) (comm t b))

  one_total : (k : K) (u v : X) (e : K × X) (es : List (K × X)) → (Found R o k u es → plus (total (maps.put R k v es)) (one (k, u)) ≡ plus (total es) (one (k, v))) →
      (r : Ordering) → R k e.0 ≡ r → T (maps.is_sorted R (e ∷ es)) → cond (is_eq r) (Some e.1) (maps.find R k es) ≡ Some u →
      plus (total (by_order r ((k, v) ∷ e ∷ es) ((e.0, v) ∷ es) (e ∷ maps.put R k v es))) (one (k, u)) ≡ plus (total (e ∷ es)) (one (k, v))
  one_total k u v e es rest Less t s found =
      let none : maps.find R k es ≡ None = not_found k e.0 es t (left_true (below_all R e.0 es) (maps.is_sorted R es) s) in
      absurd (let no : None ≡ Some u = sym none ∙ found in cc)
  one_total k u v e es rest Equal t s found =
      let value : e.1 ≡ u = cc in
      let key : k ≡ e.0 = antisymmetric k e.0 t in
      rw (next (e.0, v) es, next e es, key, sym value) (turned (one (e.0, v)) (one e) (total es))
  one_total k u v e es rest Greater t s found =
      let tail = rest (right_true (below_all R e.0 es) (maps.is_sorted R es) s, found) in
      ap (λ m. plus m (one (k, u))) (next e (maps.put R k v es))
      ∙ (assoc (one e) (total (maps.put R k v es)) (one (k, u))
      ∙ (ap (plus (one e)) tail
      ∙ (sym (assoc (one e) (total es) (one (k, v))) ∙ ap (λ m. plus m (one (k, v))) (sym (next e es)))))

  -- the total with the new value and what the old one gives is the total with the old value and what the new one gives
  pub total-put : (k : K) (u v : X) (es : List (K × X)) → Found R o k u es → plus (total (maps.put R k v es)) (one (k, u)) ≡ plus (total es) (one (k, v))
  total-put k u v [] h = absurd (let none = h.1 in cc)
  total-put k u v (e ∷ es) h = one_total k u v e es (total-put k u v es) (R k e.0) refl h.0 h.1

  swapped : (a b t : M) → plus a (plus b t) ≡ plus b (plus a t)
  swapped a b t = sym (assoc a b t) ∙ (ap (λ m. plus m t) (comm a b) ∙ assoc b a t)

  -- the total with an entry more, where none had its key
  pub total-new : (k : K) (v : X) (es : List (K × X)) → maps.find R k es ≡ None → total (maps.put R k v es) ≡ plus (one (k, v)) (total es)
  total-new k v [] none = next (k, v) []
  total-new k v (e ∷ es) none = by (R k e.0) (total-new k v es) none
    where
      by : (r : Ordering) → (maps.find R k es ≡ None → total (maps.put R k v es) ≡ plus (one (k, v)) (total es)) → cond (is_eq r) (Some e.1) (maps.find R k es) ≡ None →
          total (by_order r ((k, v) ∷ e ∷ es) ((e.0, v) ∷ es) (e ∷ maps.put R k v es)) ≡ plus (one (k, v)) (total (e ∷ es))
      by Less rest none = next (k, v) (e ∷ es)
      by Equal rest none = absurd (let no : Some e.1 ≡ None = none in cc)
      by Greater rest none =
          next e (maps.put R k v es) ∙ (ap (plus (one e)) (rest none) ∙ (swapped (one e) (one (k, v)) (total es) ∙ ap (plus (one (k, v))) (sym (next e es))))

  pub total-insert : (m : maps.FinMap R X) (k : K) (v : X) → maps.get m k ≡ None → total (maps.entries (maps.insert m k v)) ≡ plus (one (k, v)) (total (maps.entries m))
  total-insert m k v none = ap total (maps.entries-insert o m k v) ∙ total-new k v (maps.entries m) (sym (maps.get-entries m k) ∙ none)

  -- no two of a list's entries have one key
  abbrev pub AreApart : List (K × X) → Type 0
  AreApart [] = ⊤
  AreApart (e ∷ es) = (maps.find R e.0 es ≡ None) × AreApart es

  pub apart-sorted : (es : List (K × X)) → T (maps.is_sorted R es) → AreApart es
  apart-sorted [] s = tt
  apart-sorted (e ∷ es) s = (absent R o e.0 es (left_true (below_all R e.0 es) (maps.is_sorted R es) s), apart-sorted es (right_true (below_all R e.0 es) (maps.is_sorted R es) s))

  -- the total of the map that a list of entries with keys of their own makes
  pub total-made : (es : List (K × X)) → AreApart es → total (maps.entries (maps.from_entries {R = R} es)) ≡ total es
  total-made [] apart = ap total none
    where
      none : maps.entries (maps.empty {X = X} {R = R}) ≡ []
      none = no_length _ (sym (maps.len-entries (maps.empty {X = X} {R = R})) ∙ maps.len-empty R X)
  total-made (e ∷ es) apart =
      total-insert (maps.from_entries es) e.0 e.1 (maps.get-from_entries o es e.0 ∙ apart.0)
      ∙ (ap (plus (one e)) (total-made es apart.1) ∙ sym (next e es))
