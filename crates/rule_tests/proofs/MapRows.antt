-- What holds of each row of a map holds of each value that is found in it, and the other way round.
use Rattle.std.proofs.Common.{◌≡◌, Bool, true, false, cond, List, [], ◌∷◌, Some, option_map, refl, sym, subst, ◌∙◌}
use Rattle.std.specs.List.{AllByRecursion}
use Rattle.std.specs.declared.cmp.Ordering.{Ordering}
use Rattle.std.specs.Ordering.{is_eq}
use Rattle.std.specs.Map.{lookup}
use Rattle.std.specs.BTreeMap.{BTreeMap, IsOrdered}
use Rattle.std.specs.Cmp.{IsTotalOrder}
use Rattle.std.specs.FinMap as maps
use Rattle.std.specs.FinMap.{IsAntisymmetric}
use Rattle.office_specification.proofs.rules.Replaced.{all_rows}
use Rattle.template_update.proofs.Found.{equal}
use Rattle.office_maps.specs.MapEntries.{mapped}
use Rattle.office_maps.proofs.MapEntries.{get-mapped}
use Rattle.office_maps.proofs.OrderedEntries.{entries-mapped}

module _ {K X B Y : Type 0} {R : B → B → Ordering} (o : IsTotalOrder R) (same : IsAntisymmetric R) (f : K → B) (g : X → Y) (P : B → Y → Type 0) where
  abbrev pub AllRows : List (K × X) → Type 0
  AllRows es = AllByRecursion (λ e. P (f e.0) (g e.1)) es

  found_in : (es : List (K × X)) → AllRows es → (k : B) (v : Y) → option_map g (lookup (λ x. is_eq (R k (f x))) es) ≡ Some v → P k v
  found_in [] all k v is = cc
  found_in (e ∷ es) all k v is = by (found_in es all.1 k v) (is_eq (R k (f e.0))) refl is
    where
      by : (option_map g (lookup (λ x. is_eq (R k (f x))) es) ≡ Some v → P k v) → (t : Bool) → is_eq (R k (f e.0)) ≡ t →
          option_map g (cond t (Some e.1) (lookup (λ x. is_eq (R k (f x))) es)) ≡ Some v → P k v
      by rest true t h =
          let value : g e.1 ≡ v = cc in
          subst (λ (b : B). P b v) (sym (same k (f e.0) (equal (R k (f e.0)) t))) (subst (P (f e.0)) value all.0)
      by rest false t h = rest h

  pub each_found : (m : BTreeMap K X) → AllRows m.entries → (k : B) (v : Y) → maps.get (maps.from_entries {R = R} (mapped f g m.entries)) k ≡ Some v → P k v
  each_found m all k v is = found_in m.entries all k v (sym (get-mapped R f g o m k) ∙ is)

  unviewed : (es : List (K × X)) → AllByRecursion (λ (e : B × Y). P e.0 e.1) (mapped f g es) → AllRows es
  unviewed [] h = tt
  unviewed (e ∷ es) h = (h.0, unviewed es h.1)

  pub found_each : (m : BTreeMap K X) → IsOrdered (λ x y. R (f x) (f y)) m → ((k : B) (v : Y) → maps.get (maps.from_entries {R = R} (mapped f g m.entries)) k ≡ Some v → P k v) → AllRows m.entries
  found_each m ordered each =
      let whole = maps.from_entries {R = R} (mapped f g m.entries) in
      unviewed m.entries
      (subst (AllByRecursion (λ (e : B × Y). P e.0 e.1)) (entries-mapped o same f g m ordered)
      (all_rows R o P (maps.entries whole) (maps.entries_sorted whole) (λ k v found. each k v (maps.get-entries whole k ∙ found))))
