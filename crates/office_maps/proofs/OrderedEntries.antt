-- The rows of a map in the order of their keys, under the names that definitions have for their keys and values.
use Rattle.std.proofs.Common.{◌≡◌, Bool, true, false, ◌&&◌, List, [], ◌∷◌, refl, sym, ap, ◌∙◌}
use Rattle.std.specs.Prelude.{T}
use Rattle.std.specs.List.Sorted.{IsStrictlySortedBy}
use Rattle.std.specs.List.{AllByRecursion}
use Rattle.std.specs.Map.{keys_of}
use Rattle.std.specs.BTreeMap.{BTreeMap, keys}
use Rattle.std.specs.Ordering.{is_lt}
use Rattle.std.specs.declared.cmp.Ordering.{Ordering}
use Rattle.std.specs.declared.cmp.Ordering.TheVariants.{Less}
use Rattle.std.specs.Cmp.{IsTotalOrder}
use Rattle.std.specs.FinMap.{IsAntisymmetric, entries, from_entries, from_sorted, get-from_entries, get-from_sorted, entries-from_sorted, same_map}
use Rattle.std.specs.FinMap.Entries.{is_sorted, below_all}
use Rattle.std.proofs.lemmas.Bool.{and_from}
use Rattle.office_maps.specs.MapEntries.{mapped}

all_below : {K X B Y : Type 0} (R : B → B → Ordering) (f : K → B) (g : X → Y) (k : K) (es : List (K × X))
    → AllByRecursion (λ x. R (f k) (f x) ≡ Less) (keys_of es) → below_all R (f k) (mapped f g es) ≡ true
all_below R f g k [] h = refl
all_below R f g k (e ∷ es) h = and_from (is_lt (R (f k) (f e.0))) (below_all R (f k) (mapped f g es)) (ap is_lt h.0) (all_below R f g k es h.1)

sorted-mapped : {K X B Y : Type 0} (R : B → B → Ordering) (f : K → B) (g : X → Y) (es : List (K × X))
    → IsStrictlySortedBy (λ x y. R (f x) (f y)) (keys_of es) → is_sorted R (mapped f g es) ≡ true
unfolding IsStrictlySortedBy
sorted-mapped R f g [] h = refl
sorted-mapped R f g (e ∷ es) h = and_from (below_all R (f e.0) (mapped f g es)) (is_sorted R (mapped f g es)) (all_below R f g e.0 es h.0) (sorted-mapped R f g es h.1)

passes : (b : Bool) → b ≡ true → T b
passes true e = tt
passes false e = cc

pub entries-mapped : {K X B Y : Type 0} {R : B → B → Ordering} (o : IsTotalOrder R) → IsAntisymmetric R → (f : K → B) (g : X → Y) (m : BTreeMap K X)
    → IsStrictlySortedBy (λ x y. R (f x) (f y)) (keys m) → entries (from_entries {R = R} (mapped f g m.entries)) ≡ mapped f g m.entries
entries-mapped {R = R} o same f g m h =
    let sorted : is_sorted R (mapped f g m.entries) ≡ true = sorted-mapped R f g m.entries h in
    ap entries (same_map o same (from_entries (mapped f g m.entries)) (from_sorted (mapped f g m.entries)) (λ q.
    get-from_entries o (mapped f g m.entries) q ∙ sym (get-from_sorted R (mapped f g m.entries) q (passes (is_sorted R (mapped f g m.entries)) sorted))))
    ∙ entries-from_sorted R (mapped f g m.entries) (passes (is_sorted R (mapped f g m.entries)) sorted)
