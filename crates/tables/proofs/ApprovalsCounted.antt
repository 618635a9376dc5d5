-- Units of an office in maps that pass a test are those of the office.
use Rattle.std.proofs.Common.{◌≡◌, ℕ, Bool, cond, List, [], ◌∷◌, map, refl, sym, ap, ◌∙◌, ◌+◌, arith}
use Rattle.std.specs.Prelude.{fold, count_by, sum_by, String, string_bytes}
use Rattle.std.specs.FinMap as maps
use Rattle.std.specs.Map.{values_of}
use Rattle.std.specs.BTreeMap.{BTreeMap, IsOrdered}
use Rattle.po_text.specs.Texts.{text_cmp}
use Rattle.units.specs.Project.{place_cmp}
use Rattle.units.specs.Office.{Domain}
use Rattle.units.specs.declared.unit.Unit.{Unit}
use Rattle.units.specs.Orders.{text_total, text_IsAntisymmetric}
use Rattle.office_maps.specs.declared.place.Place.{Place}
use Rattle.office_maps.specs.declared.domain_maps.DomainMaps.{DomainMaps}
use Rattle.office_maps.specs.Rows.{place_of, units_in}
use Rattle.office_maps.specs.MapEntries.{mapped}
use Rattle.office_maps.specs.OfficeIn.{domain_in, domains_in}
use Rattle.office_maps.proofs.OrderedEntries.{entries-mapped}
use Rattle.office_maps.proofs.AfterChanges.{unit_entries}

count_values : (p : Unit → Bool) (n : ℕ) (es : List (Place × Unit)) → fold (λ k unit. k + cond (p unit) 1 0) n (values_of es) ≡ fold (λ k e. k + cond (p e.1) 1 0) n (mapped place_of (λ unit. unit) es)
count_values p n [] = refl
count_values p n (e ∷ es) = count_values p (n + cond (p e.1) 1 0) es

pub counted_in : (m : BTreeMap Place Unit) (p : Unit → Bool) → IsOrdered (λ x y. place_cmp (place_of x) (place_of y)) m → count_by p (values_of m.entries) ≡ count_by (λ e. p e.1) (maps.entries (units_in m))
counted_in m p ordered = count_values p 0 m.entries ∙ sym (ap (count_by (λ e. p e.1)) (unit_entries m ordered))

-- ---- over all domains

module _ {A : Type 0} where
  sum_domains : (f : Domain → ℕ) (n : ℕ) (es : List (String A × DomainMaps)) → fold (λ k d. k + f (domain_in d)) n (values_of es) ≡ fold (λ k d. k + f d) n (map (λ e. e.1) (mapped string_bytes domain_in es))
  sum_domains f n [] = refl
  sum_domains f n (e ∷ es) = sum_domains f (n + f (domain_in e.1)) es

  entries_in : (rows : BTreeMap (String A) DomainMaps) → IsOrdered (λ x y. text_cmp (string_bytes x) (string_bytes y)) rows → maps.entries (domains_in rows) ≡ mapped string_bytes domain_in rows.entries
  entries_in rows ordered = entries-mapped text_total text_IsAntisymmetric string_bytes domain_in rows ordered

  pub sum_in : (f : Domain → ℕ) (rows : BTreeMap (String A) DomainMaps) → IsOrdered (λ x y. text_cmp (string_bytes x) (string_bytes y)) rows →
      sum_by (λ d. f (domain_in d)) (values_of rows.entries) ≡ sum_by f (maps.values (domains_in rows))
  sum_in f rows ordered = sum_domains f 0 rows.entries ∙ sym (ap (λ es. sum_by f (map (λ e. e.1) es)) (entries_in rows ordered))

-- where none is left to count
pub all_counted : {X : Type 0} (f : X → ℕ) (n : ℕ) (left : List X) (all : ℕ) → left ≡ [] → n + sum_by f left ≡ all → n ≡ all
all_counted f n left all none counted = let over : sum_by f left ≡ 0 = ap (sum_by f) none in omega (arith, over, counted)
