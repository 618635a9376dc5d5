-- Units that are written over those that are there, where each that is there is among them: these alone are there.
use Rattle.std.proofs.Common.{◌≡◌, [], ◌∷◌, ◌||◌, Bool, true, false, cond, Option, Some, None, refl, sym, ap, ◌∙◌}
use Rattle.std.specs.Prelude.{is_some}
use Rattle.std.specs.List.{list_any}
use Rattle.std.specs.Ordering.{eq_by_cmp}
use Rattle.std.specs.FinMap as maps
use Rattle.units.specs.Project.{Place, place_cmp, place_eq}
use Rattle.units.specs.Orders.{place_total, place_IsAntisymmetric}
use Rattle.units.specs.declared.unit.Unit.{Unit}
use Rattle.sql_meaning.proofs.WrittenAnew.{or_else}
use Rattle.sql_changes.proofs.PlannedUnits.{Units, Entries, from_last}

-- the unit of a place is the first there, or else the one that was
pub get-from_last : (m : Units) (es : Entries) (q : Place) → maps.get (from_last m es) q ≡ or_else (maps.find place_cmp q es) (maps.get m q)
get-from_last m [] q = refl
get-from_last m (e ∷ es) q =
    maps.get-insert place_total (from_last m es) e.0 e.1 q ∙ ap (cond (eq_by_cmp place_cmp q e.0) (Some e.1)) (get-from_last m es q) ∙ chosen (eq_by_cmp place_cmp q e.0)
  where
    chosen : (b : Bool) → cond b (Some e.1) (or_else (maps.find place_cmp q es) (maps.get m q)) ≡ or_else (cond b (Some e.1) (maps.find place_cmp q es)) (maps.get m q)
    chosen true = refl
    chosen false = refl

-- where one of the entries is at a place, one is found there
found_any : (es : Entries) (q : Place) (o : Option Unit) → list_any (λ e. place_eq q e.0) es ≡ true → or_else (maps.find place_cmp q es) o ≡ maps.find place_cmp q es
found_any [] q o any = absurd (let no = any in cc)
found_any (e ∷ es) q o any = by (found_any es q o) (place_eq q e.0) any
  where
    by : (list_any (λ e. place_eq q e.0) es ≡ true → or_else (maps.find place_cmp q es) o ≡ maps.find place_cmp q es) → (b : Bool) → (b || list_any (λ e. place_eq q e.0) es) ≡ true
        → or_else (cond b (Some e.1) (maps.find place_cmp q es)) o ≡ cond b (Some e.1) (maps.find place_cmp q es)
    by rest true some = refl
    by rest false some = rest some

pub all_covered : (m : Units) (es : Entries) → ((q : Place) → maps.contains_key m q ≡ true → list_any (λ e. place_eq q e.0) es ≡ true) → from_last m es ≡ maps.from_entries es
all_covered m es named =
    maps.same_map place_total place_IsAntisymmetric _ _ (λ q. get-from_last m es q ∙ left q (maps.get m q) refl ∙ sym (maps.get-from_entries place_total es q))
  where
    none : (o : Option Unit) → or_else o None ≡ o
    none None = refl
    none (Some u) = refl

    left : (q : Place) (o : Option Unit) → maps.get m q ≡ o → or_else (maps.find place_cmp q es) (maps.get m q) ≡ maps.find place_cmp q es
    left q None e = ap (or_else (maps.find place_cmp q es)) e ∙ none (maps.find place_cmp q es)
    left q (Some u) e = found_any es q (maps.get m q) (named q (ap is_some e))
