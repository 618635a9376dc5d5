-- What the rules of an project say of a language's units in maps.
use Rattle.std.proofs.Common.{◌≡◌, ◌≤◌, Bool, true, false, cond, List, [], ◌∷◌, map, filter, length, subst, ◌∙◌}
use Rattle.std.specs.List.{AllByRecursion}
use Rattle.std.specs.FinMap as maps
use Rattle.std.specs.BTreeMap.{IsOrdered}
use Rattle.po_text.specs.Texts.{Text, text_eq}
use Rattle.units.specs.Limits.{suggestion_limit}
use Rattle.units.specs.Project.{Project, Place as OfficePlace, place_cmp, units_of}
use Rattle.units.specs.Projects.{IsProject, IsUnit}
use Rattle.units.specs.Orders.{place_total}
use Rattle.units.specs.declared.unit.Unit.{Unit}
use Rattle.office_specification.proofs.rules.Replaced.{all_rows, all_found}
use Rattle.office_maps.specs.declared.project_maps.ProjectMaps.{ProjectMaps}
use Rattle.office_maps.specs.declared.place.Place.{Place}
use Rattle.office_maps.specs.OfficeIn.{lent_project, place_of}
use Rattle.office_maps.specs.MapEntries.{mapped}
use Rattle.office_maps.proofs.AfterChanges.{unit_entries}
use Rattle.office_specification.specs.Tally.{counts_in}
use Rattle.office_specification.specs.Counting.{AreWithin}
use Rattle.office_specification.proofs.tallies.Countings.{counts_within}

all_filtered : {X : Type 0} (P : X → Type 0) (test : X → Bool) (xs : List X) → AllByRecursion P xs → AllByRecursion P (filter test xs)
all_filtered P test [] h = tt
all_filtered {X} P test (x ∷ xs) h = by (test x) (all_filtered P test xs h.1)
  where
    by : (b : Bool) → AllByRecursion P (filter test xs) → AllByRecursion P (cond b (x ∷ filter test xs) (filter test xs))
    by true rest = (h.0, rest)
    by false rest = rest

all_mapped : {X Y : Type 0} (P : Y → Type 0) (f : X → Y) (xs : List X) → AllByRecursion (λ x. P (f x)) xs → AllByRecursion P (map f xs)
all_mapped P f [] h = tt
all_mapped P f (x ∷ xs) h = (h.0, all_mapped P f xs h.1)

-- ---- each unit has the key of its place

abbrev pub HasItsKey : Place × Unit → Type 0
HasItsKey e = e.1.key ≡ e.0.key.key

keys_viewed : (es : List (Place × Unit)) → AllByRecursion (λ (e : OfficePlace × Unit). e.1.key ≡ e.0.1) (mapped place_of (λ unit. unit) es) → AllByRecursion HasItsKey es
keys_viewed [] h = tt
keys_viewed (e ∷ es) h = (h.0, keys_viewed es h.1)

pub have_keys : (t : ProjectMaps) (test : Place × Unit → Bool) → IsOrdered (λ x y. place_cmp (place_of x) (place_of y)) t.domain.now.units → IsProject (lent_project t) → AllByRecursion HasItsKey (filter test t.domain.now.units.entries)
have_keys t test ordered rules =
    let units = (lent_project t).units in
    let all : AllByRecursion (λ (e : OfficePlace × Unit). e.1.key ≡ e.0.1) (maps.entries units) =
    all_rows place_cmp place_total (λ place unit. unit.key ≡ place.1) (maps.entries units) (maps.entries_sorted units)
    (λ place unit e. (rules.placed place unit (maps.get-entries units place ∙ e)).0) in
    all_filtered HasItsKey test t.domain.now.units.entries (keys_viewed t.domain.now.units.entries (subst (AllByRecursion (λ (e : OfficePlace × Unit). e.1.key ≡ e.0.1)) (unit_entries t.domain.now.units ordered) all))

-- ---- a language's counts are small

pub few_counted : (project : Project) (lang : Text) → IsProject project → AreWithin (counts_in project.template (units_of project lang))
few_counted project lang rules = counts_within project.template (units_of project lang) (rules.few_units lang) few
  where
    few : AllByRecursion (λ unit. length unit.suggestions ≤ suggestion_limit) (units_of project lang)
    few =
        all_mapped (λ unit. length unit.suggestions ≤ suggestion_limit) (λ (e : OfficePlace × Unit). e.1) (filter (λ e. text_eq lang e.0.0) (maps.entries project.units))
        (all_filtered (λ (e : OfficePlace × Unit). length e.1.suggestions ≤ suggestion_limit) (λ e. text_eq lang e.0.0) (maps.entries project.units)
        (all_found place_cmp place_total (λ unit. length unit.suggestions ≤ suggestion_limit) (maps.entries project.units) (maps.entries_sorted project.units)
        (λ place unit e. IsUnit.suggested (rules.each place unit (maps.get-entries project.units place ∙ e)))))
