-- How many units a project has at most, and how many a policy turns in all domains: these numbers fit a machine word.
use Rattle.std.proofs.Common.{◌≡◌, ◌≤◌, ℕ, ◌+◌, ◌*◌, List, [], ◌∷◌, Bool, true, false, cond, not, ◌||◌, ◌&&◌, Some, refl, sym, ◌∙◌, ap, subst, length, map, All, arith}
use Rattle.std.specs.Prelude.{sum_by, is_some, unwrap_or}
use Rattle.std.specs.List.{AllByRecursion, list_any}
use Rattle.std.specs.Ordering.{eq_by_cmp}
use Rattle.std.specs.FinMap as maps
use Rattle.std.specs.Cmp.Lexicographic.{texts_ties}
use Rattle.std.proofs.lemmas.List.{length-map}
use Rattle.std.proofs.lemmas.List.Sums.{count_by-le-length, sum_by-le}
use Rattle.std.proofs.lemmas.List.Elements.{All-nil, All-cons}
use Rattle.po_text.specs.Texts.{Text, text_cmp, text_eq}
use Rattle.units.specs.Limits.{domain_limit, language_limit, unit_limit}
use Rattle.units.specs.Units.{is_approved}
use Rattle.units.specs.Project.{Project, Place, place_cmp}
use Rattle.units.specs.Projects.{IsProject}
use Rattle.units.specs.Office.{Domain, empty_domain, same_domain, Office, as_project}
use Rattle.units.specs.Offices.{IsOffice}
use Rattle.units.specs.declared.unit.Unit.{Unit}
use Rattle.units.specs.declared.unit.Policy.{Policy}
use Rattle.units.specs.Orders.{text_total, place_total}
use Rattle.office_specification.specs.OfficeActs.{turned}
use Rattle.office_specification.proofs.domains.InDomains.{equal_domains, its_own_domain}
use Rattle.office_specification.proofs.rules.Rebuilt.{at_lang, units-tally}
use Rattle.office_specification.proofs.rules.Replaced.{all_rows}
use Rattle.office_specification.proofs.rules.Tallies.{tally}

-- ---- the units of languages, taken together

abbrev tallies : List Text → List (Place × Unit) → ℕ
tallies [] es = 0
tallies (lang ∷ langs) es = tally place_cmp place_total (at_lang lang) es + tallies langs es

-- in how many of the languages a place is
abbrev hits : List Text → Place → ℕ
hits [] place = 0
hits (lang ∷ langs) place = cond (text_eq lang place.0) 1 0 + hits langs place

tallies-cons : (langs : List Text) (e : Place × Unit) (es : List (Place × Unit)) → tallies langs (e ∷ es) ≡ hits langs e.0 + tallies langs es
tallies-cons [] e es = refl
tallies-cons (lang ∷ langs) e es = let rest = tallies-cons langs e es in omega (arith, rest)

tallies-none : (langs : List Text) → tallies langs [] ≡ 0
tallies-none [] = refl
tallies-none (lang ∷ langs) = let rest = tallies-none langs in omega (arith, rest)

one_hit : (langs : List Text) (place : Place) → list_any (eq_by_cmp text_cmp place.0) langs ≡ true → 1 ≤ hits langs place
one_hit [] place there = cc
one_hit (lang ∷ langs) place there = by (λ later. one_hit langs place later) (same_domain place.0 lang) refl there
  where
    itself : (a b : Text) → a ≡ b → text_eq b a ≡ true
    itself a b e = texts_ties b a ∙ (ap (λ c. eq_by_cmp text_cmp b c) e ∙ its_own_domain b)

    by : (list_any (eq_by_cmp text_cmp place.0) langs ≡ true → 1 ≤ hits langs place) → (tie : Bool) → same_domain place.0 lang ≡ tie → (tie || list_any (eq_by_cmp text_cmp place.0) langs) ≡ true → 1 ≤ cond (text_eq lang place.0) 1 0 + hits langs place
    by later true t there = let here : cond {A = ℕ} (text_eq lang place.0) 1 0 ≡ 1 = ap (λ c. cond {A = ℕ} c 1 0) (itself place.0 lang (equal_domains place.0 lang t)) in omega (arith, here)
    by later false t there = let rest = later there in omega (arith, rest)

all_counted : (langs : List Text) (es : List (Place × Unit)) → AllByRecursion (λ e. list_any (eq_by_cmp text_cmp e.0.0) langs ≡ true) es → length es ≤ tallies langs es
all_counted langs [] h = rw (tallies-none langs) (omega arith)
all_counted langs (e ∷ es) h =
    let rest = all_counted langs es h.1 in
    let one = one_hit langs e.0 h.0 in
    let sum = tallies-cons langs e es in
    omega (arith, rest, one, sum)

few_each : (langs : List Text) (es : List (Place × Unit)) → ((lang : Text) → tally place_cmp place_total (at_lang lang) es ≤ unit_limit) → tallies langs es ≤ length langs * unit_limit
few_each [] es h = omega arith
few_each (lang ∷ langs) es h = let rest = few_each langs es h in let one = h lang in omega (arith, rest, one)

pub few_in_project : (project : Project) → IsProject project → length (maps.entries project.units) ≤ language_limit * unit_limit
few_in_project project rules =
    let all = all_counted (maps.keys project.headers) (maps.entries project.units)
    (all_rows place_cmp place_total (λ place unit. list_any (eq_by_cmp text_cmp place.0) (maps.keys project.headers) ≡ true) (maps.entries project.units) (maps.entries_sorted project.units)
    (λ place unit found. sym (maps.contains_key-keys project.headers place.0) ∙ (rules.placed place unit (maps.get-entries project.units place ∙ found)).1)) in
    let each = few_each (maps.keys project.headers) (maps.entries project.units) (λ lang. subst (λ n. n ≤ unit_limit) (units-tally project lang) (rules.few_units lang)) in
    let langs : length (maps.keys project.headers) ≡ maps.len project.headers = length-map _ _ ∙ sym (maps.len-entries project.headers) in
    let few = rules.few_languages in
    omega (arith, all, each, langs, few)

-- ---- all domains

all_values : (P : Domain → Type 0) (es : List (Text × Domain)) → AllByRecursion (λ e. P e.1) es → All P (map (λ e. e.1) es)
all_values P [] h = All-nil P
all_values P (e ∷ es) h = All-cons P e.1 (map (λ d. d.1) es) h.0 (all_values P es h.1)

pub few_turned : (office : Office) (policy : Policy) → IsOffice office → sum_by (turned policy) (maps.values office.domains) ≤ domain_limit * (language_limit * unit_limit)
few_turned office policy rules =
    let each : All (λ d. turned policy d ≤ language_limit * unit_limit) (maps.values office.domains) =
    all_values (λ d. turned policy d ≤ language_limit * unit_limit) (maps.entries office.domains)
    (all_rows text_cmp text_total (λ name d. turned policy d ≤ language_limit * unit_limit) (maps.entries office.domains) (maps.entries_sorted office.domains) (λ name d found. one name d (maps.get-entries office.domains name ∙ found))) in
    let sum = sum_by-le (turned policy) (language_limit * unit_limit) (maps.values office.domains) each in
    let count : length (maps.values office.domains) ≡ maps.len office.domains = length-map _ _ ∙ sym (maps.len-entries office.domains) in
    let few = rules.few_domains in
    omega (arith, sum, count, few)
  where
    one : (name : Text) (d : Domain) → maps.get office.domains name ≡ Some d → turned policy d ≤ language_limit * unit_limit
    one name d there =
        let its : IsProject (as_project office d) = subst (λ o. IsProject (as_project office (unwrap_or o empty_domain))) there (rules.projects name (ap is_some there)) in
        let few = few_in_project (as_project office d) its in
        let part = count_by-le-length (λ (e : Place × Unit). is_approved e.1.state && not policy.reviews) (maps.entries d.units) in
        omega (arith, few, part)
