-- What a policy comes to in an office that keeps its rules, by how many units are approved and how many of these are at the last revision.
use Rattle.std.proofs.Common.{◌≡◌, ◌≤◌, ℕ, zero, suc, ◌+◌, Bool, true, false, cond, not, ◌&&◌, ◌||◌, List, [], ◌∷◌, map, Some, refl, sym, ◌∙◌, ap, subst, zero-add, arith}
use Rattle.std.specs.Prelude.{is_some, unwrap_or, nat_lt, nat_eq, count_by, sum_by}
use Rattle.std.specs.List.{AllByRecursion, list_any}
use Rattle.std.specs.FinMap as maps
use Rattle.std.proofs.lemmas.Bool.{lt-ltb, le-ltb, eqb-true, eq-eqb}
use Rattle.std.proofs.lemmas.List.Sums.{sum_by-cons}
use Rattle.po_text.specs.Texts.{Text, text_cmp}
use Rattle.units.specs.Changes.{unapproved, under}
use Rattle.units.specs.Limits.{revision_limit}
use Rattle.units.specs.Office.{Office, Domain, as_project, empty_domain}
use Rattle.units.specs.Offices.{IsOffice}
use Rattle.units.specs.Orders.{text_total, place_total}
use Rattle.units.specs.Project.{Place, place_cmp}
use Rattle.units.specs.Projects.{IsProject}
use Rattle.units.specs.Units.{is_approved, in_state, next_revision}
use Rattle.units.specs.declared.unit.Policy.{Policy}
use Rattle.units.specs.declared.unit.Unit.{Unit}
use Rattle.units.specs.declared.unit.UnitState.TheVariants.{Translated}
use Rattle.office_specification.specs.Approvals.{count_in, is_approved_unit, is_last_approved, approvals_in}
use Rattle.office_specification.specs.OfficeActs.{passes, turned}
use Rattle.office_specification.proofs.rules.Replaced.{all_rows}

abbrev Entries : Type 0
Entries = List (Place × Unit)

abbrev Domains : Type 0
Domains = List (Text × Domain)

-- ---- what is counted

counts_same : {X : Type 0} (f g : X → ℕ) (xs : List X) → AllByRecursion (λ x. f x ≡ g x) xs → sum_by f xs ≡ sum_by g xs
counts_same f g [] each = refl
counts_same f g (x ∷ xs) each =
    let rest = counts_same f g xs each.1 in
    let one = each.0 in
    sum_by-cons f x xs ∙ (omega (arith, one, rest) ∙ sym (sum_by-cons g x xs))

nothing_counted : {X : Type 0} (f : X → ℕ) (xs : List X) → ((x : X) → f x ≡ 0) → sum_by f xs ≡ 0
nothing_counted f [] none = refl
nothing_counted f (x ∷ xs) none =
    let rest = nothing_counted f xs none in
    let one = none x in
    let both = sum_by-cons f x xs in
    omega (arith, one, rest, both)

turned_by : (reviews : Bool) (approved : Bool) → ◌≡◌ {A = ℕ} (cond (approved && not reviews) 1 0) (cond reviews 0 (cond approved 1 0))
turned_by true true = refl
turned_by true false = refl
turned_by false true = refl
turned_by false false = refl

every : {X : Type 0} {P : X → Type 0} (xs : List X) → ((x : X) → P x) → AllByRecursion P xs
every [] each = tt
every (x ∷ xs) each = (each x, every xs each)

pub turned_counted : (office : Office) (policy : Policy) → sum_by (turned policy) (maps.values office.domains) ≡ cond policy.reviews 0 (approvals_in office).approved
turned_counted office policy =
    counts_same (turned policy) (λ d. cond policy.reviews 0 (count_in is_approved_unit d)) (maps.values office.domains) (every (maps.values office.domains) in_domain) ∙ all policy.reviews
  where
    in_units : (reviews : Bool) (es : Entries) → count_by (λ (e : Place × Unit). is_approved e.1.state && not reviews) es ≡ cond reviews 0 (count_by (λ (e : Place × Unit). is_approved_unit e.1) es)
    in_units reviews es =
        counts_same (λ (e : Place × Unit). cond (is_approved e.1.state && not reviews) 1 0) (λ (e : Place × Unit). cond reviews 0 (cond (is_approved e.1.state) 1 0)) es (every es (λ (e : Place × Unit). turned_by reviews (is_approved e.1.state))) ∙ by reviews
      where
        by : (reviews : Bool) → sum_by (λ (e : Place × Unit). cond reviews 0 (cond (is_approved e.1.state) 1 0)) es ≡ cond reviews 0 (count_by (λ (e : Place × Unit). is_approved_unit e.1) es)
        by true = nothing_counted (λ (e : Place × Unit). 0) es (λ e. refl)
        by false = refl

    in_domain : (d : Domain) → turned policy d ≡ cond policy.reviews 0 (count_in is_approved_unit d)
    in_domain d = in_units policy.reviews (maps.entries d.units)

    all : (reviews : Bool) → sum_by (λ d. cond reviews 0 (count_in is_approved_unit d)) (maps.values office.domains) ≡ cond reviews 0 (approvals_in office).approved
    all true = nothing_counted (λ (d : Domain). 0) (maps.values office.domains) (λ d. refl)
    all false = refl

-- ---- whether one is counted

-- some pass a test where each count of them isn't zero
some_counted : {X : Type 0} (p : X → Bool) (f : X → ℕ) (xs : List X) → AllByRecursion (λ x. p x ≡ nat_lt 0 (f x)) xs → list_any p xs ≡ nat_lt 0 (sum_by f xs)
some_counted p f [] each = refl
some_counted p f (x ∷ xs) each =
    ap (λ b. b || list_any p xs) each.0 ∙ (ap (λ b. nat_lt 0 (f x) || b) (some_counted p f xs each.1) ∙ (by (f x) (sum_by f xs) ∙ ap (nat_lt 0) (sym (sum_by-cons f x xs))))
  where
    by : (m n : ℕ) → (nat_lt 0 m || nat_lt 0 n) ≡ nat_lt 0 (m + n)
    by zero n = ap (nat_lt 0) (sym (zero-add n))
    by (suc m) n = ap (λ b. b || nat_lt 0 n) (lt-ltb 0 (suc m) (omega arith)) ∙ sym (lt-ltb 0 (suc m + n) (omega arith))

-- ---- one unit

next_past : (limit r : ℕ) → r ≤ limit → nat_lt limit (r + 1) ≡ nat_eq r limit
next_past limit r within = by (nat_eq r limit) refl
  where
    by : (b : Bool) → nat_eq r limit ≡ b → nat_lt limit (r + 1) ≡ b
    by true e = let same = eqb-true r limit e in lt-ltb limit (r + 1) (omega (arith, same))
    by false e = le-ltb limit (r + 1) (omega (arith, within, apart))
      where
        apart : r ≡ limit → ⊥
        apart same = let both : true ≡ false = sym (eq-eqb r limit same) ∙ e in cc

passes_by : (unit : Unit) → unit.revision ≤ revision_limit → nat_lt revision_limit (unapproved unit).revision ≡ nat_lt 0 (cond (is_last_approved unit) 1 0)
passes_by unit within = by (is_approved unit.state)
  where
    told : (b : Bool) → b ≡ nat_lt 0 (cond b 1 0)
    told true = refl
    told false = refl

    by : (approved : Bool) → nat_lt revision_limit (cond approved (next_revision (in_state Translated unit)) unit).revision ≡ nat_lt 0 (cond (approved && nat_eq unit.revision revision_limit) 1 0)
    by true = next_past revision_limit unit.revision within ∙ told (nat_eq unit.revision revision_limit)
    by false = le-ltb revision_limit unit.revision within

-- ---- an office

-- some unit of a domain is past the last revision, under a policy with reviews or without
abbrev over : Bool → Domain → Bool
over reviews d = list_any (λ (e : Place × Unit). nat_lt revision_limit e.1.revision) (cond reviews (maps.entries d.units) (map (λ (e : Place × Unit). (e.0, unapproved e.1)) (maps.entries d.units)))

abbrev AreWithin : Entries → Type 0
AreWithin es = AllByRecursion (λ e. e.1.revision ≤ revision_limit) es

none_past : (es : Entries) → AreWithin es → list_any (λ (e : Place × Unit). nat_lt revision_limit e.1.revision) es ≡ false
none_past [] within = refl
none_past (e ∷ es) within = ap (λ b. b || list_any (λ (e : Place × Unit). nat_lt revision_limit e.1.revision) es) (le-ltb revision_limit e.1.revision within.0) ∙ none_past es within.1

some_past : (es : Entries) → AreWithin es → list_any (λ (e : Place × Unit). nat_lt revision_limit e.1.revision) (map (λ (e : Place × Unit). (e.0, unapproved e.1)) es) ≡ nat_lt 0 (count_by (λ (e : Place × Unit). is_last_approved e.1) es)
some_past es within = unmapped es ∙ some_counted (λ (e : Place × Unit). nat_lt revision_limit (unapproved e.1).revision) (λ (e : Place × Unit). cond (is_last_approved e.1) 1 0) es (each es within)
  where
    unmapped : (es : Entries) → list_any (λ (e : Place × Unit). nat_lt revision_limit e.1.revision) (map (λ (e : Place × Unit). (e.0, unapproved e.1)) es) ≡ list_any (λ (e : Place × Unit). nat_lt revision_limit (unapproved e.1).revision) es
    unmapped [] = refl
    unmapped (e ∷ es) = ap (λ b. nat_lt revision_limit (unapproved e.1).revision || b) (unmapped es)

    each : (es : Entries) → AreWithin es → AllByRecursion (λ (e : Place × Unit). nat_lt revision_limit (unapproved e.1).revision ≡ nat_lt 0 (cond (is_last_approved e.1) 1 0)) es
    each [] within = tt
    each (e ∷ es) within = (passes_by e.1 within.0, each es within.1)

module _ (office : Office) (rules : IsOffice office) where
  within_each : AllByRecursion (λ d. AreWithin (maps.entries d.1.units)) (maps.entries office.domains)
  within_each =
      all_rows text_cmp text_total (λ name d. AreWithin (maps.entries d.units)) (maps.entries office.domains) (maps.entries_sorted office.domains) (λ name d found. in_domain name d (maps.get-entries office.domains name ∙ found))
    where
      in_domain : (name : Text) (d : Domain) → maps.get office.domains name ≡ Some d → AreWithin (maps.entries d.units)
      in_domain name d there =
          let its : IsProject (as_project office d) = subst (λ o. IsProject (as_project office (unwrap_or o empty_domain))) there (rules.projects name (ap is_some there)) in
          all_rows place_cmp place_total (λ place unit. unit.revision ≤ revision_limit) (maps.entries d.units) (maps.entries_sorted d.units)
          (λ place unit found. (its.each place unit (maps.get-entries d.units place ∙ found)).revised.1)

  pub passes_counted : (policy : Policy) → list_any (passes policy) (maps.values office.domains) ≡ (not policy.reviews && nat_lt 0 (approvals_in office).at_last_revision)
  passes_counted policy = by policy.reviews
    where
      none : (ds : Domains) → AllByRecursion (λ d. AreWithin (maps.entries d.1.units)) ds → list_any (over true) (map (λ d. d.1) ds) ≡ false
      none [] within = refl
      none (d ∷ ds) within = ap (λ b. b || list_any (over true) (map (λ d. d.1) ds)) (none_past (maps.entries d.1.units) within.0) ∙ none ds within.1

      some : (ds : Domains) → AllByRecursion (λ d. AreWithin (maps.entries d.1.units)) ds → AllByRecursion (λ d. over false d ≡ nat_lt 0 (count_in is_last_approved d)) (map (λ d. d.1) ds)
      some [] within = tt
      some (d ∷ ds) within = (some_past (maps.entries d.1.units) within.0, some ds within.1)

      by : (reviews : Bool) → list_any (over reviews) (maps.values office.domains) ≡ (not reviews && nat_lt 0 (approvals_in office).at_last_revision)
      by true = none (maps.entries office.domains) within_each
      by false = some_counted (over false) (count_in is_last_approved) (maps.values office.domains) (some (maps.entries office.domains) within_each)
