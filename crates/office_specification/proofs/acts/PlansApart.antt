-- No two units of plans stand at one place: none do in a domain that keeps its rules, and those that come are of keys that no unit had.
use Rattle.std.proofs.Common.{◌≡◌, ◌≢◌, List, [], ◌∷◌, ◌++◌, Bool, true, false, cond, not, ◌&&◌, ◌||◌, Some, refl, sym, ◌∙◌, ap, subst, map, filter}
use Rattle.std.specs.Prelude.{T, ⊤, flat_map}
use Rattle.std.specs.List.{list_any, AllByRecursion, AllZip, IsDistinct}
use Rattle.std.specs.declared.cmp.Ordering.{Ordering}
use Rattle.std.specs.declared.cmp.Ordering.TheVariants.{Less, Equal, Greater}
use Rattle.std.specs.Ordering.{is_eq, is_lt, ordering_then}
use Rattle.std.specs.Cmp.{tied_itself, eq_by_cmp_equiv}
use Rattle.std.specs.Cmp.Lexicographic.{bytes_decides, same_text}
use Rattle.std.specs.FinMap as maps
use Rattle.std.specs.FinMap.Entries.{below_all}
use Rattle.std.proofs.lemmas.List.{map-append}
use Rattle.po_text.specs.declared.entry.Entry.{Entry}
use Rattle.po_text.specs.Entries as po
use Rattle.po_text.specs.Texts.{Text, text_cmp, text_eq}
use Rattle.po_text.specs.Valid.{HasUniqueKeys}
use Rattle.units.specs.Units.{key_cmp, key_of}
use Rattle.units.specs.Project.{Project, Place, place_cmp, place_eq, languages, units_of}
use Rattle.units.specs.Projects.{IsProject}
use Rattle.units.specs.Rules.{rule_at}
use Rattle.units.specs.Orders.{text_total, key_total, place_total}
use Rattle.units.specs.declared.unit.Key.{Key}
use Rattle.units.specs.declared.unit.Unit.{Unit}
use Rattle.template_update.specs.declared.plans.Plan.{Plan}
use Rattle.template_update.specs.Updates.{is_known, added, plan_of}
use Rattle.template_update.specs.Loads.{is_in, is_leftover, leftovers, has_translation}
use Rattle.template_update.specs.Laws.{same_key, KeepsUnits, Follows}
use Rattle.template_update.proofs.Listed.{clash, all_imply, each_one, all_joined, all_kept, all_mapped, other_key, pair_of}
use Rattle.template_update.proofs.Taken.{is_some-find}
use Rattle.office_specification.specs.ProjectActs.{LanguagePlan, placed, plans}
use Rattle.office_specification.proofs.acts.Possible.{KeepsEach}
use Rattle.office_specification.proofs.rules.PlanRows.{rows_in, all-rows}
use Rattle.office_specification.proofs.rules.Rebuilt.{equal_places}
use Rattle.office_specification.proofs.rules.Replaced.{left_true, right_true, all_rows}
use Rattle.office_specification.proofs.rules.TemplateKept.{IsPlanOf, zipped, all_rows_of, rows_of, each_row, above}

-- ---- lists

distinct_joined : {K : Type 0} (eq : K → K → Bool) (xs ys : List K) → IsDistinct eq xs → IsDistinct eq ys → AllByRecursion (λ x. AllByRecursion (λ y. eq x y ≡ false) ys) xs → IsDistinct eq (xs ++ ys)
unfolding IsDistinct
distinct_joined eq [] ys own theirs apart = theirs
distinct_joined eq (x ∷ xs) ys own theirs apart = (all_joined (λ y. eq x y ≡ false) xs ys own.0 apart.0, distinct_joined eq xs ys own.1 theirs apart.1)

turned : {A B : Type 0} (R : A → B → Type 0) (xs : List A) (ys : List B) → AllByRecursion (λ y. AllByRecursion (λ x. R x y) xs) ys → AllByRecursion (λ x. AllByRecursion (λ y. R x y) ys) xs
turned R [] ys h = tt
turned R (x ∷ xs) ys h = (
  all_imply (λ y. R x y × AllByRecursion (λ z. R z y) xs) (λ y. R x y) (λ y both. both.0) ys h,
  turned R xs ys (all_imply (λ y. R x y × AllByRecursion (λ z. R z y) xs) (λ y. AllByRecursion (λ z. R z y) xs) (λ y both. both.1) ys h),
)

none_of : {X : Type 0} (p : X → Bool) (xs : List X) → list_any p xs ≡ false → AllByRecursion (λ x. p x ≡ false) xs
none_of p [] e = tt
none_of p (x ∷ xs) e = (first (p x) (list_any p xs) e, none_of p xs (rest (p x) (list_any p xs) e))
  where
    first : (a b : Bool) → (a || b) ≡ false → a ≡ false
    first true b e = cc
    first false b e = refl

    rest : (a b : Bool) → (a || b) ≡ false → b ≡ false
    rest true b e = cc
    rest false b e = e

is_false : (b : Bool) → not b ≡ true → b ≡ false
is_false true e = cc
is_false false e = refl

-- ---- keys

abbrev keys_of : List Unit → List Key
keys_of units = map (λ unit. unit.key) units

ties_back : (a b : Key) → same_key a b ≡ same_key b a
ties_back a b = (eq_by_cmp_equiv key_total).symm a b

-- entries of a catalogue, those that a test keeps
module _ (e : Entry) (es : List Entry) (apart : AllByRecursion (λ other. po.key_of other ≢ po.key_of e) es) where
  kept_apart : (keep : Entry → Bool) → AllByRecursion (λ key. same_key (key_of e) key ≡ false) (map key_of (filter keep es))
  kept_apart keep =
      all_mapped (λ key. same_key (key_of e) key ≡ false) key_of (filter keep es)
      (all_kept keep (λ other. po.key_of other ≢ po.key_of e) (λ other. same_key (key_of e) (key_of other) ≡ false)
      (λ other kept differs. other_key (key_of e) (key_of other) (λ same. differs (sym (ap pair_of same)))) es apart)

  all_apart : AllByRecursion (λ key. same_key (key_of e) key ≡ false) (map key_of es)
  all_apart =
      all_mapped (λ key. same_key (key_of e) key ≡ false) key_of es
      (all_imply (λ other. po.key_of other ≢ po.key_of e) (λ other. same_key (key_of e) (key_of other) ≡ false)
      (λ other differs. other_key (key_of e) (key_of other) (λ same. differs (sym (ap pair_of same)))) es apart)

kept_distinct : (keep : Entry → Bool) (es : List Entry) → HasUniqueKeys es → IsDistinct same_key (map key_of (filter keep es))
unfolding IsDistinct
kept_distinct keep [] u = tt
kept_distinct keep (e ∷ es) u = by (keep e) (kept_apart e es u.0 keep) (kept_distinct keep es u.1)
  where
    by : (b : Bool) → AllByRecursion (λ key. same_key (key_of e) key ≡ false) (map key_of (filter keep es)) → IsDistinct same_key (map key_of (filter keep es))
        → IsDistinct same_key (map key_of (cond b (e ∷ filter keep es) (filter keep es)))
    by true apart rest = (apart, rest)
    by false apart rest = rest

entries_distinct : (es : List Entry) → HasUniqueKeys es → IsDistinct same_key (map key_of es)
unfolding IsDistinct
entries_distinct [] u = tt
entries_distinct (e ∷ es) u = (all_apart e es u.0, entries_distinct es u.1)

-- an entry's key is none of a list's
none_has : (units : List Unit) (e : Entry) → is_known units e ≡ false → AllByRecursion (λ key. same_key key (key_of e) ≡ false) (keys_of units)
none_has units e unknown =
    all_mapped (λ key. same_key key (key_of e) ≡ false) (λ unit. unit.key) units
    (all_imply (λ unit. same_key (key_of e) unit.key ≡ false) (λ unit. same_key unit.key (key_of e) ≡ false) (λ unit t. ties_back unit.key (key_of e) ∙ t) units
    (none_of (λ unit. same_key (key_of e) unit.key) units unknown))

none_in : (template : List Entry) (e : Entry) → is_in template e ≡ false → AllByRecursion (λ key. same_key key (key_of e) ≡ false) (map key_of template)
none_in template e missing =
    all_mapped (λ key. same_key key (key_of e) ≡ false) key_of template
    (all_imply (λ entry. same_key (key_of e) (key_of entry) ≡ false) (λ entry. same_key (key_of entry) (key_of e) ≡ false) (λ entry t. ties_back (key_of entry) (key_of e) ∙ t) template
    (none_of (λ entry. same_key (key_of e) (key_of entry)) template (sym (is_some-find (λ entry. same_key (key_of e) (key_of entry)) template) ∙ missing)))

-- ---- the units of a language

not_less : (r : Ordering) → T (is_lt r) → r ≡ Equal → ⊥
not_less Less h e = cc
not_less Equal h e = absurd h
not_less Greater h e = absurd h

abbrev own_keys : Text → List (Place × Unit) → List Key
own_keys lang es = keys_of (map (λ e. e.1) (filter (λ e. text_eq lang e.0.0) es))

-- the keys of rows past one of the language
keys_past : (lang : Text) (place : Place) (key : Key) → key ≡ place.1 → text_eq lang place.0 ≡ true → (es : List (Place × Unit)) → T (below_all place_cmp place es) → AllByRecursion (λ e. e.1.key ≡ e.0.1) es
    → AllByRecursion (λ other. same_key key other ≡ false) (own_keys lang es)
keys_past lang place key own is [] below keys = tt
keys_past lang place key own is (e ∷ es) below keys =
    by (text_eq lang e.0.0) refl (keys_past lang place key own is es (right_true (is_lt (place_cmp place e.0)) (below_all place_cmp place es) below) keys.1)
  where
    differ : text_eq lang e.0.0 ≡ true → same_key key e.1.key ≡ false
    differ its = other_key key e.1.key (λ same.
        let first : place.0 ≡ e.0.0 = sym (same_text lang place.0 (sym is)) ∙ same_text lang e.0.0 (sym its) in
        let second : place.1 ≡ e.0.1 = sym own ∙ (same ∙ keys.0) in
        let one : place ≡ e.0 = λ i. (first i, second i) in
        not_less (place_cmp place e.0) (left_true (is_lt (place_cmp place e.0)) (below_all place_cmp place es) below) (ap (place_cmp place) (sym one) ∙ tied_itself place_total place))

    by : (b : Bool) → text_eq lang e.0.0 ≡ b → AllByRecursion (λ other. same_key key other ≡ false) (own_keys lang es)
        → AllByRecursion (λ other. same_key key other ≡ false) (keys_of (map (λ d. d.1) (cond b (e ∷ filter (λ d. text_eq lang d.0.0) es) (filter (λ d. text_eq lang d.0.0) es))))
    by true its rest = (differ its, rest)
    by false its rest = rest

own_distinct : (lang : Text) (es : List (Place × Unit)) → T (maps.is_sorted place_cmp es) → AllByRecursion (λ e. e.1.key ≡ e.0.1) es → IsDistinct same_key (own_keys lang es)
unfolding IsDistinct
own_distinct lang [] s keys = tt
own_distinct lang (e ∷ es) s keys =
    by (text_eq lang e.0.0) refl
    (λ its. keys_past lang e.0 e.1.key keys.0 its es (left_true (below_all place_cmp e.0 es) (maps.is_sorted place_cmp es) s) keys.1)
    (own_distinct lang es (right_true (below_all place_cmp e.0 es) (maps.is_sorted place_cmp es) s) keys.1)
  where
    by : (b : Bool) → text_eq lang e.0.0 ≡ b → (text_eq lang e.0.0 ≡ true → AllByRecursion (λ other. same_key e.1.key other ≡ false) (own_keys lang es)) → IsDistinct same_key (own_keys lang es)
        → IsDistinct same_key (keys_of (map (λ d. d.1) (cond b (e ∷ filter (λ d. text_eq lang d.0.0) es) (filter (λ d. text_eq lang d.0.0) es))))
    by true its past rest = (past its, rest)
    by false its past rest = rest

-- ---- the keys of a plan, and of a load

stayed_keys : (present next : List Entry) (units stayed : List Unit) → AllZip (Follows present next) units stayed → keys_of stayed ≡ keys_of units
stayed_keys present next [] [] z = refl
stayed_keys present next [] (s ∷ stayed) z = absurd z
stayed_keys present next (u ∷ units) [] z = absurd z
stayed_keys present next (u ∷ units) (s ∷ stayed) z = λ i. z.0.key i ∷ stayed_keys present next units stayed z.1 i

plan_keys : (present : List Entry) (units : List Unit) (next : List Entry) (after : List Unit) (stays : List Bool) → KeepsUnits present units next after stays → IsDistinct same_key (keys_of units) → HasUniqueKeys next
    → IsDistinct same_key (keys_of after)
plan_keys present units next after stays keeps own unique =
    subst (IsDistinct same_key)
    (sym (ap (map (λ (unit : Unit). unit.key)) keeps.whole ∙ map-append (λ (unit : Unit). unit.key) keeps.stayed keeps.came ∙ (λ i. stayed_keys present next units keeps.stayed keeps.each i ++ keeps.keys i)))
    (distinct_joined same_key (keys_of units) (map key_of (added units next)) own (kept_distinct (λ entry. not (is_known units entry)) next unique)
    (turned (λ a b. same_key a b ≡ false) (keys_of units) (map key_of (added units next))
    (all_mapped (λ b. AllByRecursion (λ a. same_key a b ≡ false) (keys_of units)) key_of (added units next)
    (all_kept (λ entry. not (is_known units entry)) (λ entry. ⊤) (λ entry. AllByRecursion (λ a. same_key a (key_of entry) ≡ false) (keys_of units))
    (λ entry new any. none_has units entry (is_false (is_known units entry) new)) next (each_one (λ entry. ⊤) (λ entry. tt) next)))))

-- no leftover has a key of the template
left_apart : (template : List Entry) (found : Entry) → is_leftover template found ≡ true → is_in template found ≡ false
left_apart template found is = by (has_translation found) (is_in template found) is
  where
    by : (a b : Bool) → (a && not b) ≡ true → b ≡ false
    by true true e = cc
    by true false e = refl
    by false b e = cc

load_keys : (template text : List Entry) (units : List Unit) → HasUniqueKeys template → HasUniqueKeys text → keys_of units ≡ map key_of template ++ map key_of (leftovers template text)
    → IsDistinct same_key (keys_of units)
load_keys template text units unique own is =
    subst (IsDistinct same_key) (sym is)
    (distinct_joined same_key (map key_of template) (map key_of (leftovers template text)) (entries_distinct template unique) (kept_distinct (is_leftover template) text own)
    (turned (λ a b. same_key a b ≡ false) (map key_of template) (map key_of (leftovers template text))
    (all_mapped (λ b. AllByRecursion (λ a. same_key a b ≡ false) (map key_of template)) key_of (leftovers template text)
    (all_kept (is_leftover template) (λ found. ⊤) (λ found. AllByRecursion (λ a. same_key a (key_of found) ≡ false) (map key_of template))
    (λ found left any. none_in template found (left_apart template found left)) text (each_one (λ found. ⊤) (λ found. tt) text)))))

-- ---- places

row_apart : (lang : Text) (key : Key) (units : List Unit) → AllByRecursion (λ other. same_key key other ≡ false) (keys_of units) → AllByRecursion (λ place. place_eq (lang, key) place ≡ false) (map (λ e. e.0) (rows_in lang units))
row_apart lang key [] h = tt
row_apart lang key (unit ∷ units) h = (ap (λ r. is_eq (ordering_then r (key_cmp key unit.key))) (tied_itself text_total lang) ∙ h.0, row_apart lang key units h.1)

rows_distinct : (lang : Text) (units : List Unit) → IsDistinct same_key (keys_of units) → IsDistinct place_eq (map (λ e. e.0) (rows_in lang units))
unfolding IsDistinct
rows_distinct lang [] own = tt
rows_distinct lang (unit ∷ units) own = (row_apart lang unit.key units own.0, rows_distinct lang units own.1)

-- places of two languages
differ : (p q : Place) → text_eq p.0 q.0 ≡ false → place_eq p q ≡ false
differ p q apart = by (place_eq p q) refl
  where
    by : (b : Bool) → place_eq p q ≡ b → b ≡ false
    by true t = clash (text_eq p.0 q.0) apart (ap (λ (r : Place). text_eq p.0 r.0) (sym (equal_places p q t)) ∙ (bytes_decides p.0 p.0).1 refl)
    by false t = refl

module _ (project : Project) (next : List Entry) where
  -- what the plan of each language has
  abbrev PlanHas : (Text → Plan → Type 0) → Text → Type 0
  PlanHas P lang = (plan : Plan) → plan_of project.template (units_of project lang) next (rule_at project lang) ≡ Some plan → P lang plan

  -- a place in no language of a list is apart from all rows of their plans
  place_apart : (place : Place) (langs : List Text) (all : List LanguagePlan) → AllZip (IsPlanOf project next) langs all → AllByRecursion (λ lang. text_eq place.0 lang ≡ false) langs
      → AllByRecursion (λ other. place_eq place other ≡ false) (map (λ e. e.0) (all_rows_of project next all))
  place_apart place langs all z apart =
      all_mapped (λ other. place_eq place other ≡ false) (λ (e : Place × Unit). e.0) (all_rows_of project next all)
      (each_row project next (λ other unit. place_eq place other ≡ false) langs all z
      (all_imply (λ lang. text_eq place.0 lang ≡ false) (PlanHas (λ lang plan. AllByRecursion (λ unit. place_eq place (lang, unit.key) ≡ false) plan.units))
      (λ lang other plan is. each_one (λ unit. place_eq place (lang, unit.key) ≡ false) (λ unit. differ place (lang, unit.key) other) plan.units) langs apart))

  all_distinct : (es : List (Text × Entry)) (all : List LanguagePlan) → T (maps.is_sorted text_cmp es) → AllZip (IsPlanOf project next) (map (λ e. e.0) es) all
      → AllByRecursion (PlanHas (λ lang plan. IsDistinct same_key (keys_of plan.units))) (map (λ e. e.0) es) → IsDistinct place_eq (map (λ e. e.0) (all_rows_of project next all))
  unfolding IsDistinct
  all_distinct [] [] s z h = tt
  all_distinct [] (p ∷ all) s z h = absurd z
  all_distinct (e ∷ es) [] s z h = absurd z
  all_distinct (e ∷ es) (p ∷ all) s z h =
      let others = above project next p.0 e.0 es z.0.same (left_true (below_all text_cmp e.0 es) (maps.is_sorted text_cmp es) s) in
      subst (IsDistinct place_eq) (sym (map-append (λ (row : Place × Unit). row.0) (rows_of project next p) (all_rows_of project next all)))
      (distinct_joined place_eq (map (λ row. row.0) (rows_of project next p)) (map (λ row. row.0) (all_rows_of project next all))
      (rows_distinct p.0 p.1.units (h.0 p.1 z.0.plan))
      (all_distinct es all (right_true (below_all text_cmp e.0 es) (maps.is_sorted text_cmp es) s) z.1 h.1)
      (all_mapped (λ place. AllByRecursion (λ other. place_eq place other ≡ false) (map (λ row. row.0) (all_rows_of project next all))) (λ (row : Place × Unit). row.0) (rows_of project next p)
      (all-rows (λ place unit. AllByRecursion (λ other. place_eq place other ≡ false) (map (λ row. row.0) (all_rows_of project next all))) p.0 p.1.units
      (each_one (λ unit. AllByRecursion (λ other. place_eq (p.0, unit.key) other ≡ false) (map (λ row. row.0) (all_rows_of project next all)))
      (λ unit. place_apart (p.0, unit.key) (map (λ d. d.0) es) all z.1 others) p.1.units))))

-- a template's plans
pub plans_apart : KeepsEach → (project : Project) (next : List Entry) (all : List LanguagePlan) → plans project next ≡ Some all → HasUniqueKeys next → IsProject project
    → IsDistinct place_eq (map (λ e. e.0) (flat_map placed all))
plans_apart keeps project next all planned unique rules =
    all_distinct project next (maps.entries project.headers) all (maps.entries_sorted project.headers) (zipped project next (languages project) all planned)
    (each_one (PlanHas project next (λ lang plan. IsDistinct same_key (keys_of plan.units)))
    (λ lang plan is. plan_keys project.template (units_of project lang) next plan.units plan.stays (keeps project.template (units_of project lang) next (rule_at project lang) plan is)
    (own_distinct lang (maps.entries project.units) (maps.entries_sorted project.units) at_keys) unique) (languages project))
  where
    at_keys : AllByRecursion (λ e. e.1.key ≡ e.0.1) (maps.entries project.units)
    at_keys = all_rows place_cmp place_total (λ place unit. unit.key ≡ place.1) (maps.entries project.units) (maps.entries_sorted project.units)
        (λ place unit found. (rules.placed place unit (maps.get-entries project.units place ∙ found)).0)

-- a language's first units
pub load_apart : (template text : List Entry) (lang : Text) (plan : Plan) → HasUniqueKeys template → HasUniqueKeys text
    → map (λ unit. unit.key) plan.units ≡ map key_of template ++ map key_of (leftovers template text) → IsDistinct place_eq (map (λ e. e.0) (placed (lang, plan)))
load_apart template text lang plan unique own is = rows_distinct lang plan.units (load_keys template text plan.units unique own is)
