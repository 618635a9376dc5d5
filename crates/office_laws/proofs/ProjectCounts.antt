-- What a policy, a template and a language make of the counts of each language of a project.
use Rattle.std.proofs.Common.{◌≡◌, ◌+◌, List, [], ◌∷◌, ◌++◌, Bool, true, false, cond, filter, map, option_map, Option, Some, None, is_some, refl, sym, ◌∙◌, ap, subst, arith}
use Rattle.std.specs.Prelude.{fold, flat_map}
use Rattle.std.specs.List.{AllByRecursion, IsDistinct}
use Rattle.std.specs.Ordering.{eq_by_cmp, is_eq}
use Rattle.std.specs.Cmp.{eq_by_cmp_equiv, tied_itself}
use Rattle.std.specs.Cmp.Lexicographic.{same_text, nat_list_eq_equiv}
use Rattle.std.specs.FinMap as maps
use Rattle.po_text.specs.declared.entry.Entry.{Entry}
use Rattle.po_text.specs.Texts.{Text, text_cmp, text_eq}
use Rattle.units.specs.Changes.{unapproved, with_policy}
use Rattle.units.specs.Project.{Project, Place, place_cmp, place_eq, entry_of, units_of}
use Rattle.units.specs.Projects.{IsProject}
use Rattle.units.specs.Orders.{place_total, place_IsAntisymmetric, text_total, text_IsAntisymmetric}
use Rattle.units.specs.Units.{is_read_only}
use Rattle.units.specs.declared.unit.Key.{Key}
use Rattle.units.specs.declared.unit.Policy.{Policy}
use Rattle.units.specs.declared.unit.Unit.{Unit}
use Rattle.units.specs.declared.unit.UnitState.{UnitState}
use Rattle.units.specs.declared.unit.UnitState.TheVariants.{Untranslated, NeedsEditing, Translated, Approved}
use Rattle.template_update.specs.declared.plans.Plan.{Plan}
use Rattle.template_update.proofs.Found.{equal}
use Rattle.template_update.proofs.Listed.{clash}
use Rattle.office_specification.specs.ProjectActs.{LanguagePlan, placed, with_language, with_template}
use Rattle.office_specification.proofs.rules.Replaced.{all_rows}
use Rattle.office_specification.specs.declared.tally.Tally.{Tally}
use Rattle.office_specification.specs.Tally.{counts_in, counts_of}
use Rattle.office_specification.specs.Counting.{plus, none_counted}
use Rattle.office_specification.proofs.tallies.Countings.{plus_assoc, none_and}
use Rattle.office_laws.specs.Tallies.{counted, counts_under, planned}
use Rattle.office_laws.proofs.Moves.{plus_comm, total_in, one_in, next_in}
use Rattle.office_laws.proofs.Totals.{total-insert, AreApart, apart-sorted, total-made}

-- ---- a policy

abbrev without_approved : Tally → Tally
without_approved counts = record counts { approved = 0; translated = counts.translated + counts.approved }

without-plus : (a b : Tally) → without_approved (plus a b) ≡ plus (without_approved a) (without_approved b)
without-plus a b = λ i. record (plus a b) { approved = 0; translated = moved i }
  where
    moved : (a.translated + b.translated) + (a.approved + b.approved) ≡ (a.translated + a.approved) + (b.translated + b.approved)
    moved = omega arith

-- a unit that is approved no more counts as translated
turned_counted : (template : List Entry) (unit : Unit) → counted template (unapproved unit) ≡ without_approved (counted template unit)
turned_counted template unit = by unit.obsolete (is_read_only (entry_of template unit.key)) unit.state refl
  where
    with_parts : Bool → UnitState → Unit
    with_parts obsolete state = record unit { obsolete = obsolete; state = state }

    by : (obsolete read_only : Bool) (state : UnitState) → is_read_only (entry_of template unit.key) ≡ read_only
        → counted template (unapproved (with_parts obsolete state)) ≡ without_approved (counted template (with_parts obsolete state))
    by true read_only Untranslated is = refl
    by true read_only NeedsEditing is = refl
    by true read_only Translated is = refl
    by true read_only Approved is = refl
    by false true Untranslated is = rw is refl
    by false true NeedsEditing is = rw is refl
    by false true Translated is = rw is refl
    by false true Approved is = rw is refl
    by false false Untranslated is = rw is refl
    by false false NeedsEditing is = rw is refl
    by false false Translated is = rw is refl
    by false false Approved is = rw is refl

abbrev turned_rows : List (Place × Unit) → List (Place × Unit)
turned_rows es = map (λ e. (e.0, unapproved e.1)) es

total_turned : (template : List Entry) (lang : Text) (es : List (Place × Unit)) → total_in template lang (turned_rows es) ≡ without_approved (total_in template lang es)
total_turned template lang [] = refl
total_turned template lang (e ∷ es) =
    next_in template lang (e.0, unapproved e.1) (turned_rows es)
    ∙ ((λ i. plus (one (text_eq lang e.0.0) i) (total_turned template lang es i))
    ∙ (sym (without-plus (one_in template lang e) (total_in template lang es)) ∙ ap without_approved (sym (next_in template lang e es))))
  where
    one : (b : Bool) → cond b (counted template (unapproved e.1)) none_counted ≡ without_approved (cond b (counted template e.1) none_counted)
    one true = turned_counted template e.1
    one false = refl

find_turned : (es : List (Place × Unit)) (q : Place) → maps.find place_cmp q es ≡ None → maps.find place_cmp q (turned_rows es) ≡ None
find_turned [] q none = refl
find_turned (e ∷ es) q none = by (eq_by_cmp place_cmp q e.0) (find_turned es q) none
  where
    by : (t : Bool) → (maps.find place_cmp q es ≡ None → maps.find place_cmp q (turned_rows es) ≡ None) → cond t (Some e.1) (maps.find place_cmp q es) ≡ None
        → cond t (Some (unapproved e.1)) (maps.find place_cmp q (turned_rows es)) ≡ None
    by true rest none = absurd (let no : Some e.1 ≡ None = none in cc)
    by false rest none = rest none

module _ (template : List Entry) (lang : Text) where
  Apart : List (Place × Unit) → Type 0
  Apart es = AreApart place_cmp place_total place_IsAntisymmetric plus plus_assoc plus_comm (one_in template lang) (total_in template lang) (next_in template lang) es

  turned_apart : (es : List (Place × Unit)) → Apart es → Apart (turned_rows es)
  unfolding Apart
  turned_apart [] apart = tt
  turned_apart (e ∷ es) apart = (find_turned es e.0 apart.0, turned_apart es apart.1)

  -- what the units of a map made of such entries count
  made : (es : List (Place × Unit)) → Apart es → total_in template lang (maps.entries (maps.from_entries {R = place_cmp} es)) ≡ total_in template lang es
  unfolding Apart
  made es apart = total-made place_cmp place_total place_IsAntisymmetric plus plus_assoc plus_comm (one_in template lang) (total_in template lang) (next_in template lang) es apart

  sorted_apart : (m : maps.FinMap place_cmp Unit) → Apart (maps.entries m)
  unfolding Apart
  sorted_apart m = apart-sorted place_cmp place_total place_IsAntisymmetric plus plus_assoc plus_comm (one_in template lang) (total_in template lang) (next_in template lang) (maps.entries m) (maps.entries_sorted m)

module _ (project : Project) (policy : Policy) (lang : Text) where
  abbrev before : List (Place × Unit)
  before = maps.entries project.units

  total : (reviews : Bool) → total_in project.template lang (maps.entries (maps.from_entries {R = place_cmp} (cond reviews before (turned_rows before))))
      ≡ cond reviews (total_in project.template lang before) (without_approved (total_in project.template lang before))
  total true = made project.template lang before (sorted_apart project.template lang project.units)
  total false =
      made project.template lang (turned_rows before) (turned_apart project.template lang before (sorted_apart project.template lang project.units))
      ∙ total_turned project.template lang before

  pub policy_counts : counts_of (with_policy project policy) lang ≡ option_map (counts_under policy) (counts_of project lang)
  policy_counts = by (maps.get project.headers lang)
    where
      by : (header : Option Entry) → option_map (λ _. counts_in project.template (units_of (with_policy project policy) lang)) header
          ≡ option_map (counts_under policy) (option_map (λ _. counts_in project.template (units_of project lang)) header)
      by None = refl
      by (Some header) = ap Some (total policy.reviews)

-- ---- a new template

abbrev in_lang : Text → List (Place × Unit) → List (Place × Unit)
in_lang lang es = filter (λ e. text_eq lang e.0.0) es

listed_rows : (lang other : Text) (units : List Unit) → map (λ e. e.1) (in_lang lang (map (λ (unit : Unit). ((other, unit.key), unit)) units)) ≡ cond (text_eq lang other) units []
listed_rows lang other [] = none (text_eq lang other)
  where
    none : (b : Bool) → [] ≡ cond {A = List Unit} b [] []
    none true = refl
    none false = refl
listed_rows lang other (unit ∷ units) = by (text_eq lang other) (listed_rows lang other units)
  where
    by : (b : Bool) → map (λ e. e.1) (in_lang lang (map (λ (u : Unit). ((other, u.key), u)) units)) ≡ cond b units [] →
        map (λ (e : Place × Unit). e.1) (cond b (((other, unit.key), unit) ∷ in_lang lang (map (λ (u : Unit). ((other, u.key), u)) units)) (in_lang lang (map (λ (u : Unit). ((other, u.key), u)) units)))
        ≡ cond b (unit ∷ units) []
    by true rest = ap (λ us. unit ∷ us) rest
    by false rest = rest

listed : (lang : Text) (p : LanguagePlan) → map (λ e. e.1) (in_lang lang (placed p)) ≡ cond (text_eq lang p.0) p.1.units []
listed lang p = listed_rows lang p.0 p.1.units

joined : (lang : Text) (xs ys : List (Place × Unit)) → map (λ e. e.1) (filter (λ e. text_eq lang e.0.0) (xs ++ ys))
    ≡ map (λ e. e.1) (filter (λ e. text_eq lang e.0.0) xs) ++ map (λ e. e.1) (filter (λ e. text_eq lang e.0.0) ys)
joined lang [] ys = refl
joined lang (x ∷ xs) ys = by (text_eq lang x.0.0) (joined lang xs ys)
  where
    by : (b : Bool) → map (λ e. e.1) (filter (λ e. text_eq lang e.0.0) (xs ++ ys)) ≡ map (λ e. e.1) (filter (λ e. text_eq lang e.0.0) xs) ++ map (λ e. e.1) (filter (λ e. text_eq lang e.0.0) ys) →
        map (λ e. e.1) (cond b (x ∷ filter (λ e. text_eq lang e.0.0) (xs ++ ys)) (filter (λ e. text_eq lang e.0.0) (xs ++ ys)))
        ≡ map (λ e. e.1) (cond b (x ∷ filter (λ e. text_eq lang e.0.0) xs) (filter (λ e. text_eq lang e.0.0) xs)) ++ map (λ e. e.1) (filter (λ e. text_eq lang e.0.0) ys)
    by true rest = ap (λ us. x.1 ∷ us) rest
    by false rest = rest

listed_all : (lang : Text) (plans : List LanguagePlan) → map (λ e. e.1) (filter (λ e. text_eq lang e.0.0) (flat_map placed plans)) ≡ planned lang plans
listed_all lang [] = refl
listed_all lang (p ∷ plans) = joined lang (placed p) (flat_map placed plans) ∙ (λ i. listed lang p i ++ listed_all lang plans i)

-- entries whose places are apart
absent : (q : Place) (es : List (Place × Unit)) → AllByRecursion (λ y. place_eq q y ≡ false) (map (λ e. e.0) es) → maps.find place_cmp q es ≡ None
absent q [] apart = refl
absent q (e ∷ es) apart = ap (λ b. cond b (Some e.1) (maps.find place_cmp q es)) apart.0 ∙ absent q es apart.1

distinct_apart : (template : List Entry) (lang : Text) (es : List (Place × Unit)) → IsDistinct place_eq (map (λ e. e.0) es) → Apart template lang es
unfolding Apart IsDistinct
distinct_apart template lang [] distinct = tt
distinct_apart template lang (e ∷ es) distinct = (absent e.0 es distinct.0, distinct_apart template lang es distinct.1)

pub template_counts : (project : Project) (template : List Entry) (plans : List LanguagePlan) (lang : Text) → IsDistinct place_eq (map (λ e. e.0) (flat_map placed plans))
    → counts_of (with_template project template plans) lang ≡ option_map (λ _. counts_in template (planned lang plans)) (maps.get project.headers lang)
template_counts project template plans lang distinct =
    ap (λ counts. option_map (λ _. counts) (maps.get project.headers lang))
    (made template lang (flat_map placed plans) (distinct_apart template lang (flat_map placed plans) distinct) ∙ ap (counts_in template) (listed_all lang plans))

-- ---- a new language

equal_texts : (a b : Text) → eq_by_cmp text_cmp a b ≡ true → a ≡ b
equal_texts a b tie = text_IsAntisymmetric a b (equal (text_cmp a b) tie)

-- no row's place is taken, and no two rows have one
AreNew : maps.FinMap place_cmp Unit → List (Place × Unit) → Type 0
AreNew m es = AllByRecursion (λ e. maps.get m e.0 ≡ None) es

still_new : (m : maps.FinMap place_cmp Unit) (e : Place × Unit) (es : List (Place × Unit)) → AllByRecursion (λ y. place_eq e.0 y ≡ false) (map (λ d. d.0) es) → AreNew m es → AreNew (maps.insert m e.0 e.1) es
unfolding AreNew
still_new m e [] apart new = tt
still_new m e (d ∷ es) apart new = (
  maps.get-insert place_total m e.0 e.1 d.0
      ∙ ap (λ b. cond b (Some e.1) (maps.get m d.0)) ((eq_by_cmp_equiv place_total).symm d.0 e.0 ∙ apart.0)
      ∙ new.0,
  still_new m e es apart.1 new.1,
)

module _ (template : List Entry) (lang : Text) where
  put_all : (m : maps.FinMap place_cmp Unit) (es : List (Place × Unit)) → AreNew m es → IsDistinct place_eq (map (λ e. e.0) es)
      → total_in template lang (maps.entries (fold (λ n e. maps.insert n e.0 e.1) m es)) ≡ plus (total_in template lang es) (total_in template lang (maps.entries m))
  unfolding AreNew IsDistinct
  put_all m [] new distinct = sym (none_and (total_in template lang (maps.entries m)))
  put_all m (e ∷ es) new distinct =
      put_all (maps.insert m e.0 e.1) es (still_new m e es distinct.0 new.1) distinct.1
      ∙ (ap (plus (total_in template lang es)) (total-insert place_cmp place_total place_IsAntisymmetric plus plus_assoc plus_comm (one_in template lang) (total_in template lang) (next_in template lang) m e.0 e.1 new.0)
      ∙ (sym (plus_assoc (total_in template lang es) (one_in template lang e) (total_in template lang (maps.entries m)))
      ∙ ap (λ c. plus c (total_in template lang (maps.entries m))) (plus_comm (total_in template lang es) (one_in template lang e) ∙ sym (next_in template lang e es))))

  none_in : (es : List (Place × Unit)) → AllByRecursion (λ e. text_eq lang e.0.0 ≡ false) es → total_in template lang es ≡ none_counted
  none_in [] none = refl
  none_in (e ∷ es) none =
      next_in template lang e es
      ∙ ((λ i. plus (cond (none.0 i) (counted template e.1) none_counted) (none_in es none.1 i)) ∙ none_and none_counted)

module _ (project : Project) (rules : IsProject project) (lang : Text) (header : Entry) (plan : Plan) (new : maps.contains_key project.headers lang ≡ false) (distinct : IsDistinct place_eq (map (λ e. e.0) (placed (lang, plan)))) where
  untaken : (o : Option Unit) (key : Key) → maps.get project.units (lang, key) ≡ o → o ≡ None
  untaken None key is = refl
  untaken (Some unit) key is = clash (maps.contains_key project.headers lang) new (rules.placed (lang, key) unit is).1

  all_new : (units : List Unit) → AreNew project.units (map (λ unit. ((lang, unit.key), unit)) units)
  unfolding AreNew
  all_new [] = tt
  all_new (unit ∷ units) = (untaken (maps.get project.units (lang, unit.key)) unit.key refl, all_new units)

  -- what another language's rows and this one's count
  total_after : (other : Text) → total_in project.template other (maps.entries (with_language project lang header plan).units)
      ≡ plus (counts_in project.template (cond (text_eq other lang) plan.units [])) (total_in project.template other (maps.entries project.units))
  total_after other =
      put_all project.template other project.units (placed (lang, plan)) (all_new plan.units) distinct
      ∙ ap (λ us. plus (counts_in project.template us) (total_in project.template other (maps.entries project.units))) (listed other (lang, plan))

  is_away : (place : Place) (unit : Unit) → maps.get project.units place ≡ Some unit → text_eq lang place.0 ≡ false
  is_away place unit there = by (text_eq lang place.0) refl
    where
      by : (b : Bool) → text_eq lang place.0 ≡ b → b ≡ false
      by false is = refl
      by true is = clash (maps.contains_key project.headers lang) new (subst (λ l. is_some (maps.get project.headers l) ≡ true) (sym (same_text lang place.0 (sym is))) (rules.placed place unit there).1)

  none_before : total_in project.template lang (maps.entries project.units) ≡ none_counted
  none_before = none_in project.template lang (maps.entries project.units)
      (all_rows place_cmp place_total (λ place unit. text_eq lang place.0 ≡ false) (maps.entries project.units) (maps.entries_sorted project.units)
      (λ place unit found. is_away place unit (maps.get-entries project.units place ∙ found)))

  pub language_counts : counts_of (with_language project lang header plan) lang ≡ Some (counts_in project.template plan.units)
  language_counts =
      ap (λ h. option_map (λ _. total_in project.template lang (maps.entries (with_language project lang header plan).units)) h)
      (maps.get-insert text_total project.headers lang header lang ∙ ap (λ r. cond (is_eq r) (Some header) (maps.get project.headers lang)) (tied_itself text_total lang))
      ∙ ap Some (total_after lang
      ∙ ((λ i. plus (counts_in project.template (cond (nat_list_eq_equiv.refl lang i) plan.units [])) (none_before i))
      ∙ (plus_comm (counts_in project.template plan.units) none_counted ∙ none_and (counts_in project.template plan.units))))

  pub other_counts : (other : Text) → text_eq other lang ≡ false → counts_of (with_language project lang header plan) other ≡ counts_of project other
  other_counts other apart =
      ap (λ h. option_map (λ _. total_in project.template other (maps.entries (with_language project lang header plan).units)) h)
      (maps.get-insert text_total project.headers lang header other ∙ ap (λ b. cond b (Some header) (maps.get project.headers other)) (differ (eq_by_cmp text_cmp other lang) refl))
      ∙ ap (λ c. option_map (λ _. c) (maps.get project.headers other)) (total_after other
      ∙ (ap (λ b. plus (counts_in project.template (cond b plan.units [])) (total_in project.template other (maps.entries project.units))) apart
      ∙ none_and (total_in project.template other (maps.entries project.units))))
    where
      differ : (b : Bool) → eq_by_cmp text_cmp other lang ≡ b → b ≡ false
      differ false is = refl
      differ true is = clash (text_eq other lang) apart (subst (λ l. text_eq other l ≡ true) (equal_texts other lang is) (nat_list_eq_equiv.refl other))
