-- A new template keeps the rules of a project.
use Rattle.std.proofs.Common.{◌≡◌, ◌≤◌, List, [], ◌∷◌, Bool, true, false, ◌||◌, Option, Some, None, Result, Ok, Err, is_some, inl, inr, refl, sym, ◌∙◌, ap, subst, map, All, arith, lit≤}
use Rattle.std.specs.Prelude.{◌⊎◌, T, IsSome, option_map, option_and_then, flat_map, filter}
use Rattle.std.specs.Option.{option_map_or}
use Rattle.std.specs.List.{AllByRecursion, AllZip, list_any}
use Rattle.std.specs.declared.cmp.Ordering.{Ordering}
use Rattle.std.specs.declared.cmp.Ordering.TheVariants.{Less, Equal, Greater}
use Rattle.std.specs.Ordering.{is_lt, eq_by_cmp}
use Rattle.std.specs.Cmp.{tied_itself}
use Rattle.std.specs.Cmp.Lexicographic.{same_text}
use Rattle.std.specs.FinMap as maps
use Rattle.std.specs.FinMap.Entries.{below_all}
use Rattle.std.proofs.lemmas.List.Folds.{list_any-append}
use Rattle.po_text.specs.declared.entry.Entry.{Entry}
use Rattle.po_read.specs.Faults.{Fault}
use Rattle.po_read.specs.Plain.{reading_of}
use Rattle.po_read.specs.Spells.{limits}
use Rattle.po_text.specs.Texts.{Text, text_cmp, text_eq}
use Rattle.po_text.specs.Valid.{IsValid, HasHeaderKey}
use Rattle.units.specs.Limits.{unit_limit}
use Rattle.units.specs.Units.{key_cmp, key_of}
use Rattle.units.specs.Project.{Project, Place, place_cmp, entry_of, units_of, languages}
use Rattle.units.specs.Projects.{IsProject, IsTemplateEntry}
use Rattle.units.specs.Rules.{by_result, rule_at}
use Rattle.units.specs.declared.unit.Key.{Key}
use Rattle.units.specs.declared.unit.Unit.{Unit}
use Rattle.units.specs.declared.unit.Suggestion.{Suggestion}
use Rattle.units.specs.declared.unit.Refusal.TheVariants.{PoText, PastLimit}
use Rattle.units.specs.Orders.{text_total, text_IsAntisymmetric, place_total}
use Rattle.template_update.specs.declared.plans.Plan.{Plan}
use Rattle.template_update.specs.Templates.{template_of}
use Rattle.template_update.specs.Units.{new_unit, has_revision}
use Rattle.template_update.specs.Updates.{updated_unit, plan_of}
use Rattle.template_update.proofs.Listed.{all_imply, all_from, all_joined, all_mapped, all_kept, found_each}
use Rattle.template_update.proofs.Found.{equal}
use Rattle.template_update.proofs.PlanRules.{IsCounted, IsUpdate, updates, new_rules, plan_all, plan_few, plan_covers}
use Rattle.template_update.proofs.TemplateLemmas.{valid_template, plain_entries}
use Rattle.replies.specs.Bodies.{Stepped, refuse, refused_with, reply, po_fault_fields, template_fields}
use Rattle.office_specification.specs.ProjectActs.{LanguagePlan, all_some, plan_at, plans, with_template, template_step}
use Rattle.office_specification.proofs.rules.Counted.{rule_counted}
use Rattle.office_specification.proofs.rules.Numbers.{Part, part-self, part-none}
use Rattle.office_specification.proofs.rules.Numbering.{AreFewer, numbers_at}
use Rattle.office_specification.proofs.rules.PlanRows.{read_valid, template_named, rows_in, is_at, has-rows, tally-rows, all-rows}
use Rattle.office_specification.proofs.rules.Rebuilt.{IsPlaced, placed_of, HasEach, HasFew, project_from, at_lang, units-tally, equal_places, IsKept, kept_refused, kept_done}
use Rattle.office_specification.proofs.rules.Replaced.{left_true, right_true, all_rows}
use Rattle.office_specification.proofs.rules.Tallies.{tally, tally-append, tally-made, found_row, some_row}
use Rattle.office_specification.proofs.rules.UnitRules.{numbers_of}

-- ---- the plans of all languages

abbrev pair : Text → Plan → LanguagePlan
pair lang plan = (lang, plan)

module _ (project : Project) (next : List Entry) where
  pub record IsPlanOf (lang : Text) (p : LanguagePlan) : Type 0 where
    pub same : p.0 ≡ lang
    pub plan : plan_of project.template (units_of project lang) next (rule_at project lang) ≡ Some p.1

  pub zipped : (langs : List Text) (all : List LanguagePlan) → all_some (map (plan_at project next) langs) ≡ Some all → AllZip IsPlanOf langs all
  zipped [] [] e = tt
  zipped [] (p ∷ all) e = cc
  zipped (lang ∷ langs) all e = by (zipped langs) (plan_of project.template (units_of project lang) next (rule_at project lang)) (all_some (map (plan_at project next) langs)) refl refl e
    where
      made : (plan : Plan) (ps qs : List LanguagePlan) → plan_of project.template (units_of project lang) next (rule_at project lang) ≡ Some plan → AllZip IsPlanOf langs ps → pair lang plan ∷ ps ≡ qs →
          AllZip IsPlanOf (lang ∷ langs) qs
      made plan ps qs is rest same = subst (λ (all : List LanguagePlan). AllZip IsPlanOf (lang ∷ langs) all) same (record { same = refl; plan = is }, rest)

      by : ((ps : List LanguagePlan) → all_some (map (plan_at project next) langs) ≡ Some ps → AllZip IsPlanOf langs ps) → (o : Option Plan) (rest : Option (List LanguagePlan)) → plan_of project.template (units_of project lang) next (rule_at project lang) ≡ o → all_some (map (plan_at project next) langs) ≡ rest →
          option_and_then (λ x. option_map (λ xs. x ∷ xs) rest) (option_map (pair lang) o) ≡ Some all → AllZip IsPlanOf (lang ∷ langs) all
      by later None rest is more e = cc
      by later (Some plan) None is more e = cc
      by later (Some plan) (Some ps) is more e =
          let same : pair lang plan ∷ ps ≡ all = cc in
          made plan ps all is (later ps more) same

  abbrev pub rows_of : LanguagePlan → List (Place × Unit)
  rows_of p = rows_in p.0 p.1.units

  abbrev pub all_rows_of : List LanguagePlan → List (Place × Unit)
  all_rows_of all = flat_map rows_of all

  -- what holds of each row
  pub each_row : (P : Place → Unit → Type 0) (langs : List Text) (all : List LanguagePlan) → AllZip IsPlanOf langs all →
      AllByRecursion (λ lang. (plan : Plan) → plan_of project.template (units_of project lang) next (rule_at project lang) ≡ Some plan → AllByRecursion (λ unit. P (lang, unit.key) unit) plan.units) langs →
      AllByRecursion (λ e. P e.0 e.1) (all_rows_of all)
  each_row P [] [] z h = tt
  each_row P [] (p ∷ all) z h = absurd z
  each_row P (lang ∷ langs) [] z h = absurd z
  each_row P (lang ∷ langs) (p ∷ all) z h =
      all_joined (λ e. P e.0 e.1) (rows_of p) (all_rows_of all)
      (subst (λ l. AllByRecursion (λ e. P e.0 e.1) (rows_in l p.1.units)) (sym z.0.same) (all-rows P lang p.1.units (h.0 p.1 z.0.plan))) (each_row P langs all z.1 h.1)

  or_true : (b : Bool) → (b || true) ≡ true
  or_true true = refl
  or_true false = refl

  -- a key that each plan of a language covers has a row in it
  pub has_row : (lang : Text) (key : Key) → ((l : Text) (plan : Plan) → lang ≡ l → plan_of project.template (units_of project l) next (rule_at project l) ≡ Some plan →
      list_any (λ unit. eq_by_cmp key_cmp key unit.key) plan.units ≡ true) → (langs : List Text) (all : List LanguagePlan) → AllZip IsPlanOf langs all → list_any (eq_by_cmp text_cmp lang) langs ≡ true →
      list_any (is_at (lang, key)) (all_rows_of all) ≡ true
  has_row lang key covers [] [] z there = cc
  has_row lang key covers [] (p ∷ all) z there = absurd z
  has_row lang key covers (l ∷ langs) [] z there = absurd z
  has_row lang key covers (l ∷ langs) (p ∷ all) z there =
      list_any-append (is_at (lang, key)) (rows_of p) (all_rows_of all) ∙ by (has_row lang key covers langs all z.1) (eq_by_cmp text_cmp lang l) refl there
    where
      by : (list_any (eq_by_cmp text_cmp lang) langs ≡ true → list_any (is_at (lang, key)) (all_rows_of all) ≡ true) → (t : Bool) → eq_by_cmp text_cmp lang l ≡ t → (t || list_any (eq_by_cmp text_cmp lang) langs) ≡ true →
          (list_any (is_at (lang, key)) (rows_of p) || list_any (is_at (lang, key)) (all_rows_of all)) ≡ true
      by later true t there =
          let is : lang ≡ l = text_IsAntisymmetric lang l (equal (text_cmp lang l) t) in
          let own : list_any (is_at (lang, key)) (rows_of p) ≡ true =
          ap (λ k. list_any (is_at (lang, key)) (rows_in k p.1.units)) (z.0.same ∙ sym is) ∙ (has-rows lang key p.1.units ∙ covers l p.1 is z.0.plan) in
          ap (λ b. b || list_any (is_at (lang, key)) (all_rows_of all)) own
      by later false t there =
          ap (λ b. list_any (is_at (lang, key)) (rows_of p) || b) (later there) ∙ or_true _

  -- ---- how many rows a language has

  none_at : (langs : List Text) (all : List LanguagePlan) → AllZip IsPlanOf langs all → (lang : Text) → AllByRecursion (λ l. text_eq lang l ≡ false) langs →
      tally place_cmp place_total (at_lang lang) (all_rows_of all) ≡ 0
  none_at [] [] z lang h = refl
  none_at [] (p ∷ all) z lang h = absurd z
  none_at (l ∷ langs) [] z lang h = absurd z
  none_at (l ∷ langs) (p ∷ all) z lang h =
      let a = tally-append place_cmp place_total (at_lang lang) (rows_of p) (all_rows_of all) in
      let b = tally-rows p.0 lang false (ap (text_eq lang) z.0.same ∙ h.0) p.1.units in
      let c = none_at langs all z.1 lang h.1 in
      omega (arith, a, b, c)

  not_less : (r : Ordering) → T (is_lt r) → r ≡ Equal → ⊥
  not_less Less h e = cc
  not_less Equal h e = absurd h
  not_less Greater h e = absurd h

  -- those above a language are other ones
  pub above : (lang l : Text) (es : List (Text × Entry)) → lang ≡ l → T (below_all text_cmp l es) → AllByRecursion (λ k. text_eq lang k ≡ false) (map (λ e. e.0) es)
  above lang l [] same h = tt
  above lang l (e ∷ es) same h = (by (text_eq lang e.0) refl, above lang l es same (right_true (is_lt (text_cmp l e.0)) (below_all text_cmp l es) h))
    where
      by : (t : Bool) → text_eq lang e.0 ≡ t → t ≡ false
      by true t =
          let one : l ≡ e.0 = sym same ∙ same_text lang e.0 (sym t) in
          absurd (not_less (text_cmp l e.0) (left_true (is_lt (text_cmp l e.0)) (below_all text_cmp l es) h) (ap (text_cmp l) (sym one) ∙ tied_itself text_total l))
      by false t = refl

  few_at : (lang : Text) (es : List (Text × Entry)) (all : List LanguagePlan) → T (maps.is_sorted text_cmp es) → AllZip IsPlanOf (map (λ e. e.0) es) all →
      tally place_cmp place_total (at_lang lang) (all_rows_of all) ≤ unit_limit
  few_at lang [] [] s z = lit≤ tt
  few_at lang [] (p ∷ all) s z = absurd z
  few_at lang (e ∷ es) [] s z = absurd z
  few_at lang (e ∷ es) (p ∷ all) s z = by (few_at lang es all (right_true (below_all text_cmp e.0 es) (maps.is_sorted text_cmp es) s) z.1) (text_eq lang e.0) refl
    where
      by : tally place_cmp place_total (at_lang lang) (all_rows_of all) ≤ unit_limit → (t : Bool) → text_eq lang e.0 ≡ t → tally place_cmp place_total (at_lang lang) (all_rows_of (p ∷ all)) ≤ unit_limit
      by later true t =
          let a = tally-append place_cmp place_total (at_lang lang) (rows_of p) (all_rows_of all) in
          let b = tally-rows p.0 lang true (ap (text_eq lang) z.0.same ∙ t) p.1.units in
          let c = none_at (map (λ f. f.0) es) all z.1 lang (above lang e.0 es (same_text lang e.0 (sym t)) (left_true (below_all text_cmp e.0 es) (maps.is_sorted text_cmp es) s)) in
          let d = plan_few project.template (units_of project e.0) next (rule_at project e.0) p.1 z.0.plan in
          omega (arith, a, b, c, d)
      by later false t =
          let a = tally-append place_cmp place_total (at_lang lang) (rows_of p) (all_rows_of all) in
          let b = tally-rows p.0 lang false (ap (text_eq lang) z.0.same ∙ t) p.1.units in
          omega (arith, a, b, later)

-- ---- the project with the template

module _ (project : Project) (rules : IsProject project) (next : List Entry) (valid : IsValid next) (plain : All IsTemplateEntry next) (all : List LanguagePlan)
    (planned : plans project next ≡ Some all) where
  abbrev after : Project
  after = with_template project next all

  abbrev rows : List (Place × Unit)
  rows = all_rows_of project next all

  record IsRow (place : Place) (unit : Unit) : Type 0 where
    stands : IsPlaced after place unit
    numbers : Part (numbers_of unit) (numbers_at project.units place)

  -- ---- a unit that was there

  old_row : (lang : Text) → IsCounted (rule_at project lang) → (unit : Unit) → maps.get project.units (lang, unit.key) ≡ Some unit →
      has_revision (updated_unit project.template next (rule_at project lang) unit) ≡ true →
      IsRow (lang, (updated_unit project.template next (rule_at project lang) unit).key) (updated_unit project.template next (rule_at project lang) unit)
  unfolding rule_at
  old_row lang counted unit there limit =
      let is = placed_of project rules (lang, unit.key) unit there in
      let made : Unit = updated_unit project.template next (rule_at project lang) unit in
      let u : IsUpdate (rule_at project lang) (entry_of next unit.key) unit made =
      updates (rule_at project lang) (entry_of project.template unit.key) (entry_of next unit.key) unit counted is.rules limit in
      record {
        stands = record {
          key = refl;
          language = is.language;
          exact = λ e. subst (λ k. IsSome (entry_of next k)) (sym u.key) (u.exact e);
          complete = λ entry h. u.complete entry (ap (entry_of next) (sym u.key) ∙ h);
          rules = u.rules;
          reviewed = λ off. u.approved (is.reviewed off);
        };
        numbers = subst (λ k. Part (numbers_of made) (numbers_at project.units (lang, k))) (sym u.key)
            (subst (λ (o : Option Unit). Part (numbers_of made) (option_map_or numbers_of o [])) (sym there) (left made u.suggestions));
      }
    where
      left : (made : Unit) → (made.suggestions ≡ []) ⊎ (made.suggestions ≡ unit.suggestions) → Part (numbers_of made) (numbers_of unit)
      left made (inl none) = subst (λ (ss : List Suggestion). Part (map (λ s. s.number) ss) (numbers_of unit)) (sym none) (part-none _)
      left made (inr same) = subst (λ (ss : List Suggestion). Part (map (λ s. s.number) ss) (numbers_of unit)) (sym same) (part-self (numbers_of unit))

  -- ---- a unit of a new key

  new_row : (lang : Text) → IsSome (maps.get project.headers lang) → (entry : Entry) → (entry_of next (key_of entry) ≡ Some entry) × (HasHeaderKey entry → ⊥) →
      IsRow (lang, key_of entry) (new_unit (rule_at project lang) entry)
  unfolding rule_at
  new_row lang language entry own = record {
    stands = record {
      key = refl;
      language = language;
      exact = λ e. ap is_some own.0;
      complete = λ other h.
          let both : Some entry ≡ Some other = sym own.0 ∙ h in
          let one : entry ≡ other = cc in
          (refl, ap (λ (e : Entry). e.plural) one);
      rules = new_rules (rule_at project lang) entry own.1;
      reviewed = λ off. refl;
    };
    numbers = part-none _;
  }

  -- ---- all of them

  -- the units of a language are at their keys
  at_keys : (lang : Text) → AllByRecursion (λ unit. maps.get project.units (lang, unit.key) ≡ Some unit) (units_of project lang)
  at_keys lang =
      all_mapped (λ (unit : Unit). maps.get project.units (lang, unit.key) ≡ Some unit) (λ (e : Place × Unit). e.1) (filter (λ e. text_eq lang e.0.0) (maps.entries project.units))
      (all_kept (λ (e : Place × Unit). text_eq lang e.0.0) (λ e. maps.get project.units e.0 ≡ Some e.1) (λ e. maps.get project.units (lang, e.1.key) ≡ Some e.1) at_key (maps.entries project.units)
      (all_rows place_cmp place_total (λ place unit. maps.get project.units place ≡ Some unit) (maps.entries project.units) (maps.entries_sorted project.units)
      (λ place unit found. maps.get-entries project.units place ∙ found)))
    where
      at_key : (e : Place × Unit) → text_eq lang e.0.0 ≡ true → maps.get project.units e.0 ≡ Some e.1 → maps.get project.units (lang, e.1.key) ≡ Some e.1
      at_key e t there =
          let is = same_text lang e.0.0 (sym t) in
          let own = (rules.placed e.0 e.1 there).0 in
          let place : (lang, e.1.key) ≡ e.0 = λ i. (is i, own i) in
          ap (maps.get project.units) place ∙ there

  own_entries : AllByRecursion (λ e. (entry_of next (key_of e) ≡ Some e) × (HasHeaderKey e → ⊥)) next
  own_entries = all_from (λ e. entry_of next (key_of e) ≡ Some e) (λ e. HasHeaderKey e → ⊥) (λ e. (entry_of next (key_of e) ≡ Some e) × (HasHeaderKey e → ⊥)) (λ e own unlike. (own, unlike)) next
      (found_each next valid.unique) (template_named next valid plain)

  of_language : (lang : Text) (header : Entry) → maps.get project.headers lang ≡ Some header → (plan : Plan) → plan_of project.template (units_of project lang) next (rule_at project lang) ≡ Some plan →
      AllByRecursion (λ unit. IsRow (lang, unit.key) unit) plan.units
  of_language lang header there plan is =
      let counted = rule_counted project lang header there (rules.ruled lang header there).2 in
      plan_all (λ unit. IsRow (lang, unit.key) unit) project.template (units_of project lang) next (rule_at project lang) plan is
      (all_imply (λ unit. maps.get project.units (lang, unit.key) ≡ Some unit)
      (λ unit. has_revision (updated_unit project.template next (rule_at project lang) unit) ≡ true →
      IsRow (lang, (updated_unit project.template next (rule_at project lang) unit).key) (updated_unit project.template next (rule_at project lang) unit))
      (λ unit at. old_row lang counted unit at) (units_of project lang) (at_keys lang))
      (all_imply (λ e. (entry_of next (key_of e) ≡ Some e) × (HasHeaderKey e → ⊥)) (λ e. IsRow (lang, (new_unit (rule_at project lang) e).key) (new_unit (rule_at project lang) e))
      (λ e own. new_row lang (ap is_some there) e own) next own_entries)

  all_planned : AllZip (IsPlanOf project next) (languages project) all
  all_planned = zipped project next (languages project) all planned

  each_found : (place : Place) (unit : Unit) → maps.get after.units place ≡ Some unit → IsRow place unit
  each_found place unit there =
      found_row place_cmp place_total equal_places IsRow rows
      (each_row project next IsRow (languages project) all all_planned
      (all_mapped (λ (lang : Text). (plan : Plan) → plan_of project.template (units_of project lang) next (rule_at project lang) ≡ Some plan → AllByRecursion (λ unit. IsRow (lang, unit.key) unit) plan.units)
      (λ (e : Text × Entry). e.0) (maps.entries project.headers)
      (all_rows text_cmp text_total
      (λ lang header. (plan : Plan) → plan_of project.template (units_of project lang) next (rule_at project lang) ≡ Some plan → AllByRecursion (λ unit. IsRow (lang, unit.key) unit) plan.units)
      (maps.entries project.headers) (maps.entries_sorted project.headers) (λ lang header found. of_language lang header (maps.get-entries project.headers lang ∙ found)))))
      place unit (sym (maps.get-from_entries place_total rows place) ∙ there)

  has_each : HasEach after
  has_each lang key entry there is =
      let known : list_any (eq_by_cmp text_cmp lang) (languages project) ≡ true = sym (maps.contains_key-keys project.headers lang) ∙ there in
      subst IsSome (sym (maps.get-from_entries place_total rows (lang, key)))
      (some_row place_cmp place_total equal_places (lang, key) rows
      (has_row project next lang key (λ l plan same its. plan_covers project.template (units_of project l) next (rule_at project l) plan its key entry is) (languages project) all all_planned known))

  has_few : HasFew after
  has_few lang =
      let a = units-tally after lang in
      let b = tally-made place_cmp place_total (at_lang lang) rows in
      let c = few_at project next lang (maps.entries project.headers) all (maps.entries_sorted project.headers) all_planned in
      omega (arith, a, b, c)

  with_template_kept : IsProject after
  with_template_kept = project_from after (record {
    managed = rules.managed;
    members = rules.members;
    accepting = rules.accepting;
    template_valid = valid;
    template_plain = plain;
    ruled = rules.ruled;
    few_languages = rules.few_languages;
    few_names = rules.few_names;
  }) (λ place unit there. (each_found place unit there).stands) has_each has_few

  with_template_fewer : AreFewer project.units after.units
  with_template_fewer place = by (maps.get after.units place) refl
    where
      by : (o : Option Unit) → maps.get after.units place ≡ o → Part (option_map_or numbers_of o []) (numbers_at project.units place)
      by None there = part-none _
      by (Some unit) there = (each_found place unit there).numbers

-- ---- the step

abbrev updated : Project → List Entry → List LanguagePlan → Stepped Project
updated project next all = (with_template project next all, reply 200 (template_fields (map (λ p. (p.0, p.1.counts)) all)))

pub template_kept : (project : Project) (po : Text) → IsProject project → IsKept project (template_step project po)
template_kept project po rules = by (reading_of limits po) refl
  where
    by_plans : (entries : List Entry) → IsValid entries → (o : Option (List LanguagePlan)) → plans project (template_of entries) ≡ o →
        IsKept project (option_map_or (updated project (template_of entries)) o (refuse project PastLimit))
    by_plans entries valid None is = kept_refused project PastLimit [] rules
    by_plans entries valid (Some all) is =
        kept_done project (with_template project (template_of entries) all) (template_fields (map (λ p. (p.0, p.1.counts)) all))
        (with_template_kept project rules (template_of entries) (valid_template entries valid) (plain_entries entries) all is)
        (with_template_fewer project rules (template_of entries) (valid_template entries valid) (plain_entries entries) all is)

    by : (read : Result (List Entry) Fault) → reading_of limits po ≡ read →
        IsKept project (by_result (λ fault. (project, refused_with PoText (po_fault_fields fault))) (λ entries. option_map_or (updated project (template_of entries)) (plans project (template_of entries)) (refuse project PastLimit)) read)
    by (Err fault) is = kept_refused project PoText (po_fault_fields fault) rules
    by (Ok entries) is = by_plans entries (read_valid po entries is) (plans project (template_of entries)) refl
