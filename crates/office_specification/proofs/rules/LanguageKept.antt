-- A new language keeps the rules of a project.
use Rattle.std.proofs.Common.{◌≡◌, ◌≤◌, ◌<◌, ℕ, List, [], ◌∷◌, Bool, true, false, cond, Option, Some, None, Result, Ok, Err, is_some, refl, sym, ◌∙◌, ap, subst, length, map, arith}
use Rattle.std.specs.Prelude.{IsSome, IsOk, nat_le, find}
use Rattle.std.specs.Option.{option_map_or}
use Rattle.std.specs.List.{AllByRecursion, list_any}
use Rattle.std.specs.Ordering.{is_eq, eq_by_cmp}
use Rattle.std.specs.Cmp.{tied_itself}
use Rattle.std.specs.Cmp.Lexicographic.{same_text}
use Rattle.std.specs.FinMap as maps
use Rattle.std.proofs.lemmas.Bool.{leb-false}
use Rattle.po_text.specs.declared.entry.Entry.{Entry}
use Rattle.po_text.specs.Entries.{is_header}
use Rattle.po_read.specs.Faults.{Fault}
use Rattle.po_read.specs.Plain.{reading_of}
use Rattle.po_read.specs.Spells.{limits}
use Rattle.po_text.specs.Texts.{Text, text_cmp, text_eq}
use Rattle.po_text.specs.Valid.{IsValid, IsValidEntry, HasHeaderKey, IsHeader}
use Rattle.plural_expr.specs.Trees.{number}
use Rattle.plural_expr.specs.Values.{Rule}
use Rattle.plural_expr.specs.declared.fault.PluralFault.{PluralFault}
use Rattle.units.specs.Limits.{language_limit, unit_limit}
use Rattle.units.specs.Units.{key_cmp}
use Rattle.units.specs.Project.{Project, Place, place_cmp, entry_of, units_of}
use Rattle.units.specs.Projects.{IsProject, IsUnit}
use Rattle.units.specs.Rules.{by_result, rule_in, rule_at}
use Rattle.units.specs.declared.unit.Key.{Key}
use Rattle.units.specs.declared.unit.Unit.{Unit}
use Rattle.units.specs.declared.unit.Suggestion.{Suggestion}
use Rattle.units.specs.declared.unit.Refusal.TheVariants.{LanguageExists, PoText, PluralFormsField, PastLimit}
use Rattle.units.specs.Orders.{text_total, text_IsAntisymmetric, place_total}
use Rattle.template_update.specs.declared.plans.Plan.{Plan}
use Rattle.template_update.specs.Loads.{load_of}
use Rattle.template_update.proofs.Listed.{clash, all_imply, all_from, found_one, headed_each}
use Rattle.template_update.proofs.Found.{equal}
use Rattle.template_update.proofs.LoadRules.{IsLoaded, load_all, load_few, load_covers}
use Rattle.replies.specs.Bodies.{Stepped, refuse, refused_with, reply, po_fault_fields, plural_fault_fields, count_fields}
use Rattle.office_specification.specs.ProjectActs.{with_language, language_step}
use Rattle.office_specification.proofs.rules.Numbers.{Part, part-self, part-none}
use Rattle.office_specification.proofs.rules.Numbering.{AreFewer, numbers_at}
use Rattle.office_specification.proofs.rules.PlanRows.{read_valid, template_named, rows_in, has-rows, tally-rows, all-rows}
use Rattle.office_specification.proofs.rules.Rebuilt.{IsFrame, IsPlaced, placed_of, HasEach, each_of, HasFew, project_from, at_lang, units-tally, equal_places, IsKept, kept_refused, kept_done}
use Rattle.office_specification.proofs.rules.Replaced.{all_rows}
use Rattle.office_specification.proofs.rules.Tallies.{tally, tally-put_all, put_row, still_there, put_there}
use Rattle.office_specification.proofs.rules.UnitRules.{numbers_of}

equal_texts : (a b : Text) → eq_by_cmp text_cmp a b ≡ true → a ≡ b
equal_texts a b e = text_IsAntisymmetric a b (equal (text_cmp a b) e)

-- ---- the header that is found

record IsHead (header : Entry) : Type 0 where
  plain : is_header header ≡ true
  valid : IsValid (header ∷ [])

abbrev IsSound : Entry → Type 0
IsSound e = IsValidEntry e × (HasHeaderKey e → IsHeader e)

header_of : (entries : List Entry) (header : Entry) → IsValid entries → find is_header entries ≡ Some header → IsHead header
header_of entries header valid is =
    let sound : AllByRecursion IsSound entries = all_from IsValidEntry (λ e. HasHeaderKey e → IsHeader e) IsSound (λ e v h. (v, h)) entries valid.each (headed_each entries valid.header) in
    let its = found_one IsSound is_header entries header sound is in
    record { plain = its.1; valid = record { each = (its.0.0, tt); unique = (tt, tt); header = (its.0.1, tt) } }

-- ---- the project with the language

-- the rule that is read, or that of a language that isn't there
abbrev or_one : Result Rule (Option PluralFault) → Rule
or_one read = by_result (λ fault. record { count = 1; tree = number 0 }) (λ rule. rule) read

module _ (project : Project) (rules : IsProject project) (lang : Text) (header : Entry) (rule : Rule) (plan : Plan) (new : maps.contains_key project.headers lang ≡ false) (head : IsHead header)
    (ruled : rule_in (Some header) ≡ Ok rule) (room : maps.len project.headers < language_limit) (units : AllByRecursion (IsLoaded rule project.template) plan.units) (few : length plan.units ≤ unit_limit)
    (covered : (key : Key) (entry : Entry) → entry_of project.template key ≡ Some entry → list_any (λ unit. eq_by_cmp key_cmp key unit.key) plan.units ≡ true) where
  abbrev after : Project
  after = with_language project lang header plan

  abbrev rows : List (Place × Unit)
  rows = rows_in lang plan.units

  header_at : (other : Text) (c : Bool) → eq_by_cmp text_cmp other lang ≡ c → maps.get after.headers other ≡ cond c (Some header) (maps.get project.headers other)
  header_at other c e = maps.get-insert text_total project.headers lang header other ∙ ap (λ b. cond b (Some header) (maps.get project.headers other)) e

  rule_new : rule_at after lang ≡ rule
  unfolding rule_at
  rule_new = ap (λ h. or_one (rule_in h)) (header_at lang true (ap is_eq (tied_itself text_total lang)))
      ∙ ap or_one ruled

  rule_other : (other : Text) → eq_by_cmp text_cmp other lang ≡ false → rule_at after other ≡ rule_at project other
  unfolding rule_at
  rule_other other e = ap (λ h. or_one (rule_in h)) (header_at other false e)

  -- a language that is there is another
  is_other : (other : Text) → IsSome (maps.get project.headers other) → eq_by_cmp text_cmp other lang ≡ false
  is_other other there = by (eq_by_cmp text_cmp other lang) refl
    where
      by : (t : Bool) → eq_by_cmp text_cmp other lang ≡ t → t ≡ false
      by true t = clash (maps.contains_key project.headers lang) new (subst (λ l. is_some (maps.get project.headers l) ≡ true) (equal_texts other lang t) there)
      by false t = refl

  -- ---- its units

  record IsRow (place : Place) (unit : Unit) : Type 0 where
    stands : IsPlaced after place unit
    numbers : Part (numbers_of unit) (numbers_at project.units place)

  old_row : (place : Place) (unit : Unit) → maps.get project.units place ≡ Some unit → IsRow place unit
  old_row place unit there =
      let is = placed_of project rules place unit there in
      let other = is_other place.0 is.language in
      record {
        stands = record {
          key = is.key;
          language = subst IsSome (sym (header_at place.0 false other)) is.language;
          exact = is.exact;
          complete = is.complete;
          rules = subst (λ (r : Rule). IsUnit r unit) (sym (rule_other place.0 other)) is.rules;
          reviewed = is.reviewed;
        };
        numbers = subst (λ (o : Option Unit). Part (numbers_of unit) (option_map_or numbers_of o [])) (sym there) (part-self (numbers_of unit));
      }

  new_row : (unit : Unit) → IsLoaded rule project.template unit → IsRow (lang, unit.key) unit
  new_row unit is = record {
    stands = record {
      key = refl;
      language = ap is_some (header_at lang true (ap is_eq (tied_itself text_total lang)));
      exact = is.exact;
      complete = is.complete;
      rules = subst (λ (r : Rule). IsUnit r unit) (sym rule_new) is.rules;
      reviewed = λ off. is.unapproved;
    };
    numbers = subst (λ (ss : List Suggestion). Part (map (λ s. s.number) ss) (numbers_at project.units (lang, unit.key))) (sym is.unsuggested) (part-none _);
  }

  each_row : (place : Place) (unit : Unit) → maps.get after.units place ≡ Some unit → IsRow place unit
  each_row = put_row place_cmp place_total equal_places IsRow project.units rows old_row
      (all-rows IsRow lang plan.units (all_imply (IsLoaded rule project.template) (λ unit. IsRow (lang, unit.key) unit) new_row plan.units units))

  has_each : HasEach after
  has_each other key entry there is = by (eq_by_cmp text_cmp other lang) refl
    where
      by : (t : Bool) → eq_by_cmp text_cmp other lang ≡ t → IsSome (maps.get after.units (other, key))
      by true t =
          subst (λ l. IsSome (maps.get after.units (l, key))) (sym (equal_texts other lang t))
          (put_there place_cmp place_total equal_places project.units rows (lang, key) (has-rows lang key plan.units ∙ covered key entry is))
      by false t =
          still_there place_cmp place_total equal_places project.units rows (other, key)
          (each_of project rules other key entry (subst IsSome (header_at other false t) there) is)

  -- no unit was in the language
  none_there : (other : Text) → text_eq other lang ≡ true → (es : List (Place × Unit)) → AllByRecursion (λ e. IsSome (maps.get project.headers e.0.0)) es → tally place_cmp place_total (at_lang other) es ≡ 0
  none_there other same [] h = refl
  none_there other same (e ∷ es) h =
      let first : cond {A = ℕ} (text_eq other e.0.0) 1 0 ≡ 0 = ap (λ b. cond {A = ℕ} b 1 0) (by (text_eq other e.0.0) refl) in
      omega (arith, first, none_there other same es h.1)
    where
      by : (t : Bool) → text_eq other e.0.0 ≡ t → t ≡ false
      by true t =
          let its : e.0.0 ≡ lang = sym (same_text other e.0.0 (sym t)) ∙ same_text other lang (sym same) in
          clash (maps.contains_key project.headers lang) new (subst (λ l. is_some (maps.get project.headers l) ≡ true) its h.0)
      by false t = refl

  has_few : HasFew after
  has_few other = by (text_eq other lang) refl
    where
      before : AllByRecursion (λ e. IsSome (maps.get project.headers e.0.0)) (maps.entries project.units)
      before = all_rows place_cmp place_total (λ place unit. IsSome (maps.get project.headers place.0)) (maps.entries project.units) (maps.entries_sorted project.units)
          (λ place unit found. (rules.placed place unit (maps.get-entries project.units place ∙ found)).1)

      by : (t : Bool) → text_eq other lang ≡ t → length (units_of after other) ≤ unit_limit
      by true t =
          let a = units-tally after other in
          let b = tally-put_all place_cmp place_total (at_lang other) project.units rows in
          let c = tally-rows lang other true t plan.units in
          let d = none_there other t (maps.entries project.units) before in
          omega (arith, a, b, c, d, few)
      by false t =
          let a = units-tally after other in
          let b = tally-put_all place_cmp place_total (at_lang other) project.units rows in
          let c = tally-rows lang other false t plan.units in
          let d = units-tally project other in
          let e = rules.few_units other in
          omega (arith, a, b, c, d, e)

  few_after : maps.len after.headers ≤ language_limit
  few_after = rw (maps.len-insert text_total project.headers lang header, new) (omega (arith, room))

  ruled_after : (other : Text) (its : Entry) → maps.get after.headers other ≡ Some its → (is_header its ≡ true) × IsValid (its ∷ []) × IsOk (rule_in (Some its))
  ruled_after other its there = by (eq_by_cmp text_cmp other lang) (sym (maps.get-insert text_total project.headers lang header other) ∙ there)
    where
      by : (t : Bool) → cond t (Some header) (maps.get project.headers other) ≡ Some its → (is_header its ≡ true) × IsValid (its ∷ []) × IsOk (rule_in (Some its))
      by true is =
          let one : header ≡ its = cc in
          subst (λ (h : Entry). (is_header h ≡ true) × IsValid (h ∷ []) × IsOk (rule_in (Some h))) one (head.plain, head.valid, subst IsOk (sym ruled) refl)
      by false is = rules.ruled other its is

  frame : IsFrame after
  frame = record {
    managed = rules.managed;
    members = rules.members;
    accepting = rules.accepting;
    template_valid = rules.template_valid;
    template_plain = rules.template_plain;
    ruled = ruled_after;
    few_languages = few_after;
    few_names = rules.few_names;
  }

  with_language_kept : IsProject after
  with_language_kept = project_from after frame (λ place unit there. (each_row place unit there).stands) has_each has_few

  with_language_fewer : AreFewer project.units after.units
  with_language_fewer place = by (maps.get after.units place) refl
    where
      by : (o : Option Unit) → maps.get after.units place ≡ o → Part (option_map_or numbers_of o []) (numbers_at project.units place)
      by None there = part-none _
      by (Some unit) there = (each_row place unit there).numbers

-- ---- the step

abbrev loaded : Project → Text → Entry → Plan → Stepped Project
loaded project lang header plan = (with_language project lang header plan, reply 200 (count_fields plan.counts))

abbrev no_rule : Project → Option PluralFault → Stepped Project
no_rule project fault = (project, refused_with PluralFormsField (plural_fault_fields fault))

abbrev with_rule : Project → Text → List Entry → Entry → Rule → Stepped Project
with_rule project lang entries header rule =
    cond (nat_le language_limit (maps.len project.headers)) (refuse project PastLimit)
    (option_map_or (loaded project lang header) (load_of project.template entries rule project.policy) (refuse project PastLimit))

abbrev of_entries : Project → Text → List Entry → Stepped Project
of_entries project lang entries =
    by_result (no_rule project) (λ rule. option_map_or (λ h. with_rule project lang entries h rule) (find is_header entries) (no_rule project None)) (rule_in (find is_header entries))

with_rule_kept : (project : Project) (lang : Text) (entries : List Entry) (header : Entry) (rule : Rule) → IsProject project → maps.contains_key project.headers lang ≡ false → IsValid entries → IsHead header →
    rule_in (Some header) ≡ Ok rule → IsKept project (with_rule project lang entries header rule)
with_rule_kept project lang entries header rule rules new valid head ruled =
    by (nat_le language_limit (maps.len project.headers)) (load_of project.template entries rule project.policy) refl refl
  where
    named : AllByRecursion (λ e. HasHeaderKey e → ⊥) project.template
    named = template_named project.template rules.template_valid rules.template_plain

    by : (full : Bool) (plan : Option Plan) → nat_le language_limit (maps.len project.headers) ≡ full → load_of project.template entries rule project.policy ≡ plan →
        IsKept project (cond full (refuse project PastLimit) (option_map_or (loaded project lang header) plan (refuse project PastLimit)))
    by true plan f l = kept_refused project PastLimit [] rules
    by false None f l = kept_refused project PastLimit [] rules
    by false (Some plan) f l =
        let room : maps.len project.headers < language_limit = leb-false _ _ f in
        let units = load_all project.template entries rule project.policy plan l valid rules.template_valid.unique named in
        let few = load_few project.template entries rule project.policy plan l in
        let covered = load_covers project.template entries rule project.policy plan l valid rules.template_valid.unique named in
        kept_done project (with_language project lang header plan) (count_fields plan.counts)
        (with_language_kept project rules lang header rule plan new head ruled room units few covered)
        (with_language_fewer project rules lang header rule plan new head ruled room units few covered)

of_entries_kept : (project : Project) (lang : Text) (entries : List Entry) → IsProject project → maps.contains_key project.headers lang ≡ false → IsValid entries → IsKept project (of_entries project lang entries)
of_entries_kept project lang entries rules new valid = by (find is_header entries) refl (rule_in (find is_header entries)) refl
  where
    by : (header : Option Entry) → find is_header entries ≡ header → (rule : Result Rule (Option PluralFault)) → rule_in header ≡ rule →
        IsKept project (by_result (no_rule project) (λ r. option_map_or (λ h. with_rule project lang entries h r) header (no_rule project None)) rule)
    by header h (Err fault) r = kept_refused project PluralFormsField (plural_fault_fields fault) rules
    by None h (Ok rule) r = kept_refused project PluralFormsField (plural_fault_fields None) rules
    by (Some header) h (Ok rule) r = with_rule_kept project lang entries header rule rules new valid (header_of entries header valid h) r

pub language_kept : (project : Project) (lang po : Text) → IsProject project → IsKept project (language_step project lang po)
language_kept project lang po rules = by (maps.contains_key project.headers lang) (reading_of limits po) refl refl
  where
    by : (there : Bool) (read : Result (List Entry) Fault) → maps.contains_key project.headers lang ≡ there → reading_of limits po ≡ read →
        IsKept project (cond there (refuse project LanguageExists) (by_result (λ fault. (project, refused_with PoText (po_fault_fields fault))) (of_entries project lang) read))
    by true read there is = kept_refused project LanguageExists [] rules
    by false (Err fault) there is = kept_refused project PoText (po_fault_fields fault) rules
    by false (Ok entries) there is = of_entries_kept project lang entries rules there (read_valid po entries is)
