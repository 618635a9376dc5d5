-- What the languages of an office count after an act, as the figures of its commit follow.
use Rattle.std.proofs.Common.{◌≡◌, ℕ, ◌+◌, ◌-◌, List, [], ◌∷◌, ◌++◌, length, Bool, true, false, cond, map, option_map, Option, Some, None, is_some, append-nil, refl, sym, ap, subst, ◌∙◌, arith}
use Rattle.std.specs.Prelude.{◌&&◌, ◌||◌, not, flat_map, count_by, sum_by, if◌then◌else◌}
use Rattle.std.specs.Option.{option_map_or}
use Rattle.std.proofs.lemmas.List.{length-map}
use Rattle.std.proofs.lemmas.Bool.{and_parts, false_from_ne_true}
use Rattle.std.specs.Cmp.Lexicographic.{bytes_decides}
use Rattle.std.specs.List.{list_any, AllByRecursion, IsDistinct}
use Rattle.std.specs.Ordering.{eq_by_cmp}
use Rattle.std.specs.FinMap as maps
use Rattle.std.specs.FinMap.{is_sorted}
use Rattle.sqlite_rules.proofs.ListLemmas.{all_from}
use Rattle.sql_laws.proofs.RemovedRows.{from_mapped}
use Rattle.sql_meaning.proofs.MapEntries.{apart_keys, true_of}
use Rattle.po_text.specs.declared.entry.Entry.{Entry}
use Rattle.po_text.specs.Texts.{Text, text_cmp, text_eq}
use Rattle.units.specs.Changes.{office_under}
use Rattle.units.specs.Office.{Office, same_domain, project_in, with_project}
use Rattle.units.specs.Offices.{IsOffice}
use Rattle.units.specs.Orders.{place_total, place_IsAntisymmetric, text_total}
use Rattle.units.specs.Project.{Project, Place, place_cmp, place_eq, entry_of, view_of, languages, units_of}
use Rattle.units.specs.Units.{shown_state}
use Rattle.units.specs.declared.unit.Key.{Key}
use Rattle.units.specs.declared.unit.Policy.{Policy}
use Rattle.units.specs.declared.unit.ShownState.{ShownState}
use Rattle.units.specs.declared.unit.ShownState.TheVariants as shown
use Rattle.units.specs.declared.unit.Suggestion.{Suggestion}
use Rattle.units.specs.declared.unit.Unit.{Unit}
use Rattle.units.specs.declared.unit.UnitView.{UnitView}
use Rattle.units.specs.declared.votes.VoteValue.{VoteValue}
use Rattle.review.specs.UnitStep.{with_vote}
use Rattle.template_update.specs.declared.plans.Plan.{Plan}
use Rattle.office_specification.specs.ProjectActs.{LanguagePlan, placed, with_language, with_template}
use Rattle.office_specification.specs.UnitAccess.{with_view, with_view_in}
use Rattle.office_specification.specs.Counting.{plus, none_counted}
use Rattle.office_specification.specs.Tally.{is_state, current, shown_in, counts_in, counts_of}
use Rattle.office_specification.specs.declared.tally.Tally.{Tally}
use Rattle.office_specification.proofs.domains.InDomains.{equal_domains, its_own_domain, project_own, project_elsewhere}
use Rattle.office_specification.proofs.tallies.Countings.{plus_assoc, none_and}
use Rattle.office_laws.specs.Tallies.{planned}
use Rattle.office_laws.proofs.Moves.{plus_comm, total_in, one_in, next_in}
use Rattle.office_laws.proofs.OfficeCounts.{office_policy_counts, new_language_counts, other_languages_counts, new_template_counts}
use Rattle.office_laws.proofs.Totals.{total-insert}
use Rattle.tables.specs.Tallies.{counted, moved, none_approved}
use Rattle.tables.proofs.TallyMoves.{with_view_moves, with_view_stays}
use Rattle.sql_figures.specs.KeptTallies.{Counts, office_counts, counted_at}
use Rattle.sql_figures.specs.Figures.{with_tally, with_tallies, moved_at}
use Rattle.sql_figures.proofs.TallyRows.{same_text, ties_itself, is_meant, is_another, meant_or_not}
use Rattle.sql_commits.specs.Figures.{turned_unless}

-- ---- a unit's view, of a unit that is there or not

module _ (project : Project) (lang : Text) (key : Key) (view : UnitView) where
  abbrev after : Project
  after = with_view project lang key (Some view)

  abbrev was : Tally
  was = counted_at project.template (maps.get project.units (lang, key))

  -- what a language counts with a unit more
  with_one_more : maps.get project.units (lang, key) ≡ None → (l : Text)
      → counts_in project.template (units_of after l) ≡ plus (one_in project.template l ((lang, key), view.unit)) (counts_in project.template (units_of project l))
  with_one_more none l = total-insert place_cmp place_total place_IsAntisymmetric plus plus_assoc plus_comm (one_in project.template l) (total_in project.template l) (next_in project.template l) project.units (lang, key) view.unit none

  joins : (before is : Tally) → plus is before ≡ moved before none_counted is
  joins before is = λ i. record {
    approved = taken before.approved is.approved i;
    needs_editing = taken before.needs_editing is.needs_editing i;
    obsolete = taken before.obsolete is.obsolete i;
    read_only = taken before.read_only is.read_only i;
    suggestions = taken before.suggestions is.suggestions i;
    translated = taken before.translated is.translated i;
    untranslated = taken before.untranslated is.untranslated i;
  }
    where
      taken : (a b : ℕ) → b + a ≡ a + b - 0
      taken a b = omega arith

  own_counts : counts_of after lang ≡ option_map (λ t. moved t was (counted project.template view.unit)) (counts_of project lang)
  own_counts = by (maps.get project.units (lang, key)) refl
    where
      new : maps.get project.units (lang, key) ≡ None → (header : Option Entry) → option_map (λ _. counts_in project.template (units_of after lang)) header
          ≡ option_map (λ t. moved t none_counted (counted project.template view.unit)) (option_map (λ _. counts_in project.template (units_of project lang)) header)
      new none None = refl
      new none (Some header) = ap Some
          (with_one_more none lang
          ∙ (ap (λ b. plus (cond b (counted project.template view.unit) none_counted) (counts_in project.template (units_of project lang))) (ties_itself lang)
          ∙ joins (counts_in project.template (units_of project lang)) (counted project.template view.unit)))

      by : (o : Option Unit) → maps.get project.units (lang, key) ≡ o → counts_of after lang ≡ option_map (λ t. moved t (counted_at project.template o) (counted project.template view.unit)) (counts_of project lang)
      by (Some old) there = with_view_moves project lang key old view (ties_itself lang) there
      by None none = new none (maps.get project.headers lang)

  other_counts : (other : Text) → text_eq other lang ≡ false → counts_of after other ≡ counts_of project other
  other_counts other differ = by (maps.get project.units (lang, key)) refl
    where
      by : (o : Option Unit) → maps.get project.units (lang, key) ≡ o → counts_of after other ≡ counts_of project other
      by (Some old) there = with_view_stays project lang other key old view differ there
      by None none = ap (λ counts. option_map (λ _. counts) (maps.get project.headers other))
          (with_one_more none other
          ∙ (ap (λ b. plus (cond b (counted project.template view.unit) none_counted) (counts_in project.template (units_of project other))) differ ∙ none_and (counts_in project.template (units_of project other))))

-- what is so of a language of a domain, of the other languages there, and of the other domains, is so of all
all_languages : (domain lang : Text) (before after other : Counts) → ((d l : Text) → (d ≡ domain → l ≡ lang → ⊥) → other d l ≡ before d l) → after domain lang ≡ other domain lang
    → ((l : Text) → text_eq l lang ≡ false → after domain l ≡ before domain l) → ((d l : Text) → same_domain d domain ≡ false → after d l ≡ before d l) → (d l : Text) → after d l ≡ other d l
all_languages domain lang before after other stays own languages domains d l =
    meant_or_not domain lang d l (after d l ≡ other d l) (λ of_domain of_lang. (λ i. after (of_domain i) (of_lang i)) ∙ own ∙ sym (λ i. other (of_domain i) (of_lang i))) (λ differ. by (same_domain d domain) refl differ)
  where
    within : (b : Bool) → text_eq l lang ≡ b → d ≡ domain → (d ≡ domain → l ≡ lang → ⊥) → after d l ≡ other d l
    within true tied is differ = absurd (differ is (same_text l lang tied))
    within false apart is differ = ap (λ (n : Text). after n l) is ∙ languages l apart ∙ ap (λ (n : Text). before n l) (sym is) ∙ sym (stays d l differ)

    by : (b : Bool) → same_domain d domain ≡ b → (d ≡ domain → l ≡ lang → ⊥) → after d l ≡ other d l
    by true tied differ = within (text_eq l lang) refl (equal_domains d domain tied) differ
    by false apart differ = domains d l apart ∙ sym (stays d l differ)

pub view_counts : (office : Office) (domain lang : Text) (key : Key) (view : UnitView) → maps.contains_key office.domains domain ≡ true → (d l : Text)
    → office_counts (with_view_in office domain lang key (Some view)) d l
    ≡ moved_at domain lang (counted_at (project_in office domain).template (maps.get (project_in office domain).units (lang, key))) (counted (project_in office domain).template view.unit) (office_counts office) d l
view_counts office domain lang key view there =
    let project = project_in office domain in
    let was = counted_at project.template (maps.get project.units (lang, key)) in
    let is = counted project.template view.unit in
    let next = with_view project lang key (Some view) in
    let own : project_in (with_project office domain next) domain ≡ next = project_own office domain next there (refl, refl) in
    let counts = office_counts office in
    all_languages domain lang counts (office_counts (with_view_in office domain lang key (Some view))) (moved_at domain lang was is counts)
    (λ d l differ. ap (λ b. cond b (option_map (λ tally. moved tally was is) (counts d l)) (counts d l)) (is_another domain lang d l differ))
    (ap (λ (p : Project). counts_of p lang) own ∙ own_counts project lang key view
    ∙ sym (ap (λ b. cond b (option_map (λ tally. moved tally was is) (counts domain lang)) (counts domain lang)) (is_meant domain lang)))
    (λ l apart. ap (λ (p : Project). counts_of p l) own ∙ other_counts project lang key view l apart)
    (λ d l apart. ap (λ (p : Project). counts_of p l) (project_elsewhere office domain d next apart))

-- ---- of a unit that is there

module _ (project : Project) (place : Place) (there : UnitView) where
  abbrev viewed : Unit → UnitView
  viewed unit = record { unit = unit; source = entry_of project.template place.1 }

  pub found_unit : view_of project place ≡ Some there → maps.get project.units place ≡ Some there.unit
  found_unit found = by (maps.get project.units place) found
    where
      by : (o : Option Unit) → option_map viewed o ≡ Some there → o ≡ Some there.unit
      by None e = ap (option_map (λ (v : UnitView). v.unit)) e
      by (Some unit) e = ap (option_map (λ (v : UnitView). v.unit)) e

  pub found_entry : view_of project place ≡ Some there → there.source ≡ entry_of project.template place.1
  found_entry found = by (maps.get project.units place) found
    where
      source_in : Option UnitView → Option Entry
      source_in o = option_map_or (λ (v : UnitView). v.source) o (entry_of project.template place.1)

      by : (o : Option Unit) → option_map viewed o ≡ Some there → there.source ≡ entry_of project.template place.1
      by None e = sym (ap source_in e)
      by (Some unit) e = sym (ap source_in e)

-- a unit counts the same with as many suggestions, whatever they are
module _ (template : List Entry) (unit : Unit) (suggestions : List Suggestion) (many : length suggestions ≡ length unit.suggestions) where
  abbrev other : Unit
  other = record unit { suggestions = suggestions }

  pub as_many : counted template other ≡ counted template unit
  as_many = λ i. record {
    approved = in_state shown.Approved i;
    needs_editing = in_state shown.NeedsEditing i;
    obsolete = count_by (λ (u : Unit). u.obsolete) (unit ∷ []);
    read_only = in_state shown.ReadOnly i;
    suggestions = suggested i;
    translated = in_state shown.Translated i;
    untranslated = in_state shown.Untranslated i;
  }
    where
      in_state : (state : ShownState) → shown_in template state (current (other ∷ [])) ≡ shown_in template state (current (unit ∷ []))
      in_state state = by unit.obsolete
        where
          counts : List Unit → ℕ
          counts units = count_by (λ (u : Unit). is_state state (shown_state (entry_of template u.key) u)) units

          by : (b : Bool) → counts (cond (not b) (other ∷ []) []) ≡ counts (cond (not b) (unit ∷ []) [])
          by true = refl
          by false = refl

      suggested : sum_by (λ (u : Unit). length u.suggestions) (current (other ∷ [])) ≡ sum_by (λ (u : Unit). length u.suggestions) (current (unit ∷ []))
      suggested = by unit.obsolete
        where
          by : (b : Bool) → sum_by (λ (u : Unit). length u.suggestions) (cond (not b) (other ∷ []) []) ≡ sum_by (λ (u : Unit). length u.suggestions) (cond (not b) (unit ∷ []) [])
          by true = refl
          by false = ap (λ n. 0 + n) many

pub vote_counts : (template : List Entry) (number voter : Text) (value : Option VoteValue) (unit : Unit) → counted template (with_vote number voter value unit) ≡ counted template unit
vote_counts template number voter value unit = as_many template unit (with_vote number voter value unit).suggestions (length-map unit.suggestions _)

-- what a unit counts is taken away, and counted again
pub nothing_moved : (domain lang : Text) (tally : Tally) (counts : Counts) (d l : Text) → moved_at domain lang tally tally counts d l ≡ counts d l
nothing_moved domain lang tally counts d l = by (same_domain d domain && text_eq l lang) (counts d l)
  where
    back : (a b : ℕ) → a + b - b ≡ a
    back a b = omega arith

    same : (before : Tally) → moved before tally tally ≡ before
    same before = λ i. record {
      approved = back before.approved tally.approved i;
      needs_editing = back before.needs_editing tally.needs_editing i;
      obsolete = back before.obsolete tally.obsolete i;
      read_only = back before.read_only tally.read_only i;
      suggestions = back before.suggestions tally.suggestions i;
      translated = back before.translated tally.translated i;
      untranslated = back before.untranslated tally.untranslated i;
    }

    by : (b : Bool) (o : Option Tally) → cond b (option_map (λ before. moved before tally tally) o) o ≡ o
    by true None = refl
    by true (Some before) = ap Some (same before)
    by false o = refl

-- ---- a new language

pub language_counted : (office : Office) → IsOffice office → (domain lang : Text) (header : Entry) (plan : Plan) (tally : Tally) → maps.contains_key office.domains domain ≡ true
    → maps.contains_key (project_in office domain).headers lang ≡ false → IsDistinct place_eq (map (λ e. e.0) (placed (lang, plan))) → tally ≡ counts_in (project_in office domain).template plan.units → (d l : Text)
    → office_counts (with_project office domain (with_language (project_in office domain) lang header plan)) d l ≡ with_tally domain lang tally (office_counts office) d l
language_counted office rules domain lang header plan tally there new distinct tallied =
    let next = with_language (project_in office domain) lang header plan in
    let counts = office_counts office in
    all_languages domain lang counts (office_counts (with_project office domain next)) (with_tally domain lang tally counts)
    (λ d l differ. ap (λ b. cond b (Some tally) (counts d l)) (is_another domain lang d l differ))
    (new_language_counts office rules domain lang header plan new distinct there ∙ ap Some (sym tallied) ∙ sym (ap (λ b. cond b (Some tally) (counts domain lang)) (is_meant domain lang)))
    (other_languages_counts office rules domain lang header plan new distinct)
    (λ d l apart. ap (λ (p : Project). counts_of p l) (project_elsewhere office domain d next apart))

-- ---- a policy

pub policy_counted : (office : Office) (policy : Policy) (d l : Text) → office_counts (office_under office policy) d l ≡ turned_unless policy.reviews (office_counts office) d l
policy_counted office policy d l = office_policy_counts office policy d l ∙ by policy.reviews
  where
    same : (o : Option Tally) → option_map (λ tally. tally) o ≡ o
    same None = refl
    same (Some tally) = refl

    by : (b : Bool) → option_map (λ counts. if b then counts else none_approved counts) (office_counts office d l) ≡ turned_unless b (office_counts office) d l
    by true = same (office_counts office d l)
    by false = refl

-- ---- a new template

abbrev langs_of : List LanguagePlan → List Text
langs_of plans = map (λ (p : LanguagePlan). p.0) plans

abbrev pub tallied_by : List Entry → List LanguagePlan → List (Text × Tally)
tallied_by template plans = map (λ p. (p.0, counts_in template p.1.units)) plans

none_listed : (l : Text) (langs : List Text) → AllByRecursion (λ y. text_eq l y ≡ false) langs → list_any (text_eq l) langs ≡ false
none_listed l [] apart = refl
none_listed l (lang ∷ langs) apart = rw apart.0 (none_listed l langs apart.1)

none_planned : (l : Text) (plans : List LanguagePlan) → AllByRecursion (λ y. text_eq l y ≡ false) (langs_of plans) → planned l plans ≡ []
none_planned l [] apart = refl
none_planned l (p ∷ plans) apart = rw apart.0 (none_planned l plans apart.1)

module _ (template : List Entry) (domain l : Text) where
  tallies_at : (plans : List LanguagePlan) (counts : Counts) → IsDistinct text_eq (langs_of plans)
      → with_tallies domain (tallied_by template plans) counts domain l ≡ cond (list_any (text_eq l) (langs_of plans)) (Some (counts_in template (planned l plans))) (counts domain l)
  unfolding IsDistinct
  tallies_at [] counts distinct = refl
  tallies_at (p ∷ plans) counts distinct =
      tallies_at plans (with_tally domain p.0 (counts_in template p.1.units) counts) distinct.1
      ∙ (ap (λ b. cond (list_any (text_eq l) (langs_of plans)) (Some (counts_in template (planned l plans))) (cond (b && text_eq l p.0) (Some (counts_in template p.1.units)) (counts domain l))) (its_own_domain domain)
      ∙ by (text_eq l p.0) refl)
    where
      apart : text_eq l p.0 ≡ true → AllByRecursion (λ y. text_eq l y ≡ false) (langs_of plans)
      apart tied = subst (λ (t : Text). AllByRecursion (λ y. text_eq t y ≡ false) (langs_of plans)) (sym ((bytes_decides l p.0).0 tied)) distinct.0

      by : (b : Bool) → text_eq l p.0 ≡ b
          → cond (list_any (text_eq l) (langs_of plans)) (Some (counts_in template (planned l plans))) (cond b (Some (counts_in template p.1.units)) (counts domain l))
          ≡ cond (b || list_any (text_eq l) (langs_of plans)) (Some (counts_in template (cond b p.1.units [] ++ planned l plans))) (counts domain l)
      by false e = refl
      by true e =
          ap (λ b. cond b (Some (counts_in template (planned l plans))) (Some (counts_in template p.1.units))) (none_listed l (langs_of plans) (apart e))
          ∙ ap (λ us. Some (counts_in template us)) (sym (append-nil p.1.units) ∙ ap (λ us. p.1.units ++ us) (sym (none_planned l plans (apart e))))

-- both tests of texts say the same
pub tests_alike : (a b : Text) → text_eq a b ≡ same_domain a b
tests_alike a b = by (text_eq a b) (same_domain a b) refl refl
  where
    by : (x y : Bool) → text_eq a b ≡ x → same_domain a b ≡ y → text_eq a b ≡ same_domain a b
    by true true one two = one ∙ sym two
    by false false one two = one ∙ sym two
    by true false one two = absurd (let is = (bytes_decides a b).0 one in let yes = its_own_domain b in let no = subst (λ (t : Text). same_domain t b ≡ false) is two in cc)
    by false true one two = absurd (let is = equal_domains a b two in let yes = ties_itself b in let no = subst (λ (t : Text). text_eq t b ≡ false) is one in cc)

listed_alike : (l : Text) (langs : List Text) → list_any (text_eq l) langs ≡ list_any (eq_by_cmp text_cmp l) langs
listed_alike l [] = refl
listed_alike l (lang ∷ langs) = λ i. tests_alike l lang i || listed_alike l langs i

elsewhere_stays : (template : List Entry) (domain d l : Text) (plans : List LanguagePlan) (counts : Counts) → same_domain d domain ≡ false → with_tallies domain (tallied_by template plans) counts d l ≡ counts d l
elsewhere_stays template domain d l [] counts apart = refl
elsewhere_stays template domain d l (p ∷ plans) counts apart =
    elsewhere_stays template domain d l plans (with_tally domain p.0 (counts_in template p.1.units) counts) apart
    ∙ ap (λ b. cond (b && text_eq l p.0) (Some (counts_in template p.1.units)) (counts d l)) apart

-- each language has one header
keys_distinct : (es : List (Text × Entry)) → is_sorted text_cmp es ≡ true → IsDistinct text_eq (map (λ (e : Text × Entry). e.0) es)
unfolding IsDistinct
keys_distinct [] rise = tt
keys_distinct (e ∷ es) rise = (
  all_from (λ t. text_eq e.0 t ≡ false) (map (λ (d : Text × Entry). d.0) es) (λ t there.
      let it = from_mapped (λ (d : Text × Entry). d.0) es t there in
      false_from_ne_true (text_eq e.0 t) (λ tied. apart_keys text_cmp text_total e.0 es it.0 (and_parts _ _ rise).0 it.1 (sym it.2 ∙ sym ((bytes_decides e.0 t).0 tied)))),
  keys_distinct es (and_parts _ _ rise).1,
)

languages_distinct : (project : Project) → IsDistinct text_eq (languages project)
languages_distinct project = keys_distinct (maps.entries project.headers) (true_of _ (maps.entries_sorted project.headers))

pub template_counted : (office : Office) (domain : Text) (template : List Entry) (plans : List LanguagePlan) → maps.contains_key office.domains domain ≡ true
    → langs_of plans ≡ languages (project_in office domain) → IsDistinct place_eq (map (λ e. e.0) (flat_map placed plans)) → (d l : Text)
    → office_counts (with_project office domain (with_template (project_in office domain) template plans)) d l ≡ with_tallies domain (tallied_by template plans) (office_counts office) d l
template_counted office domain template plans there each distinct d l = by (same_domain d domain) refl
  where
    project : Project
    project = project_in office domain

    listed : list_any (text_eq l) (langs_of plans) ≡ maps.contains_key project.headers l
    listed = listed_alike l (langs_of plans) ∙ ap (list_any (eq_by_cmp text_cmp l)) each ∙ sym (maps.contains_key-keys project.headers l)

    apart : IsDistinct text_eq (langs_of plans)
    apart = subst (IsDistinct text_eq) (sym each) (languages_distinct project)

    own : (h : Option Entry) → option_map (λ _. counts_in template (planned l plans)) h ≡ cond (is_some h) (Some (counts_in template (planned l plans))) (option_map (λ _. counts_in project.template (units_of project l)) h)
    own None = refl
    own (Some header) = refl

    at_home : office_counts (with_project office domain (with_template project template plans)) domain l ≡ with_tallies domain (tallied_by template plans) (office_counts office) domain l
    at_home =
        new_template_counts office domain template plans l distinct ∙ own (maps.get project.headers l)
        ∙ ap (λ b. cond b (Some (counts_in template (planned l plans))) (counts_of project l)) (sym listed) ∙ sym (tallies_at template domain l plans (office_counts office) apart)

    by : (b : Bool) → same_domain d domain ≡ b → office_counts (with_project office domain (with_template project template plans)) d l ≡ with_tallies domain (tallied_by template plans) (office_counts office) d l
    by true tied =
        let is = equal_domains d domain tied in
        (λ i. office_counts (with_project office domain (with_template project template plans)) (is i) l) ∙ at_home ∙ sym (λ i. with_tallies domain (tallied_by template plans) (office_counts office) (is i) l)
    by false other =
        ap (λ (p : Project). counts_of p l) (project_elsewhere office domain d (with_template project template plans) other) ∙ sym (elsewhere_stays template domain d l plans (office_counts office) other)
