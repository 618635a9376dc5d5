-- An act in a domain keeps the rules of its project, and its suggestions' numbers stay, but for some that go or the act's own that comes.
use Rattle.std.proofs.Common.{◌≡◌, List, [], ◌∷◌, ◌++◌, Bool, true, false, cond, not, Option, Some, None, refl, sym, ◌∙◌, ap, subst, length, inl, inr, ⊎_elim, append_assoc}
use Rattle.std.specs.Prelude.{◌⊎◌, ⊤, MatchOption, IsSome, option_map, filter, flat_map}
use Rattle.std.specs.Option.{option_map_or}
use Rattle.std.specs.List.{AllByRecursion, IsDistinct}
use Rattle.std.proofs.lemmas.List.{length-map}
use Rattle.std.specs.FinMap as maps
use Rattle.po_text.specs.Texts.{Text, text_eq}
use Rattle.po_text.specs.declared.entry.Entry.{Entry}
use Rattle.units.specs.Limits.{is_comment_lines}
use Rattle.units.specs.Units.{is_approved}
use Rattle.units.specs.Project.{Project, Place, place_cmp, place_eq, entry_of, role_of, units_of, with_unit}
use Rattle.units.specs.Projects.{IsProject, IsUnit}
use Rattle.units.specs.Office.{domain_of}
use Rattle.units.specs.Rules.{rule_at}
use Rattle.units.specs.declared.unit.Key.{Key}
use Rattle.units.specs.declared.unit.Unit.{Unit}
use Rattle.units.specs.declared.unit.UnitView.{UnitView}
use Rattle.units.specs.declared.unit.UnitAct.{UnitAct}
use Rattle.units.specs.declared.unit.Role.{Role}
use Rattle.units.specs.declared.unit.Refusal.{Refusal}
use Rattle.units.specs.declared.unit.Refusal.TheVariants.{NoLanguage, NoUnit}
use Rattle.units.specs.Orders.{place_total}
use Rattle.review.specs.declared.decision.Decision.TheVariants.{Done, Refused}
use Rattle.review.specs.UnitStep.{unit_step, unit_after, refusals, first_refusal, values_of}
use Rattle.request_book.specs.Acts.{lines_in}
use Rattle.replies.specs.Bodies.{Stepped, refuse}
use Rattle.office_specification.specs.ProjectActs.{unit_act_step, decided, template_step, language_step}
use Rattle.office_specification.specs.OfficeRules.{numbers_in}
use Rattle.office_specification.proofs.domains.Places.{same_place}
use Rattle.office_specification.proofs.rules.DomainNumbers.{NumbersMove, go_moves, numbers_stay, fewer_go}
use Rattle.office_specification.proofs.rules.LanguageKept.{language_kept}
use Rattle.office_specification.proofs.rules.TemplateKept.{template_kept}
use Rattle.office_specification.proofs.rules.Rebuilt.{IsKept}
use Rattle.office_specification.proofs.rules.Numbers.{Part, part-all, part-behind, part-before, part-distinct, part_found, PutIn, put_in-behind, put_in-distinct, all-put}
use Rattle.office_specification.proofs.rules.Replaced.{length-filter-put, Found, flat_map-put}
use Rattle.office_specification.proofs.rules.UnitRules.{none_applies, numbers_of, Renumbered, Follows, act_follows}

-- ---- a unit whose value is replaced

-- what one place then has
at_place : (units : maps.FinMap place_cmp Unit) (place : Place) (new : Unit) (p : Place) (unit : Unit) → maps.get (maps.insert units place new) p ≡ Some unit →
    ((p ≡ place) × (unit ≡ new)) ⊎ (maps.get units p ≡ Some unit)
at_place units place new p unit e = by_test (place_eq p place) refl (sym (maps.get-insert place_total units place new p) ∙ e)
  where
    by_test : (c : Bool) → place_eq p place ≡ c → cond c (Some new) (maps.get units p) ≡ Some unit → ((p ≡ place) × (unit ≡ new)) ⊎ (maps.get units p ≡ Some unit)
    by_test true t h = let same : unit ≡ new = cc in inl (same_place p place t, same)
    by_test false t h = inr h

-- an act on a unit leaves the project, or replaces the unit
data Moves (project : Project) (number : Text) : Project → Type 0 where
  still : Moves project number project
  moved : (place : Place) (old new : Unit) → maps.get project.units place ≡ Some old → old.obsolete ≡ false → Follows project.policy (rule_at project place.0) number old new →
      Moves project number (with_unit project place new)

few : (project : Project) (place : Place) (old new : Unit) → maps.get project.units place ≡ Some old → (lang : Text) →
    length (units_of (with_unit project place new) lang) ≡ length (units_of project lang)
few project place old new there lang =
    length-map _ _
    ∙ (ap (λ es. length (filter (λ e. text_eq lang e.0.0) es)) (maps.entries-insert place_total project.units place new)
    ∙ (length-filter-put place_cmp place_total (λ p. text_eq lang p.0) place old new (maps.entries project.units) (maps.entries_sorted project.units, sym (maps.get-entries project.units place) ∙ there)
    ∙ sym (length-map _ _)))

replaced : (project : Project) (number : Text) (place : Place) (old new : Unit) → IsProject project → maps.get project.units place ≡ Some old → old.obsolete ≡ false →
    Follows project.policy (rule_at project place.0) number old new → IsProject (with_unit project place new)
unfolding rule_at
replaced project number place old new rules there current r = record {
  managed = rules.managed;
  members = rules.members;
  accepting = rules.accepting;
  template_valid = rules.template_valid;
  template_plain = rules.template_plain;
  ruled = rules.ruled;
  placed = λ p unit e. ⊎_elim
      (λ h. (ap (λ (u : Unit). u.key) h.1 ∙ (r.key ∙ ((rules.placed place old there).0 ∙ ap (λ (q : Place). q.1) (sym h.0))), subst (λ (q : Place). IsSome (maps.get project.headers q.0)) (sym h.0) (rules.placed place old there).1))
      (λ h. rules.placed p unit h) (at_place project.units place new p unit e);
  complete = λ lang key entry language is. by_place lang key entry (rules.complete lang key entry language is) (place_eq (lang, key) place) refl;
  exact = λ p unit e here. ⊎_elim
      (λ h. subst (λ (q : Place). IsSome (entry_of project.template q.1)) (sym h.0) (rules.exact place old there current))
      (λ h. rules.exact p unit h here) (at_place project.units place new p unit e);
  each = λ p unit e. ⊎_elim
      (λ h. subst (λ (q : Place). IsUnit (rule_at project q.0) unit) (sym h.0) (subst (λ (u : Unit). IsUnit (rule_at project place.0) u) (sym h.1) r.rules))
      (λ h. rules.each p unit h) (at_place project.units place new p unit e);
  reviewed = λ off p unit e. ⊎_elim (λ h. ap (λ (u : Unit). is_approved u.state) h.1 ∙ r.reviewed off) (λ h. rules.reviewed off p unit h) (at_place project.units place new p unit e);
  few_languages = rules.few_languages;
  few_names = rules.few_names;
  few_units = λ lang. rw (few project place old new there lang) (rules.few_units lang);
}
  where
    by_place : (lang : Text) (key : Key) (entry : Entry) → ((unit : Unit) × (maps.get project.units (lang, key) ≡ Some unit) × (unit.obsolete ≡ false) × (unit.plural ≡ entry.plural)) →
        (c : Bool) → place_eq (lang, key) place ≡ c →
        (unit : Unit) × (maps.get (maps.insert project.units place new) (lang, key) ≡ Some unit) × (unit.obsolete ≡ false) × (unit.plural ≡ entry.plural)
    by_place lang key entry f true t =
        let same : (lang, key) ≡ place = same_place (lang, key) place t in
        let value : Some old ≡ Some f.0 = sym there ∙ (ap (maps.get project.units) (sym same) ∙ f.1) in
        let one : old ≡ f.0 = cc in
        (new, maps.get-insert place_total project.units place new (lang, key) ∙ ap (λ c. cond c (Some new) (maps.get project.units (lang, key))) t, r.obsolete ∙ current, r.plural ∙ (ap (λ (u : Unit). u.plural) one ∙ f.3))
    by_place lang key entry f false t =
        (f.0, maps.get-insert place_total project.units place new (lang, key) ∙ (ap (λ c. cond c (Some new) (maps.get project.units (lang, key))) t ∙ f.1), f.2, f.3)

-- ---- one request's step

-- the lines of a comment that an act gives are a comment's
abbrev pub HasLines : UnitAct → Type 0
HasLines act = MatchOption (lines_in act.action) ⊤ (λ lines. is_comment_lines lines ≡ true)

-- the numbers of a unit's suggestions stand together among those of all
abbrev project_numbers : Project → List Text
project_numbers project = numbers_in (domain_of project)

own_distinct : (project : Project) (place : Place) (unit : Unit) → maps.get project.units place ≡ Some unit → IsDistinct text_eq (project_numbers project) → IsDistinct text_eq (numbers_of unit)
own_distinct project place unit there distinct =
    part-distinct (numbers_of unit) (project_numbers project)
    (part_found place_cmp numbers_of place unit (maps.entries project.units) (sym (maps.get-entries project.units place) ∙ there)) distinct

decision_moves : (project : Project) (place : Place) (role : Role) (caller number : Text) (view : UnitView) (act : UnitAct) → IsProject project → IsDistinct text_eq (project_numbers project) →
    maps.get project.units place ≡ Some view.unit → HasLines act → Moves project number (decided project place (unit_step project.policy (rule_at project place.0) role caller number view act)).0
unfolding unit_step refusals
decision_moves project place role caller number view act rules distinct there given =
    by_refusal (first_refusal (refusals project.policy (rule_at project place.0) role caller number view act)) refl
  where
    by_refusal : (f : Option Refusal) → first_refusal (refusals project.policy (rule_at project place.0) role caller number view act) ≡ f →
        Moves project number (decided project place (option_map_or Refused f (Done (record view { unit = unit_after project.policy (rule_at project place.0) caller number view act.action })
        (values_of project.policy caller number view (unit_after project.policy (rule_at project place.0) caller number view act.action) act.action)))).0
    by_refusal (Some refusal) e = still
    by_refusal None e =
        let none = none_applies (refusals project.policy (rule_at project place.0) role caller number view act) e in
        moved place view.unit (unit_after project.policy (rule_at project place.0) caller number view act.action) there none.0
        (act_follows project.policy (rule_at project place.0) role caller number view act.seen act.action (rules.each place view.unit there)
        (λ off. rules.reviewed off place view.unit there) (own_distinct project place view.unit there distinct) none given)

unit_act_moves : (project : Project) (caller number : Text) (place : Place) (act : UnitAct) → IsProject project → IsDistinct text_eq (project_numbers project) → HasLines act →
    Moves project number (unit_act_step project caller number place act).0
unit_act_moves project caller number place act rules distinct given = by_unit (maps.contains_key project.headers place.0) (maps.get project.units place) refl
  where
    by_unit : (there : Bool) (unit : Option Unit) → maps.get project.units place ≡ unit →
        Moves project number (cond (not there) (refuse project NoLanguage) (option_map_or
        (λ view. decided project place (unit_step project.policy (rule_at project place.0) (role_of project caller) caller number view act))
        (option_map (λ u. record { unit = u; source = entry_of project.template place.1 }) unit) (refuse project NoUnit))).0
    by_unit false unit e = still
    by_unit true None e = still
    by_unit true (Some old) e = decision_moves project place (role_of project caller) caller number (record { unit = old; source = entry_of project.template place.1 }) act rules distinct e given

-- ---- the rules of the project, and the numbers of its suggestions

kept_by_move : (project new : Project) (number : Text) → Moves project number new → IsProject project → IsProject new
kept_by_move project new number still rules = rules
kept_by_move project new number (moved place old unit there current r) rules = replaced project number place old unit rules there current r

moved_numbers : (project new : Project) (number : Text) → Moves project number new → NumbersMove number (project_numbers project) (project_numbers new)
moved_numbers project new number still = go_moves number _ _ (numbers_stay (project_numbers project))
moved_numbers project new number (moved place old unit there current r) =
    subst (λ (es : List (Place × Unit)). NumbersMove number (project_numbers project) (flat_map (λ e. numbers_of e.1) es)) (sym (maps.entries-insert place_total project.units place unit)) (by_numbers r.numbers)
  where
    is_found : Found place_cmp place_total place old (maps.entries project.units)
    is_found = (maps.entries_sorted project.units, sym (maps.get-entries project.units place) ∙ there)

    afterwards : List Text
    afterwards = flat_map (λ e. numbers_of e.1) (maps.put place_cmp place unit (maps.entries project.units))

    put : Renumbered number (numbers_of old) (numbers_of unit) → (Part afterwards (project_numbers project)) ⊎ (PutIn number afterwards (project_numbers project))
    put (inl part) = inl (flat_map-put place_cmp place_total Part part-behind numbers_of place old unit (λ back. part-before back (numbers_of unit) (numbers_of old) part) (maps.entries project.units) is_found)
    put (inr added) = inr (flat_map-put place_cmp place_total (PutIn number) (put_in-behind number) numbers_of place old unit
        (λ back. record { front = numbers_of old; back = back; before = refl; after = ap (λ ns. ns ++ back) added ∙ append_assoc (numbers_of old) (number ∷ []) back })
        (maps.entries project.units) is_found)

    by_put : (Part afterwards (project_numbers project)) ⊎ (PutIn number afterwards (project_numbers project)) → NumbersMove number (project_numbers project) afterwards
    by_put (inl part) = record { all = λ P own all. part-all P afterwards (project_numbers project) part all; distinct = λ free d. part-distinct afterwards (project_numbers project) part d }
    by_put (inr h) = record {
      all = λ P own all. subst (AllByRecursion P) (sym h.after) (all-put P number h.front h.back own (subst (AllByRecursion P) h.before all));
      distinct = λ free d. put_in-distinct number afterwards (project_numbers project) h free d;
    }

    by_numbers : Renumbered number (numbers_of old) (numbers_of unit) → NumbersMove number (project_numbers project) afterwards
    by_numbers renumbered = by_put (put renumbered)

-- what an act of a number leaves of a project
pub record ProjectMoves (number : Text) (project new : Project) : Type 1 where
  pub rules : IsProject new
  pub numbers : NumbersMove number (numbers_in (domain_of project)) (numbers_in (domain_of new))

pub stays : (number : Text) (project : Project) → IsProject project → ProjectMoves number project project
stays number project rules = record { rules = rules; numbers = go_moves number _ _ (numbers_stay (project_numbers project)) }

pub unit_act_keeps : (project : Project) (caller number : Text) (place : Place) (act : UnitAct) → IsProject project → IsDistinct text_eq (numbers_in (domain_of project)) → HasLines act →
    ProjectMoves number project (unit_act_step project caller number place act).0
unit_act_keeps project caller number place act rules distinct given =
    let moves = unit_act_moves project caller number place act rules distinct given in
    record { rules = kept_by_move project _ number moves rules; numbers = moved_numbers project _ number moves }

rebuilt : (number : Text) (project : Project) (after : Stepped Project) → IsKept project after → ProjectMoves number project after.0
rebuilt number project after kept = record { rules = kept.rules; numbers = go_moves number _ _ (fewer_go project.units after.0.units kept.fewer) }

pub template_keeps : (project : Project) (number po : Text) → IsProject project → ProjectMoves number project (template_step project po).0
template_keeps project number po rules = rebuilt number project (template_step project po) (template_kept project po rules)

pub language_keeps : (project : Project) (number lang po : Text) → IsProject project → ProjectMoves number project (language_step project lang po).0
language_keeps project number lang po rules = rebuilt number project (language_step project lang po) (language_kept project lang po rules)
