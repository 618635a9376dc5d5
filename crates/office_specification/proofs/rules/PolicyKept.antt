-- A change of the policy keeps the rules of a project, and no number of a suggestion comes.
use Rattle.std.proofs.Common.{◌≡◌, ◌≤◌, ◌+◌, Bool, true, false, cond, ◌||◌, List, [], ◌∷◌, Option, Some, None, map, refl, sym, ◌∙◌, ap, subst, arith}
use Rattle.std.specs.Prelude.{nat_lt, option_map, IsSome}
use Rattle.std.specs.Option.{option_map_or}
use Rattle.std.specs.List.{list_any, AllByRecursion}
use Rattle.std.specs.Ordering.{eq_by_cmp}
use Rattle.std.specs.FinMap as maps
use Rattle.std.proofs.lemmas.Bool.{ltb-false}
use Rattle.plural_expr.specs.Values.{Rule}
use Rattle.po_text.specs.Texts.{Text}
use Rattle.units.specs.Limits.{revision_limit, is_accept_at}
use Rattle.units.specs.Units.{is_approved, in_state, next_revision}
use Rattle.units.specs.Project.{Project, Place, place_cmp}
use Rattle.units.specs.Projects.{IsProject, IsUnit}
use Rattle.units.specs.Rules.{rule_at}
use Rattle.units.specs.Changes.{unapproved, under, with_policy}
use Rattle.units.specs.declared.unit.Unit.{Unit}
use Rattle.units.specs.declared.unit.UnitState.TheVariants.{Translated}
use Rattle.units.specs.declared.unit.Policy.{Policy}
use Rattle.units.specs.Orders.{place_total}
use Rattle.office_specification.proofs.rules.Numbers.{Part, part-self}
use Rattle.office_specification.proofs.rules.Numbering.{AreFewer, numbers_at}
use Rattle.office_specification.proofs.rules.Rebuilt.{IsPlaced, placed_of, each_of, project_from, at_lang, units-tally, equal_places}
use Rattle.office_specification.proofs.rules.Tallies.{tally, tally-made, found_row}
use Rattle.office_specification.proofs.rules.UnitRules.{numbers_of}

-- a unit under a policy
abbrev turned : Policy → Unit → Unit
turned policy unit = cond policy.reviews unit (unapproved unit)

abbrev turned_rows : Policy → List (Place × Unit) → List (Place × Unit)
turned_rows policy es = cond policy.reviews es (map (λ e. (e.0, unapproved e.1)) es)

-- ---- what is found under a policy

find-unapproved : (es : List (Place × Unit)) (q : Place) → maps.find place_cmp q (map (λ e. (e.0, unapproved e.1)) es) ≡ option_map unapproved (maps.find place_cmp q es)
find-unapproved [] q = refl
find-unapproved (e ∷ es) q = by (eq_by_cmp place_cmp q e.0) (find-unapproved es q)
  where
    by : (t : Bool) → maps.find place_cmp q (map (λ d. (d.0, unapproved d.1)) es) ≡ option_map unapproved (maps.find place_cmp q es) →
        cond t (Some (unapproved e.1)) (maps.find place_cmp q (map (λ d. (d.0, unapproved d.1)) es)) ≡ option_map unapproved (cond t (Some e.1) (maps.find place_cmp q es))
    by true rest = refl
    by false rest = rest

same_option : {A : Type 0} (o : Option A) → o ≡ option_map (λ x. x) o
same_option None = refl
same_option (Some x) = refl

get-under : (project : Project) (policy : Policy) (q : Place) → maps.get (with_policy project policy).units q ≡ option_map (turned policy) (maps.get project.units q)
get-under project policy q =
    maps.get-from_entries place_total (under policy (maps.entries project.units)) q
    ∙ by policy.reviews
    ∙ ap (option_map (turned policy)) (sym (maps.get-entries project.units q))
  where
    by : (t : Bool) → maps.find place_cmp q (cond t (maps.entries project.units) (map (λ e. (e.0, unapproved e.1)) (maps.entries project.units)))
        ≡ option_map (λ unit. cond t unit (unapproved unit)) (maps.find place_cmp q (maps.entries project.units))
    by true = same_option (maps.find place_cmp q (maps.entries project.units))
    by false = find-unapproved (maps.entries project.units) q

tally-unapproved : (lang : Text) (es : List (Place × Unit)) → tally place_cmp place_total (at_lang lang) (map (λ e. (e.0, unapproved e.1)) es) ≡ tally place_cmp place_total (at_lang lang) es
tally-unapproved lang [] = refl
tally-unapproved lang (e ∷ es) = ap (λ n. cond (at_lang lang e.0) 1 0 + n) (tally-unapproved lang es)

tally-under : (policy : Policy) (lang : Text) (es : List (Place × Unit)) → tally place_cmp place_total (at_lang lang) (under policy es) ≡ tally place_cmp place_total (at_lang lang) es
tally-under policy lang es = by policy.reviews
  where
    by : (t : Bool) → tally place_cmp place_total (at_lang lang) (cond t es (map (λ e. (e.0, unapproved e.1)) es)) ≡ tally place_cmp place_total (at_lang lang) es
    by true = refl
    by false = tally-unapproved lang es

-- ---- one unit

same_numbers : (policy : Policy) (unit : Unit) → Part (numbers_of (turned policy unit)) (numbers_of unit)
same_numbers policy unit = by policy.reviews (is_approved unit.state)
  where
    by : (reviews approved : Bool) → Part (numbers_of (cond reviews unit (cond approved (next_revision (in_state Translated unit)) unit))) (numbers_of unit)
    by true approved = part-self (numbers_of unit)
    by false true = part-self (numbers_of unit)
    by false false = part-self (numbers_of unit)

sent_back : (rule : Rule) (unit : Unit) → IsUnit rule unit → unit.revision + 1 ≤ revision_limit → IsUnit rule (next_revision (in_state Translated unit))
sent_back rule unit rules limit = record {
  current = rules.current;
  put_away = rules.put_away;
  named = rules.named;
  previous = λ e. refl;
  revised = (omega arith, limit);
  commented = rules.commented;
  suggested = rules.suggested;
  voted = rules.voted;
}

turned_placed : (project : Project) (policy : Policy) (place : Place) (unit : Unit) → IsPlaced project place unit → (turned policy unit).revision ≤ revision_limit →
    IsPlaced (with_policy project policy) place (turned policy unit)
unfolding rule_at
turned_placed project policy place unit is = by policy.reviews (is_approved unit.state) refl refl
  where
    by : (reviews approved : Bool) → policy.reviews ≡ reviews → is_approved unit.state ≡ approved →
        (cond reviews unit (cond approved (next_revision (in_state Translated unit)) unit)).revision ≤ revision_limit →
        IsPlaced (with_policy project policy) place (cond reviews unit (cond approved (next_revision (in_state Translated unit)) unit))
    by true approved on a limit = record {
      key = is.key;
      language = is.language;
      exact = is.exact;
      complete = is.complete;
      rules = is.rules;
      reviewed = λ off. let wrong : true ≡ false = sym on ∙ off in cc;
    }
    by false true on a limit = record {
      key = is.key;
      language = is.language;
      exact = is.exact;
      complete = is.complete;
      rules = sent_back (rule_at project place.0) unit is.rules limit;
      reviewed = λ off. refl;
    }
    by false false on a limit = record {
      key = is.key;
      language = is.language;
      exact = is.exact;
      complete = is.complete;
      rules = is.rules;
      reviewed = λ off. a;
    }

-- ---- the project

abbrev is_past : Place × Unit → Bool
is_past e = nat_lt revision_limit e.1.revision

none_past : (es : List (Place × Unit)) → list_any is_past es ≡ false → AllByRecursion (λ e. e.1.revision ≤ revision_limit) es
none_past [] e = tt
none_past (d ∷ es) e = by (none_past es) (is_past d) refl e
  where
    by : (list_any is_past es ≡ false → AllByRecursion (λ f. f.1.revision ≤ revision_limit) es) → (t : Bool) → is_past d ≡ t → (t || list_any is_past es) ≡ false → AllByRecursion (λ f. f.1.revision ≤ revision_limit) (d ∷ es)
    by rest true t e = cc
    by rest false t e = (ltb-false _ _ t, rest e)

pub policy_kept : (project : Project) (policy : Policy) → IsProject project → is_accept_at policy.accept_at ≡ true → list_any is_past (under policy (maps.entries project.units)) ≡ false →
    IsProject (with_policy project policy)
policy_kept project policy rules accepting past =
    let before : List (Place × Unit) = maps.entries project.units in
    let limits = found_row place_cmp place_total equal_places (λ q unit. unit.revision ≤ revision_limit) (under policy before) (none_past (under policy before) past) in
    project_from (with_policy project policy) (record {
      managed = rules.managed;
      members = rules.members;
      accepting = accepting;
      template_valid = rules.template_valid;
      template_plain = rules.template_plain;
      ruled = rules.ruled;
      few_languages = rules.few_languages;
      few_names = rules.few_names;
    })
    (λ place unit there. by place unit (limits place unit (sym (maps.get-from_entries place_total (under policy before) place) ∙ there)) (maps.get project.units place) refl (sym (get-under project policy place) ∙ there))
    (λ lang key entry language is. some (lang, key) (each_of project rules lang key entry language is))
    (λ lang.
    let a = units-tally (with_policy project policy) lang in
    let b = units-tally project lang in
    let c = tally-made place_cmp place_total (at_lang lang) (under policy before) in
    let d = tally-under policy lang before in
    let few = rules.few_units lang in
    omega (arith, a, b, c, d, few))
  where
    by : (place : Place) (unit : Unit) → unit.revision ≤ revision_limit → (o : Option Unit) → maps.get project.units place ≡ o → option_map (turned policy) o ≡ Some unit →
        IsPlaced (with_policy project policy) place unit
    by place unit limit None there is = cc
    by place unit limit (Some old) there is =
        let one : turned policy old ≡ unit = cc in
        subst (IsPlaced (with_policy project policy) place) one
        (turned_placed project policy place old (placed_of project rules place old there) (subst (λ (u : Unit). u.revision ≤ revision_limit) (sym one) limit))

    by_some : (o : Option Unit) → IsSome o → IsSome (option_map (turned policy) o)
    by_some None is = cc
    by_some (Some unit) is = refl

    some : (place : Place) → IsSome (maps.get project.units place) → IsSome (maps.get (with_policy project policy).units place)
    some place is = subst IsSome (sym (get-under project policy place)) (by_some (maps.get project.units place) is)

pub policy_fewer : (project : Project) (policy : Policy) → AreFewer project.units (with_policy project policy).units
policy_fewer project policy place =
    subst (λ (o : Option Unit). Part (option_map_or numbers_of o []) (numbers_at project.units place)) (sym (get-under project policy place)) (by (maps.get project.units place))
  where
    by : (o : Option Unit) → Part (option_map_or numbers_of (option_map (turned policy) o) []) (option_map_or numbers_of o [])
    by None = part-self []
    by (Some unit) = same_numbers policy unit
