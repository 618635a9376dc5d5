-- The rules of a project, apart from its units, and those of its units.
use Rattle.std.proofs.Common.{◌≡◌, ◌≤◌, [], ◌∷◌, Bool, true, false, not, Option, Some, None, IsTrue, refl, sym, ◌∙◌, ap, length, All}
use Rattle.std.specs.Prelude.{IsSome, IsOk, is_some}
use Rattle.std.specs.Ordering.{eq_by_cmp}
use Rattle.std.specs.List.{list_any}
use Rattle.std.specs.FinMap as maps
use Rattle.std.proofs.lemmas.List.{length-map}
use Rattle.po_text.specs.declared.entry.Entry.{Entry}
use Rattle.po_text.specs.Entries.{is_header}
use Rattle.po_text.specs.Texts.{Text, text_eq}
use Rattle.po_text.specs.Valid.{IsValid}
use Rattle.units.specs.Limits.{is_accept_at, language_limit, team_limit, unit_limit}
use Rattle.units.specs.Units.{is_below, is_approved}
use Rattle.units.specs.Project.{Project, Place, place_cmp, entry_of, units_of}
use Rattle.units.specs.Projects.{IsProject, IsUnit, IsTemplateEntry}
use Rattle.units.specs.Rules.{rule_in, rule_at}
use Rattle.units.specs.declared.unit.Key.{Key}
use Rattle.units.specs.declared.unit.Unit.{Unit}
use Rattle.units.specs.declared.unit.Role.{Role}
use Rattle.units.specs.declared.unit.Role.TheVariants.{Guest, Manager}
use Rattle.units.specs.declared.unit.Refusal.{Refusal}
use Rattle.units.specs.Orders.{place_total}
use Rattle.request_book.specs.Words.{Fields}
use Rattle.replies.specs.Bodies.{Stepped, reply, refused_with}
use Rattle.office_specification.proofs.rules.Numbers.{part-self}
use Rattle.office_specification.proofs.rules.Numbering.{numbers_at, AreFewer}
use Rattle.office_specification.proofs.domains.Places.{same_place}
use Rattle.office_specification.proofs.rules.Tallies.{tally, length-tally}

-- what a project keeps beside its units
pub record IsFrame (project : Project) : Type 0 where
  pub managed : IsTrue (list_any (λ role. not (is_below role Manager)) (maps.values project.team))
  pub members : (name : Text) (role : Role) → maps.get project.team name ≡ Some role → is_below Guest role ≡ true
  pub accepting : is_accept_at project.policy.accept_at ≡ true
  pub template_valid : IsValid project.template
  pub template_plain : All IsTemplateEntry project.template
  pub ruled : (lang : Text) (header : Entry) → maps.get project.headers lang ≡ Some header → (is_header header ≡ true) × IsValid (header ∷ []) × IsOk (rule_in (Some header))
  pub few_languages : maps.len project.headers ≤ language_limit
  pub few_names : maps.len project.team ≤ team_limit

-- a unit at its place
pub record IsPlaced (project : Project) (place : Place) (unit : Unit) : Type 0 where
  pub key : unit.key ≡ place.1
  pub language : IsSome (maps.get project.headers place.0)
  pub exact : unit.obsolete ≡ false → IsSome (entry_of project.template place.1)
  pub complete : (entry : Entry) → entry_of project.template place.1 ≡ Some entry → (unit.obsolete ≡ false) × (unit.plural ≡ entry.plural)
  pub rules : IsUnit (rule_at project place.0) unit
  pub reviewed : project.policy.reviews ≡ false → is_approved unit.state ≡ false

-- each entry of the template has a unit in each language
abbrev pub HasEach : Project → Type 0
HasEach project = (lang : Text) (key : Key) (entry : Entry) → IsSome (maps.get project.headers lang) → entry_of project.template key ≡ Some entry → IsSome (maps.get project.units (lang, key))

abbrev pub HasFew : Project → Type 0
HasFew project = (lang : Text) → length (units_of project lang) ≤ unit_limit

pub project_from : (project : Project) → IsFrame project → ((place : Place) (unit : Unit) → maps.get project.units place ≡ Some unit → IsPlaced project place unit) → HasEach project → HasFew project → IsProject project
project_from project frame placed each few = record {
  managed = frame.managed;
  members = frame.members;
  accepting = frame.accepting;
  template_valid = frame.template_valid;
  template_plain = frame.template_plain;
  ruled = frame.ruled;
  placed = λ place unit there. let is = placed place unit there in (is.key, is.language);
  complete = λ lang key entry language is. by lang key entry is (maps.get project.units (lang, key)) refl (each lang key entry language is);
  exact = λ place unit there. (placed place unit there).exact;
  each = λ place unit there. (placed place unit there).rules;
  reviewed = λ off place unit there. (placed place unit there).reviewed off;
  few_languages = frame.few_languages;
  few_names = frame.few_names;
  few_units = few;
}
  where
    by : (lang : Text) (key : Key) (entry : Entry) → entry_of project.template key ≡ Some entry → (o : Option Unit) → maps.get project.units (lang, key) ≡ o → IsSome o →
        (unit : Unit) × (maps.get project.units (lang, key) ≡ Some unit) × (unit.obsolete ≡ false) × (unit.plural ≡ entry.plural)
    by lang key entry is None there some = cc
    by lang key entry is (Some unit) there some = let its = (placed (lang, key) unit there).complete entry is in (unit, there, its.0, its.1)

pub frame_of : (project : Project) → IsProject project → IsFrame project
frame_of project rules = record {
  managed = rules.managed;
  members = rules.members;
  accepting = rules.accepting;
  template_valid = rules.template_valid;
  template_plain = rules.template_plain;
  ruled = rules.ruled;
  few_languages = rules.few_languages;
  few_names = rules.few_names;
}

pub placed_of : (project : Project) → IsProject project → (place : Place) (unit : Unit) → maps.get project.units place ≡ Some unit → IsPlaced project place unit
placed_of project rules place unit there = record {
  key = (rules.placed place unit there).0;
  language = (rules.placed place unit there).1;
  exact = rules.exact place unit there;
  complete = λ entry is.
      let its = rules.complete place.0 place.1 entry (rules.placed place unit there).1 is in
      let both : Some unit ≡ Some its.0 = sym there ∙ its.1 in
      let one : unit ≡ its.0 = cc in
      (ap (λ (u : Unit). u.obsolete) one ∙ its.2, ap (λ (u : Unit). u.plural) one ∙ its.3);
  rules = rules.each place unit there;
  reviewed = λ off. rules.reviewed off place unit there;
}

pub each_of : (project : Project) → IsProject project → HasEach project
each_of project rules lang key entry language is = let its = rules.complete lang key entry language is in ap (λ o. is_some o) its.1

-- the number of a language's units
abbrev pub at_lang : Text → Place → Bool
at_lang lang place = text_eq lang place.0

pub units-tally : (project : Project) (lang : Text) → length (units_of project lang) ≡ tally place_cmp place_total (at_lang lang) (maps.entries project.units)
units-tally project lang = length-map _ _ ∙ length-tally place_cmp place_total (at_lang lang) (maps.entries project.units)

-- only equal places tie
pub equal_places : (p q : Place) → eq_by_cmp place_cmp p q ≡ true → p ≡ q
equal_places p q e = same_place p q e

-- ---- a step that keeps the rules

-- what a template or language act leaves keeps the rules, and no number of a suggestion comes
pub record IsKept (project : Project) (after : Stepped Project) : Type 0 where
  pub rules : IsProject after.0
  pub fewer : AreFewer project.units after.0.units

pub kept_refused : (project : Project) (refusal : Refusal) (more : Fields) → IsProject project → IsKept project (project, refused_with refusal more)
kept_refused project refusal more rules = record { rules = rules; fewer = λ place. part-self (numbers_at project.units place) }

pub kept_done : (project new : Project) (fields : Fields) → IsProject new → AreFewer project.units new.units → IsKept project (new, reply 200 fields)
kept_done project new fields rules fewer = record { rules = rules; fewer = fewer }
