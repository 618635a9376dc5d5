-- What the tests of a unit at its place tell.
use Rattle.std.proofs.Common.{◌≡◌, List, Bool, true, false, not, ◌&&◌, ◌||◌, Some, None, is_some, option_map, string_bytes, refl, sym, ap, subst, ◌∙◌}
use Rattle.std.specs.Prelude.{IsSome}
use Rattle.std.specs.Bool.{Decides}
use Rattle.std.specs.BTreeMap.{get_by, IsOrdered}
use Rattle.std.specs.Ordering.{eq_by_cmp}
use Rattle.std.specs.List.{AllByRecursion}
use Rattle.std.specs.FinMap as maps
use Rattle.std.proofs.lemmas.Bool.{false≢true}
use Rattle.std.proofs.lemmas.Bool.Decides.{Decides-at, Decides-like}
use Rattle.po_text.specs.declared.entry.Entry.{Entry}
use Rattle.po_text.specs.Texts.{Text, text_cmp}
use Rattle.plural_expr.specs.Trees.{number}
use Rattle.units.specs.Project.{Project, Place, place_cmp, entry_of}
use Rattle.units.specs.Projects.{IsUnit}
use Rattle.units.specs.Orders.{place_total, place_IsAntisymmetric}
use Rattle.units.specs.Rules.{by_result, rule_in, rule_at}
use Rattle.units.specs.Units.{is_approved, key_cmp}
use Rattle.units.specs.declared.unit.Key.{Key}
use Rattle.units.specs.declared.unit.Unit.{Unit}
use Rattle.office_specification.specs.declared.values.Language.{Language}
use Rattle.template_update.proofs.Listed.{tied_keys, key_itself}
use Rattle.office_maps.specs.declared.project_maps.ProjectMaps.{ProjectMaps}
use Rattle.office_maps.specs.OfficeIn.{lent_project, place_of}
use Rattle.office_maps.proofs.OfficeLookUps.{header_at}
use Rattle.rule_tests.specs.Bare.{FitsEntry}
use Rattle.rule_tests.specs.Parts.{StandsRight, IsPlaced, ArePlaced}
use Rattle.rule_tests.proofs.MapRows.{each_found, found_each}
use Rattle.rule_tests.proofs.Tests.{holds, three_tell}

key_tells : (a b : Key) → Decides (eq_by_cmp key_cmp a b) (a ≡ b)
key_tells a b = (λ e. tied_keys a b e, λ e. subst (λ k. eq_by_cmp key_cmp a k ≡ true) e (key_itself a))

-- a test that counts where another fails
or_tells : {P : Type 0} (a b : Bool) → Decides b P → Decides (a || b) (a ≡ false → P)
or_tells true b tells = (λ e h. cc, λ h. refl)
or_tells false b tells = (λ e h. tells.0 e, λ h. tells.1 (h refl))

false_tells : (b : Bool) → Decides (not b) (b ≡ false)
false_tells true = (λ e. cc, λ e. cc)
false_tells false = (λ e. refl, λ e. refl)

pub stands_told : (project : Project) (place : Place) (unit : Unit) (r a b c : Bool) → r ≡ (a && (b && c)) → a ≡ eq_by_cmp key_cmp unit.key place.1 →
    b ≡ (unit.obsolete || is_some (entry_of project.template place.1)) → c ≡ (project.policy.reviews || not (is_approved unit.state)) → Decides r (StandsRight project place unit)
stands_told project place unit r a b c e keyed exact reviewed =
    three_tell {P = unit.key ≡ place.1} {Q = unit.obsolete ≡ false → IsSome (entry_of project.template place.1)} r a b c e
    (λ h. record { key = h.0; exact = h.1.0; reviewed = h.1.1 }) (λ h. (h.key, (h.exact, h.reviewed)))
    (Decides-at a (eq_by_cmp key_cmp unit.key place.1) keyed (key_tells unit.key place.1))
    (Decides-at b (unit.obsolete || is_some (entry_of project.template place.1)) exact (or_tells unit.obsolete (is_some (entry_of project.template place.1)) (λ h. h, λ h. h)))
    (Decides-at c (project.policy.reviews || not (is_approved unit.state)) reviewed (or_tells project.policy.reviews (not (is_approved unit.state)) (false_tells (is_approved unit.state))))

-- ---- an entry

pub entry_told : (template : List Entry) (key : Key) (unit : Unit) (entry : Entry) (r : Bool) → Some entry ≡ entry_of template key → Decides r (unit.obsolete ≡ false → unit.plural ≡ entry.plural)
    → Decides r (FitsEntry template key unit)
entry_told template key unit entry r is tells = (
  λ e current. (entry, sym is, tells.0 e current),
  λ fits. tells.1 (λ current.
      let f = fits current in
      let both : Some entry ≡ Some f.0 = is ∙ f.1 in
      let one : entry ≡ f.0 = cc in
      f.2 ∙ ap (λ (e : Entry). e.plural) (sym one)),
)

pub no_entry_told : (template : List Entry) (key : Key) (unit : Unit) → None ≡ entry_of template key → Decides unit.obsolete (FitsEntry template key unit)
no_entry_told template key unit none = (λ h current. let no : true ≡ false = sym h ∙ current in cc, λ fits. by unit.obsolete refl fits)
  where
    by : (b : Bool) → unit.obsolete ≡ b → FitsEntry template key unit → b ≡ true
    by true is fits = refl
    by false is fits = let f = fits is in let no : None ≡ Some f.0 = none ∙ f.1 in cc

-- the plural rule that is kept beside a language's header is the language's
pub rule_of : (t : ProjectMaps) (lang : Text) (language : Language) → maps.get (lent_project t).headers lang ≡ Some language.header → rule_at (lent_project t) lang ≡ language.rule
unfolding rule_at
rule_of t lang language is =
    ap (λ h. by_result (λ fault. record { count = 1; tree = number 0 }) (λ rule. rule) (rule_in h)) is
    ∙ ap (by_result (λ fault. record { count = 1; tree = number 0 }) (λ rule. rule)) language.ruled

pub header_there : (t : ProjectMaps) (lang : Text) (language : Language) → Some language ≡ get_by (λ k. text_cmp lang (string_bytes k)) t.domain.now.languages.rows → maps.get (lent_project t).headers lang ≡ Some language.header
header_there t lang language is = header_at t lang ∙ ap (option_map (λ (l : Language). l.header)) (sym is)

pub no_header : (t : ProjectMaps) (lang : Text) → None ≡ get_by (λ k. text_cmp lang (string_bytes k)) t.domain.now.languages.rows → maps.get (lent_project t).headers lang ≡ None
no_header t lang is = header_at t lang ∙ ap (option_map (λ (l : Language). l.header)) (sym is)

pub placed_told : (t : ProjectMaps) (place : Place) (unit : Unit) (language : Language) (r a b : Bool) → Some language ≡ get_by (λ k. text_cmp place.0 (string_bytes k)) t.domain.now.languages.rows →
    r ≡ (a && (b && true)) → Decides a (StandsRight (lent_project t) place unit) → Decides b (IsUnit language.rule unit) → Decides r (IsPlaced (lent_project t) place unit)
placed_told t place unit language r a b is e stands rules =
    let there = header_there t place.0 language is in
    let rule = rule_of t place.0 language there in
    three_tell {P = StandsRight (lent_project t) place unit} {Q = IsUnit language.rule unit} r a b true e
    (λ h. record { stands = h.0; language = ap is_some there; rules = subst (λ r. IsUnit r unit) (sym rule) h.1.0 })
    (λ h. (h.stands, (subst (λ r. IsUnit r unit) rule h.rules, tt)))
    stands rules holds

pub unplaced : (t : ProjectMaps) (place : Place) (unit : Unit) → None ≡ get_by (λ k. text_cmp place.0 (string_bytes k)) t.domain.now.languages.rows → Decides false (IsPlaced (lent_project t) place unit)
unplaced t place unit is = (λ e. absurd (false≢true e), λ h. absurd (false≢true (sym (ap is_some (no_header t place.0 is)) ∙ h.language)))

-- ---- all units

abbrev pub IsRow : ProjectMaps → Rattle.office_maps.specs.declared.place.Place.Place × Unit → Type 0
IsRow t e = IsPlaced (lent_project t) (place_of e.0) e.1

pub all_placed : (t : ProjectMaps) (b : Bool) → IsOrdered (λ x y. place_cmp (place_of x) (place_of y)) t.domain.now.units → Decides b (AllByRecursion (IsRow t) t.domain.now.units.entries) → Decides b (ArePlaced (lent_project t))
all_placed t b ordered tells =
    Decides-like b (each_found place_total place_IsAntisymmetric place_of (λ unit. unit) (IsPlaced (lent_project t)) t.domain.now.units)
    (found_each place_total place_IsAntisymmetric place_of (λ unit. unit) (IsPlaced (lent_project t)) t.domain.now.units ordered) tells
