-- What the tests of a language tell.
use Rattle.std.proofs.Common.{◌≡◌, ◌≤◌, ◌+◌, ℕ, suc, Bool, true, false, cond, ◌&&◌, List, [], ◌∷◌, length, Some, None, is_some, Result, Ok, Err, string_bytes, refl, sym, ap, subst, ◌∙◌, arith, All}
use Rattle.std.specs.Prelude.{IsSome, IfOk, filter}
use Rattle.std.specs.Bool.{Decides}
use Rattle.std.specs.BTreeMap.{IsOrdered, get_by}
use Rattle.std.specs.Ordering.{is_le}
use Rattle.std.specs.FinMap as maps
use Rattle.std.proofs.lemmas.Bool.{false≢true}
use Rattle.po_text.specs.declared.entry.Entry.{Entry}
use Rattle.po_text.specs.Texts.{Text, text_cmp, text_eq}
use Rattle.units.specs.Limits.{unit_limit}
use Rattle.units.specs.Project.{Project, place_cmp, units_of}
use Rattle.units.specs.Units.{key_of}
use Rattle.units.specs.declared.unit.Unit.{Unit}
use Rattle.office_maps.specs.declared.project_maps.ProjectMaps.{ProjectMaps}
use Rattle.office_maps.specs.declared.place.Place.{Place}
use Rattle.office_maps.specs.OfficeIn.{lent_project, place_of}
use Rattle.office_maps.specs.LanguageUnits.{taken}
use Rattle.office_maps.proofs.OfficeLookUps.{unit_at}
use Rattle.office_maps.proofs.Ranges.{first_key, taken_first}
use Rattle.rule_tests.specs.Parts.{IsLanguage, IsHeaded, HasUnit, KeepsLanguage}
use Rattle.rule_tests.proofs.PlaceTests.{no_header}
use Rattle.rule_tests.proofs.Tests.{three_tell}

-- ---- its header

pub headed_told : (t : ProjectMaps) (lang : Text) (header : Entry) (b : Bool) → maps.get (lent_project t).headers lang ≡ Some header → Decides b (IsLanguage header) → Decides b (IsHeaded (lent_project t) lang)
headed_told t lang header b there tells = (
  λ e other is. let both : Some header ≡ Some other = sym there ∙ is in let one : header ≡ other = cc in subst IsLanguage one (tells.0 e),
  λ headed. tells.1 (headed header there),
)

pub none_headed : (t : ProjectMaps) (lang : Text) → maps.get (lent_project t).headers lang ≡ None → Decides true (IsHeaded (lent_project t) lang)
none_headed t lang none = (λ e header is. let no : None ≡ Some header = sym none ∙ is in cc, λ headed. refl)

-- ---- the unit of an entry

pub fitting_told : (t : ProjectMaps) (place : Place) (entry : Entry) (unit : Unit) (b : Bool) → place.key.key ≡ key_of entry → Some unit ≡ get_by (λ k. place_cmp (place_of place) (place_of k)) t.domain.now.units →
    Decides b ((unit.obsolete ≡ false) × (unit.plural ≡ entry.plural)) → Decides b (HasUnit (lent_project t) place.lang entry)
fitting_told t place entry unit b key is tells =
    let there : maps.get (lent_project t).units (place.lang, key_of entry) ≡ Some unit =
    ap (λ k. maps.get (lent_project t).units (place.lang, k)) (sym key) ∙ (unit_at t (place_of place) ∙ sym is) in (
      λ e. let h = tells.0 e in (unit, there, h.0, h.1),
      λ h.
          let both : Some unit ≡ Some h.0 = sym there ∙ h.1 in
          let one : unit ≡ h.0 = cc in
          tells.1 (ap (λ (u : Unit). u.obsolete) one ∙ h.2, ap (λ (u : Unit). u.plural) one ∙ h.3),
    )

pub none_fits : (t : ProjectMaps) (place : Place) (entry : Entry) → place.key.key ≡ key_of entry → None ≡ get_by (λ k. place_cmp (place_of place) (place_of k)) t.domain.now.units →
    Decides false (HasUnit (lent_project t) place.lang entry)
none_fits t place entry key is = (
  λ e. absurd (false≢true e),
  λ h.
      let there : None ≡ Some h.0 = is ∙ (sym (unit_at t (place_of place)) ∙ (ap (λ k. maps.get (lent_project t).units (place.lang, k)) key ∙ h.1)) in
      cc,
)

-- ---- how many units

module _ (t : ProjectMaps) (lang : Text) where
  -- so many units of the language were met, and these are left
  pub record IsCounted (count : ℕ) (left : List (Place × Unit)) : Type 0 where
    pub few : count ≤ unit_limit
    pub sum : count + length (taken lang left) ≡ length (units_of (lent_project t) lang)

  pub none_counted : (first : Place) (left : List (Place × Unit)) → first.lang ≡ lang → first.key.key ≡ first_key → IsOrdered (λ x y. place_cmp (place_of x) (place_of y)) t.domain.now.units →
      left ≡ filter (λ e. is_le (place_cmp (place_of first) (place_of e.0)) && true) t.domain.now.units.entries → IsCounted 0 left
  none_counted first left lang_is key_is ordered is = record {
    few = omega arith;
    sum =
        let all : length (taken lang left) ≡ length (units_of (lent_project t) lang) = ap length (taken_first t.domain.now.units lang first [] left lang_is key_is ordered refl is) in
        omega arith;
  }

  own_next : (e : Place × Unit) (left next : List (Place × Unit)) → left ≡ e ∷ next → text_eq lang e.0.lang ≡ true → length (taken lang left) ≡ suc (length (taken lang next))
  own_next e left next is own = ap (λ es. length (taken lang es)) is ∙ ap (λ (b : Bool). length (cond b (e.1 ∷ taken lang next) [])) own

  pub one_more : (count : ℕ) (e : Place × Unit) (left next : List (Place × Unit)) → left ≡ e ∷ next → text_eq lang e.0.lang ≡ true → (count ≡ 150000 → ⊥) → IsCounted count left → IsCounted (count + 1) next
  one_more count e left next is own other counted =
      let own : length (taken lang left) ≡ suc (length (taken lang next)) = own_next e left next is own in
      let few : count ≤ 150000 = counted.few in
      let sum : count + length (taken lang left) ≡ length (units_of (lent_project t) lang) = counted.sum in
      record { few = omega arith; sum = omega arith }

  pub too_many : (count : ℕ) (e : Place × Unit) (left next : List (Place × Unit)) → left ≡ e ∷ next → text_eq lang e.0.lang ≡ true → count ≡ 150000 → IsCounted count left →
      Decides false (length (units_of (lent_project t) lang) ≤ unit_limit)
  too_many count e left next is own full counted = (
    λ e. absurd (false≢true e),
    λ h.
        let own : length (taken lang left) ≡ suc (length (taken lang next)) = own_next e left next is own in
        let sum : count + length (taken lang left) ≡ length (units_of (lent_project t) lang) = counted.sum in
        let few : length (units_of (lent_project t) lang) ≤ 150000 = h in
        absurd (omega arith),
  )

  all_counted : (count : ℕ) (left : List (Place × Unit)) → taken lang left ≡ [] → IsCounted count left → Decides true (length (units_of (lent_project t) lang) ≤ unit_limit)
  all_counted count left none counted = (
    λ e.
        let nothing : length (taken lang left) ≡ 0 = ap length none in
        let sum : count + length (taken lang left) ≡ length (units_of (lent_project t) lang) = counted.sum in
        let few : count ≤ 150000 = counted.few in
        omega arith,
    λ h. refl,
  )

  pub other_next : (count : ℕ) (e : Place × Unit) (left next : List (Place × Unit)) → left ≡ e ∷ next → text_eq lang e.0.lang ≡ false → IsCounted count left →
      Decides true (length (units_of (lent_project t) lang) ≤ unit_limit)
  other_next count e left next is other counted = all_counted count left (ap (taken lang) is ∙ ap (λ (b : Bool). cond b (e.1 ∷ taken lang next) []) other) counted

  pub none_left : (count : ℕ) (left : List (Place × Unit)) → left ≡ [] → IsCounted count left → Decides true (length (units_of (lent_project t) lang) ≤ unit_limit)
  none_left count left is counted = all_counted count left (ap (taken lang) is) counted

-- ---- all of it

pub language_told : (project : Project) (lang : Text) (header : Entry) (entries : List Entry) (r a b c : Bool) → maps.get project.headers lang ≡ Some header → entries ≡ project.template → r ≡ (a && (b && c)) →
    Decides a (IsLanguage header) → Decides b (length (units_of project lang) ≤ unit_limit) → Decides c (All (HasUnit project lang) entries) → Decides r (KeepsLanguage project lang)
language_told project lang header entries r a b c there are e headed few complete =
    three_tell {P = IsLanguage header} {Q = length (units_of project lang) ≤ unit_limit} {R = All (HasUnit project lang) entries} r a b c e
    (λ h. record {
      headed = λ other is.
          let both : Some header ≡ Some other = sym there ∙ is in
          let one : header ≡ other = cc in
          subst IsLanguage one h.0;
      few = h.1.0;
      complete = subst (All (HasUnit project lang)) are h.1.1;
    })
    (λ h. (h.headed header there, (h.few, subst (All (HasUnit project lang)) (sym are) h.complete)))
    headed few complete

abbrev pub KeepsIfThere : Project → Text → Type 0
KeepsIfThere project lang = IsSome (maps.get project.headers lang) → KeepsLanguage project lang

pub there_told : {E : Type 0} (project : Project) (lang : Text) (header : Entry) (r : Result Bool E) → maps.get project.headers lang ≡ Some header → IfOk r (λ b. Decides b (KeepsLanguage project lang)) →
    IfOk r (λ b. Decides b (KeepsIfThere project lang))
there_told project lang header (Ok b) there tells = (λ e _. tells.0 e, λ h. tells.1 (h (ap is_some there)))
there_told project lang header (Err e) there tells = tt

pub not_there : (t : ProjectMaps) (lang : Text) → None ≡ get_by (λ k. text_cmp lang (string_bytes k)) t.domain.now.languages.rows → Decides true (KeepsIfThere (lent_project t) lang)
not_there t lang is = (λ e there. absurd (false≢true (sym (ap is_some (no_header t lang is)) ∙ there)), λ h. refl)
