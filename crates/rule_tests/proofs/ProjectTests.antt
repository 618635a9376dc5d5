-- What the tests of a project tell.
use Rattle.std.proofs.Common.{◌≡◌, ◌≤◌, Bool, true, false, cond, ◌&&◌, List, [], ◌∷◌, length, map, Option, Some, None, is_some, refl, sym, ap, subst, ◌∙◌, All, arith}
use Rattle.std.specs.Prelude.{IsSome, filter, nat_le}
use Rattle.std.specs.Bool.{Decides}
use Rattle.std.specs.List.{AllByRecursion}
use Rattle.std.specs.Ordering.{eq_by_cmp}
use Rattle.std.specs.Cmp.Lexicographic.{same_text}
use Rattle.std.specs.FinMap as maps
use Rattle.std.proofs.lemmas.Bool.{false≢true}
use Rattle.std.proofs.lemmas.Bool.Decides.{Decides-at}
use Rattle.std.proofs.lemmas.List.Elements.{All-contains, All-from_recursion, recursion_from_All}
use Rattle.po_text.specs.declared.entry.Entry.{Entry}
use Rattle.po_text.specs.Texts.{Text, text_eq}
use Rattle.po_text.specs.Valid.{IsValid}
use Rattle.units.specs.Limits.{is_accept_at, language_limit, unit_limit}
use Rattle.units.specs.Project.{Project, Place, place_cmp, entry_of, units_of}
use Rattle.units.specs.Projects.{IsProject, IsTemplateEntry}
use Rattle.units.specs.Orders.{place_total}
use Rattle.units.specs.Units.{key_cmp, key_of}
use Rattle.units.specs.declared.unit.Key.{Key}
use Rattle.units.specs.declared.unit.Unit.{Unit}
use Rattle.template_update.proofs.Listed.{all_imply, found_one, found_each, tied_keys}
use Rattle.office_specification.proofs.rules.Replaced.{all_rows}
use Rattle.rule_tests.specs.Given.{AreAll}
use Rattle.rule_tests.specs.Parts.{IsTeam, ArePlaced, HasUnit, IsHeaded, KeepsLanguage, IsFrame, IsBareProject}
use Rattle.rule_tests.proofs.LanguageTests.{KeepsIfThere}
use Rattle.rule_tests.proofs.Tests.{holds, three_tell}
use Rattle.rule_tests.proofs.UnitTests.{Decides-le}

pub frame_told : (project : Project) (entries : List Entry) (r a b c : Bool) → entries ≡ project.template → IsValid project.template → is_accept_at project.policy.accept_at ≡ true → r ≡ (a && (b && c)) →
    Decides a (IsTeam project.team) → Decides b (All IsTemplateEntry entries) → c ≡ nat_le (maps.len project.headers) language_limit → Decides r (IsFrame project)
frame_told project entries r a b c are valid accepting e team plain few =
    three_tell {P = IsTeam project.team} {Q = All IsTemplateEntry entries} {R = maps.len project.headers ≤ language_limit} r a b c e
    (λ h. record {
      team = h.0;
      accepting = accepting;
      template_valid = valid;
      template_plain = subst (All IsTemplateEntry) are h.1.0;
      few_languages = h.1.1;
    })
    (λ h. (h.team, (subst (All IsTemplateEntry) (sym are) h.template_plain, h.few_languages)))
    team plain (Decides-at c (nat_le (maps.len project.headers) language_limit) few (Decides-le (maps.len project.headers) language_limit))

-- ---- apart from its units

pub bare_told : (project : Project) (langs : List Text) (b r : Bool) → AreAll project.headers langs → Decides b (IsFrame project) → b ≡ true → Decides r (All (IsHeaded project) langs) → Decides r (IsBareProject project)
bare_told project langs b r covers frame framed headed = (
  λ e. record { frame = frame.0 framed; headed = λ lang header is. All-contains (IsHeaded project) langs lang (headed.0 e) (covers lang (ap is_some is)) header is },
  λ bare. headed.1 (λ k d within. bare.headed _),
)

pub no_bare : (project : Project) (b : Bool) → Decides b (IsFrame project) → b ≡ false → Decides false (IsBareProject project)
no_bare project b tells failed = (λ e. absurd (false≢true e), λ bare. absurd (false≢true (sym failed ∙ tells.1 bare.frame)))

module _ (project : Project) where
  -- ---- a language that isn't there has no units

  abbrev IsHoused : Place × Unit → Type 0
  IsHoused e = IsSome (maps.get project.headers e.0.0)

  none_own : (lang : Text) (es : List (Place × Unit)) → maps.get project.headers lang ≡ None → AllByRecursion IsHoused es → filter (λ e. text_eq lang e.0.0) es ≡ []
  none_own lang [] none all = refl
  none_own lang (e ∷ es) none all = by (none_own lang es none all.1) (text_eq lang e.0.0) refl
    where
      by : filter (λ e. text_eq lang e.0.0) es ≡ [] → (b : Bool) → text_eq lang e.0.0 ≡ b → cond b (e ∷ filter (λ e. text_eq lang e.0.0) es) (filter (λ e. text_eq lang e.0.0) es) ≡ []
      by rest true t =
          let gone : maps.get project.headers e.0.0 ≡ None = ap (maps.get project.headers) (sym (same_text lang e.0.0 (sym t))) ∙ none in
          absurd (false≢true (sym (ap is_some gone) ∙ all.0))
      by rest false t = rest

  housed : ArePlaced project → AllByRecursion IsHoused (maps.entries project.units)
  housed placed =
      all_rows place_cmp place_total (λ place unit. IsSome (maps.get project.headers place.0)) (maps.entries project.units) (maps.entries_sorted project.units)
      (λ place unit found. (placed place unit (maps.get-entries project.units place ∙ found)).language)

  none_counted : ArePlaced project → (lang : Text) → maps.get project.headers lang ≡ None → length (units_of project lang) ≤ unit_limit
  none_counted placed lang none =
      let nothing : length (units_of project lang) ≡ 0 = ap (λ (es : List (Place × Unit)). length (map (λ (e : Place × Unit). e.1) es)) (none_own lang (maps.entries project.units) none (housed placed)) in
      subst (λ n. n ≤ unit_limit) (sym nothing) (omega arith)

  -- ---- all rules

  abbrev KeepEach : List Text → Type 0
  KeepEach langs = All (KeepsIfThere project) langs

  project_of : (langs : List Text) → AreAll project.headers langs → IsFrame project → ArePlaced project → KeepEach langs → IsProject project
  project_of langs covers frame placed each = record {
    managed = frame.team.managed;
    members = frame.team.members;
    accepting = frame.accepting;
    template_valid = frame.template_valid;
    template_plain = frame.template_plain;
    ruled = λ lang header is. let its = (kept lang (ap is_some is)).headed header is in (its.plain, its.valid, its.ruled);
    placed = λ place unit is. let its = placed place unit is in (its.stands.key, its.language);
    complete = λ lang key entry there is. found lang key entry there is;
    exact = λ place unit is. (placed place unit is).stands.exact;
    each = λ place unit is. (placed place unit is).rules;
    reviewed = λ off place unit is. (placed place unit is).stands.reviewed off;
    few_languages = frame.few_languages;
    few_names = frame.team.few;
    few_units = λ lang. few lang (maps.get project.headers lang) refl;
  }
    where
      kept : (lang : Text) → IsSome (maps.get project.headers lang) → KeepsLanguage project lang
      kept lang there = All-contains (KeepsIfThere project) langs lang each (covers lang there) there

      found : (lang : Text) (key : Key) (entry : Entry) → IsSome (maps.get project.headers lang) → entry_of project.template key ≡ Some entry →
          (unit : Unit) × (maps.get project.units (lang, key) ≡ Some unit) × (unit.obsolete ≡ false) × (unit.plural ≡ entry.plural)
      found lang key entry there is =
          let its = found_one (HasUnit project lang) (λ e. eq_by_cmp key_cmp key (key_of e)) project.template entry (recursion_from_All (HasUnit project lang) project.template (kept lang there).complete) is in
          (its.0.0, ap (λ k. maps.get project.units (lang, k)) (tied_keys key (key_of entry) its.1) ∙ its.0.1, its.0.2, its.0.3)

      few : (lang : Text) (o : Option Entry) → maps.get project.headers lang ≡ o → length (units_of project lang) ≤ unit_limit
      few lang None none = none_counted placed lang none
      few lang (Some header) is = (kept lang (ap is_some is)).few

  -- ---- and back

  frame_of : IsProject project → IsFrame project
  frame_of rules = record {
    team = record { managed = rules.managed; members = rules.members; few = rules.few_names };
    accepting = rules.accepting;
    template_valid = rules.template_valid;
    template_plain = rules.template_plain;
    few_languages = rules.few_languages;
  }

  placed_of : IsProject project → ArePlaced project
  placed_of rules place unit is = record {
    stands = record { key = (rules.placed place unit is).0; exact = rules.exact place unit is; reviewed = λ off. rules.reviewed off place unit is };
    language = (rules.placed place unit is).1;
    rules = rules.each place unit is;
  }

  language_of : IsProject project → (lang : Text) → KeepsIfThere project lang
  language_of rules lang there = record {
    headed = λ header is. let its = rules.ruled lang header is in record { plain = its.0; valid = its.1; ruled = its.2 };
    few = rules.few_units lang;
    complete = All-from_recursion (HasUnit project lang) project.template
        (all_imply (λ e. entry_of project.template (key_of e) ≡ Some e) (HasUnit project lang) (λ e is. rules.complete lang (key_of e) e there is) project.template
        (found_each project.template rules.template_valid.unique));
  }

  pub no_project : (b : Bool) → Decides b (IsFrame project) → b ≡ false → Decides false (IsProject project)
  no_project b tells failed = (λ e. absurd (false≢true e), λ rules. absurd (false≢true (sym failed ∙ tells.1 (frame_of rules))))

  pub project_told : (langs : List Text) (b r p q : Bool) → AreAll project.headers langs → Decides b (IsFrame project) → b ≡ true → r ≡ (p && (q && true)) → Decides p (ArePlaced project) → Decides q (KeepEach langs) →
      Decides r (IsProject project)
  project_told langs b r p q covers frame framed e placed each =
      three_tell {P = ArePlaced project} {Q = KeepEach langs} r p q true e
      (λ h. project_of langs covers (frame.0 framed) h.0 h.1.0)
      (λ rules. (placed_of rules, ((λ k d within. language_of rules _), tt)))
      placed each holds
