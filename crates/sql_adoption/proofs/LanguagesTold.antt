-- The languages of a domain are tested one after the other, and the domains of a frame.
use Rattle.std.proofs.Common.{◌≡◌, ℕ, ◌+◌, ◌<◌, ◌≤◌, inl, inr, List, [], ◌∷◌, ◌++◌, length, take, map, get_or, true, false, Option, Some, None, option_map, Ok, IsTrue, refl, sym, ap, subst, ◌∙◌}
use Rattle.std.specs.Prelude.{IsSome}
use Rattle.std.specs.FinMap as maps
use Rattle.std.proofs.lemmas.List.{take_more, take_all}
use Rattle.sqlite.specs.Effect.{Database}
use Rattle.sqlite.specs.State.{State, HasCleanDisk}
use Rattle.sqlite_rules.specs.Lists.{Has}
use Rattle.sqlite_rules.proofs.ListLemmas.{has_contained, has_either}
use Rattle.sql_laws.proofs.RemovedRows.{from_mapped}
use Rattle.po_text.specs.declared.entry.Entry.{Entry}
use Rattle.po_text.specs.Texts.{Text, text_cmp}
use Rattle.units.specs.Office.{Office, has_domain, project_in}
use Rattle.units.specs.Project.{Project}
use Rattle.office_specification.proofs.domains.InDomains.{no_domain_yet}
use Rattle.office_specification.specs.declared.tally.Tally.{Tally}
use Rattle.rule_tests.specs.Given.{AreAll}
use Rattle.rule_tests.specs.Parts.{IsBareProject}
use Rattle.sql_schema.specs.Layouts.{by_domain}
use Rattle.sql_schema.specs.Whole.{IsIdleOver, IsLookUp}
use Rattle.sql_figures.specs.KeptTallies.{Counts}
use Rattle.sql_adoption.specs.FigureRows.{Place, places_of, AreCounted, CountsOneMore}
use Rattle.sql_adoption.specs.FramesKept.{CountsLangs, RefusesEither, TestsDomain, TestsDomains, TestsLang, TestsLangs, TestsProject, walked_counts, walked_of}
use Rattle.sql_adoption.specs.LanguagesKept.{walked_tally}
use Rattle.sql_adoption.specs.OwnedRows.{RefusesUnless}
use Rattle.sql_adoption.specs.declared.faults.OpenFault.{OpenFault}
use Rattle.sql_adoption.specs.declared.faults.OpenFault.TheVariants.{Memory, Disk, Foreign, Exists, Refused}
use Rattle.sql_adoption.specs.declared.faults.Mismatch.TheVariants.{OtherTables, OtherForm, UnreadRow, OtherFigures, BrokenRules}
use Rattle.sql_adoption.specs.declared.language_tallies.Counted.{Counted}
use Rattle.sql_layouts.proofs.Looked.{looked_on, both_looked}
use Rattle.sql_adoption.proofs.LooksBehind.{not_looked}
use Rattle.sql_adoption.proofs.TalliesTold.{none_counted, no_lang, one_counted, one_domain_counted}

-- what is refused for less is refused for more
pub either_less : {A B P Q : Type 0} → (B → A) → (Q → P) → (fault : OpenFault) → RefusesEither A P fault → RefusesEither B Q fault
either_less f g (Foreign UnreadRow) h = λ b. h (f b)
either_less f g (Foreign BrokenRules) h = λ q. h (g q)
either_less f g (Foreign OtherFigures) h = absurd h
either_less f g (Foreign OtherForm) h = absurd h
either_less f g (Foreign OtherTables) h = absurd h
either_less f g Exists h = absurd h
either_less f g Memory h = tt
either_less f g Disk h = tt
either_less f g Refused h = tt

-- rows that don't stand, whatever the rules
pub unless_either : {A B : Type 0} (P : Type 0) → (B → A) → (fault : OpenFault) → RefusesUnless A fault → RefusesEither B P fault
unless_either P f (Foreign UnreadRow) h = λ b. h (f b)
unless_either P f (Foreign BrokenRules) h = absurd h
unless_either P f (Foreign OtherFigures) h = absurd h
unless_either P f (Foreign OtherForm) h = absurd h
unless_either P f (Foreign OtherTables) h = absurd h
unless_either P f Exists h = absurd h
unless_either P f Memory h = tt
unless_either P f Disk h = tt
unless_either P f Refused h = tt

-- ---- one more of some

one_is : {X : Type 0} (x y : X) → Has (x ∷ []) y → y ≡ x
one_is x y (inl same) = same
one_is x y (inr never) = absurd never

pub one_more : {X : Type 0} (P : X → Type 0) (xs : List X) (i : ℕ) (x : X) → i < length xs → x ≡ get_or xs i x → ((y : X) → Has (take i xs) y → P y) → P x → (y : X) → Has (take (i + 1) xs) y → P y
one_more {X} P xs i x within is each here y there =
    let listed : take (i + 1) xs ≡ take i xs ++ x ∷ [] = take_more xs i x within ∙ ap (λ (l : X). take i xs ++ l ∷ []) (sym is) in
    elim (has_either (take i xs) (x ∷ []) y (subst (λ l. Has l y) listed there)) [
      | inl before ↦ each y before
      | inr at ↦ subst P (sym (one_is x y at)) here
    ]

-- ---- the languages of a domain

module _ (project : Project) (domain : Text) (langs : List Text) where
  -- of which so many were tested
  abbrev pub LangsSoFar : ℕ → List Counted → List Counted → Database → Unit {0} → Type 0
  LangsSoFar i old new db _ = TestsLangs db project domain (take i langs) × CountsLangs db project domain (take i langs) old new

  abbrev pub OneLang : Text → List Counted → List Counted → Database → Type 0
  OneLang lang old new db = TestsLang db project domain lang × CountsOneMore (walked_of db project domain lang) (domain, lang) old new

  pub no_lang_yet : (s : State) (counted : List Counted) → s.in_transaction ≡ false → IsIdleOver by_domain s → (HasCleanDisk s → IsTrue s.is_open) → IsLookUp {E = OpenFault} s s (Ok tt) (LangsSoFar 0 counted counted)
  no_lang_yet s counted ended idle is_open =
      not_looked by_domain s tt (LangsSoFar 0 counted counted) ended idle is_open (λ clean. (λ lang there. absurd there, λ counts before its are. no_lang counts before domain langs counted are))

  lang_more : (db : Database) (i : ℕ) (lang : Text) (old mid new : List Counted) → i < length langs → lang ≡ get_or langs i lang → LangsSoFar i old mid db tt → OneLang lang mid new db → LangsSoFar (i + 1) old new db tt
  lang_more db i lang old mid new within is far one = (
    one_more (TestsLang db project domain) langs i lang within is far.0 one.0,
    λ counts before its are. one_counted counts before domain langs i lang mid new within is (far.1 counts before its are) (subst (λ (o : Option Tally). CountsOneMore o (domain, lang) mid new) (sym (its lang)) one.1),
  )

  pub one_lang_more : (a b c : State) {U : Type 0} (u : U) (i : ℕ) (lang : Text) (old mid new : List Counted) → i < length langs → lang ≡ get_or langs i lang → IsLookUp {E = OpenFault} a b (Ok tt) (LangsSoFar i old mid)
      → IsLookUp {E = OpenFault} b c (Ok u) (λ db _. OneLang lang mid new db) → IsLookUp {E = OpenFault} a c (Ok tt) (LangsSoFar (i + 1) old new)
  one_lang_more a b c u i lang old mid new within is far one =
      looked_on a c {E = OpenFault} u (Ok tt) _ (LangsSoFar (i + 1) old new) (both_looked a b c tt (Ok u) (LangsSoFar i old mid) (λ db _. OneLang lang mid new db) far one)
      (λ early is_open both. lang_more a.now i lang old mid new within is both.0 both.1)

  pub all_langs : (a b : State) {U : Type 0} (u : U) (i : ℕ) (old new : List Counted) → length langs ≤ i → IsLookUp {E = OpenFault} a b (Ok tt) (LangsSoFar i old new)
      → IsLookUp {E = OpenFault} a b (Ok u) (λ db _. TestsLangs db project domain langs × CountsLangs db project domain langs old new)
  all_langs a b u i old new past far =
      looked_on a b {E = OpenFault} tt (Ok u) (LangsSoFar i old new) (λ db _. TestsLangs db project domain langs × CountsLangs db project domain langs old new) far
      (λ early is_open it. subst (λ l. TestsLangs a.now project domain l × CountsLangs a.now project domain l old new) (take_all i langs past) it)

  -- all of them are among these
  pub project_told : (db : Database) → AreAll project.headers langs → IsBareProject project → TestsLangs db project domain langs → TestsProject db project domain
  project_told db all bare tests = record {
    stand = λ lang headed. (tests lang (has_contained langs lang (all lang headed)) headed).stand;
    keep = record { bare = bare; each = λ lang headed. (tests lang (has_contained langs lang (all lang headed)) headed).keep };
  }

-- one language, or none

pub lang_there : (db : Database) (project : Project) (domain lang : Text) (header : Entry) (old new : List Counted) → maps.get project.headers lang ≡ Some header
    → CountsOneMore (Some (walked_tally db project.template domain lang)) (domain, lang) old new → CountsOneMore (walked_of db project domain lang) (domain, lang) old new
lang_there db project domain lang header old new is counts =
    subst (λ (o : Option Entry). CountsOneMore (option_map (λ _. walked_tally db project.template domain lang) o) (domain, lang) old new) (sym is) counts

pub lang_missing : (db : Database) (project : Project) (domain lang : Text) (counted : List Counted) → maps.get project.headers lang ≡ None
    → TestsLang db project domain lang × CountsOneMore (walked_of db project domain lang) (domain, lang) counted counted
lang_missing db project domain lang counted none = (
  λ headed. absurd (let no : IsSome {T = Entry} None = subst (λ (o : Option Entry). IsSome o) none headed in cc),
  subst (λ (o : Option Entry). CountsOneMore (option_map (λ _. walked_tally db project.template domain lang) o) (domain, lang) counted counted) (sym none) refl,
)

-- ---- the domains of a frame

-- none of a domain's languages counts
none_of_langs : (counts : Counts) (before : List Place) (domain : Text) (langs : List Text) (counted : List Counted) → ((lang : Text) → counts domain lang ≡ None) → AreCounted counts before counted
    → AreCounted counts (before ++ map (λ lang. (domain, lang)) langs) counted
none_of_langs counts before domain langs counted none are = record {
  only = are.only;
  all = λ place tally there is. elim (has_either before (map (λ lang. (domain, lang)) langs) place there) [
    | inl earlier ↦ are.all place tally earlier is
    | inr at ↦
        let l = from_mapped (λ lang. (domain, lang)) langs place at in
        absurd (let no : None ≡ Some tally = sym (none l.0) ∙ ap (λ (p : Place). counts p.0 p.1) (sym l.2) ∙ is in cc)
  ];
}

module _ (frame : Office) where
  -- one that isn't there
  pub missing_tested : (db : Database) (domain : Text) (langs : List Text) (counted : List Counted) → has_domain frame domain ≡ false
      → TestsDomain db frame domain × CountsLangs db (project_in frame domain) domain langs counted counted
  missing_tested db domain langs counted missing = (
    λ there. absurd (let no : true ≡ false = sym there ∙ missing in cc),
    λ counts before its are. none_of_langs counts before domain langs counted (λ lang. its lang ∙ nothing lang) are,
  )
    where
      nothing : (lang : Text) → walked_of db (project_in frame domain) domain lang ≡ None
      nothing lang =
          ap (λ (p : Project). walked_of db p domain lang) (no_domain_yet frame domain missing)
          ∙ ap (option_map (λ (h : Entry). walked_tally db [] domain lang)) (maps.get-empty text_cmp lang)

  module _ (domains langs : List Text) where
    -- of which so many were tested
    abbrev pub DomainsSoFar : ℕ → List Counted → Database → Unit {0} → Type 0
    DomainsSoFar i counted db _ = TestsDomains db frame (take i domains) × AreCounted (walked_counts db frame) (places_of (take i domains) langs) counted

    abbrev pub OneDomain : Text → List Counted → List Counted → Database → Type 0
    OneDomain domain old new db = TestsDomain db frame domain × CountsLangs db (project_in frame domain) domain langs old new

    pub no_domain_tested : (s : State) (counted : List Counted) → counted ≡ [] → s.in_transaction ≡ false → IsIdleOver by_domain s → (HasCleanDisk s → IsTrue s.is_open)
        → IsLookUp {E = OpenFault} s s (Ok tt) (DomainsSoFar 0 counted)
    no_domain_tested s counted none ended idle is_open =
        not_looked by_domain s tt (DomainsSoFar 0 counted) ended idle is_open (λ clean. (λ domain there. absurd there, none_counted (walked_counts s.now frame) counted none))

    domain_more : (db : Database) (i : ℕ) (domain : Text) (old new : List Counted) → i < length domains → domain ≡ get_or domains i domain → DomainsSoFar i old db tt → OneDomain domain old new db → DomainsSoFar (i + 1) new db tt
    domain_more db i domain old new within is far one = (
      one_more (TestsDomain db frame) domains i domain within is far.0 one.0,
      one_domain_counted (walked_counts db frame) domains langs i domain new within is (one.1 (walked_counts db frame) (places_of (take i domains) langs) (λ lang. refl) far.1),
    )

    pub one_domain_more : (a b c : State) {U : Type 0} (u : U) (i : ℕ) (domain : Text) (old new : List Counted) → i < length domains → domain ≡ get_or domains i domain → IsLookUp {E = OpenFault} a b (Ok tt) (DomainsSoFar i old)
        → IsLookUp {E = OpenFault} b c (Ok u) (λ db _. OneDomain domain old new db) → IsLookUp {E = OpenFault} a c (Ok tt) (DomainsSoFar (i + 1) new)
    one_domain_more a b c u i domain old new within is far one =
        looked_on a c {E = OpenFault} u (Ok tt) _ (DomainsSoFar (i + 1) new) (both_looked a b c tt (Ok u) (DomainsSoFar i old) (λ db _. OneDomain domain old new db) far one)
        (λ early is_open both. domain_more a.now i domain old new within is both.0 both.1)

    pub all_domains : (a b : State) {V : Type 0} (v : V) (i : ℕ) (shown : V → List Counted) → length domains ≤ i → IsLookUp {E = OpenFault} a b (Ok tt) (DomainsSoFar i (shown v))
        → IsLookUp {E = OpenFault} a b (Ok v) (λ db w. TestsDomains db frame domains × AreCounted (walked_counts db frame) (places_of domains langs) (shown w))
    all_domains a b v i shown past far =
        looked_on a b {E = OpenFault} tt (Ok v) (DomainsSoFar i (shown v)) (λ db w. TestsDomains db frame domains × AreCounted (walked_counts db frame) (places_of domains langs) (shown w)) far
        (λ early is_open it. subst (λ l. TestsDomains a.now frame l × AreCounted (walked_counts a.now frame) (places_of l langs) (shown v)) (take_all i domains past) it)
