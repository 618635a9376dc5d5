-- What walks tell of the languages of domains whose frames were read. This project's own words.
use Rattle.std.specs.Prelude.{◌≡◌, ⊤, ◌++◌, List, Option, IsSome, IsTrue, map, option_map}
use Rattle.std.specs.FinMap as maps
use Rattle.sqlite.specs.Effect.{Database}
use Rattle.sqlite_rules.specs.Lists.{Has}
use Rattle.po_text.specs.Texts.{Text}
use Rattle.units.specs.Office.{Office, has_domain, project_in}
use Rattle.units.specs.Project.{Project}
use Rattle.rule_tests.specs.Parts.{IsBareProject}
use Rattle.office_specification.specs.declared.tally.Tally.{Tally}
use Rattle.sql_adoption.specs.FigureRows.{AreCounted, Place}
use Rattle.sql_figures.specs.KeptTallies.{Counts}
use Rattle.sql_adoption.specs.LanguagesKept.{IsLanguageKept, StandsLanguage, walked_tally}
use Rattle.sql_adoption.specs.declared.faults.OpenFault.{OpenFault}
use Rattle.sql_adoption.specs.declared.faults.OpenFault.TheVariants.{Foreign, Exists}
use Rattle.sql_adoption.specs.declared.faults.Mismatch.TheVariants.{OtherTables, OtherForm, UnreadRow, OtherFigures, BrokenRules}
use Rattle.sql_adoption.specs.declared.language_tallies.Counted.{Counted}

-- what is true of rows that are refused so, each of which stands for a value if the first holds, and which keep the rules if the second does
abbrev pub RefusesEither : Type 0 → Type 0 → OpenFault → Type 0
RefusesEither stand keep (Foreign UnreadRow) = ¬ stand
RefusesEither stand keep (Foreign BrokenRules) = ¬ keep
RefusesEither stand keep (Foreign OtherFigures) = ⊥
RefusesEither stand keep (Foreign OtherForm) = ⊥
RefusesEither stand keep (Foreign OtherTables) = ⊥
RefusesEither stand keep Exists = ⊥
RefusesEither stand keep _ = ⊤

-- ---- a language

-- what its units count, where it is there
abbrev pub walked_of : Database → Project → Text → Text → Option Tally
walked_of db project domain lang = option_map (λ _. walked_tally db project.template domain lang) (maps.get project.headers lang)

abbrev pub KeepsLang : Database → Project → Text → Text → Type 0
KeepsLang db project domain lang = IsSome (maps.get project.headers lang) → IsLanguageKept db project domain lang

-- its rows stand, and keep the rules
pub record AreLanguageRows (db : Database) (project : Project) (domain lang : Text) : Type 0 where
  pub stand : StandsLanguage db domain lang
  pub keep : IsLanguageKept db project domain lang

abbrev pub TestsLang : Database → Project → Text → Text → Type 0
TestsLang db project domain lang = IsSome (maps.get project.headers lang) → AreLanguageRows db project domain lang

-- ---- those of a domain

abbrev pub TestsLangs : Database → Project → Text → List Text → Type 0
TestsLangs db project domain langs = (lang : Text) → Has langs lang → TestsLang db project domain lang

-- what was counted before is counted, and these languages are
abbrev pub CountsLangs : Database → Project → Text → List Text → List Counted → List Counted → Type 0
CountsLangs db project domain langs old new =
    (counts : Counts) (before : List Place) → ((lang : Text) → counts domain lang ≡ walked_of db project domain lang) → AreCounted counts before old → AreCounted counts (before ++ map (λ lang. (domain, lang)) langs) new

-- the domain's frame keeps the rules, and the rows of its languages do
pub record KeepsDomain (db : Database) (project : Project) (domain : Text) : Type 0 where
  pub bare : IsBareProject project
  pub each : (lang : Text) → KeepsLang db project domain lang

abbrev pub StandsDomain : Database → Project → Text → Type 0
StandsDomain db project domain = (lang : Text) → IsSome (maps.get project.headers lang) → StandsLanguage db domain lang

pub record TestsProject (db : Database) (project : Project) (domain : Text) : Type 0 where
  pub stand : StandsDomain db project domain
  pub keep : KeepsDomain db project domain

-- ---- of all domains

-- what the languages of a frame's domains count
abbrev pub walked_counts : Database → Office → Counts
walked_counts db frame domain lang = walked_of db (project_in frame domain) domain lang

-- the rows of a domain that is there
abbrev pub StandsThere : Database → Office → Text → Type 0
StandsThere db frame domain = IsTrue (has_domain frame domain) → StandsDomain db (project_in frame domain) domain

abbrev pub KeepsThere : Database → Office → Text → Type 0
KeepsThere db frame domain = IsTrue (has_domain frame domain) → KeepsDomain db (project_in frame domain) domain

abbrev pub TestsDomain : Database → Office → Text → Type 0
TestsDomain db frame domain = IsTrue (has_domain frame domain) → TestsProject db (project_in frame domain) domain

abbrev pub TestsDomains : Database → Office → List Text → Type 0
TestsDomains db frame domains = (domain : Text) → Has domains domain → TestsDomain db frame domain

abbrev pub StandsFrame : Database → Office → Type 0
StandsFrame db frame = (domain : Text) → StandsThere db frame domain

abbrev pub KeepsFrame : Database → Office → Type 0
KeepsFrame db frame = (domain : Text) → KeepsThere db frame domain
