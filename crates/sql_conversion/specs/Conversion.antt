-- What a conversion to tables by domains makes, and what is true of a connection whose file is taken over, or given back. This project's own rule.
use Rattle.std.specs.Prelude.{◌≡◌, ◌≢◌, ◌⊎◌, ℕ, List, [], ◌∷◌, Option, Some, None, true, false, IsTrue, codes}
use Rattle.std.specs.FinMap as maps
use Rattle.sqlite.specs.Effect.{Database}
use Rattle.sqlite.specs.Tree.{Trees}
use Rattle.sqlite.specs.State.{State, HasCleanDisk}
use Rattle.po_text.specs.Texts.{Text}
use Rattle.po_text.specs.declared.entry.Entry.{Entry}
use Rattle.units.specs.declared.unit.Policy.{Policy}
use Rattle.units.specs.declared.unit.Unit.{Unit}
use Rattle.units.specs.Project.{Project, units_of}
use Rattle.units.specs.Office.{Office, main, project_in}
use Rattle.units.specs.Offices.{IsOffice}
use Rattle.office_specification.specs.declared.tally.Tally.{Tally}
use Rattle.office_specification.specs.Tally.{counts_of}
use Rattle.request_book.specs.Book.{OfficeWithBook}
use Rattle.sql_schema.specs.Creation.{KeepsNamedRows}
use Rattle.sql_schema.specs.Inside.{Then, AreOfficeTablesOf}
use Rattle.sql_schema.specs.Layouts.{for_main, by_domain, is_own_table, NamedRows, rows_named}
use Rattle.sql_schema.specs.Whole.{IsIdleOver}
use Rattle.sql_meaning.specs.Beginnings.{PutsMain}
use Rattle.sql_meaning.specs.Meaning.{meaning_in}
use Rattle.sql_meaning.specs.Domains.{meaning_by_domain, DatabaseMeans, TreesMean}
use Rattle.sql_changes.specs.Commits.{PutsEntries, PutsPolicy, PutsLanguage}
use Rattle.sql_changes.specs.UnitWrites.{WritesUnits}
use Rattle.sql_changes.specs.OnDomains.{OnEach, OnDomain}
use Rattle.sql_figures.specs.Figures.{with_tallies, FiguresFollow}
use Rattle.sql_keepable.specs.Keepable.{IsKeepableLanguage, AreKeepableUnits, AreKeepableEntries}
use Rattle.sql_adoption.specs.Adoption.{IsAdopted}
use Rattle.sql_files.specs.Files.{IsOfficeDatabase, IsOfficeFile}

-- ---- what is written

-- entries that can be read back
abbrev pub WritesEntries : List Entry → NamedRows → NamedRows → Type 0
WritesEntries entries old new = PutsEntries 0 entries old new × AreKeepableEntries entries

-- and units
abbrev pub WritesKept : Text → List Unit → NamedRows → NamedRows → Type 0
WritesKept lang units old new = WritesUnits lang units old new × AreKeepableUnits lang units

-- a language that is there, and its units
abbrev pub WritesWhole : Text → Entry → List Unit → NamedRows → NamedRows → Type 0
WritesWhole lang header units old new = Then (PutsLanguage lang header) (WritesKept lang units) old new × IsKeepableLanguage lang header

abbrev pub WritesIf : Option Entry → Project → Text → NamedRows → NamedRows → Type 0
WritesIf (Some header) project lang = WritesWhole lang header (units_of project lang)
WritesIf None project lang = λ old new. new ≡ old

abbrev pub WritesThere : Project → Text → NamedRows → NamedRows → Type 0
WritesThere project lang = WritesIf (maps.get project.headers lang) project lang

-- one after the other
abbrev pub WritesLanguages : Project → List Text → NamedRows → NamedRows → Type 0
WritesLanguages project [] old new = new ≡ old
WritesLanguages project (lang ∷ langs) old new = Then (WritesThere project lang) (WritesLanguages project langs) old new

-- the template, and these languages
abbrev pub WritesProject : Project → List Text → NamedRows → NamedRows → Type 0
WritesProject project langs = Then (WritesEntries project.template) (WritesLanguages project langs)

-- the policy's row, which tells the form of the tables
abbrev pub TellsPolicy : Policy → Database → Database → Type 0
TellsPolicy policy old new = OnEach (PutsPolicy policy) old new × AreOfficeTablesOf by_domain new

-- the tables, the one domain, the policy and what the domain has
abbrev pub WritesAnew : Office → List Text → Database → Database → Type 0
WritesAnew office langs = Then KeepsNamedRows (Then PutsMain (Then (TellsPolicy office.policy) (OnDomain main (WritesProject (project_in office main) langs))))

-- ---- what is counted

-- a language with its tally, if it has one
abbrev pub tallied : Option Tally → Text → List (Text × Tally) → List (Text × Tally)
tallied (Some tally) lang more = (lang, tally) ∷ more
tallied None lang more = more

-- the languages of these codes that are there, each with what its units count
abbrev pub tallies_of : Project → List Text → List (Text × Tally)
tallies_of project [] = []
tallies_of project (lang ∷ langs) = tallied (counts_of project lang) lang (tallies_of project langs)

-- these languages of a domain count their units, where the office keeps its rules
abbrev pub FollowsLanguagesIn : Text → Office → List Text → Database → Database → Type 0
FollowsLanguagesIn domain office langs old new = IsOffice office → FiguresFollow (with_tallies domain (tallies_of (project_in office domain) langs)) old new

-- those of `main`
abbrev pub FollowsLanguages : Office → List Text → Database → Database → Type 0
FollowsLanguages = FollowsLanguagesIn main

-- ---- what it comes to

-- The tables of an office without a column for a domain, those of sums and tallies among them, keep their rows, but for the policy's, which tells the form.
abbrev pub KeepsOldRows : Database → Database → Type 0
KeepsOldRows old new = (name : List ℕ) → is_own_table (for_main true) name ≡ true → name ≢ codes "policy" → rows_named new name ≡ rows_named old name

-- The rows of tables by domains mean what those of the old tables meant, and are an office's, with the sums and tallies that counting them gives. The
-- old tables keep their rows.
pub record Converts (old new : Database) : Type 0 where
  pub meaning : meaning_by_domain (rows_named new) ≡ meaning_in (rows_named old)
  pub file : IsOfficeDatabase by_domain new
  pub kept : KeepsOldRows old new

-- ---- the whole

-- what a stop leaves then: what it left before, the rows that were shown, or those of a conversion, which mean the same and are an office's file
abbrev pub IsLeftOf : State → Trees → Type 0
IsLeftOf old db = old.may_leave db ⊎ (db ≡ old.now.trees) ⊎ ((m : OfficeWithBook) × DatabaseMeans old.now m × TreesMean db m × IsOfficeFile db)

-- An open connection between transactions over tables by domains, that mean what the tables meant which were adopted, and are an office's. Tables of an
-- earlier form keep their rows.
pub record IsTakenOver (old new : State) : Type 0 where
  pub honest : HasCleanDisk new → HasCleanDisk old
  pub was_open : HasCleanDisk new → IsTrue old.is_open
  pub is_open : HasCleanDisk new → IsTrue new.is_open
  pub idle : IsIdleOver by_domain new
  pub rows : HasCleanDisk new → IsAdopted old.now
  pub means : HasCleanDisk new → DatabaseMeans old.now (meaning_by_domain (rows_named new.now))
  pub file : HasCleanDisk new → IsOfficeDatabase by_domain new.now
  pub kept : HasCleanDisk new → KeepsOldRows old.now new.now
  pub committed : HasCleanDisk new → new.now ≡ new.committed
  pub ended : new.in_transaction ≡ false
  pub stops : HasCleanDisk new → (db : Trees) → new.may_leave db → IsLeftOf old db
  pub limit : new.step_limit ≡ old.step_limit

-- A connection between transactions that shows and has committed what it did, unless it is shut.
pub record IsGivenBack (old new : State) : Type 0 where
  pub honest : HasCleanDisk new → HasCleanDisk old
  pub was_open : HasCleanDisk new → IsTrue new.is_open → IsTrue old.is_open
  pub now : HasCleanDisk new → IsTrue new.is_open → new.now ≡ old.now
  pub committed : HasCleanDisk new → IsTrue new.is_open → new.committed ≡ old.committed
  pub ended : new.in_transaction ≡ false
  pub stops : HasCleanDisk new → (db : Trees) → new.may_leave db → IsLeftOf old db
  pub limit : new.step_limit ≡ old.step_limit
