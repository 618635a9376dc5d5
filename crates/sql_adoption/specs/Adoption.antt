-- What is asked of rows that are adopted as an office's with its book, and why they are refused. This project's own rule.
use Rattle.std.specs.Prelude.{◌≡◌, ◌⊎◌, ⊤, ℕ, ℤ, Bool, List, [], ◌∷◌, true, false, pos, IsTrue, codes}
use Rattle.sqlite.specs.declared.types.Value.TheVariants.{Int}
use Rattle.sqlite.specs.Order.{Row, column}
use Rattle.sqlite.specs.Effect.{Database}
use Rattle.sqlite.specs.Tree.{Trees}
use Rattle.sqlite.specs.State.{State, HasCleanDisk}
use Rattle.sqlite_rules.specs.Lists.{Has}
use Rattle.office_specification.specs.OfficeRules.{KeepsRules}
use Rattle.rule_tests.specs.Given.{AreAllLangs}
use Rattle.office_maps.specs.OfficeIn.{office_in}
use Rattle.po_text.specs.Valid.{IsValid}
use Rattle.sql_schema.specs.Keys.{text_at, row_number, columns}
use Rattle.sql_schema.specs.Whole.{IsIdleOver}
use Rattle.sql_layouts.specs.Found.{HoldsOfficeOf, HoldsOffice}
use Rattle.sql_layouts.specs.Tables.{form_told}
use Rattle.sql_adoption.specs.declared.tested.Adopted.{Adopted}
use Rattle.sql_adoption.specs.declared.tested.Adopted.TheVariants as adopted
use Rattle.sql_adoption.specs.declared.tested.MainOffice.{MainOffice}
use Rattle.sql_layouts.specs.declared.office_tables.Form as told
use Rattle.po_text.specs.Texts.{Text}
use Rattle.sql_schema.specs.SeenRows.{seen_in}
use Rattle.sql_meaning.specs.Meaning.{template_in, meaning_in, AreNumbered}
use Rattle.sql_meaning.specs.Domains.{meaning_for, HoldsOwnDomains}
use Rattle.sql_decoding.specs.RowTests.{is_domain_row, is_member_row, is_policy_row, is_entry_row, is_language_row, is_unit_row, is_suggestion_row, is_vote_row, is_record_row}
use Rattle.request_book.specs.Contents.{IsContent}
use Rattle.sql_adoption.specs.declared.faults.OpenFault.{OpenFault}
use Rattle.sql_adoption.specs.declared.faults.OpenFault.TheVariants.{Foreign, Exists}
use Rattle.sql_adoption.specs.declared.faults.Mismatch.TheVariants.{OtherTables, OtherForm, UnreadRow, OtherFigures, BrokenRules}
use Rattle.sql_schema.specs.Layouts.{Form, IsForMain, for_main, by_domain, HasLayoutOf, NamedRows, rows_named}
use Rattle.sql_figures.specs.Figures.{HasFigures, HoldFigures, figures_of_main}

-- the number of the schema, which tells the form of the tables
abbrev pub schema_number : Form → ℤ
schema_number (for_main false) = pos 1
schema_number (for_main true) = pos 2
schema_number by_domain = pos 3

-- the policy's row says which form the tables have
abbrev pub TellsForm : Form → NamedRows → Type 0
TellsForm form tables = (row : Row) × Has (tables (codes "policy")) row × (row_number row ≡ Int (pos 1)) × (column row 2 ≡ Int (schema_number form))

-- the sums and tallies that tables keep are what counting their rows gives
abbrev pub KeepsFigures : Form → NamedRows → Type 0
KeepsFigures (for_main false) tables = ⊤
KeepsFigures (for_main true) tables = HoldFigures (meaning_in tables).office (figures_of_main tables)
KeepsFigures by_domain tables = HasFigures tables

-- each record's content is that of some request
abbrev pub AreContents : NamedRows → Type 0
AreContents tables = (row : Row) → Has (tables (codes "record")) row → IsContent (text_at 2 row)

-- each row of the table of this name passes a test, which reads these columns of it
abbrev pub Each : List ℕ → List ℕ → (Row → Bool) → NamedRows → Type 0
Each name places test tables = (row : Row) → Has (tables name) row → IsTrue (test (columns places row))

-- The rows of the office's own tables stand for values, and those of the template for a valid catalogue.
pub record StandForOffice (tables : NamedRows) : Type 0 where
  -- role, name
  pub members : Each (codes "team") (2 ∷ 1 ∷ []) is_member_row tables
  -- schema, and the six values
  pub policy : (row : Row) → Has (tables (codes "policy")) row → row_number row ≡ Int (pos 1) → IsTrue (is_policy_row (columns (2 ∷ 3 ∷ 4 ∷ 5 ∷ 6 ∷ 7 ∷ 8 ∷ []) row))
  -- plural, extracted, refs, flags, key, place
  pub entries : Each (codes "template") (3 ∷ 4 ∷ 5 ∷ 6 ∷ 2 ∷ 0 ∷ []) is_entry_row tables
  pub template : IsValid (template_in tables)
  -- header, plural, lang
  pub languages : Each (codes "language") (2 ∷ 3 ∷ 1 ∷ []) is_language_row tables
  -- plural, forms, state, obsolete, revision, comment, previous, lang, key
  pub units : Each (codes "unit") (3 ∷ 4 ∷ 5 ∷ 6 ∷ 7 ∷ 8 ∷ 9 ∷ 1 ∷ 2 ∷ []) is_unit_row tables
  -- number, place, suggester, forms, lang, key
  pub suggestions : Each (codes "suggestion") (1 ∷ 4 ∷ 5 ∷ 6 ∷ 2 ∷ 3 ∷ []) is_suggestion_row tables
  -- voter, value, number
  pub votes : Each (codes "vote") (2 ∷ 3 ∷ 1 ∷ []) is_vote_row tables

-- The rows of an office's own tables by domains stand for values: each domain has a name, each row with a column for a domain is of one that there is, and
-- what each domain sees stands for values.
pub record StandInDomains (tables : NamedRows) : Type 0 where
  -- name
  pub names : Each (codes "domain") (1 ∷ []) is_domain_row tables
  pub own : HoldsOwnDomains tables
  pub each : (domain : Text) → StandForOffice (seen_in domain tables)

abbrev pub StandForOfficeOf : Form → NamedRows → Type 0
StandForOfficeOf (for_main figures) tables = StandForOffice tables
StandForOfficeOf by_domain tables = StandInDomains tables

-- The rows of records stand for values, and their contents are requests'.
pub record StandForBook (tables : NamedRows) : Type 0 where
  -- content, status, body, number
  pub records : Each (codes "record") (2 ∷ 3 ∷ 4 ∷ 1 ∷ []) is_record_row tables
  pub contents : AreContents tables

-- The rows are those of an office with its book, in a form of the tables.
pub record IsAdoptedOf (form : Form) (db : Database) : Type 0 where
  pub told : TellsForm form (rows_named db)
  pub office : StandForOfficeOf form (rows_named db)
  pub book : StandForBook (rows_named db)
  pub numbered : AreNumbered (rows_named db)
  pub contents : AreContents (rows_named db)
  pub figures : KeepsFigures form (rows_named db)
  pub rules : KeepsRules (meaning_for form (rows_named db))

-- in the form that the tables have
abbrev pub IsAdopted : Database → Type 0
IsAdopted db = (form : Form) × HoldsOfficeOf form db × IsAdoptedOf form db

-- in maps, the office of the rows of tables without a column for a domain is this, and its languages are here
pub record IsAdoptedAs (db : Database) (adopted : MainOffice) : Type 0 where
  pub office : office_in adopted.maps ≡ (meaning_for (form_told adopted.form) (rows_named db)).office
  pub langs : AreAllLangs (office_in adopted.maps) adopted.langs.items
  pub rows : IsAdoptedOf (form_told adopted.form) db

-- the form of what was adopted; only of tables without a column for a domain an office is at hand
abbrev pub adopted_form : Adopted → Form
adopted_form adopted.ByDomain = by_domain
adopted_form (adopted.ForMain office) = form_told office.form

abbrev pub HasItsForm : Adopted → Type 0
HasItsForm adopted.ByDomain = ⊤
HasItsForm (adopted.ForMain office) = IsForMain (form_told office.form)

-- such rows are adopted, with what is at hand of them
abbrev pub IsAdoptedWith : Database → Adopted → Type 0
IsAdoptedWith db adopted.ByDomain = IsAdoptedOf by_domain db
IsAdoptedWith db (adopted.ForMain office) = IsAdoptedAs db office

-- it is of tables of a form that was told
pub record HasForm (form : told.Form) (adopted : Adopted) : Type 0 where
  pub same : adopted_form adopted ≡ form_told form
  pub main : HasItsForm adopted

-- An open connection between transactions over such rows, and what is at hand of them.
pub record IsAdoptedIn (s : State) (found : Adopted) : Type 0 where
  pub is_open : HasCleanDisk s → IsTrue s.is_open
  pub idle : IsIdleOver (adopted_form found) s
  pub main : HasItsForm found
  pub adopted : HasCleanDisk s → IsAdoptedWith s.now found

-- A connection between transactions that shows and has committed what it did, unless it is shut; a stop leaves what it left before, or the
-- rows that were shown.
pub record StaysAsItWas (old new : State) : Type 0 where
  pub honest : HasCleanDisk new → HasCleanDisk old
  pub was_open : HasCleanDisk new → IsTrue new.is_open → IsTrue old.is_open
  pub now : HasCleanDisk new → IsTrue new.is_open → new.now ≡ old.now
  pub committed : HasCleanDisk new → IsTrue new.is_open → new.committed ≡ old.committed
  pub ended : new.in_transaction ≡ false
  pub stops : HasCleanDisk new → (db : Trees) → new.may_leave db → old.may_leave db ⊎ (db ≡ old.now.trees)
  pub limit : new.step_limit ≡ old.step_limit

-- The tables are an office's in some form, and of that this isn't so.
abbrev pub Lacks : (Form → Type 0) → Database → Type 0
Lacks P db = (form : Form) × HasLayoutOf form db × ¬ P form

-- What is true of rows that are refused so. Of want of memory and of a failed disk nothing is said; that an office is there refuses nothing.
abbrev pub Refuses : Database → OpenFault → Type 0
Refuses db (Foreign OtherTables) = ¬ HoldsOffice db
Refuses db (Foreign OtherForm) = Lacks (λ form. TellsForm form (rows_named db)) db
Refuses db (Foreign UnreadRow) = Lacks (λ form. StandForOfficeOf form (rows_named db) × StandForBook (rows_named db)) db
Refuses db (Foreign OtherFigures) = Lacks (λ form. KeepsFigures form (rows_named db)) db
Refuses db (Foreign BrokenRules) = Lacks (λ form. KeepsRules (meaning_for form (rows_named db))) db
Refuses db Exists = ⊥
Refuses db _ = ⊤
