-- What a commit of a change of an office makes of the rows that a domain sees, by the names of their tables: its request's record, whose number is 16 bytes, and the rows that the change
-- writes.
use Rattle.std.specs.Prelude.{◌≡◌, ℤ, pos, Bool, true, false, List, [], ◌∷◌, Option, Some, None, unwrap_or, codes}
use Rattle.sqlite.specs.declared.types.Value.TheVariants.{Null, Int, Text as Words}
use Rattle.sqlite.specs.Order.{Row}
use Rattle.po_text.specs.declared.entry.Entry.{Entry}
use Rattle.po_text.specs.Strings.{is_forms}
use Rattle.po_text.specs.Texts.{Text}
use Rattle.units.specs.Rules.{plural_field}
use Rattle.units.specs.declared.unit.Policy.{Policy}
use Rattle.units.specs.declared.unit.Role.{Role}
use Rattle.units.specs.declared.unit.Key.{Key}
use Rattle.units.specs.declared.unit.Unit.{Unit}
use Rattle.template_update.specs.declared.plans.Plan.{Plan}
use Rattle.office_specification.specs.ProjectActs.{LanguagePlan}
use Rattle.office_specification.specs.declared.values.DomainChange.{DomainChange}
use Rattle.office_specification.specs.declared.values.DomainChange.TheVariants.{NewLanguage, NewTemplate}
use Rattle.office_specification.specs.declared.values.Language.{Language}
use Rattle.office_specification.specs.declared.values.UnitWrite.{UnitWrite}
use Rattle.request_book.specs.Acts.{IsNumber}
use Rattle.request_book.specs.declared.book.Record.{Record}
use Rattle.sql_columns.specs.Numbers.{role_number, flag_number}
use Rattle.sql_columns.specs.Written.{ArePrevious, header_text}
use Rattle.sql_schema.specs.Inside.{PutsIn, HoldsValues, Then}
use Rattle.sql_schema.specs.Keys.{first_text, row_number, has_text}
use Rattle.sql_meaning.specs.Cells.{record_cells}
pub use Rattle.sql_changes.specs.EntryWrites.{entry_row, PutsEntry, PutsEntries}
use Rattle.sql_changes.specs.EntryWrites.{HoldsEntries}
use Rattle.sql_changes.specs.UnitWrites.{LeavesRows, WritesOfUnit, WritesUnits, WritesPlansBack}
use Rattle.sqlite.specs.Effect.{Database}
use Rattle.sql_schema.specs.Layouts.{NamedRows, rows_named}
use Rattle.sql_schema.specs.SeenRows.{AreSameByName}
use Rattle.sql_meaning.specs.Domains.{is_domain}
use Rattle.sql_changes.specs.OnDomains.{OnEach, OnDomainElse}
use Rattle.sql_meaning.specs.RowChanges.{TakesIn, UnapprovesIn}

abbrev pub PutsNumberedRecord : Record → NamedRows → NamedRows → Type 0
PutsNumberedRecord row old new = PutsIn (codes "record") first_text (HoldsValues (record_cells row)) old new × IsNumber row.number

-- ---- a role

-- a member has a row with the number of its role; a guest, whose role has none, has no row
abbrev pub WritesRole : Text → Option ℤ → NamedRows → NamedRows → Type 0
WritesRole name None = TakesIn (codes "team") (has_text 1 name)
WritesRole name (Some role) = PutsIn (codes "team") first_text (HoldsValues (Words name ∷ Int role ∷ []))

abbrev pub MakesRole : Record → Text → Role → NamedRows → NamedRows → Type 0
MakesRole row name role = Then (PutsNumberedRecord row) (WritesRole name (role_number role))

-- ---- the policy

-- its rowid 1, whose column is null, the third form of the tables, and the six values
abbrev pub policy_row : Policy → Row
policy_row policy =
    Int (pos 1) ∷ Null ∷ Int (pos 3) ∷ Int (flag_number policy.reviews) ∷ Int (flag_number policy.guests_suggest) ∷ Int (flag_number policy.voting) ∷ Int (pos policy.accept_at)
    ∷ Int (flag_number policy.placeholders) ∷ Int (flag_number policy.line_ends) ∷ []

abbrev pub PutsPolicy : Policy → NamedRows → NamedRows → Type 0
PutsPolicy policy = PutsIn (codes "policy") row_number (λ row. row ≡ policy_row policy)

-- without reviews no unit stays approved
abbrev pub UnapprovesUnless : Bool → NamedRows → NamedRows → Type 0
UnapprovesUnless true old new = new ≡ old
UnapprovesUnless false old new = UnapprovesIn old new

abbrev pub WritesPolicy : Policy → NamedRows → NamedRows → Type 0
WritesPolicy policy = Then (PutsPolicy policy) (UnapprovesUnless policy.reviews)

abbrev pub MakesPolicy : Record → Policy → NamedRows → NamedRows → Type 0
MakesPolicy row policy = Then (PutsNumberedRecord row) (WritesPolicy policy)

-- ---- a unit

unfoldable pub WritesRecordAndUnit : Record → Text → Key → UnitWrite → NamedRows → NamedRows → Type 0
WritesRecordAndUnit row lang key write = Then (PutsNumberedRecord row) (WritesOfUnit lang key write)

-- ---- a language

-- its code, its header, and the value of the header's field `Plural-Forms`
abbrev pub language_cells : Text → Entry → Row
language_cells lang header = Words lang ∷ Words (header_text header) ∷ Words (unwrap_or (plural_field (Some header)) []) ∷ []

-- and the header's strings are those of a catalogue
abbrev pub PutsLanguage : Text → Entry → NamedRows → NamedRows → Type 0
PutsLanguage lang header old new =
    LeavesRows (PutsIn (codes "language") first_text (HoldsValues (language_cells lang header))) old new × (is_forms header.forms ≡ true) × ArePrevious header.previous

-- with its units
abbrev pub WritesLanguage : Text → Entry → List Unit → NamedRows → NamedRows → Type 0
WritesLanguage lang header units = Then (PutsLanguage lang header) (WritesUnits lang units)

unfoldable pub MakesLanguage : Record → Text → Language → Plan → NamedRows → NamedRows → Type 0
MakesLanguage row lang language plan = Then (PutsNumberedRecord row) (WritesLanguage lang language.header plan.units)

-- ---- a template

-- its entries at their places, however many of them were there, and no other
abbrev pub PutsTemplate : List Entry → NamedRows → NamedRows → Type 0
PutsTemplate entries = LeavesRows (HoldsEntries entries)

-- and the units of plans over those that are there
abbrev pub WritesTemplate : List Entry → List LanguagePlan → NamedRows → NamedRows → Type 0
WritesTemplate entries plans = Then (PutsTemplate entries) (WritesPlansBack plans)

unfoldable pub MakesTemplate : Record → List Entry → List LanguagePlan → NamedRows → NamedRows → Type 0
MakesTemplate row entries plans = Then (PutsNumberedRecord row) (WritesTemplate entries plans)

-- ---- in a domain

abbrev pub MakesDomainChange : Record → DomainChange → NamedRows → NamedRows → Type 0
MakesDomainChange row (NewLanguage lang language plan tally) = MakesLanguage row lang language plan
MakesDomainChange row (NewTemplate template plans tallies) = MakesTemplate row template plans.items

-- the record, and otherwise the rows that were there, in whatever order
abbrev pub PutsRecordAlone : Record → NamedRows → NamedRows → Type 0
PutsRecordAlone row = Then (PutsNumberedRecord row) AreSameByName

-- in a domain that is there what is written, and elsewhere the record alone
abbrev pub MakesThere : Bool → Text → Record → (NamedRows → NamedRows → Type 0) → Database → Database → Type 0
MakesThere true domain row Makes = OnDomainElse domain Makes (PutsRecordAlone row)
MakesThere false domain row Makes = OnEach (PutsNumberedRecord row)

-- where the domain isn't there, there is nothing to change
abbrev pub MakesIn : Text → Record → (NamedRows → NamedRows → Type 0) → Database → Database → Type 0
MakesIn domain row Makes old new = MakesThere (is_domain (rows_named old) domain) domain row Makes old new
