-- What is written for an act beside its record. Only private clauses and proofs cite this file.
use Rattle.std.specs.Prelude.{◌≡◌, Bool, true, false}
use Rattle.sqlite.specs.Effect.{Database}
use Rattle.po_text.specs.Texts.{Text}
use Rattle.units.specs.declared.unit.Unit.{Unit}
use Rattle.office_specification.specs.declared.values.Change.{Change}
use Rattle.office_specification.specs.declared.values.Change.TheVariants.{OneRole, NewPolicy, NewDomain, InDomain}
use Rattle.office_specification.specs.declared.values.DomainChange.{DomainChange}
use Rattle.office_specification.specs.declared.values.DomainChange.TheVariants.{NewLanguage, NewTemplate}
use Rattle.sql_columns.specs.Numbers.{role_number}
use Rattle.sql_meaning.specs.Beginnings.{PutsDomain}
use Rattle.sql_meaning.specs.Domains.{is_domain}
use Rattle.sql_meaning.specs.RowChanges.{HaveNextIn}
use Rattle.sql_changes.specs.Commits.{WritesRole, WritesPolicy, WritesLanguage, WritesTemplate}
use Rattle.sql_changes.specs.OnDomains.{OnDomainsWhere, OnEach, OnDomain, SparesDomains}
use Rattle.sql_changes.specs.UnitWrites.{WritesPlanned}
use Rattle.sql_schema.specs.Layouts.{NamedRows, rows_named}

-- a unit of a plan, unless it stays as it was
abbrev pub WritesUnlessStays : Bool → Text → Unit → NamedRows → NamedRows → Type 0
WritesUnlessStays true lang unit old new = new ≡ old
WritesUnlessStays false lang unit old new = WritesPlanned lang unit old new

abbrev pub WritesDomainChange : DomainChange → NamedRows → NamedRows → Type 0
WritesDomainChange (NewLanguage lang language plan tally) = WritesLanguage lang language.header plan.units
WritesDomainChange (NewTemplate template plans tallies) = WritesTemplate template plans.items

-- in a domain that is there; elsewhere nothing
abbrev pub WritesThere : Bool → Text → (NamedRows → NamedRows → Type 0) → Database → Database → Type 0
WritesThere true domain Writes = OnDomain domain Writes
WritesThere false domain Writes = SparesDomains

abbrev pub WritesIn : Text → (NamedRows → NamedRows → Type 0) → Database → Database → Type 0
WritesIn domain Writes old new = WritesThere (is_domain (rows_named old) domain) domain Writes old new

abbrev pub WritesChange : Change → Database → Database → Type 0
WritesChange (OneRole name role) = OnEach (WritesRole name (role_number role))
WritesChange (NewPolicy policy) = OnDomainsWhere HaveNextIn (λ domain. WritesPolicy policy)
WritesChange (NewDomain domain) = PutsDomain domain
WritesChange (InDomain domain change) = WritesIn domain (WritesDomainChange change)
