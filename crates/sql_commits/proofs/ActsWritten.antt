-- What is written for an act behind its request's record.
use Rattle.std.specs.Prelude.{⊤}
use Rattle.std.proofs.Common.{◌≡◌, Bool, true, false, ap, subst, codes}
use Rattle.std.specs.List.{list_any}
use Rattle.sqlite.specs.Effect.{Database}
use Rattle.po_text.specs.Texts.{Text}
use Rattle.units.specs.declared.unit.Key.{Key}
use Rattle.request_book.specs.declared.book.Record.{Record}
use Rattle.office_specification.specs.declared.values.Change.{Change}
use Rattle.office_specification.specs.declared.values.Change.TheVariants.{OneRole, NewPolicy, NewDomain, InDomain}
use Rattle.office_specification.specs.declared.values.DomainChange.{DomainChange}
use Rattle.office_specification.specs.declared.values.DomainChange.TheVariants.{NewLanguage, NewTemplate}
use Rattle.office_specification.specs.declared.values.UnitWrite.{UnitWrite}
use Rattle.sql_columns.specs.Numbers.{role_number}
use Rattle.sql_schema.specs.Keys.{has_text}
use Rattle.sql_schema.specs.Layouts.{NamedRows, rows_named}
use Rattle.sql_meaning.specs.Domains.{is_domain}
use Rattle.sql_meaning.specs.RowChanges.{HaveNextIn}
use Rattle.sql_changes.specs.UnitWrites.{WritesOfUnit}
use Rattle.sql_changes.specs.Commits.{PutsNumberedRecord, WritesRole, MakesRole, WritesPolicy, MakesPolicy, WritesRecordAndUnit, MakesLanguage, MakesTemplate, MakesThere, MakesIn, MakesDomainChange}
use Rattle.sql_changes.specs.OnDomains.{OnEach}
use Rattle.sql_changes.proofs.DomainWrites.{seen, domain_elsewhere, domains_then, on_each_then, record_then_domain, spares_last, domains_where}
use Rattle.sql_commits.specs.Acts.{MakesOneChange}
use Rattle.sql_commits.specs.Changes.{WritesDomainChange, WritesThere, WritesIn, WritesChange}
use Rattle.sql_commits.proofs.PolicyTurns.{next_behind_record}

module _ (row : Record) where
  writes_record_and_unit : (lang : Text) (key : Key) (write : UnitWrite) (old mid new : NamedRows) → PutsNumberedRecord row old mid → WritesOfUnit lang key write mid new → WritesRecordAndUnit row lang key write old new
  unfolding WritesRecordAndUnit
  writes_record_and_unit lang key write old mid new recorded written = (mid, recorded, written)

  makes_domain_change : (change : DomainChange) (old mid new : NamedRows) → PutsNumberedRecord row old mid → WritesDomainChange change mid new → MakesDomainChange row change old new
  unfolding MakesLanguage MakesTemplate
  makes_domain_change (NewLanguage lang language plan tally) old mid new recorded written = (mid, recorded, written)
  makes_domain_change (NewTemplate template plans tallies) old mid new recorded written = (mid, recorded, written)

module _ (row : Record) (old mid new : Database) (recorded : OnEach (PutsNumberedRecord row) old mid) where
  -- the record leaves which domains there are
  same_domains : (domain : Text) → is_domain (rows_named mid) domain ≡ is_domain (rows_named old) domain
  same_domains domain = ap (list_any (has_text 1 domain)) ((recorded.on (λ d. tt)).1 (codes "domain") domain_elsewhere)

  -- where the domain is there, and where nothing is written behind the record
  makes_in : (domain : Text) (Writes Makes : NamedRows → NamedRows → Type 0) → ((before between after : NamedRows) → PutsNumberedRecord row before between → Writes between after → Makes before after)
      → WritesIn domain Writes mid new → MakesIn domain row Makes old new
  makes_in domain Writes Makes both written = by (is_domain (rows_named old) domain) (subst (λ b. WritesThere b domain Writes mid new) (same_domains domain) written)
    where
      by : (b : Bool) → WritesThere b domain Writes mid new → MakesThere b domain row Makes old new
      by true written = record_then_domain domain row Writes Makes both recorded written
      by false same = spares_last (λ rows. ⊤) (λ d. PutsNumberedRecord row) recorded same

  pub writes_unit : (domain lang : Text) (key : Key) (write : UnitWrite) → WritesIn domain (WritesOfUnit lang key write) mid new → MakesIn domain row (WritesRecordAndUnit row lang key write) old new
  writes_unit domain lang key write = makes_in domain (WritesOfUnit lang key write) (WritesRecordAndUnit row lang key write) (writes_record_and_unit row lang key write)

  pub makes_change : (change : Change) → WritesChange change mid new → MakesOneChange row change old new
  makes_change (OneRole name role) written =
      on_each_then (PutsNumberedRecord row) (WritesRole name (role_number role)) (MakesRole row name role) (λ d first second. (seen d mid, first, second)) recorded written
  makes_change (NewPolicy policy) written =
      domains_then HaveNextIn (λ d. PutsNumberedRecord row) (λ d. WritesPolicy policy) (λ d. MakesPolicy row policy) (λ d first second. (seen d mid, first, second))
      (λ d. next_behind_record row (seen d old) (seen d mid)) (domains_where HaveNextIn (λ d. PutsNumberedRecord row) recorded) written
  makes_change (NewDomain domain) written = (mid, recorded, written)
  makes_change (InDomain domain change) written = makes_in domain (WritesDomainChange change) (MakesDomainChange row change) (makes_domain_change row change) written
