-- What a commit makes of the rows that each domain sees: of an act on a unit its record, and in the unit's domain, if it is there, what its act writes of the unit, if it
-- writes anything; of an act on the office its record, and its change, if it has one. And how the figures beside the office's rows follow.
use Rattle.std.specs.Prelude.{Option, Some, None}
use Rattle.sqlite.specs.Effect.{Database}
use Rattle.po_text.specs.Texts.{Text}
use Rattle.units.specs.declared.unit.Key.{Key}
use Rattle.request_book.specs.declared.book.Record.{Record}
use Rattle.office_specification.specs.declared.values.UnitWrite.{UnitWrite}
use Rattle.office_specification.specs.declared.values.Change.{Change}
use Rattle.office_specification.specs.declared.values.Change.TheVariants.{OneRole, NewPolicy, NewDomain, InDomain}
use Rattle.sql_schema.specs.Inside.{Then}
use Rattle.sql_meaning.specs.Beginnings.{PutsDomain}
use Rattle.sql_meaning.specs.RowChanges.{HaveNextIn}
use Rattle.sql_changes.specs.Commits.{PutsNumberedRecord, WritesRecordAndUnit, MakesRole, MakesPolicy, MakesIn, MakesDomainChange}
use Rattle.sql_changes.specs.OnDomains.{OnDomainsWhere, OnEach}
use Rattle.sql_commits.specs.Figures.{FollowsAct, FollowsChange}

abbrev pub MakesAct : Record → Text → Text → Key → Option UnitWrite → Database → Database → Type 0
MakesAct row domain lang key None = OnEach (PutsNumberedRecord row)
MakesAct row domain lang key (Some write) = MakesIn domain row (WritesRecordAndUnit row lang key write)

-- of a policy where 64 bits hold the revision after that of each approved unit
abbrev pub MakesOneChange : Record → Change → Database → Database → Type 0
MakesOneChange row (OneRole name role) = OnEach (MakesRole row name role)
MakesOneChange row (NewPolicy policy) = OnDomainsWhere HaveNextIn (λ domain. MakesPolicy row policy)
MakesOneChange row (NewDomain domain) = Then (OnEach (PutsNumberedRecord row)) (PutsDomain domain)
MakesOneChange row (InDomain domain change) = MakesIn domain row (MakesDomainChange row change)

abbrev pub MakesChange : Record → Option Change → Database → Database → Type 0
MakesChange row None = OnEach (PutsNumberedRecord row)
MakesChange row (Some change) = MakesOneChange row change

-- ---- what is committed

-- The commit of an act on a unit.
pub record CommitsAct (row : Record) (domain lang : Text) (key : Key) (write : Option UnitWrite) (old new : Database) : Type 0 where
  pub makes : MakesAct row domain lang key write old new
  pub figures : FollowsAct domain lang key write old new

-- The commit of an act on the office.
pub record CommitsChange (row : Record) (change : Option Change) (old new : Database) : Type 0 where
  pub makes : MakesChange row change old new
  pub figures : FollowsChange change old new
