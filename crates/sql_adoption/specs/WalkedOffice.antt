-- What is told of tables by domains whose frames are at hand and whose units, suggestions and votes are walked. This project's own words.
use Rattle.std.specs.Prelude.{◌≡◌, ◌≤◌, ⊤, Bool, false, List, IsSome, codes}
use Rattle.std.specs.FinMap as maps
use Rattle.sqlite.specs.Effect.{Database}
use Rattle.sqlite.specs.Order.{Row}
use Rattle.sqlite_rules.specs.Lists.{Has}
use Rattle.units.specs.Limits.{domain_limit}
use Rattle.units.specs.Office.{Office, main}
use Rattle.office_maps.specs.OfficeIn.{office_in}
use Rattle.sql_schema.specs.Layouts.{rows_named}
use Rattle.sql_meaning.specs.Domains.{HoldsOwnDomains}
use Rattle.sql_statements.specs.WalkedRows.{is_unplaced}
use Rattle.sql_statements.specs.WholeOffice.{without_units}
use Rattle.sql_adoption.specs.FigureRows.{ShowsAllTallies, are_rows_of, AreCounted, places_of}
use Rattle.sql_adoption.specs.FramesKept.{KeepsFrame, StandsFrame, TestsDomains, walked_counts}
use Rattle.sql_adoption.specs.Reading.{AreDomainsRead}
use Rattle.sql_adoption.specs.SumsKept.{VotesStand}
use Rattle.sql_adoption.specs.declared.faults.OpenFault.{OpenFault}
use Rattle.sql_adoption.specs.declared.faults.OpenFault.TheVariants.{Foreign, Exists}
use Rattle.sql_adoption.specs.declared.faults.Mismatch.TheVariants.{OtherTables, OtherForm, UnreadRow, OtherFigures, BrokenRules}
use Rattle.sql_adoption.specs.declared.language_tallies.Counted.{Counted}
use Rattle.sql_adoption.specs.declared.office_put.ReadOffice.{ReadOffice}

-- Each row is of a domain that there is, and the office without the units of its domains was read.
pub record IsFrameOf (db : Database) (frame : ReadOffice) : Type 0 where
  pub own : HoldsOwnDomains (rows_named db)
  pub read : AreDomainsRead (without_units (rows_named db)) frame

-- there is `main`, and there are few domains
pub record HasFewDomains (office : Office) : Type 0 where
  pub has_main : IsSome (maps.get office.domains main)
  pub few : maps.len office.domains ≤ domain_limit

-- each unit has its language
abbrev pub ArePlaced : Database → Type 0
ArePlaced db = (u : Row) → Has (rows_named db (codes "d_unit")) u → is_unplaced (rows_named db) u ≡ false

-- ---- units, suggestions and votes

-- The rows of all domains of a frame stand and keep the rules, and this is what their languages count.
pub record AreUnitsIn (db : Database) (frame : ReadOffice) (counted : List Counted) : Type 0 where
  pub placed : ArePlaced db
  pub domains : TestsDomains db (office_in frame.maps) frame.domains.items
  pub votes : VotesStand db
  pub counts : AreCounted (walked_counts db (office_in frame.maps)) (places_of frame.domains.items frame.langs.items) counted

-- what is true of units, suggestions and votes that are refused so
abbrev pub RefusesUnits : Office → Database → OpenFault → Type 0
RefusesUnits frame db (Foreign UnreadRow) = ¬ (StandsFrame db frame × VotesStand db)
RefusesUnits frame db (Foreign BrokenRules) = ¬ (ArePlaced db × KeepsFrame db frame)
RefusesUnits frame db (Foreign OtherFigures) = ⊥
RefusesUnits frame db (Foreign OtherForm) = ⊥
RefusesUnits frame db (Foreign OtherTables) = ⊥
RefusesUnits frame db Exists = ⊥
RefusesUnits frame db _ = ⊤

-- ---- tallies

-- rows that show all tallies are told to be those that were counted, or not to be
abbrev pub AreTold : List Counted → Bool → Database → Type 0
AreTold counted told db = (rows : List Row) × ShowsAllTallies db rows × (are_rows_of counted rows ≡ told)

-- what is true of tallies that are refused so
abbrev pub RefusesCounted : List Counted → Database → OpenFault → Type 0
RefusesCounted counted db (Foreign OtherFigures) = AreTold counted false db
RefusesCounted counted db (Foreign UnreadRow) = ⊥
RefusesCounted counted db (Foreign BrokenRules) = ⊥
RefusesCounted counted db (Foreign OtherForm) = ⊥
RefusesCounted counted db (Foreign OtherTables) = ⊥
RefusesCounted counted db Exists = ⊥
RefusesCounted counted db _ = ⊤
