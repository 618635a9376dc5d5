-- Tables by domains are refused where some rows are of a domain that isn't there.
use Rattle.sqlite.specs.Effect.{Database}
use Rattle.sql_schema.specs.Layouts.{by_domain, rows_named}
use Rattle.sql_meaning.specs.Domains.{HoldsOwnDomains}
use Rattle.sql_adoption.specs.OwnedRows.{RefusesUnless}
use Rattle.sql_adoption.specs.Reading.{RefusesOf}
use Rattle.sql_adoption.specs.declared.faults.OpenFault.{OpenFault}
use Rattle.sql_adoption.specs.declared.faults.OpenFault.TheVariants.{Memory, Disk, Foreign, Exists, Refused}
use Rattle.sql_adoption.specs.declared.faults.Mismatch.TheVariants.{OtherTables, OtherForm, UnreadRow, OtherFigures, BrokenRules}

-- rows of a domain that isn't there
pub others_there : (db : Database) (fault : OpenFault) → RefusesUnless (HoldsOwnDomains (rows_named db)) fault → RefusesOf by_domain db fault
others_there db (Foreign UnreadRow) h = λ it. h it.0.own
others_there db (Foreign OtherFigures) h = absurd h
others_there db (Foreign BrokenRules) h = absurd h
others_there db (Foreign OtherForm) h = absurd h
others_there db (Foreign OtherTables) h = absurd h
others_there db Exists h = absurd h
others_there db Memory h = tt
others_there db Disk h = tt
others_there db Refused h = tt
