use Rattle.std.proofs.Common.{Ok, take}
use Rattle.sqlite.specs.Held.{state}
use Rattle.office_maps.specs.OfficeIn.{office_in}
use Rattle.sql_schema.specs.Whole.{IsLookUp}
use Rattle.sql_adoption.specs.Reading.{HoldAll}
use Rattle.sql_adoption.specs.declared.faults.OpenFault.{OpenFault}
use Rattle.sql_adoption.proofs.ReadInTurn.{SoFar}
use Rattle.sql_adoption.proofs.domains_read.read_domains.Given as goal

-- the domains so far are read
abbrev pub invariant-loop-domain : goal.invariant-loop-domain
invariant-loop-domain g l = record {
  looked : IsLookUp {E = OpenFault} (state g.S.Store l.fn.connection) (state g.S.Store l.connection) (Ok tt)
      (SoFar l.part l.names (take l.domain-index l.names) (office_in l.maps));
  all : HoldAll (office_in l.maps) (take l.domain-index l.names) l.langs.items;
}
