use Rattle.std.proofs.Common.{Ok}
use Rattle.sqlite.specs.Held.{state}
use Rattle.office_maps.specs.OfficeIn.{office_in}
use Rattle.sql_schema.specs.Whole.{IsLookUp}
use Rattle.sql_adoption.specs.declared.faults.OpenFault.{OpenFault}
use Rattle.sql_adoption.proofs.LanguagesTold.{DomainsSoFar}
use Rattle.sql_adoption.proofs.units_kept.keep_domains.Given as goal

-- the domains so far are tested
abbrev pub invariant-loop-domain : goal.invariant-loop-domain
invariant-loop-domain g l =
    IsLookUp {E = OpenFault} (state g.S.Store l.fn.connection) (state g.S.Store l.connection) (Ok tt) (DomainsSoFar (office_in l.frame.maps) l.domains l.frame.langs.items l.domain-index l.counted.items)
