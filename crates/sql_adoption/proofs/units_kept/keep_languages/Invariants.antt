use Rattle.std.proofs.Common.{Ok}
use Rattle.sqlite.specs.Held.{state}
use Rattle.office_maps.specs.OfficeIn.{lent_project}
use Rattle.sql_schema.specs.Whole.{IsLookUp}
use Rattle.sql_adoption.specs.declared.faults.OpenFault.{OpenFault}
use Rattle.sql_adoption.proofs.LanguagesTold.{LangsSoFar}
use Rattle.sql_adoption.proofs.units_kept.keep_languages.Given as goal

-- the languages so far are tested
abbrev pub invariant-loop-lang : goal.invariant-loop-lang
invariant-loop-lang g l =
    IsLookUp {E = OpenFault} (state g.S.Store l.fn.connection) (state g.S.Store l.connection) (Ok tt) (LangsSoFar (lent_project l.project) l.domain l.langs l.lang-index l.fn.counted.items l.counted.items)
