use Rattle.std.proofs.Common.{map, drop}
use Rattle.office_maps.specs.OfficeIn.{lent_project}
use Rattle.office_specification.specs.EntryTexts.{with_its_unit}
use Rattle.tables.specs.Handing.{HandedSoFar}
use Rattle.tables.proofs.handing.hand_template.Given as goal

abbrev pub invariant-loop-entry : goal.invariant-loop-entry
invariant-loop-entry g l =
    HandedSoFar g.S.EntrySink.Took l.fn.sink l.sink (map (with_its_unit (lent_project l.project) l.lang) l.entries) (map (with_its_unit (lent_project l.project) l.lang) (drop l.entry-index l.entries))
