use Rattle.office_maps.specs.LanguageUnits.{taken}
use Rattle.office_maps.proofs.Ranges.{own_of}
use Rattle.tables.specs.Handing.{HandedSoFar, obsolete_entries}
use Rattle.tables.proofs.handing.hand_obsolete.Given as goal

abbrev pub invariant-loop-place : goal.invariant-loop-place
invariant-loop-place g l =
    HandedSoFar g.S.EntrySink.Took l.fn.sink l.sink (obsolete_entries (own_of l.project.domain.now.units l.fn.lang)) (obsolete_entries (taken l.fn.lang l.place-iterator))
