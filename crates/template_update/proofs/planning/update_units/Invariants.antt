use Rattle.std.proofs.Common.{List, take}
use Rattle.po_text.specs.declared.entry.Entry.{Entry}
use Rattle.units.specs.Units.{key_of}
use Rattle.template_update.specs.PlannedUnits.{AreUpdated}
use Rattle.template_update.specs.KeyIndexes.{IsIndexOf}
use Rattle.template_update.proofs.planning.update_units.Given as goal

abbrev pub invariant-loop-unit : goal.invariant-loop-unit
invariant-loop-unit l = (was will : List Entry) → IsIndexOf key_of was l.present.found → IsIndexOf key_of will l.next.found →
    AreUpdated was will l.rule (take l.unit-index l.units) l.done.units.items l.done.updates.items
