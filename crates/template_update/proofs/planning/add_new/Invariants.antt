use Rattle.std.proofs.Common.{◌≡◌, ◌≤◌, ◌++◌, List, length, map, take}
use Rattle.units.specs.declared.unit.Unit.{Unit}
use Rattle.template_update.specs.Units.{new_unit}
use Rattle.template_update.specs.Updates.{added}
use Rattle.template_update.specs.KeyIndexes.{IsIndexOf}
use Rattle.template_update.proofs.planning.add_new.Given as goal

abbrev pub invariant-loop-entry : goal.invariant-loop-entry
invariant-loop-entry l = ((units : List Unit) → IsIndexOf (λ unit. unit.key) units l.known.found → l.all.items ≡ l.fn.all.items ++ map (new_unit l.rule) (added units (take l.entry-index l.next)))
    × (length l.fn.all.items ≤ length l.all.items)
