use Rattle.std.proofs.Common.{◌≡◌, map, take}
use Rattle.template_update.specs.Updates.{stays_by}
use Rattle.template_update.proofs.update.stays_of.Given as goal

abbrev pub invariant-loop-update : goal.invariant-loop-update
invariant-loop-update l = l.stays ≡ map stays_by (take l.update-index l.updates)
