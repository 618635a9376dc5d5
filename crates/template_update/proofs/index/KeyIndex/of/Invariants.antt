use Rattle.std.proofs.Common.{take}
use Rattle.template_update.specs.KeyIndexes.{IsIndexOf}
use Rattle.template_update.proofs.index.KeyIndex.of.Given as goal

abbrev pub invariant-loop-item : goal.invariant-loop-item
invariant-loop-item g l = IsIndexOf g.T.Keyed.key_of (take l.item-index l.items) l.found
