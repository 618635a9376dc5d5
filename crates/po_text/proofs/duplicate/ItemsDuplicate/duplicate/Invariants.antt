use Rattle.std.proofs.Common.{◌≡◌, take}
use Rattle.po_text.proofs.duplicate.ItemsDuplicate.duplicate.Given as goal

abbrev pub invariant-loop-x : goal.invariant-loop-x
invariant-loop-x g l = l.all.items ≡ take l.x-index l.items
