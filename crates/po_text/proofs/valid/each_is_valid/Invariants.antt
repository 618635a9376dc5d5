use Rattle.std.proofs.Common.{take}
use Rattle.std.specs.List.{AllByRecursion}
use Rattle.po_text.specs.Valid.{IsValidEntry}
use Rattle.po_text.proofs.valid.each_is_valid.Given as goal

abbrev pub invariant-loop-entry : goal.invariant-loop-entry
invariant-loop-entry l = AllByRecursion IsValidEntry (take l.entry-index l.entries)
