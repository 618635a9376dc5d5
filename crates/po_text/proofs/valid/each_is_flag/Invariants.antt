use Rattle.std.proofs.Common.{take}
use Rattle.std.specs.List.{AllByRecursion}
use Rattle.po_text.specs.Valid.{IsFlag}
use Rattle.po_text.proofs.valid.each_is_flag.Given as goal

abbrev pub invariant-loop-flag : goal.invariant-loop-flag
invariant-loop-flag l = AllByRecursion IsFlag (take l.flag-index l.flags)
