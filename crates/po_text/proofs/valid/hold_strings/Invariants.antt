use Rattle.std.proofs.Common.{take}
use Rattle.std.specs.List.{AllByRecursion}
use Rattle.po_text.specs.Valid.{IsString}
use Rattle.po_text.proofs.valid.hold_strings.Given as goal

abbrev pub invariant-loop-string : goal.invariant-loop-string
invariant-loop-string l = AllByRecursion IsString (take l.string-index l.strings)
