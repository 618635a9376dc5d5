use Rattle.std.proofs.Common.{◌≡◌, take}
use Rattle.po_text.specs.Valid.{AreDistinct}
use Rattle.po_text.proofs.valid.are_distinct.Given as goal

abbrev pub invariant-loop-flag : goal.invariant-loop-flag
invariant-loop-flag l = record { kept : l.before ≡ take l.flag-index l.flags; distinct : AreDistinct (take l.flag-index l.flags) }
