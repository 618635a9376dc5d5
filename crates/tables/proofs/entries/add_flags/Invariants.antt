use Rattle.std.proofs.Common.{◌≡◌, ◌++◌, take}
use Rattle.tables.proofs.entries.add_flags.Given as goal

abbrev pub invariant-loop-flag : goal.invariant-loop-flag
invariant-loop-flag l = l.all.items ≡ l.fn.all.items ++ take l.flag-index l.flags
