use Rattle.std.proofs.Common.{take}
use Rattle.checks.specs.Members.{HasMembers}
use Rattle.checks.proofs.agreement.set_of.Given as goal

abbrev pub invariant-loop-placeholder : goal.invariant-loop-placeholder
invariant-loop-placeholder l = HasMembers l.set (take l.placeholder-index l.placeholders)
