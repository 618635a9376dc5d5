use Rattle.std.proofs.Common.{arith}
use Rattle.std.proofs.lemmas.Grind.{common_steps}
use Rattle.checks.proofs.scan.placeholder_strings.Goals as goal

pub loop-placeholder-preserved : goal.loop-placeholder-preserved
loop-placeholder-preserved c = grind (arith, common_steps)
