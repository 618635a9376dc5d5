use Rattle.std.proofs.Common.{arith}
use Rattle.std.proofs.lemmas.Grind.{common_steps}
use Rattle.client.proofs.source.gather.Goals as goal

pub loop-count-preserved : goal.loop-count-preserved
loop-count-preserved g c = grind (arith, common_steps)
