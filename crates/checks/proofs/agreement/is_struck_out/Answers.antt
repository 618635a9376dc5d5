use Rattle.checks.proofs.Striking.{in_order}
use Rattle.checks.proofs.agreement.is_struck_out.Goals as goal

pub loop-directive-init : goal.loop-directive-init
loop-directive-init c = in_order c.args.found.now c.args.wanted.now
