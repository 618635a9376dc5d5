use Rattle.std.proofs.Common.{arith, sym}
use Rattle.checks.proofs.Fronts.{after_placeholder_lt, placeholder-IsAscii}
use Rattle.checks.proofs.format.Format.placeholder_len.Goals as goal

pub overflow_sub-result : goal.overflow_sub-result
overflow_sub-result c = omega (arith, after_placeholder_lt c.args.self c.args.text.now c.in_ok-rest.rest.now (sym c.in_ok-rest.ensures))

pub returns-clause-some : goal.returns-clause-some
returns-clause-some c = omega (arith, after_placeholder_lt c.args.self c.args.text.now c.in_ok-rest.rest.now (sym c.in_ok-rest.ensures))

pub returns-clause-ascii : goal.returns-clause-ascii
returns-clause-ascii c = placeholder-IsAscii c.args.self c.args.text.now c.in_ok-rest.rest.now (sym c.in_ok-rest.ensures)
