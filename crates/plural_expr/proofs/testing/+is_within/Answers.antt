use Rattle.std.proofs.Common.{arith}
use Rattle.std.proofs.lemmas.Bool.{false≢true}
use Rattle.plural_expr.specs.PlainTrees.{plain_tree}
use Rattle.plural_expr.proofs.Counted.{depth_some}
use Rattle.plural_expr.proofs.testing.+is_within.Goals as goal

pub returns-in_default : goal.returns-in_default
returns-in_default t c = (λ h. absurd (false≢true h), λ h. absurd (omega (arith, depth_some (plain_tree c.args.tree.now), c.in_default.ensures)))
