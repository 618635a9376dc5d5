use Rattle.std.proofs.Common.{◌≡◌, ◌≤◌, ℕ, length, get_or, None}
use Rattle.plural_expr.specs.PlainTrees.{plain_tree}
use Rattle.plural_expr.proofs.Counted.{fault_upto, served_upto}
use Rattle.plural_expr.proofs.testing.count_served.Given as goal

abbrev pub invariant-loop-n : goal.invariant-loop-n
invariant-loop-n l = record {
  all : length l.served ≡ 8;
  few : (form : ℕ) → get_or l.served form 0 ≤ l.n;
  passed : fault_upto (record { count = l.count; tree = plain_tree l.tree }) l.n ≡ None;
  counts : (form : ℕ) → get_or l.served form 0 ≡ served_upto (plain_tree l.tree) l.n form;
}
