-- The trees and spellings of the program without where they lie in memory. This project's own.
use Rattle.std.specs.Prelude.{ℕ, List}
use Rattle.std.specs.Borrow.{Bor}
use Rattle.plural_expr.specs.declared.tree.Tree.{Tree as TreeNode}
use Rattle.plural_expr.specs.declared.tree.Tree.TheVariants.{Variable, Number, Parens', Negated', Binary', Choice'}
use Rattle.plural_expr.specs.declared.token.Token.{Token}
use Rattle.plural_expr.specs.Tokens.{Written}
use Rattle.plural_expr.specs.Trees.{Tree, variable, number, parens, negated, binary, choice}

abbrev pub plain_tree : TreeNode → Tree
plain_tree Variable = variable
plain_tree (Number k) = number k
plain_tree (Parens' p t) = parens (plain_tree t)
plain_tree (Negated' p t) = negated (plain_tree t)
plain_tree (Binary' o p a q b) = binary o (plain_tree a) (plain_tree b)
plain_tree (Choice' p c q a r b) = choice (plain_tree c) (plain_tree a) (plain_tree b)

abbrev pub spelled : Bor (List ℕ) × Token → Written
spelled w = (w.0.now, w.1)
