-- The frames of the program without where they lie in memory; its last is the innermost. This project's own.
use Rattle.std.specs.Prelude.{List, [], ◌∷◌, fold, Option, Some, None}
use Rattle.plural_expr.specs.declared.tree.Tree.{Tree as TreeNode}
use Rattle.plural_expr.specs.declared.token.Token.{Token}
use Rattle.plural_expr.specs.Trees.{Tree}
use Rattle.plural_expr.specs.declared.frame.Frame.{Frame as FrameNode}
use Rattle.plural_expr.specs.declared.frame.Frame.TheVariants.{Parens, Negated, Right, Then, Else}
use Rattle.plural_expr.specs.Plain.{Frame, in_parens, in_negated, in_right, in_then, in_else, operand_at, behind}
use Rattle.plural_expr.specs.PlainTrees.{plain_tree}

abbrev pub plain_frame : FrameNode → Frame
plain_frame Parens = in_parens
plain_frame Negated = in_negated
plain_frame (Right o a) = in_right o (plain_tree a.value)
plain_frame (Then c) = in_then (plain_tree c.value)
plain_frame (Else c a) = in_else (plain_tree c.value) (plain_tree a.value)

abbrev pub plain_frames : List FrameNode → List Frame
plain_frames frames = fold (λ outer frame. plain_frame frame ∷ outer) [] frames

-- what the rest of the tokens gives: where a tree begins, or behind a tree
abbrev pub resume : List Frame → Option TreeNode → List Token → Option Tree
resume frames None tokens = operand_at frames tokens
resume frames (Some t) tokens = behind frames (plain_tree t) tokens
