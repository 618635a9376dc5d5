-- A plain slow reader of trees, this project's own. A law says that it reads what trees are written by, and nothing else.
use Rattle.std.specs.Prelude.{ℕ, zero, suc, List, [], ◌∷◌, nat_le, Option, Some, None, if◌then◌else◌}
use Rattle.plural_expr.specs.declared.tree.Operator.{Operator}
use Rattle.plural_expr.specs.Tokens.{◌>>=◌, tokens_of}
use Rattle.plural_expr.specs.declared.token.Token.{Token}
use Rattle.plural_expr.specs.declared.token.Token.TheVariants.{Nplurals, Plural, Variable, Operation, Negation, Question, Colon, Left, Right, Assign, Semicolon, Number, Digits}
use Rattle.plural_expr.specs.Trees.{Tree, parens, negated, binary, choice, level_of}
use Rattle.plural_expr.specs.Trees as tree

-- what a tree is a part of, where the rest of it is still to be read
pub data Frame : Type 0 where
  in_parens : Frame
  in_negated : Frame
  -- the right part of an operator
  in_right : Operator → Tree → Frame
  -- the part of a choice behind `?`, and the one behind `:`
  in_then : Tree → Frame
  in_else : Tree → Tree → Frame

-- The frames, from the innermost, and the tree in them, where an operator of this level follows the tree:
-- 1 for `?`, and 0 for the end of a part. What binds at least as tight is whole.
abbrev pub reduced : ℕ → List Frame → Tree → List Frame × Tree
reduced next [] t = ([], t)
reduced next (in_parens ∷ frames) t = (in_parens ∷ frames, t)
reduced next (in_negated ∷ frames) t = reduced next frames (negated t)
reduced next (in_right o a ∷ frames) t = if nat_le next (level_of o) then reduced next frames (binary o a t) else (in_right o a ∷ frames, t)
reduced next (in_then c ∷ frames) t = (in_then c ∷ frames, t)
reduced zero (in_else c a ∷ frames) t = reduced zero frames (choice c a t)
reduced (suc next) (in_else c a ∷ frames) t = (in_else c a ∷ frames, t)

abbrev pub State : Type 0
State = List Frame × Tree

-- the whole tree, where no frame is left
abbrev pub finished : State → Option Tree
finished ([], t) = Some t
finished (frame ∷ frames, t) = None

abbrev pub at_right : State → (List Frame → Tree → Option Tree) → Option Tree
at_right (in_parens ∷ frames, t) later = later frames (parens t)
at_right _ later = None

abbrev pub at_colon : State → (List Frame → Option Tree) → Option Tree
at_colon (in_then c ∷ frames, t) later = later (in_else c t ∷ frames)
at_colon _ later = None

unfoldable mutual
  -- where a tree begins
  pub operand_at : List Frame → List Token → Option Tree
  operand_at frames (Variable ∷ tokens) = behind frames tree.variable tokens
  operand_at frames (Number k ∷ tokens) = behind frames (tree.number k) tokens
  operand_at frames (Negation ∷ tokens) = operand_at (in_negated ∷ frames) tokens
  operand_at frames (Left ∷ tokens) = operand_at (in_parens ∷ frames) tokens
  operand_at frames _ = None

  -- behind a tree; the whole may end with `;`
  pub behind : List Frame → Tree → List Token → Option Tree
  behind frames t [] = finished (reduced 0 frames t)
  behind frames t (Semicolon ∷ []) = finished (reduced 0 frames t)
  behind frames t (Operation o ∷ tokens) = let state = reduced (level_of o) frames t in operand_at (in_right o state.1 ∷ state.0) tokens
  behind frames t (Question ∷ tokens) = let state = reduced 1 frames t in operand_at (in_then state.1 ∷ state.0) tokens
  behind frames t (Right ∷ tokens) = at_right (reduced 0 frames t) (λ outer whole. behind outer whole tokens)
  behind frames t (Colon ∷ tokens) = at_colon (reduced 0 frames t) (λ outer. operand_at outer tokens)
  behind frames t _ = None

-- the tokens behind this one
abbrev pub behind_nplurals : List Token → Option (List Token)
behind_nplurals (Nplurals ∷ tokens) = Some tokens
behind_nplurals _ = None

abbrev pub behind_plural : List Token → Option (List Token)
behind_plural (Plural ∷ tokens) = Some tokens
behind_plural _ = None

abbrev pub behind_assign : List Token → Option (List Token)
behind_assign (Assign ∷ tokens) = Some tokens
behind_assign _ = None

abbrev pub behind_semicolon : List Token → Option (List Token)
behind_semicolon (Semicolon ∷ tokens) = Some tokens
behind_semicolon _ = None

abbrev pub digits_at : List Token → Option (Token × List Token)
digits_at (Number k ∷ tokens) = Some (Number k, tokens)
digits_at (Digits ∷ tokens) = Some (Digits, tokens)
digits_at _ = None

abbrev pub with_digits : Token → Option Tree → Option (Token × Tree)
with_digits written found = found >>= λ t. Some (written, t)

unfoldable pub rule_at : List Token → Option (Token × Tree)
rule_at tokens = do
  first ← behind_nplurals tokens
  count ← behind_assign first
  found ← digits_at count
  second ← behind_semicolon found.1
  equals ← behind_plural second
  expression ← behind_assign equals
  with_digits found.0 (operand_at [] expression)

-- the digits and the tree of a text
unfoldable pub rule_of : List ℕ → Option (Token × Tree)
rule_of text = tokens_of text >>= rule_at
