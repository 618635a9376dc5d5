-- The trees of plural rules, the levels of their operators, and which tokens a tree is written by.
-- From the GNU gettext manual, "Plural forms": the operators, levels and grouping are those of C.
use Rattle.std.specs.Prelude.{◌≡◌, ℕ, ◌+◌, ◌<◌, ◌≤◌, max, List, [], ◌∷◌, ◌++◌, Bool, Some, ⊤, if◌then◌else◌}
use Rattle.plural_expr.specs.declared.tree.Operator.{Operator}
use Rattle.plural_expr.specs.declared.tree.Operator.TheVariants as op
use Rattle.plural_expr.specs.Tokens.{tokens_of}
use Rattle.plural_expr.specs.declared.token.Token.{Token}
use Rattle.plural_expr.specs.declared.token.Token.TheVariants.{Nplurals, Plural, Assign, Semicolon, Question, Colon, Left, Right, Negation, Digits}
use Rattle.plural_expr.specs.declared.token.Token.TheVariants as token

pub data Tree : Type 0 where
  variable : Tree
  number : ℕ → Tree
  parens : Tree → Tree
  negated : Tree → Tree
  binary : Operator → Tree → Tree → Tree
  -- the condition, the tree where it is true, and the one where it isn't
  choice : Tree → Tree → Tree → Tree

-- or 1, and 2, eq 3, rel 4, sum 5, prod 6
abbrev pub level_of : Operator → ℕ
level_of op.Or = 1
level_of op.And = 2
level_of op.Equal = 3
level_of op.NotEqual = 3
level_of op.Less = 4
level_of op.Greater = 4
level_of op.LessOrEqual = 4
level_of op.GreaterOrEqual = 4
level_of op.Add = 5
level_of op.Subtract = 5
level_of op.Multiply = 6
level_of op.Divide = 6
level_of op.Remainder = 6

-- cond 0, the operators' levels, unary and primary 7
abbrev pub level : Tree → ℕ
level variable = 7
level (number k) = 7
level (parens t) = 7
level (negated t) = 7
level (binary o a b) = level_of o
level (choice c a b) = 0

-- Each part is of the level that the grammar asks of it; operators group to the left, `? :` to the right.
abbrev pub IsLevelled : Tree → Type 0
IsLevelled variable = ⊤
IsLevelled (number k) = ⊤
IsLevelled (parens t) = IsLevelled t
IsLevelled (negated t) = (7 ≤ level t) × IsLevelled t
IsLevelled (binary o a b) = (level_of o ≤ level a) × IsLevelled a × (level_of o < level b) × IsLevelled b
IsLevelled (choice c a b) = (0 < level c) × IsLevelled c × IsLevelled a × IsLevelled b

-- the tokens that the tree is written by
abbrev pub printed : Tree → List Token
printed variable = token.Variable ∷ []
printed (number k) = token.Number k ∷ []
printed (parens t) = Left ∷ (printed t ++ Right ∷ [])
printed (negated t) = Negation ∷ printed t
printed (binary o a b) = printed a ++ (token.Operation o ∷ printed b)
printed (choice c a b) = printed c ++ (Question ∷ (printed a ++ (Colon ∷ printed b)))

-- n and numbers have 1; an operator or a pair of parentheses has 1 more than its deepest part
abbrev pub depth : Tree → ℕ
depth variable = 1
depth (number k) = 1
depth (parens t) = 1 + depth t
depth (negated t) = 1 + depth t
depth (binary o a b) = 1 + max (depth a) (depth b)
depth (choice c a b) = 1 + max (depth c) (max (depth a) (depth b))

abbrev pub IsDigits : Token → Type 0
IsDigits (token.Number k) = ⊤
IsDigits Digits = ⊤
IsDigits _ = ⊥

-- `nplurals`, `=`, digits, `;`, `plural`, `=`, a tree, optionally `;`
abbrev pub rule_tokens : Token → Tree → Bool → List Token
rule_tokens count tree ended =
    Nplurals ∷ Assign ∷ count ∷ Semicolon ∷ Plural ∷ Assign ∷ (printed tree ++ (if ended then Semicolon ∷ [] else []))

-- the text is of the grammar, with these digits and this tree
pub record SpellsRule (text : List ℕ) (count : Token) (tree : Tree) : Type 0 where
  pub ended : Bool
  pub tokens : tokens_of text ≡ Some (rule_tokens count tree ended)
  pub digits : IsDigits count
  pub levels : IsLevelled tree
