-- Trees as lists of numbers, by which two trees are told apart. This project's own; no contract cites this file by name.
use Rattle.std.specs.Prelude.{◌≡◌, ℕ, List, [], ◌∷◌, ◌==◌, if◌then◌else◌}
use Rattle.std.proofs.Common.{refl, ◌∙◌, ap}
use Rattle.std.specs.Coded.{Coded, code_by, coded×, coded_ℕ, coded_list}
use Rattle.plural_expr.specs.declared.tree.Operator.{Operator}
use Rattle.plural_expr.specs.declared.tree.Operator.TheVariants as op
use Rattle.plural_expr.specs.Trees.{Tree, variable, number, parens, negated, binary, choice}
use Rattle.plural_expr.specs.Values.{Rule}

abbrev number_of : Operator → ℕ
number_of op.Or = 0
number_of op.And = 1
number_of op.Equal = 2
number_of op.NotEqual = 3
number_of op.Less = 4
number_of op.Greater = 5
number_of op.LessOrEqual = 6
number_of op.GreaterOrEqual = 7
number_of op.Add = 8
number_of op.Subtract = 9
number_of op.Multiply = 10
number_of op.Divide = 11
number_of op.Remainder = 12

abbrev operator_at : ℕ → Operator
operator_at k =
    if k == 0 then op.Or
    else if k == 1 then op.And
    else if k == 2 then op.Equal
    else if k == 3 then op.NotEqual
    else if k == 4 then op.Less
    else if k == 5 then op.Greater
    else if k == 6 then op.LessOrEqual
    else if k == 7 then op.GreaterOrEqual
    else if k == 8 then op.Add
    else if k == 9 then op.Subtract
    else if k == 10 then op.Multiply
    else if k == 11 then op.Divide
    else op.Remainder

operator_again : (o : Operator) → operator_at (number_of o) ≡ o
operator_again op.Or = refl
operator_again op.And = refl
operator_again op.Equal = refl
operator_again op.NotEqual = refl
operator_again op.Less = refl
operator_again op.Greater = refl
operator_again op.LessOrEqual = refl
operator_again op.GreaterOrEqual = refl
operator_again op.Add = refl
operator_again op.Subtract = refl
operator_again op.Multiply = refl
operator_again op.Divide = refl
operator_again op.Remainder = refl

-- a tree's steps, in front of others: its parts' steps, and then how they are put together
abbrev steps_of : Tree → List (ℕ × ℕ) → List (ℕ × ℕ)
steps_of variable rest = (0, 0) ∷ rest
steps_of (number k) rest = (1, k) ∷ rest
steps_of (parens t) rest = steps_of t ((2, 0) ∷ rest)
steps_of (negated t) rest = steps_of t ((3, 0) ∷ rest)
steps_of (binary o a b) rest = steps_of a (steps_of b ((4, number_of o) ∷ rest))
steps_of (choice c a b) rest = steps_of c (steps_of a (steps_of b ((5, 0) ∷ rest)))

abbrev with_one : (Tree → Tree) → List Tree → List Tree
with_one f [] = []
with_one f (t ∷ trees) = f t ∷ trees

abbrev with_two : (Tree → Tree → Tree) → List Tree → List Tree
with_two f (b ∷ a ∷ trees) = f a b ∷ trees
with_two f _ = []

abbrev with_three : (Tree → Tree → Tree → Tree) → List Tree → List Tree
with_three f (b ∷ a ∷ c ∷ trees) = f c a b ∷ trees
with_three f _ = []

abbrev one_step : ℕ → ℕ → List Tree → List Tree
one_step kind k trees =
    if kind == 0 then variable ∷ trees
    else if kind == 1 then number k ∷ trees
    else if kind == 2 then with_one parens trees
    else if kind == 3 then with_one negated trees
    else if kind == 4 then with_two (binary (operator_at k)) trees
    else with_three choice trees

abbrev built : List (ℕ × ℕ) → List Tree → List Tree
built [] trees = trees
built (s ∷ rest) trees = built rest (one_step s.0 s.1 trees)

abbrev first_tree : List Tree → Tree
first_tree [] = variable
first_tree (t ∷ trees) = t

built_again : (t : Tree) (rest : List (ℕ × ℕ)) (trees : List Tree) → built (steps_of t rest) trees ≡ built rest (t ∷ trees)
built_again variable rest trees = refl
built_again (number k) rest trees = refl
built_again (parens t) rest trees = built_again t ((2, 0) ∷ rest) trees
built_again (negated t) rest trees = built_again t ((3, 0) ∷ rest) trees
built_again (binary o a b) rest trees =
    built_again a (steps_of b ((4, number_of o) ∷ rest)) trees
    ∙ (built_again b ((4, number_of o) ∷ rest) (a ∷ trees)
    ∙ ap (λ p. built rest (binary p a b ∷ trees)) (operator_again o))
built_again (choice c a b) rest trees =
    built_again c (steps_of a (steps_of b ((5, 0) ∷ rest))) trees
    ∙ (built_again a (steps_of b ((5, 0) ∷ rest)) (c ∷ trees)
    ∙ built_again b ((5, 0) ∷ rest) (a ∷ c ∷ trees))

pub tree_again : (t : Tree) → first_tree (built (steps_of t []) []) ≡ t
tree_again t = ap first_tree (built_again t [] [])

abbrev pub coded_tree : Coded Tree
coded_tree = code_by (List (ℕ × ℕ)) (coded_list (coded× coded_ℕ coded_ℕ)) (λ t. steps_of t []) (λ steps. first_tree (built steps [])) tree_again

abbrev pub coded_rule : Coded Rule
coded_rule = code_by (ℕ × Tree) (coded× coded_ℕ coded_tree) (λ r. (r.count, r.tree)) (λ p. record { count = p.0; tree = p.1 }) (λ _. refl)
