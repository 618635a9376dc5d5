-- The value of a tree at n, the form's number that a rule gives, and which n a form serves.
-- From the GNU gettext manual, "Plural forms": values are those of C. This project's own: whole numbers from 0 to 2^64 - 1, and
-- a fault where a value would be below or above them, or a divisor is 0; the parts of an operator are evaluated from the left.
use Rattle.std.specs.Prelude.{ℕ, ◌+◌, ◌-◌, ◌*◌, ◌/◌, ◌%◌, ◌^◌, Bool, true, false, not, ◌==◌, nat_lt, nat_le, Result, Ok, Err, if◌then◌else◌, List, length, filter}
use Rattle.std.specs.List.{range_with_len}
use Rattle.plural_expr.specs.declared.fault.EvalFault.{EvalFault}
use Rattle.plural_expr.specs.declared.fault.EvalFault.TheVariants as faults
use Rattle.plural_expr.specs.declared.tree.Operator.{Operator}
use Rattle.plural_expr.specs.declared.tree.Operator.TheVariants as op
use Rattle.plural_expr.specs.Trees.{Tree, variable, number, parens, negated, binary, choice}

abbrev pub Value : Type 0
Value = Result ℕ EvalFault

-- the first fault met is the value's
abbrev pub with_value : Value → (ℕ → Value) → Value
with_value (Ok n) f = f n
with_value (Err e) f = Err e

abbrev pub truth : Bool → ℕ
truth true = 1
truth false = 0

abbrev pub is_true : ℕ → Bool
is_true n = not (n == 0)

abbrev pub within : ℕ → Value
within n = if nat_lt n (2 ^ 64) then Ok n else Err faults.Above

abbrev pub below : ℕ → ℕ → Value
below a b = if nat_lt a b then Err faults.Below else Ok (a - b)

-- the divisor isn't 0
abbrev pub divided : ℕ → ℕ → Value
divided a b = if b == 0 then Err faults.Zero else Ok (a / b)

abbrev pub remaining : ℕ → ℕ → Value
remaining a b = if b == 0 then Err faults.Zero else Ok (a % b)

-- an operator that needs both its parts, at their values
abbrev pub result_of : Operator → ℕ → ℕ → Value
result_of op.Or a b = Ok (truth (is_true b))
result_of op.And a b = Ok (truth (is_true b))
result_of op.Equal a b = Ok (truth (a == b))
result_of op.NotEqual a b = Ok (truth (not (a == b)))
result_of op.Less a b = Ok (truth (nat_lt a b))
result_of op.Greater a b = Ok (truth (nat_lt b a))
result_of op.LessOrEqual a b = Ok (truth (nat_le a b))
result_of op.GreaterOrEqual a b = Ok (truth (nat_le b a))
result_of op.Add a b = within (a + b)
result_of op.Subtract a b = below a b
result_of op.Multiply a b = within (a * b)
result_of op.Divide a b = divided a b
result_of op.Remainder a b = remaining a b

-- where the left part alone decides, its answer
abbrev pub is_decided : Operator → ℕ → Bool
is_decided op.Or a = is_true a
is_decided op.And a = a == 0
is_decided _ a = false

abbrev pub apply : Operator → ℕ → Value → Value
apply o a right = if is_decided o a then Ok (truth (is_true a)) else with_value right (λ b. result_of o a b)

abbrev pub chosen : ℕ → Value → Value → Value
chosen c a b = if is_true c then a else b

unfoldable pub value_of : Tree → ℕ → Value
value_of variable n = Ok n
value_of (number k) n = Ok k
value_of (parens t) n = value_of t n
value_of (negated t) n = with_value (value_of t n) (λ a. Ok (truth (a == 0)))
value_of (binary o a b) n = with_value (value_of a n) (λ x. apply o x (value_of b n))
value_of (choice c a b) n = with_value (value_of c n) (λ x. chosen x (value_of a n) (value_of b n))

-- a rule that passed the tests
pub record Rule : Type 0 where
  pub count : ℕ
  pub tree : Tree

-- a value that isn't below nplurals is no form's number
abbrev pub in_range : ℕ → ℕ → Value
in_range count k = if nat_lt k count then Ok k else Err faults.Range

unfoldable pub index_of : Rule → ℕ → Value
index_of rule n = with_value (value_of rule.tree n) (in_range rule.count)

abbrev pub is_value : ℕ → Value → Bool
is_value form (Ok k) = k == form
is_value form (Err e) = false

-- the n in 0..999 whose value is this form
unfoldable pub served_by : Rule → ℕ → List ℕ
served_by rule form = filter (λ n. is_value form (value_of rule.tree n)) (range_with_len 0 1000)

-- exactly one
abbrev pub serves_one : Rule → ℕ → Bool
serves_one rule form = length (served_by rule form) == 1
