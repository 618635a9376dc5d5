-- The longest token at the front of a text: the rule of C, whose syntax plural rules have (the GNU gettext manual, "Plural forms").
use Rattle.std.specs.Prelude.{◌≡◌, ◌≤◌, ℕ, List, true, nat_eq, length, take}
use Rattle.std.specs.List.{AllByRecursion, starts_with, list_all}
use Rattle.std.specs.Char.{is_ascii_digit}
use Rattle.plural_expr.specs.Tokens.{Written, fixed}

pub record IsLongest (text : List ℕ) (written : Written) : Type 0 where
  -- of the tokens with one spelling
  pub spelled : AllByRecursion (λ other. starts_with nat_eq text other.0 ≡ true → length other.0 ≤ length written.0) fixed
  -- of numbers
  pub digits : (n : ℕ) → n ≤ length text → list_all is_ascii_digit (take n text) ≡ true → n ≤ length written.0
