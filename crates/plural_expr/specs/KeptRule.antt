-- What the program keeps beside a rule: that it passed the tests, and how many n in 0..999 each form serves. This project's own.
use Rattle.std.specs.Prelude.{◌≡◌, ℕ, List, length, slice_index}
use Rattle.plural_expr.specs.Values.{Rule, served_by}
use Rattle.plural_expr.specs.Faults.{IsSound}

-- a form past the end of the list serves none
pub record IsKept (rule : Rule) (served : List ℕ) : Type 0 where
  pub sound : IsSound rule
  pub counts : (form : ℕ) → slice_index served form ≡ length (served_by rule form)
