-- Copies of values, where there was memory for them.
use Rattle.std.proofs.Common.{◌≡◌, Option, Some, None, Result, Ok, Err, is_some, sym, ap, ◌∙◌}
use Rattle.std.specs.Prelude.{IfOk}
use Rattle.std.specs.Option.{option_zip}
use Rattle.std.specs.Result.{result_ok}
use Rattle.std.proofs.lemmas.Option.{same_Some}
use Rattle.std.proofs.lemmas.Bool.{false≢true}

-- a pair is there where both its parts are
pub both_there : {A B : Type 0} (one : Option A) (other : Option B) (a : A) (b : B) (pair : Option (A × B)) → pair ≡ option_zip one other → pair ≡ Some (a, b) → (one ≡ Some a) × (other ≡ Some b)
both_there None other a b pair zip is = absurd (false≢true (ap is_some (sym zip ∙ is)))
both_there (Some x) None a b pair zip is = absurd (false≢true (ap is_some (sym zip ∙ is)))
both_there {A} {B} (Some x) (Some y) a b pair zip is =
    let same : (x, y) ≡ (a, b) = same_Some (x, y) (a, b) (sym zip ∙ is) in
    (ap (λ (p : A × B). Some p.0) same, ap (λ (p : A × B). Some p.1) same)

-- what is there of a copy is the value
pub is_copy : {A E : Type 0} (copied : Result A E) (found : Option A) (a x : A) → IfOk copied (λ copy. copy ≡ x) → found ≡ result_ok copied → found ≡ Some a → a ≡ x
is_copy (Ok y) found a x copy ok is = sym (same_Some y a (sym ok ∙ is)) ∙ copy
is_copy (Err e) found a x copy ok is = absurd (false≢true (ap is_some (sym ok ∙ is)))
