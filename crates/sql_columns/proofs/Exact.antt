-- From what a reader computes to what it promises: the value that a column is written from, and a fault where there is none.
use Rattle.std.proofs.Common.{◌≡◌, ◌⊎◌, inl, inr, Option, Some, None, Result, Ok, Err, refl, subst}
use Rattle.std.specs.Prelude.{IfOk}
use Rattle.sql_columns.specs.declared.fault.RowFault.{RowFault}
use Rattle.sql_columns.specs.declared.fault.RowFault.TheVariants.{Malformed, Memory}
use Rattle.sql_columns.specs.Faults.{Gives}

module _ {V : Type 0} (found : Option V) where
  pub ok_from : (P : V → Type 0) → ((v : V) → found ≡ Some v → P v) → (r : Result V RowFault) → IfOk r (λ v. found ≡ Some v) → IfOk r P
  ok_from P is (Ok v) e = is v e
  ok_from P is (Err fault) e = e

  pub gives_from : (v : V) → found ≡ Some v → (r : Result V RowFault) → IfOk r (λ w. found ≡ Some w) → (r ≡ Err Malformed → found ≡ None) → Gives r v
  gives_from v is (Ok w) ok malformed = inl cc
  gives_from v is (Err Malformed) ok malformed = absurd (let none = malformed refl in cc)
  gives_from v is (Err Memory) ok malformed = inr refl

module _ {V : Type 0} (whole : V) where
  pub whole_ok : (P : V → Type 0) → P whole → (r : Result V RowFault) → IfOk r (λ v. whole ≡ v) → IfOk r P
  whole_ok P is (Ok v) e = subst P e is
  whole_ok P is (Err fault) e = e

  pub whole_gives : (v : V) → whole ≡ v → (r : Result V RowFault) → IfOk r (λ w. whole ≡ w) → (r ≡ Err Malformed → ⊥) → Gives r v
  whole_gives v is (Ok w) ok never = inl cc
  whole_gives v is (Err Malformed) ok never = absurd (never refl)
  whole_gives v is (Err Memory) ok never = inr refl
