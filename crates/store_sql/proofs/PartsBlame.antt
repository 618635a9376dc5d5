-- A part of a look-up blames the disk as truly as each of its steps does.
use Rattle.std.proofs.Common.{◌≡◌, inl, inr, ℕ, true, false, Result, Ok, sym, ap, ◌∙◌}
use Rattle.std.specs.Result.{IsErrAnd}
use Rattle.sqlite.specs.Effect.{Database}
use Rattle.sqlite.specs.Reading.{IsReadError}
use Rattle.sqlite.specs.State.{State, HasCleanDisk}
use Rattle.sqlite.specs.declared.error.Error.{Error}
use Rattle.sqlite_value.specs.declared.value.Value.{Value}
use Rattle.sql_schema.specs.Layouts.{Form}
use Rattle.sql_schema.specs.Inside.{IsReadOf}
use Rattle.sql_laws.specs.DiskErrors.{is_of_disk, HasFailed, BlamesTruly}
use Rattle.sql_laws.proofs.DiskErrors.{told_on, blames_behind}

-- no error of a column that is read tells of the disk
pub read_mild : (at : ℕ) (value : Value) (e : Error) → IsReadError at value e → is_of_disk e ≡ false
read_mild at value e (inl h) = ap is_of_disk h
read_mild at value e (inr (inl h)) = ap is_of_disk h
read_mild at value e (inr (inr (inl h))) = ap is_of_disk h
read_mild at value e (inr (inr (inr (inl h)))) = ap is_of_disk h
read_mild at value e (inr (inr (inr (inr h)))) = ap is_of_disk h

module _ {A : Type 0} (a b c : State) where
  -- the first step failed
  pub first_blames : (e : Error) (given : Result A Error) → IsErrAnd given (λ d. d ≡ e) → (HasCleanDisk b → is_of_disk e ≡ true → HasFailed a b) → BlamesTruly a b given
  first_blames e given told blames = told_on a b c e given told blames

  -- a step failed behind others that answered
  pub later_blames : {form : Form} {X Y : Type 0} (x : X) (y : Result Y Error) (P : Database → X → Type 0) (Q : Database → Y → Type 0) (e : Error) (given : Result A Error) → IsErrAnd given (λ d. d ≡ e)
      → IsReadOf {E = Error} form a b (Ok x) P → IsReadOf form b c y Q → (HasCleanDisk c → is_of_disk e ≡ true → HasFailed b c) → BlamesTruly a c given
  later_blames x y P Q e given told first second blames = blames_behind a b c (λ _. ⊥) (λ _. ⊥) given first.survives second.survives (told_on b c c e given told blames)

  -- an error that doesn't tell of the disk
  pub mild_blames : (e : Error) (given : Result A Error) → IsErrAnd given (λ d. d ≡ e) → is_of_disk e ≡ false → BlamesTruly a b given
  mild_blames e given told mild = told_on a b c e given told (λ clean blamed. absurd (let never : false ≡ true = sym mild ∙ blamed in cc))
