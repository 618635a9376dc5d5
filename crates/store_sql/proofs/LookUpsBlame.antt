-- A whole transaction that reads by one step blames the disk as truly as its step and its commit do.
use Rattle.std.proofs.Common.{◌≡◌, true, Result, Ok, subst}
use Rattle.std.specs.Prelude.{IfErr}
use Rattle.std.specs.Result.{IsErrAnd, result_and}
use Rattle.sqlite.specs.Held.{Held, state}
use Rattle.sqlite.specs.State.{HasCleanDisk, Survives}
use Rattle.sqlite.specs.Steps.{FailsToCommit}
use Rattle.sqlite.specs.Tree.{Trees}
use Rattle.sqlite.specs.declared.error.Error.{Error}
use Rattle.sqlite.proofs.Callers.{survives_begin}
use Rattle.sqlite_trees.specs.declared.store.Store as store
use Rattle.sql_laws.specs.DiskErrors.{is_of_disk, HasFailed, BlamesTruly}
use Rattle.sql_laws.proofs.DiskErrors.{told_on, blames_before, blames_behind, commit_blames}

module _ {S : Type 0} (g : store.Ghosts S) (old begun mid last : Held S) (begins : begun ≡ record old { in_transaction = true }) {A : Type 0} where
  -- the step failed, and the transaction is undone
  pub undone_blames : (P : Trees → Type 0) (e : Error) (given : Result A Error) → IsErrAnd given (λ d. d ≡ e) → (HasCleanDisk (state g mid) → is_of_disk e ≡ true → HasFailed (state g begun) (state g mid))
      → Survives (state g mid) (state g last) P → BlamesTruly (state g old) (state g last) given
  undone_blames P e given told blames end =
      let from_old = subst (λ h. HasCleanDisk (state g mid) → is_of_disk e ≡ true → HasFailed (state g h) (state g mid)) begins blames in
      blames_before (state g old) (state g mid) (state g last) P given (told_on (state g old) (state g mid) (state g mid) e given told from_old) end

  -- the step answered, and the commit ends it
  pub ended_blames : {U : Type 0} (P Q : Trees → Type 0) (x : A) (r : Result U Error) (given : Result A Error) → given ≡ result_and r (Ok x) → (HasCleanDisk (state g last) → IfErr r (FailsToCommit (state g mid) (state g last)))
      → Survives (state g begun) (state g mid) P → Survives (state g mid) (state g last) Q → BlamesTruly (state g old) (state g last) given
  ended_blames P Q x r given is fails inside end =
      blames_behind (state g old) (state g mid) (state g last) P Q given (survives_begin g old (state g mid) P (subst (λ h. Survives (state g h) (state g mid) P) begins inside)) end (commit_blames (state g mid) (state g last) r given fails x is)
