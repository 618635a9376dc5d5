-- Reads one after another, and a whole transaction that reads, blame the disk as truly as each of their steps does.
use Rattle.std.proofs.Common.{◌≡◌, true, Result, Ok, Err, subst}
use Rattle.std.specs.Prelude.{IfErr}
use Rattle.std.specs.Result.{IsErrAnd, result_and}
use Rattle.sqlite.specs.Effect.{Database}
use Rattle.sqlite.specs.Held.{Held, state}
use Rattle.sqlite.specs.State.{State, HasCleanDisk, Survives}
use Rattle.sqlite.specs.Steps.{FailsToCommit}
use Rattle.sqlite.specs.Tree.{Trees}
use Rattle.sqlite.specs.declared.error.Error.{Error}
use Rattle.sqlite.proofs.Callers.{survives_begin}
use Rattle.sqlite_trees.specs.declared.store.Store as store
use Rattle.sql_laws.specs.DiskErrors.{is_of_disk, HasFailed, BlamesTruly}
use Rattle.sql_laws.proofs.DiskErrors.{told_on, blames_before, blames_behind, commit_blames, failed_commit_blames}
use Rattle.sql_schema.specs.Inside.{IsReadOf}
use Rattle.sql_schema.specs.Layouts.{Form}

-- a read failed behind those that answered, and its error is told on
pub blames_after : {form : Form} {A B D : Type 0} (a b c : State) (x : A) (e : Error) (given : Result D Error) (P : Database → A → Type 0) (Q : Database → B → Type 0) → IsErrAnd given (λ d. d ≡ e)
    → IsReadOf {E = Error} form a b (Ok x) P → IsReadOf {E = Error} form b c (Err e) Q → (HasCleanDisk c → is_of_disk e ≡ true → HasFailed b c) → BlamesTruly a c given
blames_after a b c x e given P Q told one two blames = blames_behind a b c (λ _. ⊥) (λ _. ⊥) given one.survives two.survives (told_on b c c e given told blames)

-- what survives from a transaction's beginning survives from before it
from_begin : {S : Type 0} (g : store.Ghosts S) (old begun mid : Held S) (P : Trees → Type 0) → begun ≡ record old { in_transaction = true } → Survives (state g begun) (state g mid) P → Survives (state g old) (state g mid) P
from_begin g old begun mid P begins inside = survives_begin g old (state g mid) P (subst (λ h. Survives (state g h) (state g mid) P) begins inside)

module _ {S : Type 0} (g : store.Ghosts S) (old begun mid last : Held S) (begins : begun ≡ record old { in_transaction = true }) {A : Type 0} where
  -- the reads failed, and the transaction is undone
  pub undone_blames : (P : Trees → Type 0) (e : Error) (given : Result A Error) → IsErrAnd given (λ d. d ≡ e) → (HasCleanDisk (state g mid) → is_of_disk e ≡ true → HasFailed (state g begun) (state g mid))
      → Survives (state g mid) (state g last) P → BlamesTruly (state g old) (state g last) given
  undone_blames P e given told blames end =
      let from_old = subst (λ h. HasCleanDisk (state g mid) → is_of_disk e ≡ true → HasFailed (state g h) (state g mid)) begins blames in
      blames_before (state g old) (state g mid) (state g last) P given (told_on (state g old) (state g mid) (state g mid) e given told from_old) end

  module _ (P Q : Trees → Type 0) (inside : Survives (state g begun) (state g mid) P) (end : Survives (state g mid) (state g last) Q) where
    -- they answered, and the commit failed
    pub stopped_blames : (e : Error) (given : Result A Error) → IsErrAnd given (λ d. d ≡ e) → (HasCleanDisk (state g last) → FailsToCommit (state g mid) (state g last) e)
        → BlamesTruly (state g old) (state g last) given
    stopped_blames e given told fails =
        blames_behind (state g old) (state g mid) (state g last) P Q given (from_begin g old begun mid P begins inside) end (failed_commit_blames (state g mid) (state g last) e given told fails)

    -- they answered, and the commit ends the transaction or fails
    pub ended_blames : {U : Type 0} (x : A) (r : Result U Error) (given : Result A Error) → given ≡ result_and r (Ok x) → (HasCleanDisk (state g last) → IfErr r (FailsToCommit (state g mid) (state g last)))
        → BlamesTruly (state g old) (state g last) given
    ended_blames x r given is fails =
        blames_behind (state g old) (state g mid) (state g last) P Q given (from_begin g old begun mid P begins inside) end (commit_blames (state g mid) (state g last) r given fails x is)
