-- A whole transaction that looks up by one read: it answers, or its commit fails.
use Rattle.std.proofs.Common.{◌≡◌, false, true, Result, Ok, Err, IsTrue, refl, sym, subst}
use Rattle.std.specs.Result.{IsErr}
use Rattle.sqlite.specs.Effect.{Database}
use Rattle.sqlite.specs.Held.{Held, state}
use Rattle.sqlite.specs.State.{HasCleanDisk, Survives, Shows}
use Rattle.sqlite.specs.Steps.{FailsToCommit}
use Rattle.sqlite.specs.declared.error.Error.{Error}
use Rattle.sqlite_trees.specs.declared.store.Store as store
use Rattle.sql_schema.specs.Layouts.{Form}
use Rattle.sql_schema.specs.Inside.{IsReadOf, IsSteadyOver}
use Rattle.sql_schema.specs.Whole.{IsIdleOver, IsLookUp}
use Rattle.sql_schema.proofs.Whole.{looked_up, fails_looking}

module _ {form : Form} {S : Type 0} (g : store.Ghosts S) (old begun mid last : Held S) (begins : begun ≡ record old { in_transaction = true }) (idle : IsIdleOver form (state g old)) (ended : (state g last).in_transaction ≡ false)
    {A : Type 0} (x : A) (IsAnswer : Database → A → Type 0) (read : IsReadOf {E = Error} form (state g begun) (state g mid) (Ok x) IsAnswer) (end : Survives (state g mid) (state g last) (λ db. db ≡ (state g mid).now.trees)) where
  within : IsReadOf {E = Error} form (state g (record old { in_transaction = true })) (state g mid) (Ok x) IsAnswer
  within = subst (λ h. IsReadOf {E = Error} form (state g h) (state g mid) (Ok x) IsAnswer) begins read

  same : HasCleanDisk (state g mid) → IsTrue (state g old).is_open × ((state g mid).now ≡ (state g old).now)
  same clean = ((within.kept clean).was_open (within.stays clean).is_open, within.same clean)

  pub answers : (HasCleanDisk (state g last) → Shows (state g mid) (state g last) (state g mid).now (state g mid).now false) → IsLookUp {E = Error} (state g old) (state g last) (Ok x) IsAnswer
  answers shows = looked_up g old mid last idle within.kept within.survives x ended shows end IsAnswer within.answer same

  pub fails_to_answer : (r : Result A Error) → IsErr r → (cause : Error) → (HasCleanDisk (state g last) → FailsToCommit (state g mid) (state g last) cause) → IsLookUp (state g old) (state g last) r IsAnswer
  fails_to_answer (Ok y) is cause fails = absurd (let none = is in cc)
  fails_to_answer (Err e) is cause fails =
      let it = fails_looking g old mid last idle within.kept within.survives cause ended (λ clean. (within.stays clean).inside) fails end {A = A} IsAnswer same in
      record { answer = λ clean. tt; same = it.same; is_open = λ clean. tt; ended = it.ended; survives = it.survives }

-- a transaction that has begun over an office's tables
pub steady_begun : {S : Type 0} (g : store.Ghosts S) {form : Form} (old begun : Held S) → begun ≡ record old { in_transaction = true } → IsIdleOver form (state g old) → IsSteadyOver form (state g begun)
steady_begun g {form} old begun begins idle = subst (λ h. IsSteadyOver form (state g h)) (sym begins) (record { inside = λ clean. refl; ready = idle.ready })
