-- What stands behind look-ups: an answer read off another, and one look-up after the other.
use Rattle.std.proofs.Common.{◌≡◌, true, Result, Ok, Err, IfOk, IfErr, OnOk, IsTrue, refl, sym, subst, ◌∙◌, arith}
use Rattle.std.specs.Result.{IsErr}
use Rattle.sqlite.specs.Effect.{Database}
use Rattle.sqlite.specs.State.{State, HasCleanDisk}
use Rattle.sqlite.proofs.StateLemmas.{survives_then}
use Rattle.sql_schema.specs.Layouts.{Form}
use Rattle.sqlite.specs.Held.{Held, state}
use Rattle.sqlite_trees.specs.declared.store.Store as store
use Rattle.sql_schema.specs.Inside.{AreOfficeTablesOf, IsSteadyOver}
use Rattle.sql_schema.specs.Whole.{IsIdleOver, IsLookUp}

on_ok : {X E : Type 0} {C : Type 0} (r : Result X E) → C → OnOk r C
on_ok (Ok x) h = h
on_ok (Err e) h = tt

pub if_ok : {X E : Type 0} {A B : X → Type 0} (r : Result X E) → ((x : X) → A x → B x) → IfOk r A → IfOk r B
if_ok (Ok x) f h = f x h
if_ok (Err e) f h = tt

-- what an error says under a condition
pub if_err_under : {X E : Type 0} {C : Type 0} (P : E → Type 0) (r : Result X E) → (C → IfErr r P) → IfErr r (λ e. C → P e)
if_err_under P (Ok x) h = tt
if_err_under P (Err e) h = h

-- what follows from what is answered
pub looked_weaker : (old new : State) {A E : Type 0} (r : Result A E) (P Q : Database → A → Type 0) → ((db : Database) (x : A) → P db x → Q db x) → IsLookUp old new r P → IsLookUp old new r Q
looked_weaker old new r P Q less it = record { answer = λ clean. if_ok r (less old.now) (it.answer clean); same = it.same; is_open = it.is_open; ended = it.ended; survives = it.survives }

module _ (old new : State) {A B E F : Type 0} where
  -- what is answered off the answer
  pub looked_on : (x : A) (s : Result B F) (P : Database → A → Type 0) (Q : Database → B → Type 0) → IsLookUp {E = E} old new (Ok x) P
      → (HasCleanDisk old → IsTrue old.is_open → P old.now x → IfOk s (Q old.now)) → IsLookUp old new s Q
  looked_on x s P Q it answers = record {
    answer = λ clean.
        let early : HasCleanDisk old = omega (arith, clean, it.survives.clean) in
        answers early (it.same clean (it.is_open clean)).was_open (it.answer clean);
    same = it.same;
    is_open = λ clean. on_ok s (it.is_open clean);
    ended = it.ended;
    survives = it.survives;
  }

  -- what is answered off what was handed out meanwhile
  pub walked_on : (x : A) (s : Result B F) (P : Database → A → Type 0) (Q : Database → B → Type 0) → IsLookUp {E = E} old new (Ok x) P
      → (HasCleanDisk new → HasCleanDisk old → IsTrue old.is_open → IfOk s (Q old.now)) → IsLookUp old new s Q
  walked_on x s P Q it answers = record {
    answer = λ clean.
        let early : HasCleanDisk old = omega (arith, clean, it.survives.clean) in
        answers clean early (it.same clean (it.is_open clean)).was_open;
    same = it.same;
    is_open = λ clean. on_ok s (it.is_open clean);
    ended = it.ended;
    survives = it.survives;
  }

  -- an error behind it
  pub looked_in_vain : (r : Result A E) (f : F) (P : Database → A → Type 0) (Q : Database → B → Type 0) → IsLookUp old new r P → IsLookUp old new (Err f) Q
  looked_in_vain r f P Q it = record { answer = λ clean. tt; same = it.same; is_open = λ clean. tt; ended = it.ended; survives = it.survives }

  -- whichever error it is
  pub looked_failed : (r : Result A E) (given : Result B F) (P : Database → A → Type 0) (Q : Database → B → Type 0) → IsErr given → IsLookUp old new r P → IsLookUp old new given Q
  looked_failed r (Ok y) P Q is it = absurd (let none = is in cc)
  looked_failed r (Err f) P Q is it = looked_in_vain r f P Q it

-- the rows stay those of an office's tables
pub idle_still : {form : Form} (old new : State) {A E : Type 0} (r : Result A E) (P : Database → A → Type 0) → IsIdleOver form old → IsLookUp old new r P → IsIdleOver form new
idle_still {form} old new r P idle it = record {
  ready = λ clean is_open.
      let early : HasCleanDisk old = omega (arith, clean, it.survives.clean) in
      let same = it.same clean is_open in
      subst (AreOfficeTablesOf form) (sym same.now) (idle.ready early same.was_open);
  settled = λ clean is_open. let same = it.same clean is_open in same.now ∙ sym same.committed;
}

-- what a look-up saw, where it answers
pub looked_ready : {form : Form} (old new : State) {A E : Type 0} (x : A) (P : Database → A → Type 0) → IsIdleOver form old → IsLookUp {E = E} old new (Ok x) P → HasCleanDisk new → AreOfficeTablesOf form old.now
looked_ready old new x P idle it clean =
    let early : HasCleanDisk old = omega (arith, clean, it.survives.clean) in
    idle.ready early (it.same clean (it.is_open clean)).was_open

module _ (a b c : State) {A B E F : Type 0} (x : A) (r : Result B F) (P : Database → A → Type 0) (Q : Database → B → Type 0) (one : IsLookUp {E = E} a b (Ok x) P) (two : IsLookUp b c r Q) where
  before : HasCleanDisk c → HasCleanDisk b
  before clean = omega (arith, two.survives.clean)

  -- both looked at the same rows
  pub looked_same : HasCleanDisk c → b.now ≡ a.now
  looked_same clean = (one.same (before clean) (one.is_open (before clean))).now

  pub both_looked : IsLookUp a c r (λ db y. P db x × Q db y)
  both_looked = record {
    answer = λ clean. if_ok r (λ y answers. (one.answer (before clean), subst (λ db. Q db y) (looked_same clean) answers)) (two.answer clean);
    same = λ clean is_open.
        let second = two.same clean is_open in
        let first = one.same (before clean) second.was_open in
        record { was_open = first.was_open; now = second.now ∙ first.now; committed = second.committed ∙ first.now };
    is_open = two.is_open;
    ended = two.ended;
    survives = survives_then a b c _ _ _ (λ clean db left. left) (λ clean db left.
        let first = one.same (before clean) left.0 in
        (first.was_open, subst (λ (d : Database). db ≡ d.trees) first.now left.1)) one.survives two.survives;
  }
