-- One read of tables that may be any after another.
use Rattle.std.proofs.Common.{◌≡◌, ◌⊎◌, ℕ, List, Result, Ok, Err, IfOk, IfErr, OnOk, IsTrue, sym, subst, ◌∙◌, arith}
use Rattle.std.specs.Result.{IsErr}
use Rattle.sqlite.specs.Order.{Row}
use Rattle.sqlite.specs.Effect.{Database}
use Rattle.sqlite.specs.Listing.{understood}
use Rattle.sqlite.specs.declared.error.Error.{Error}
use Rattle.sqlite.specs.State.{State, HasCleanDisk, Survives, KeepsCommit, Shown, FailsToQuery, IsTooLate}
use Rattle.sqlite.proofs.Callers.{IsPlain}
use Rattle.sqlite.proofs.StateLemmas.{survives_then}
use Rattle.sql_laws.proofs.KeptCommits.{query_unchanged, failed_query_keeps_commit, query_open}
use Rattle.sql_laws.proofs.Transactions.{on_ok_mapped}
use Rattle.sql_schema.specs.Inside.{StaysInside}
use Rattle.sql_layouts.specs.Looks.{IsOver, IsLook}
use Rattle.sql_layouts.proofs.Looked.{if_ok}

module _ (sql : List ℕ) (params : Row) (old new : State) (Holds : Database → Type 0) (plain : (db : Database) → Holds db → IsPlain (understood db.schema sql)) {A : Type 0} (rows_of : A → List Row)
    (IsAnswer : Database → A → Type 0) (answers : (a : A) → Holds old.now → Shown sql params old new (rows_of a) → IsAnswer old.now a) where
  went : (r : Result A Error) → IsTrue old.in_transaction → (IsTrue old.is_open → Holds old.now) → IfOk r (λ a. Shown sql params old new (rows_of a))
      → IfErr r (λ e. FailsToQuery sql params old new e ⊎ IsTooLate sql params old new e)
      → IfOk r (IsAnswer old.now) × OnOk r (new.now ≡ old.now) × OnOk r (StaysInside old new) × KeepsCommit old new
  went (Err e) inside holds shown failed = (tt, tt, tt, failed_query_keeps_commit sql params old new e failed)
  went (Ok a) inside holds shown failed =
      let was = query_open sql params old new (rows_of a) shown in
      let it = holds was.0 in
      let same = query_unchanged sql params old new (rows_of a) (plain old.now it) shown in (
        answers a it shown,
        same.0.now_is,
        record { inside = subst IsTrue (sym same.0.mode) inside; is_open = same.0.is_open; committed = same.0.committed_is },
        was.1 inside,
      )

  pub looks_inside : (r : Result A Error) → IsOver Holds old → (HasCleanDisk new → IfOk r (λ a. Shown sql params old new (rows_of a)))
      → (HasCleanDisk new → IfErr r (λ e. FailsToQuery sql params old new e ⊎ IsTooLate sql params old new e)) → Survives old new (λ _. ⊥)
      → IsLook old new r IsAnswer
  looks_inside r over shown failed survives = record {
    answer = λ clean. (at clean).0;
    same = λ clean. (at clean).1;
    stays = λ clean. (at clean).2;
    kept = λ clean. (at clean).3;
    survives = survives;
  }
    where
      at : HasCleanDisk new → IfOk r (IsAnswer old.now) × OnOk r (new.now ≡ old.now) × OnOk r (StaysInside old new) × KeepsCommit old new
      at clean =
          let early : HasCleanDisk old = omega (arith, survives.clean) in
          went r (over.inside early) (over.holds early) (shown clean) (failed clean)

-- a query that fails commits nothing, whatever it was to answer
pub fails_to_look : {A : Type 0} (sql : List ℕ) (params : Row) (old new : State) (e : Error) (r : Result A Error) (IsAnswer : Database → A → Type 0) → IsErr r
    → (HasCleanDisk new → FailsToQuery sql params old new e ⊎ IsTooLate sql params old new e) → Survives old new (λ _. ⊥) → IsLook old new r IsAnswer
fails_to_look sql params old new e (Ok a) IsAnswer is failed survives = absurd (let none = is in cc)
fails_to_look sql params old new e (Err why) IsAnswer is failed survives = record {
  answer = λ clean. tt;
  same = λ clean. tt;
  stays = λ clean. tt;
  kept = λ clean. failed_query_keeps_commit sql params old new e (failed clean);
  survives = survives;
}

module _ (a b : State) where
  -- what is made of an answer
  pub look_mapped : {A B E : Type 0} (x : A) (y : B) (P : Database → A → Type 0) (Q : Database → B → Type 0) → ((db : Database) → P db x → Q db y)
      → IsLook {E = E} a b (Ok x) P → IsLook {E = E} a b (Ok y) Q
  look_mapped x y P Q made it = record { answer = λ clean. made a.now (it.answer clean); same = it.same; stays = it.stays; kept = it.kept; survives = it.survives }

  before : Survives a b (λ _. ⊥) → HasCleanDisk b → HasCleanDisk a
  before end clean = omega (arith, end.clean)

  -- behind a read that succeeded the next may follow, over the same tables
  pub over_next : {A E : Type 0} (x : A) (P : Database → A → Type 0) (Holds Next : Database → Type 0) → ((db : Database) → Holds db → P db x → Next db) → IsOver Holds a
      → IsLook {E = E} a b (Ok x) P → IsOver Next b
  over_next x P Holds Next next over one = record {
    inside = λ clean. (one.stays clean).inside;
    holds = λ clean is_open. subst Next (sym (one.same clean)) (next a.now (over.holds (before one.survives clean) ((one.kept clean).was_open is_open)) (one.answer clean));
  }

module _ (a b c : State) where
  keeps_both : (HasCleanDisk c → HasCleanDisk b) → (HasCleanDisk b → KeepsCommit a b) → (HasCleanDisk c → KeepsCommit b c) → HasCleanDisk c → KeepsCommit a c
  keeps_both early one two clean = record {
    was_open = λ is_open. (one (early clean)).was_open ((two clean).was_open is_open);
    committed = λ is_open. (two clean).committed is_open ∙ (one (early clean)).committed ((two clean).was_open is_open);
  }

  survives_all : Survives a b (λ _. ⊥) → Survives b c (λ _. ⊥) → Survives a c (λ _. ⊥)
  survives_all = survives_then a b c _ _ (λ _. ⊥) (λ _ db none. none) (λ _ db none. none)

  stays_both : StaysInside a b → StaysInside b c → StaysInside a c
  stays_both one two = record { inside = two.inside; is_open = two.is_open; committed = two.committed ∙ one.committed }

  -- a read after a read answers by what both saw
  pub looks_both : {A B E : Type 0} (x : A) (r : Result B E) (P : Database → A → Type 0) (Q : Database → B → Type 0)
      → IsLook {E = E} a b (Ok x) P → IsLook b c r Q → IsLook a c r (λ db y. P db x × Q db y)
  looks_both x r P Q one two = record {
    answer = λ clean.
        let early = before b c two.survives clean in
        if_ok r (λ y answers. (one.answer early, subst (λ db. Q db y) (one.same early) answers)) (two.answer clean);
    same = λ clean. on_ok_mapped r (λ same. same ∙ one.same (before b c two.survives clean)) (two.same clean);
    stays = λ clean. on_ok_mapped r (stays_both (one.stays (before b c two.survives clean))) (two.stays clean);
    kept = keeps_both (before b c two.survives) one.kept two.kept;
    survives = survives_all one.survives two.survives;
  }

  -- what is made of the answer of the second
  pub second_mapped : {A B E : Type 0} (x : A) (r : Result B E) (P : Database → A → Type 0) (Q R : Database → B → Type 0) → ((db : Database) (y : B) → P db x → Q db y → R db y)
      → IsLook {E = E} a b (Ok x) P → IsLook b c r Q → IsLook a c r R
  second_mapped x r P Q R made one two =
      let both = looks_both x r P Q one two in
      record { answer = λ clean. if_ok r (λ y answers. made a.now y answers.0 answers.1) (both.answer clean); same = both.same; stays = both.stays; kept = both.kept; survives = both.survives }

-- what held before the read may serve its answer
pub with_before : {A E : Type 0} (a b : State) (x : A) (P : Database → A → Type 0) (Holds : Database → Type 0) → IsOver Holds a → IsLook {E = E} a b (Ok x) P
    → IsLook {E = E} a b (Ok x) (λ db y. Holds db × P db y)
with_before a b x P Holds over one = record {
  answer = λ clean. (over.holds (before a b one.survives clean) ((one.kept clean).was_open (one.stays clean).is_open), one.answer clean);
  same = one.same;
  stays = one.stays;
  kept = one.kept;
  survives = one.survives;
}
