-- A transaction that makes tables by domains beside the old ones: it commits, or its commit fails, or a step fails and is undone.
use Rattle.std.proofs.Common.{◌≡◌, inl, inr, false, true, Result, Ok, Err, OnOk, IsTrue, refl, sym, subst, ◌∙◌, arith}
use Rattle.sqlite.specs.Effect.{Database}
use Rattle.sqlite.specs.Held.{Held, state}
use Rattle.sqlite.specs.State.{State, HasCleanDisk, Survives, IsRolledBack}
use Rattle.sqlite.specs.Steps.{FailsToCommit}
use Rattle.sqlite.specs.Tree.{Trees}
use Rattle.sqlite.specs.declared.error.Error.{Error}
use Rattle.sqlite.proofs.Callers.{survives_begin}
use Rattle.sqlite.proofs.StateLemmas.{survives_weaker}
use Rattle.sqlite_trees.specs.declared.store.Store as store
use Rattle.sql_laws.proofs.Transactions.{survives_both, survives_commit}
use Rattle.sql_schema.specs.Inside.{AreOfficeTablesOf, IsInsideOf}
use Rattle.sql_schema.specs.Layouts.{Form, by_domain}
use Rattle.sql_schema.specs.Whole.{IsIdleOver, StaysIdle, IsCommitOf}
use Rattle.sql_commits.specs.Ends.{Finishes}

module _ {form : Form} {S : Type 0} (g : store.Ghosts S) (old mid last : Held S) (Makes : Database → Database → Type 0) (idle : IsIdleOver form (state g old)) (ended : (state g last).in_transaction ≡ false) where
  abbrev begun : State
  begun = state g (record old { in_transaction = true })

  -- what a crash leaves of it
  abbrev Left : Trees → Type 0
  Left db = IsTrue (state g old).is_open × (after : Database) × Makes (state g old).now after × AreOfficeTablesOf by_domain after × (db ≡ after.trees)

  module _ {A E : Type 0} {written : Result A E} (it : IsInsideOf by_domain begun (state g mid) written Makes) where
    stays_idle : (HasCleanDisk (state g last) → HasCleanDisk (state g mid)) → (HasCleanDisk (state g last) → IsRolledBack (state g mid) (state g last)) → HasCleanDisk (state g last)
        → IsTrue (state g last).is_open → StaysIdle (state g old) (state g last)
    stays_idle early undone clean is_open =
        let was = undone clean in
        let clean_mid = early clean in
        let clean_old : HasCleanDisk (state g old) = omega (arith, clean_mid, it.survives.clean) in
        let open_mid = was.was_open is_open in
        let open_old = (it.kept clean_mid).was_open open_mid in
        let committed : (state g mid).committed ≡ (state g old).now = (it.kept clean_mid).committed open_mid ∙ sym (idle.settled clean_old open_old) in
        record { was_open = open_old; now = (was.undone is_open).0 ∙ committed; committed = (was.undone is_open).1 ∙ committed }

    -- one that is undone
    undone_whole : {B F : Type 0} (f : F) → (HasCleanDisk (state g last) → HasCleanDisk (state g mid)) → (HasCleanDisk (state g last) → IsRolledBack (state g mid) (state g last))
        → Survives (state g old) (state g last) Left → IsCommitOf {A = B} by_domain (state g old) (state g last) (Err f) Makes
    undone_whole f early undone survives = record {
      made = λ clean. tt;
      same = stays_idle early undone;
      was_open = λ clean is_open. (stays_idle early undone clean is_open).was_open;
      is_open = λ clean. tt;
      ended = ended;
      survives = survives;
    }

  fails_so : (e : Error) → (HasCleanDisk (state g mid) → IsTrue (state g mid).in_transaction) → (HasCleanDisk (state g last) → HasCleanDisk (state g mid))
      → (HasCleanDisk (state g last) → FailsToCommit (state g mid) (state g last) e) → HasCleanDisk (state g last) → IsRolledBack (state g mid) (state g last)
  fails_so e within early fails clean = elim (fails clean) [
    | inl h ↦ h.3
    | inr h ↦ absurd (let yes = within (early clean) in let no = h.1 in cc)
  ]

  ends : {A B E F : Type 0} (written : Result A E) (result : Result B F) → IsInsideOf by_domain begun (state g mid) written Makes → Finishes g mid last written result
      → IsCommitOf by_domain (state g old) (state g last) result Makes
  ends (Ok x) (Ok y) it end =
      let early : HasCleanDisk (state g last) → HasCleanDisk (state g mid) = λ clean. omega (arith, clean, end.left.clean) in
      let open_before : HasCleanDisk (state g last) → IsTrue (state g old).is_open = λ clean. (it.kept (early clean)).was_open (end.commits clean).was_open in
      record {
        made = λ clean.
            let now = (end.commits clean).now_is in
            (subst (λ d. Makes (state g old).now d) (sym now) (it.made (early clean)), subst (AreOfficeTablesOf by_domain) (sym now) (it.ready (early clean)), now ∙ sym (end.commits clean).committed_is);
        same = λ clean is_open. tt;
        was_open = λ clean is_open. open_before clean;
        is_open = λ clean. (end.commits clean).is_open;
        ended = ended;
        survives = survives_commit g old mid last Left it.survives end.left
            (λ clean. ((it.kept clean).was_open (it.stays clean).is_open, (state g mid).now, it.made clean, it.ready clean, refl));
      }
  ends {A} {B} {E} {F} (Ok x) (Err f) it end =
      let early : HasCleanDisk (state g last) → HasCleanDisk (state g mid) = λ clean. omega (arith, clean, end.left.clean) in
      undone_whole {A = A} {E = E} it {B = B} f early (fails_so end.fails.0 (λ clean. (it.stays clean).inside) early end.fails.1)
      (survives_commit g old mid last Left it.survives end.left (λ clean. ((it.kept clean).was_open (it.stays clean).is_open, (state g mid).now, it.made clean, it.ready clean, refl)))
  ends (Err e) (Ok y) it end = absurd (let no = end.told in cc)
  ends {A} {B} {E} {F} (Err e) (Err f) it end =
      undone_whole {A = A} {E = E} it {B = B} f (λ clean. omega (arith, clean, end.undone.1.clean)) end.undone.0
      (survives_begin g old (state g last) Left
      (survives_weaker begun (state g last) (λ _. ⊥) Left (λ _ db none. absurd none) (survives_both g (record old { in_transaction = true }) mid last it.survives end.undone.1)))

-- from what its beginning makes of the connection
pub finishes : {form : Form} {S : Type 0} (g : store.Ghosts S) (old begin last : Held S) → begin ≡ record old { in_transaction = true } → IsIdleOver form (state g old) → (state g last).in_transaction ≡ false
    → (Makes : Database → Database → Type 0) → {mid : Held S} {A B E F : Type 0} {written : Result A E} {result : Result B F}
    → Finishes g mid last written result → IsInsideOf by_domain (state g begin) (state g mid) written Makes → IsCommitOf by_domain (state g old) (state g last) result Makes
finishes g old begin last begins idle ended Makes {mid} {written} {result} end inside =
    ends g old mid last Makes idle ended written result (subst (λ h. IsInsideOf by_domain (state g h) (state g mid) written Makes) begins inside) end

-- what it makes, told in other words of the tables before it and after it
pub commits_as : {A E : Type 0} (old new : State) (r : Result A E) (P Q : Database → Database → Type 0)
    → (HasCleanDisk old → IsTrue old.is_open → (after : Database) → AreOfficeTablesOf by_domain after → P old.now after → Q old.now after)
    → IsCommitOf by_domain old new r P → IsCommitOf by_domain old new r Q
commits_as {A} {E} old new r P Q tells it = record {
  made = λ clean. by r (early clean) (it.was_open clean) (it.is_open clean) (it.made clean);
  same = it.same;
  was_open = it.was_open;
  is_open = it.is_open;
  ended = it.ended;
  survives = survives_weaker old new _ _ (λ clean db left. (left.0, left.1, tells (early clean) left.0 left.1 left.3 left.2, left.3, left.4)) it.survives;
}
  where
    early : HasCleanDisk new → HasCleanDisk old
    early clean = omega (arith, clean, it.survives.clean)

    by : (s : Result A E) → HasCleanDisk old → (IsTrue new.is_open → IsTrue old.is_open) → OnOk s (IsTrue new.is_open) → OnOk s (P old.now new.now × AreOfficeTablesOf by_domain new.now × (new.now ≡ new.committed))
        → OnOk s (Q old.now new.now × AreOfficeTablesOf by_domain new.now × (new.now ≡ new.committed))
    by (Ok x) clean was_open is_open made = (tells clean (was_open is_open) new.now made.1 made.0, made.1, made.2)
    by (Err e) clean was_open is_open made = tt
