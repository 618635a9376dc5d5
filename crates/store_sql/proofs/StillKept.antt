-- What a look-up keeps of the tables.
use Rattle.std.proofs.Common.{◌≡◌, inl, inr, true, false, Result, Ok, Err, IfErr, OnOk, OnErr, IsTrue, refl, sym, ap, subst, ◌∙◌, arith}
use Rattle.sqlite.specs.Effect.{Database}
use Rattle.sqlite.specs.Held.{Held, state}
use Rattle.sqlite.specs.Disk.{MoreFaults}
use Rattle.sqlite.specs.State.{State, HasCleanDisk}
use Rattle.sqlite.specs.Tree.{Trees}
use Rattle.sqlite_trees.specs.declared.store.Store as store
use Rattle.sql_laws.specs.DiskErrors.{HasFailed}
use Rattle.sql_laws.proofs.Transactions.{on_ok_mapped}
use Rattle.sql_decoding.specs.DiskFailures.{FailsTruly}
use Rattle.sql_decoding.specs.declared.faults.Failure.{Failure}
use Rattle.request_book.specs.Book.{OfficeWithBook}
use Rattle.office_specification.specs.OfficeRules.{KeepsRules}
use Rattle.tables.specs.KeptByCalls.{IsKept}
use Rattle.tables.specs.Stops.{Nothing}
use Rattle.tables.specs.declared.faults.Lost.{Lost}
use Rattle.tables.specs.declared.faults.Lost.TheVariants.{Disk}
use Rattle.sql_schema.specs.Inside.{AreOfficeTablesOf}
use Rattle.sql_schema.specs.Whole.{IsIdleOver, StaysIdle, IsLookUp, IsCommitOf}
use Rattle.sql_meaning.specs.Meaning.{AreNumbered}
use Rattle.sql_meaning.specs.Domains.{meaning_by_domain, meaning_for, TreesMean}
use Rattle.sql_files.specs.Files.{IsOfficeFile, MakesFiles}
use Rattle.sql_files.proofs.Stops.{look_up_keeps, look_up_leaves, commit_keeps, commit_leaves}
use Rattle.store_sql.specs.TablesInFile.{KeepsOffice, LeavesItsOwn, LeavesOwnTrees, LeavesReadable, is_honest, is_whole, means, may_leave, faults, is_stopped, Flags}
use Rattle.sql_schema.specs.Layouts.{by_domain, schema_of, rows_named}
use Rattle.sql_files.proofs.Listed.{database_means, database_means_only}

-- a failure of the disk that a connection tells of which wasn't shut came since
pub failed_since : (old new : State) → IsTrue old.is_open → HasFailed old new → MoreFaults old.faults new.faults
failed_since old new is_open (inl shut) = absurd (let never : true ≡ false = sym is_open ∙ shut in cc)
failed_since old new is_open (inr more) = more

-- a call's error that tells of the disk comes of a failure of it, of a connection that wasn't shut
abbrev pub IsBlamed : {B F : Type 0} → State → State → F → Result B F → Type 0
IsBlamed old new gone s = IfErr s (λ e. HasCleanDisk new → IsTrue old.is_open → e ≡ gone → MoreFaults old.faults new.faults)

blamed_by : {B F : Type 0} (old new : State) (gone : F) (s : Result B F) → IsBlamed old new gone s → HasCleanDisk new → IsTrue old.is_open → s ≡ Err gone → MoreFaults old.faults new.faults
blamed_by {B} {F} old new gone (Ok x) blames clean is_open never = absurd (let is : ◌≡◌ {A = Result B F} (Ok x) (Err gone) = never in cc)
blamed_by {B} {F} old new gone (Err e) blames clean is_open is = blames clean is_open (let same : ◌≡◌ {A = Result B F} (Err e) (Err gone) = is in cc)

module _ {S : Type 0} (g : store.Ghosts S) where
  -- an open store leaves its last commit, and nothing else
  abbrev pub IsSettled : Type 0
  IsSettled = (h : Held S) (db : Trees) → IsTrue (state g h).is_open → (state g h).may_leave db → db ≡ (state g h).committed.trees

  abbrev pub IsLeft : Type 0
  IsLeft = (h : Held S) → IsTrue (state g h).is_open → (state g h).may_leave (state g h).committed.trees

  -- what a stop leaves of a connection that isn't shut means what its rows mean
  pub left_means : (h : Held S) → IsSettled → IsIdleOver by_domain (state g h) → HasCleanDisk (state g h) → IsTrue (state g h).is_open → (meaning : OfficeWithBook)
      → (trees : Trees) × (state g h).may_leave trees × TreesMean trees meaning → meaning ≡ meaning_by_domain (rows_named (state g h).now)
  left_means h settled idle clean is_open meaning left =
      let same : left.0 ≡ (state g h).now.trees = settled h left.0 is_open left.1 ∙ sym (ap (λ (d : Database). d.trees) (idle.settled clean is_open)) in
      database_means_only by_domain (state g h).now (idle.ready clean is_open) meaning (subst (λ trees. TreesMean trees meaning) same left.2)

  -- and each of the trees means it
  pub left_trees : (h : Held S) → IsSettled → IsIdleOver by_domain (state g h) → LeavesOwnTrees (state g h)
  left_trees h settled idle clean is_open trees left =
      let same : trees ≡ (state g h).now.trees = settled h trees is_open left ∙ sym (ap (λ (d : Database). d.trees) (idle.settled clean is_open)) in
      subst (λ t. TreesMean t (meaning_by_domain (rows_named (state g h).now))) (sym same) (database_means by_domain (state g h).now (idle.ready clean is_open))

  -- tables that aren't shut leave what they mean
  pub leaves_own : (tables : Held S × Flags) → IsSettled → KeepsOffice (state g tables.0) → LeavesItsOwn g tables
  leaves_own tables settled keeps = λ clean is_open other left. left_means tables.0 settled keeps.idle clean is_open other left

  -- a store whose disk gave what was written leaves something
  abbrev pub Survives : Type 0
  Survives = (h : Held S) → HasCleanDisk (state g h) → ∥ ((db : Trees) × (state g h).may_leave db) ∥₁

  -- an office's file means something
  file_means : (trees : Trees) → IsOfficeFile trees → (m : OfficeWithBook) × TreesMean trees m
  file_means trees (form, layout, it) =
      let db : Database = record { schema = schema_of layout; trees = trees } in
      (meaning_for form (rows_named db), database_means form db it.ready)

  -- and so does whatever they leave
  pub leaves_readable : (tables : Held S × Flags) → Survives → KeepsOffice (state g tables.0) → LeavesReadable g tables
  leaves_readable tables survives keeps = λ clean. (survives tables.0 clean, λ trees left. ∣ file_means trees (keeps.leaves clean trees left) ∣₁)

  -- stopped tables answer Disk, and nothing is asked of them
  pub kept_stopped : {A : Type 0} (tables : Held S × Flags) → IsSettled → is_stopped g tables ≡ true
      → IsKept {A = A} (is_honest g) (is_whole g) (means g) (may_leave g) (faults g) (is_stopped g) tables tables (Err Disk) Disk Nothing
  kept_stopped tables settled stopped = record {
    honest = λ clean. clean;
    whole = λ clean is_open. is_open;
    counts = omega arith;
    closes = λ clean is_open. inl is_open;
    open_still = λ clean. tt;
    stops = λ clean m left. inl left;
    only = λ clean. tt;
    disk = λ same. stopped;
    still = λ _. (refl, stopped);
    runs = λ _. refl;
    blamed = λ clean is_open ran. absurd (let no = ran in let yes = stopped in cc);
  }

  module _ {A E : Type 0} (old new : Held S) (r : Result A E) (P : Database → A → Type 0) (keeps : KeepsOffice (state g old)) (looked : IsLookUp (state g old) (state g new) r P) where
    early : HasCleanDisk (state g new) → HasCleanDisk (state g old)
    early clean = omega (arith, looked.survives.clean)

    pub keeps_still : KeepsOffice (state g new)
    keeps_still = record {
      idle = record {
        ready = λ clean is_open.
            let same = looked.same clean is_open in
            subst (AreOfficeTablesOf by_domain) (sym same.now) (keeps.idle.ready (early clean) same.was_open);
        settled = λ clean is_open. let same = looked.same clean is_open in same.now ∙ sym same.committed;
      };
      numbered = λ clean is_open.
          let same = looked.same clean is_open in
          subst (λ (d : Database). AreNumbered (rows_named d)) (sym same.now) (keeps.numbered (early clean) same.was_open);
      rules = λ clean is_open.
          let same = looked.same clean is_open in
          subst (λ (d : Database). KeepsRules (meaning_by_domain (rows_named d))) (sym same.now) (keeps.rules (early clean) same.was_open);
      file = look_up_keeps (state g old) (state g new) r P looked keeps.file;
      leaves = look_up_leaves (state g old) (state g new) r P looked keeps.file keeps.leaves;
    }

    pub means_still : HasCleanDisk (state g new) → IsTrue (state g new).is_open → meaning_by_domain (rows_named (state g new).now) ≡ meaning_by_domain (rows_named (state g old).now)
    means_still clean is_open = ap (λ (d : Database). meaning_by_domain (rows_named d)) (looked.same clean is_open).now

    -- the result of the call is that of the look-up, or says less; `gone` is its fault where the disk failed
    pub kept_looked_up_or : {B F : Type 0} (gone : F) (s : Result B F) (before after : Flags) → IsSettled → IsLeft → before.0 ≡ false
        → (OnOk r (IsTrue (state g new).is_open) → OnOk s (IsTrue (state g new).is_open)) → IfErr s (λ e. e ≡ gone → after.0 ≡ true) → (after.0 ≡ true → s ≡ Err gone)
        → IsBlamed (state g old) (state g new) gone s
        → IsKept (is_honest g) (is_whole g) (means g) (may_leave g) (faults g) (is_stopped g) (old, before) (new, after) s gone Nothing
    kept_looked_up_or gone s before after settled left ran passes disk runs blames = record {
      honest = early;
      whole = λ clean is_open. (looked.same clean is_open).was_open;
      counts = looked.survives.counts;
      closes = looked.survives.closes;
      open_still = λ clean. passes (looked.is_open clean);
      stops = λ clean m it. elim (looked.survives.crash clean it.0 it.1) [
        | inl was ↦ inl (it.0, was, it.2)
        | inr same ↦ inl (it.0, subst (state g old).may_leave (sym (same.1 ∙ ap (λ (d : Database). d.trees) (keeps.idle.settled (early clean) same.0))) (left old same.0), it.2)
      ];
      only = λ clean. on_ok_mapped s (λ is_open other it. left_means new settled keeps_still.idle clean is_open other it) (passes (looked.is_open clean));
      disk = disk;
      still = λ stopped. absurd (let no = ran in let yes = stopped in cc);
      runs = runs;
      blamed = λ clean is_open going is. blamed_by (state g old) (state g new) gone s blames clean is_open is;
    }

    pub kept_looked_up : {B : Type 0} (s : Result B Lost) (before after : Flags) → IsSettled → IsLeft → before.0 ≡ false → (OnOk r (IsTrue (state g new).is_open) → OnOk s (IsTrue (state g new).is_open))
        → IfErr s (λ e. e ≡ Disk → after.0 ≡ true) → (after.0 ≡ true → s ≡ Err Disk) → IsBlamed (state g old) (state g new) Disk s
        → IsKept (is_honest g) (is_whole g) (means g) (may_leave g) (faults g) (is_stopped g) (old, before) (new, after) s Disk Nothing
    kept_looked_up s before after = kept_looked_up_or Disk s before after

  -- a look-up that failed, told by what it comes to; `after` are the tables then
  module _ {A : Type 0} (old new : Held S) (failure : Failure) (P : Database → A → Type 0) (keeps : KeepsOffice (state g old)) (looked : IsLookUp {E = Failure} (state g old) (state g new) (Err failure) P)
      (fails : FailsTruly {A = A} (state g old) (state g new) (Err failure)) where
    pub kept_lost : {B : Type 0} (lost : Lost) (before : Flags) (after : Held S × Flags) → IsSettled → IsLeft → before.0 ≡ false → lost ≡ failure.lost → after.0 ≡ new → (lost ≡ Disk → after.1.0 ≡ true)
        → (before.0 ≡ false → after.1.0 ≡ true → lost ≡ Disk) → IsKept {A = B} (is_honest g) (is_whole g) (means g) (may_leave g) (faults g) (is_stopped g) (old, before) after (Err lost) Disk Nothing
    kept_lost {B} lost before after settled left ran is same stops runs =
        subst (λ h. IsKept {A = B} (is_honest g) (is_whole g) (means g) (may_leave g) (faults g) (is_stopped g) (old, before) (h, after.1) (Err lost) Disk Nothing) (sym same)
        (kept_looked_up old new (Err failure) P keeps looked (Err lost) before after.1 settled left ran (λ is_open. tt) stops (λ stopped. ap Err (runs ran stopped))
        (λ clean is_open disk. failed_since (state g old) (state g new) is_open (fails clean (sym is ∙ disk))))

  -- ---- a transaction that writes

  -- the connection keeps its office where the transaction makes what keeps the rules
  module _ {A E : Type 0} (old new : Held S) (r : Result A E) (Makes : Database → Database → Type 0) (keeps : KeepsOffice (state g old)) (commits : IsCommitOf by_domain (state g old) (state g new) r Makes)
      (meaning : OfficeWithBook) (rules : HasCleanDisk (state g old) → KeepsRules meaning)
      (makes : (db : Database) → HasCleanDisk (state g old) → IsTrue (state g old).is_open → AreOfficeTablesOf by_domain db → Makes (state g old).now db → (meaning_by_domain (rows_named db) ≡ meaning) × AreNumbered (rows_named db))
      (files : MakesFiles Makes (state g old)) where
    clean_before : HasCleanDisk (state g new) → HasCleanDisk (state g old)
    clean_before clean = omega (arith, commits.survives.clean)

    by_result : {X F : Type 0} {C D G : Type 0} (s : Result X F) → (C → G) → (D → G) → OnOk s C → OnErr s D → G
    by_result (Ok x) f h ok err = f ok
    by_result (Err e) f h ok err = h err

    pub means_made : HasCleanDisk (state g new) → OnOk r (meaning_by_domain (rows_named (state g new).now) ≡ meaning)
    means_made clean = on_ok_mapped r (λ is. is) (made_by r (commits.made clean) (commits.is_open clean))
      where
        made_by : (s : Result A E) → OnOk s (Makes (state g old).now (state g new).now × AreOfficeTablesOf by_domain (state g new).now × ((state g new).now ≡ (state g new).committed)) → OnOk s (IsTrue (state g new).is_open)
            → OnOk s (meaning_by_domain (rows_named (state g new).now) ≡ meaning)
        made_by (Ok x) made is_open = (makes (state g new).now (clean_before clean) (commits.was_open clean is_open) made.1 made.0).0
        made_by (Err e) made is_open = tt

    pub means_as_before : HasCleanDisk (state g new) → IsTrue (state g new).is_open → OnErr r (meaning_by_domain (rows_named (state g new).now) ≡ meaning_by_domain (rows_named (state g old).now))
    means_as_before clean is_open = as_before r (commits.same clean is_open)
      where
        as_before : (s : Result A E) → OnErr s (StaysIdle (state g old) (state g new)) → OnErr s (meaning_by_domain (rows_named (state g new).now) ≡ meaning_by_domain (rows_named (state g old).now))
        as_before (Ok x) same = tt
        as_before (Err e) same = ap (λ (d : Database). meaning_by_domain (rows_named d)) same.now

    pub keeps_committed : KeepsOffice (state g new)
    keeps_committed = record {
      idle = record {
        ready = λ clean is_open. by_result r (λ (made : Makes (state g old).now (state g new).now × AreOfficeTablesOf by_domain (state g new).now × ((state g new).now ≡ (state g new).committed)). made.1)
            (λ (same : StaysIdle (state g old) (state g new)). subst (AreOfficeTablesOf by_domain) (sym same.now) (keeps.idle.ready (clean_before clean) same.was_open)) (commits.made clean) (commits.same clean is_open);
        settled = λ clean is_open. by_result r (λ (made : Makes (state g old).now (state g new).now × AreOfficeTablesOf by_domain (state g new).now × ((state g new).now ≡ (state g new).committed)). made.2)
            (λ (same : StaysIdle (state g old) (state g new)). same.now ∙ sym same.committed) (commits.made clean) (commits.same clean is_open);
      };
      numbered = λ clean is_open. by_result r (λ (made : Makes (state g old).now (state g new).now × AreOfficeTablesOf by_domain (state g new).now × ((state g new).now ≡ (state g new).committed)).
          (makes (state g new).now (clean_before clean) (commits.was_open clean is_open) made.1 made.0).1)
          (λ (same : StaysIdle (state g old) (state g new)). subst (λ (d : Database). AreNumbered (rows_named d)) (sym same.now) (keeps.numbered (clean_before clean) same.was_open)) (commits.made clean) (commits.same clean is_open);
      rules = λ clean is_open. by_result r (λ (made : Makes (state g old).now (state g new).now × AreOfficeTablesOf by_domain (state g new).now × ((state g new).now ≡ (state g new).committed)).
          subst KeepsRules (sym (makes (state g new).now (clean_before clean) (commits.was_open clean is_open) made.1 made.0).0) (rules (clean_before clean)))
          (λ (same : StaysIdle (state g old) (state g new)). subst (λ (d : Database). KeepsRules (meaning_by_domain (rows_named d))) (sym same.now) (keeps.rules (clean_before clean) same.was_open)) (commits.made clean) (commits.same clean is_open);
      file = commit_keeps (state g old) (state g new) r Makes commits files keeps.file;
      leaves = commit_leaves (state g old) (state g new) r Makes commits files keeps.file keeps.leaves;
    }

    pub kept_committed : {B : Type 0} (s : Result B Lost) (before after : Flags) → IsSettled → before.0 ≡ false → (OnOk r (IsTrue (state g new).is_open) → OnOk s (IsTrue (state g new).is_open))
        → IfErr s (λ e. e ≡ Disk → after.0 ≡ true) → (after.0 ≡ true → s ≡ Err Disk) → IsBlamed (state g old) (state g new) Disk s
        → IsKept (is_honest g) (is_whole g) (means g) (may_leave g) (faults g) (is_stopped g) (old, before) (new, after) s Disk (λ m. m ≡ meaning)
    kept_committed s before after settled ran passes disk runs blames = record {
      honest = clean_before;
      whole = commits.was_open;
      counts = commits.survives.counts;
      closes = commits.survives.closes;
      open_still = λ clean. passes (commits.is_open clean);
      stops = λ clean m it. elim (commits.survives.crash clean it.0 it.1) [
        | inl was ↦ inl (it.0, was, it.2)
        | inr made ↦ inr (made.0, database_means_only by_domain made.1 made.3 m (subst (λ trees. TreesMean trees m) made.4 it.2) ∙ (makes made.1 (clean_before clean) made.0 made.3 made.2).0)
      ];
      only = λ clean. on_ok_mapped s (λ is_open other it. left_means new settled keeps_committed.idle clean is_open other it) (passes (commits.is_open clean));
      disk = disk;
      still = λ stopped. absurd (let no = ran in let yes = stopped in cc);
      runs = runs;
      blamed = λ clean is_open going is. blamed_by (state g old) (state g new) Disk s blames clean is_open is;
    }
