-- Whole transactions that make office's files of office's files keep them, and so does what a stop leaves of them.
use Rattle.std.proofs.Common.{◌≡◌, inl, inr, Result, Ok, Err, OnOk, OnErr, sym, subst, arith}
use Rattle.sqlite.specs.Effect.{Database}
use Rattle.sqlite.specs.State.{State, HasCleanDisk}
use Rattle.sql_schema.specs.Inside.{AreOfficeTablesOf}
use Rattle.sql_schema.specs.Whole.{StaysIdle, IsCommitOf, IsLookUp}
use Rattle.sql_files.specs.Files.{IsOfficeFile, KeepsFile, LeavesFiles, MakesFiles}
use Rattle.sql_files.proofs.Listed.{file_left}
use Rattle.sql_schema.specs.Layouts.{by_domain}

module _ {A E : Type 0} (old new : State) (r : Result A E) where
  module _ (Makes : Database → Database → Type 0) (it : IsCommitOf by_domain old new r Makes) (makes : MakesFiles Makes old) (keeps : KeepsFile old) where
    early : HasCleanDisk new → HasCleanDisk old
    early clean = omega (arith, clean, it.survives.clean)

    pub commit_keeps : KeepsFile new
    commit_keeps clean is_open = by r (it.made clean) (it.same clean is_open)
      where
        by : (s : Result A E) → OnOk s (Makes old.now new.now × AreOfficeTablesOf by_domain new.now × (new.now ≡ new.committed)) → OnErr s (StaysIdle old new) → IsOfficeFile new.now.trees
        by (Ok x) made same = file_left by_domain new.now (makes (early clean) (it.was_open clean is_open) new.now made.0 made.1)
        by (Err e) made same = subst (λ (d : Database). IsOfficeFile d.trees) (sym same.now) (keeps (early clean) same.was_open)

    pub commit_leaves : LeavesFiles old → LeavesFiles new
    commit_leaves leaves clean trees left = elim (it.survives.crash clean trees left) [
      | inl was ↦ leaves (early clean) trees was
      | inr made ↦ subst IsOfficeFile (sym made.4) (file_left by_domain made.1 (makes (early clean) made.0 made.1 made.2 made.3))
    ]

  module _ (IsAnswer : Database → A → Type 0) (it : IsLookUp old new r IsAnswer) (keeps : KeepsFile old) where
    before : HasCleanDisk new → HasCleanDisk old
    before clean = omega (arith, clean, it.survives.clean)

    pub look_up_keeps : KeepsFile new
    look_up_keeps clean is_open =
        let same = it.same clean is_open in
        subst (λ (d : Database). IsOfficeFile d.trees) (sym same.now) (keeps (before clean) same.was_open)

    pub look_up_leaves : LeavesFiles old → LeavesFiles new
    look_up_leaves leaves clean trees left = elim (it.survives.crash clean trees left) [
      | inl was ↦ leaves (before clean) trees was
      | inr same ↦ subst IsOfficeFile (sym same.1) (keeps (before clean) same.0)
    ]
