-- A transaction, from its begin to its commit: what a crash leaves.
use Rattle.std.proofs.Common.{◌≡◌, true, sym, subst, Result, Ok, Err, OnOk}
use Rattle.sqlite_trees.specs.declared.store.Store as store
use Rattle.sqlite.specs.Tree.{Trees}
use Rattle.sqlite.specs.State.{HasCleanDisk, Survives}
use Rattle.sqlite.specs.Held.{Held, state}
use Rattle.sqlite.proofs.StateLemmas.{survives_then}
use Rattle.sqlite.proofs.Callers.{survives_begin}
use Rattle.std.proofs.Common.{arith}

module _ {S : Type 0} (g : store.Ghosts S) where
  -- two steps inside, neither of which commits
  pub survives_both : (a b c : Held S) → Survives (state g a) (state g b) (λ _. ⊥) → Survives (state g b) (state g c) (λ _. ⊥)
      → Survives (state g a) (state g c) (λ _. ⊥)
  survives_both a b c one two = survives_then (state g a) (state g b) (state g c) _ _ (λ _. ⊥) (λ _ db none. none) (λ _ db none. none) one two

  -- from the begin to the commit
  pub survives_commit : (old mid last : Held S) (P : Trees → Type 0)
      → Survives (state g (record old { in_transaction = true })) (state g mid) (λ _. ⊥)
      → Survives (state g mid) (state g last) (λ db. db ≡ (state g mid).now.trees)
      → (HasCleanDisk (state g mid) → P (state g mid).now.trees) → Survives (state g old) (state g last) P
  survives_commit old mid last P inside end made =
      survives_begin g old (state g last) P (survives_then (state g (record old { in_transaction = true })) (state g mid) (state g last) _ _ P (λ _ db none. absurd none)
      (λ clean db is. subst P (sym is) (made (omega (arith, end.clean)))) inside end)

pub on_ok_mapped : {X E : Type 0} {A B : Type 0} (r : Result X E) → (A → B) → OnOk r A → OnOk r B
on_ok_mapped (Ok x) f h = f h
on_ok_mapped (Err e) f h = h
