-- A walk between transactions is a look-up.
use Rattle.std.proofs.Common.{◌≡◌, inl, inr, false, Result, Ok, Err, OnOk, IfOk, IsTrue, sym, ◌∙◌, arith}
use Rattle.std.specs.Prelude.{⊤}
use Rattle.sqlite.specs.State.{State, HasCleanDisk, Survives}
use Rattle.sqlite.proofs.StateLemmas.{survives_weaker}
use Rattle.sql_streams.specs.Walks.{StaysPut}
use Rattle.sql_schema.specs.Layouts.{by_domain}
use Rattle.sql_schema.specs.Whole.{IsIdleOver, IsLookUp}

pub nothing : {A E : Type 0} (r : Result A E) → IfOk r (λ _. ⊤)
nothing (Ok x) = tt
nothing (Err e) = tt

pub walk_looks_up : {A E : Type 0} (old new : State) (r : Result A E) → IsIdleOver by_domain old → (HasCleanDisk new → IsTrue new.is_open → StaysPut old new) → (HasCleanDisk new → OnOk r (IsTrue new.is_open))
    → new.in_transaction ≡ false → Survives old new (λ _. ⊥) → IsLookUp old new r (λ _ _. ⊤)
walk_looks_up old new r idle stays is_open ended survives = record {
  answer = λ clean. nothing r;
  same = λ clean now_open.
      let put = stays clean now_open in
      let settled = idle.settled (omega (arith, clean, survives.clean)) put.was_open in
      record {
        was_open = put.was_open;
        now = elim put.now [ inl same ↦ same | inr back ↦ back ∙ sym settled ];
        committed = put.committed ∙ sym settled;
      };
  is_open = is_open;
  ended = ended;
  survives = survives_weaker old new (λ _. ⊥) _ (λ _ db none. absurd none) survives;
}
