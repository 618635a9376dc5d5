-- A connection over tables that were tested is as it was.
use Rattle.std.proofs.Common.{◌≡◌, inl, inr, Option, Some, None, Result, Ok, Err, IfOk, IfErr, IsTrue, sym, ap, subst, ◌∙◌, arith}
use Rattle.sqlite.specs.Effect.{Database}
use Rattle.sqlite.specs.State.{State, HasCleanDisk}
use Rattle.sqlite.specs.declared.error.Error.{Error}
use Rattle.sql_schema.specs.Whole.{IsIdleOver, IsLookUp}
use Rattle.sql_layouts.specs.Found.{HoldsOffice}
use Rattle.sql_layouts.specs.Looks.{IsTested}
use Rattle.sql_adoption.specs.Reading.{RefusesOf}
use Rattle.sql_layouts.specs.Tables.{form_told}
use Rattle.sql_layouts.specs.declared.office_tables.Form.{Form}
use Rattle.sql_adoption.specs.declared.tested.Adopted.{Adopted}
use Rattle.sql_adoption.proofs.Kept.{refused_so}
use Rattle.sql_adoption.specs.declared.faults.OpenFault.{OpenFault}
use Rattle.sql_adoption.specs.Adoption.{HasForm, IsAdoptedIn, IsAdoptedWith, StaysAsItWas, Refuses}
use Rattle.sql_layouts.proofs.Looked.{idle_still}

-- between transactions all is committed
abbrev IsSettled : State → Type 0
IsSettled s = IsTrue s.is_open → s.now ≡ s.committed

module _ (old mid : State) (settled : IsSettled old) where
  pub tested_unchanged : (r : Result (Option Form) Error) → IsTested old mid r → StaysAsItWas old mid
  tested_unchanged (Ok is) it = record {
    honest = λ clean. omega (arith, clean, it.survives.clean);
    was_open = λ clean is_open. (it.same clean).was_open;
    now = λ clean is_open. (it.same clean).now;
    committed = λ clean is_open. (it.same clean).committed ∙ settled (it.same clean).was_open;
    ended = it.ended;
    stops = it.survives.crash;
    limit = it.survives.limit;
  }
  tested_unchanged (Err e) it = record {
    honest = λ clean. omega (arith, clean, it.survives.clean);
    was_open = λ clean is_open. (it.undone clean is_open).was_open;
    now = λ clean is_open. let back = it.undone clean is_open in back.now ∙ sym (settled back.was_open);
    committed = λ clean is_open. (it.undone clean is_open).committed;
    ended = it.ended;
    stops = it.survives.crash;
    limit = it.survives.limit;
  }

-- the tables are an office's
module _ (form : Form) (old mid : State) (it : IsTested old mid (Ok (Some form))) where
  pub tested_idle : IsIdleOver (form_told form) mid
  tested_idle = record {
    ready = λ clean is_open. (it.ready clean).ready clean is_open;
    settled = λ clean is_open. (it.ready clean).settled clean is_open;
  }

  module _ (new : State) (r : Result Adopted OpenFault) (looked : IsLookUp mid new r IsAdoptedWith) where
    early : HasCleanDisk new → HasCleanDisk mid
    early clean = omega (arith, clean, looked.survives.clean)

    pub adopted_unchanged : IsSettled old → StaysAsItWas old new
    adopted_unchanged settled =
        let first = tested_unchanged old mid settled (Ok (Some form)) it in
        record {
          honest = λ clean. first.honest (early clean);
          was_open = λ clean is_open. first.was_open (early clean) (looked.same clean is_open).was_open;
          now = λ clean is_open. let same = looked.same clean is_open in same.now ∙ first.now (early clean) same.was_open;
          committed = λ clean is_open.
              let same = looked.same clean is_open in
              same.committed ∙ tested_idle.settled (early clean) same.was_open ∙ first.committed (early clean) same.was_open;
          ended = looked.ended;
          stops = λ clean db leaves. elim (looked.survives.crash clean db leaves) [
            | inl was ↦ first.stops (early clean) db was
            | inr same ↦ inr (same.1 ∙ ap (λ (d : Database). d.trees) (first.now (early clean) same.0))
          ];
          limit = looked.survives.limit ∙ first.limit;
        }

    pub adopted_refused : IfErr r (λ fault. HasCleanDisk new → RefusesOf (form_told form) mid.now fault) → IfErr r (λ fault. HasCleanDisk new → Refuses old.now fault)
    adopted_refused = by r
      where
        by : (s : Result Adopted OpenFault) → IfErr s (λ fault. HasCleanDisk new → RefusesOf (form_told form) mid.now fault) → IfErr s (λ fault. HasCleanDisk new → Refuses old.now fault)
        by (Ok adopted) h = tt
        by (Err fault) h = λ clean.
            refused_so (form_told form) old.now (it.answer (early clean)).schema fault (subst (λ db. RefusesOf (form_told form) db fault) (it.same (early clean)).now (h clean))

-- what was adopted
pub is_adopted_in : (form : Form) (mid new : State) (r : Result Adopted OpenFault) → IsIdleOver (form_told form) mid → IfOk r (HasForm form) → IsLookUp mid new r IsAdoptedWith → IfOk r (IsAdoptedIn new)
is_adopted_in form mid new (Ok adopted) idle has looked = record {
  is_open = looked.is_open;
  idle = subst (λ f. IsIdleOver f new) (sym has.same) (idle_still mid new (Ok adopted) IsAdoptedWith idle looked);
  main = has.main;
  adopted = λ clean. subst (λ db. IsAdoptedWith db adopted) (sym (looked.same clean (looked.is_open clean)).now) (looked.answer clean);
}
is_adopted_in form mid new (Err fault) idle has looked = tt

-- the tables are no office's
pub other_tables : (old new : State) → IsTested old new (Ok None) → HasCleanDisk new → ¬ HoldsOffice old.now
other_tables old new it clean = it.answer clean
