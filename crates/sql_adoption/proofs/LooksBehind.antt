-- Looks at rows, one behind another: what the later one says of the rows is so of those before, and where none was made yet.
use Rattle.std.proofs.Common.{◌≡◌, false, Result, Ok, Err, IfErr, IsTrue, inl, refl, sym, subst, arith}
use Rattle.sqlite.specs.Effect.{Database}
use Rattle.sqlite.specs.State.{State, HasCleanDisk}
use Rattle.sql_schema.specs.Layouts.{Form}
use Rattle.sql_schema.specs.Whole.{IsIdleOver, IsLookUp}
use Rattle.sql_layouts.proofs.Looked.{if_ok, looked_same}
use Rattle.sql_adoption.specs.declared.faults.OpenFault.{OpenFault}

-- no look yet
pub not_looked : {E : Type 0} (form : Form) (s : State) {A : Type 0} (x : A) (P : Database → A → Type 0) → s.in_transaction ≡ false → IsIdleOver form s → (HasCleanDisk s → IsTrue s.is_open)
    → (HasCleanDisk s → P s.now x) → IsLookUp {E = E} s s (Ok x) P
not_looked form s x P ended idle open_so holds = record {
  answer = holds;
  same = λ clean is_open. record { was_open = is_open; now = refl; committed = sym (idle.settled clean is_open) };
  is_open = open_so;
  ended = ended;
  survives = record {
    clean = omega arith;
    shield = λ h. h;
    counts = omega arith;
    limit = refl;
    closes = λ clean is_open. inl is_open;
    crash = λ clean db leaves. inl leaves;
  };
}

-- the disk returned what was written before, too
pub early_of : (a b : State) {A E : Type 0} (r : Result A E) (P : Database → A → Type 0) → IsLookUp a b r P → HasCleanDisk b → HasCleanDisk a
early_of a b r P it clean = omega (arith, clean, it.survives.clean)

-- what follows from what is answered, where the disk returned what was written
pub looked_clean : (a b : State) {A E : Type 0} (r : Result A E) (P Q : Database → A → Type 0) → (HasCleanDisk a → (x : A) → P a.now x → Q a.now x) → IsLookUp a b r P → IsLookUp a b r Q
looked_clean a b r P Q more it = record {
  answer = λ clean.
      let early : HasCleanDisk a = omega (arith, clean, it.survives.clean) in
      if_ok r (more early) (it.answer clean);
  same = it.same;
  is_open = it.is_open;
  ended = it.ended;
  survives = it.survives;
}

-- why the later look refuses rows says why they are refused, where the earlier one answered so
module _ (a b c : State) {U V : Type 0} (u : U) (r : Result V OpenFault) (P : Database → U → Type 0) (Q : Database → V → Type 0) (one : IsLookUp {E = OpenFault} a b (Ok u) P) (two : IsLookUp b c r Q) where
  pub refused_behind : (S T : Database → OpenFault → Type 0) → (HasCleanDisk a → (fault : OpenFault) → P a.now u → S a.now fault → T a.now fault) → IfErr r (λ fault. HasCleanDisk c → S b.now fault)
      → IfErr r (λ fault. HasCleanDisk c → T a.now fault)
  refused_behind S T more h = by r two h
    where
      by : (s : Result V OpenFault) → IsLookUp b c s Q → IfErr s (λ fault. HasCleanDisk c → S b.now fault) → IfErr s (λ fault. HasCleanDisk c → T a.now fault)
      by (Ok v) looked k = tt
      by (Err fault) looked k = λ clean.
          let before : HasCleanDisk b = omega (arith, clean, looked.survives.clean) in
          let early : HasCleanDisk a = omega (arith, before, one.survives.clean) in
          let same = looked_same a b c u (Err fault) P Q one looked clean in
          more early fault (one.answer before) (subst (λ (db : Database). S db fault) same (k clean))
