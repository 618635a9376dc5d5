-- An answer that is written, and then handed on.
use Rattle.std.proofs.Common.{◌≡◌, List, [], ℕ, Bool, Result, Ok, Err, MatchResult, sym, subst, append-nil}
use Rattle.std.specs.Prelude.{IsErrAnd, IfOk, OnOk}
use Rattle.std.specs.Result.{result_and}
use Rattle.office.specs.Writers.{Writer, TakesAll, TakesPart}
use Rattle.office.proofs.Streaming.{took_all, took_part}
use Rattle.http_api.specs.declared.faults.ServeFault.{ServeFault}
use Rattle.http_api.specs.declared.faults.ServeFault.TheVariants as fault
use Rattle.http_api.specs.Outcomes.{Outcome, outcome_answer}
use Rattle.http_api.specs.Answering.{Tells, Writes, WroteBeginning}

-- what is said of the fault that is passed on
pub passed_on : {T : Type 0} (Q : T → Type 0) (P : ServeFault → Type 0) (r : Result T ServeFault) (e : ServeFault) → IsErrAnd r (λ x. x ≡ e) → P e → MatchResult r Q P
passed_on Q P (Ok x) e is p = absurd is
passed_on Q P (Err x) e is p = subst P (sym is) p

-- all was written and handed on
pub all_handed : (w0 w1 w2 : Writer) (text : List ℕ) → TakesAll w0 w1 text → TakesAll w1 w2 [] → TakesAll w0 w2 text
all_handed w0 w1 w2 text first then = subst (TakesAll w0 w2) (append-nil text) (took_all text [] first then)

-- or not handed on
pub part_handed : (w0 w1 w2 : Writer) (text : List ℕ) → TakesAll w0 w1 text → TakesPart w1 w2 [] → TakesPart w0 w2 text
part_handed w0 w1 w2 text first then = subst (TakesPart w0 w2) (append-nil text) (took_part text [] first then)

pub held_back : (Honest Stopped : Type 0) (w0 w1 w2 : Writer) (o : Outcome) (last : Bool) (f : ServeFault) → f ≡ fault.Write → (Honest → TakesAll w0 w1 (outcome_answer o last)) → TakesPart w1 w2 [] → Honest → WroteBeginning Stopped w0 w2 o last f
held_back Honest Stopped w0 w1 w2 o last f is first then h =
    let part = part_handed w0 w1 w2 (outcome_answer o last) (first h) then in
    let P : ServeFault → Type 0 = λ f. WroteBeginning Stopped w0 w2 o last f in
    subst P (sym is) (record { beginning = part.beginning; cause = part.count })

pub tells_handed : {T : Type 0} (w0 w1 w2 : Writer) (text : List ℕ) (r : Result T ServeFault) → TakesAll w0 w1 text → Tells w1 w2 [] r → Tells w0 w2 text r
tells_handed w0 w1 w2 text (Ok x) first then = all_handed w0 w1 w2 text first then
tells_handed w0 w1 w2 text (Err e) first then = (then.0, part_handed w0 w1 w2 text first then.1)

pub writes_handed : {T : Type 0} (Honest Stopped : Type 0) (w0 w1 w2 : Writer) (o : Outcome) (last : Bool) (r : Result T ServeFault) → (Honest → TakesAll w0 w1 (outcome_answer o last)) → Tells w1 w2 [] r
    → Writes Honest Stopped w0 w2 o last r
writes_handed Honest Stopped w0 w1 w2 o last (Ok x) first then = λ h. all_handed w0 w1 w2 (outcome_answer o last) (first h) then
writes_handed Honest Stopped w0 w1 w2 o last (Err e) first then = held_back Honest Stopped w0 w1 w2 o last e then.0 first then.1

-- ---- what is handed on beside what was written

pub tells_and : {T U : Type 0} (old new : Writer) (text : List ℕ) (r : Result T ServeFault) (x : U) (s : Result U ServeFault) → s ≡ result_and r (Ok x) → Tells old new text r → Tells old new text s
tells_and {T} {U} old new text r x s is told = subst (λ (t : Result U ServeFault). Tells old new text t) (sym is) (by r told)
  where
    by : (r : Result T ServeFault) → Tells old new text r → Tells old new text (result_and r (Ok x))
    by (Ok y) told = told
    by (Err e) told = told

pub writes_and : {T U : Type 0} (Honest Stopped : Type 0) (old new : Writer) (o : Outcome) (a b : Bool) (r : Result T ServeFault) (x : U) (s : Result U ServeFault) → s ≡ result_and r (Ok x) → a ≡ b
    → Writes Honest Stopped old new o a r → Writes Honest Stopped old new o b s
writes_and {T} {U} Honest Stopped old new o a b r x s is same w =
    subst (λ last. Writes Honest Stopped old new o last s) same (subst (λ (t : Result U ServeFault). Writes Honest Stopped old new o a t) (sym is) (by r w))
  where
    by : (r : Result T ServeFault) → Writes Honest Stopped old new o a r → Writes Honest Stopped old new o a (result_and r (Ok x))
    by (Ok y) w = w
    by (Err e) w = w

pub ok_and : {T U : Type 0} (P : U → Type 0) (r : Result T ServeFault) (x : U) (s : Result U ServeFault) → s ≡ result_and r (Ok x) → P x → IfOk s P
ok_and {T} {U} P r x s is p = subst (λ (t : Result U ServeFault). IfOk t P) (sym is) (by r)
  where
    by : (r : Result T ServeFault) → IfOk (result_and r (Ok x)) P
    by (Ok y) = p
    by (Err e) = tt

pub at_ok : {U : Type 0} (P : Type 0) (s : Result U ServeFault) → P → OnOk s P
at_ok P (Ok x) p = p
at_ok P (Err e) p = tt
