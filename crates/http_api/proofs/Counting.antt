-- Failures of the writer, and what it holds back, whatever the disk gives.
use Rattle.std.proofs.Common.{◌≡◌, ℕ, Bool, false, List, Option, Result, Ok, Err, MatchResult, refl, sym, subst, ◌∙◌}
use Rattle.std.specs.Prelude.{IsErrAnd, IfErr, OnOk}
use Rattle.std.specs.Result.{result_and}
use Rattle.byte_streams.specs.Streams.{RoseOrStands}
use Rattle.office.specs.Writers.{Writer}
use Rattle.http_messages.specs.Arrivals.{WasCutOff}
use Rattle.http_messages.specs.declared.inbox.ReadFault.{ReadFault}
use Rattle.http_messages.specs.declared.inbox.ReadFault.TheVariants as read
use Rattle.http_api.specs.declared.faults.ServeFault.{ServeFault}
use Rattle.http_api.specs.declared.faults.ServeFault.TheVariants as fault
use Rattle.http_api.specs.Faults.{fault_of}
use Rattle.http_api.specs.Answering.{Tells, AnswerFailed, TellsFailures}
use Rattle.http_api.specs.ConnectionSteps.{HandsOn, StepFailed}

-- ---- an answer

module _ (Stopped : Type 0) where
  pub tells_failures : {T : Type 0} (old new : Writer) (text : List ℕ) (r : Result T ServeFault) → Tells old new text r → TellsFailures Stopped old.failed new.failed r
  tells_failures old new text (Ok x) told = told.count
  tells_failures old new text (Err f) told = subst (AnswerFailed Stopped old.failed new.failed) (sym told.0) told.1.count

  pub failures_and : {T U : Type 0} (a b : ℕ) (r : Result T ServeFault) (x : U) (s : Result U ServeFault) → s ≡ result_and r (Ok x) → TellsFailures Stopped a b r → TellsFailures Stopped a b s
  failures_and {T} {U} a b r x s is told = subst (λ (t : Result U ServeFault). TellsFailures Stopped a b t) (sym is) (by r told)
    where
      by : (r : Result T ServeFault) → TellsFailures Stopped a b r → TellsFailures Stopped a b (result_and r (Ok x))
      by (Ok y) told = told
      by (Err f) told = told

  pub failures_then : {T : Type 0} (a b c : ℕ) (r : Result T ServeFault) → b ≡ a → TellsFailures Stopped b c r → TellsFailures Stopped a c r
  failures_then a b c r same told = subst (λ n. TellsFailures Stopped n c r) same told

pub on_ok_and : {T U : Type 0} (P : Type 0) (r : Result T ServeFault) (x : U) (s : Result U ServeFault) → s ≡ result_and r (Ok x) → OnOk r P → OnOk s P
on_ok_and {T} {U} P r x s is p = subst (λ (t : Result U ServeFault). OnOk t P) (sym is) (by r p)
  where
    by : (r : Result T ServeFault) → OnOk r P → OnOk (result_and r (Ok x)) P
    by (Ok y) p = p
    by (Err f) p = tt

-- ---- a step

-- where nothing was written
pub hands_still : {T : Type 0} (held : Bool) (r : Result T ServeFault) → held ≡ false → HandsOn held r
hands_still held (Ok x) none = none
hands_still held (Err f) none = λ is. none

pub hands_on : {T : Type 0} (Stopped : Type 0) (new : Bool) (a b : ℕ) (r : Result T ServeFault) → OnOk r (new ≡ false) → TellsFailures Stopped a b r → HandsOn new r
hands_on Stopped new a b (Ok x) none told = none
hands_on Stopped new a b (Err f) none told = λ is. absurd (subst (AnswerFailed Stopped a b) is told)

module _ (Stopped : Type 0) (reads_old reads_new writes_old writes_new : ℕ) where
  abbrev pub StepFailures : {T : Type 0} → Result T ServeFault → Type 0
  StepFailures r = MatchResult r (λ _. writes_new ≡ writes_old) (StepFailed Stopped reads_old reads_new writes_old writes_new)

  answer_step : (f : ServeFault) → AnswerFailed Stopped writes_old writes_new f → StepFailed Stopped reads_old reads_new writes_old writes_new f
  answer_step fault.Read told = absurd told
  answer_step fault.Write told = told
  answer_step fault.Memory told = tt
  answer_step fault.Disk told = told

  pub answered_step : {T : Type 0} (r : Result T ServeFault) → TellsFailures Stopped writes_old writes_new r → StepFailures r
  answered_step (Ok x) told = told
  answered_step (Err f) told = answer_step f told

  cut_step : {l0 l1 : Option (List ℕ)} (cause : ReadFault) → WasCutOff l0 l1 reads_old reads_new cause → StepFailed Stopped reads_old reads_new writes_old writes_new (fault_of cause)
  cut_step read.Source off = off.cause
  cut_step read.Memory off = tt

  pub unread_step : {T : Type 0} {l0 l1 : Option (List ℕ)} (r : Result T ServeFault) (cause : ReadFault) → IsErrAnd r (λ f. f ≡ fault_of cause) → WasCutOff l0 l1 reads_old reads_new cause → StepFailures r
  unread_step (Ok x) cause is off = absurd is
  unread_step (Err f) cause is off = subst (StepFailed Stopped reads_old reads_new writes_old writes_new) (sym is) (cut_step cause off)

  -- where the writer fails before anything is read
  pub unsent_step : (f : ServeFault) → f ≡ fault.Write → RoseOrStands writes_old writes_new → StepFailed Stopped reads_old reads_new writes_old writes_new f
  unsent_step f is rose = subst (StepFailed Stopped reads_old reads_new writes_old writes_new) (sym is) rose

-- ---- the loop

-- No write failed so far, and nothing is held back.
pub record WroteOn (held_now : Bool) (failed_old failed_now : ℕ) : Type 0 where
  pub count : failed_now ≡ failed_old
  pub handed_on : held_now ≡ false

pub one_more_handed : {h1 h2 : Bool} {f0 f1 f2 : ℕ} → WroteOn h1 f0 f1 → h2 ≡ false → f2 ≡ f1 → WroteOn h2 f0 f2
one_more_handed so_far none count = record { count = count ∙ so_far.count; handed_on = none }

-- what is said of the fault that a step passes on
passed : {T : Type 0} (P : ServeFault → Type 0) (r : Result T ServeFault) (f : ServeFault) → IsErrAnd r (λ x. x ≡ f) → P f → IfErr r P
passed P (Ok x) f is p = absurd is
passed P (Err x) f is p = subst P (sym is) p

pub handed_on_first : {T : Type 0} (held : Bool) (r : Result T ServeFault) (f : ServeFault) → IsErrAnd r (λ x. x ≡ f) → (f ≡ fault.Read → held ≡ false) → IfErr r (λ x. x ≡ fault.Read → held ≡ false)
handed_on_first held r f is step = passed (λ x. x ≡ fault.Read → held ≡ false) r f is step

module _ {T : Type 0} (Stopped : Type 0) (r0 r1 r2 w0 w1 w2 : ℕ) (r : Result T ServeFault) (f : ServeFault) (is : IsErrAnd r (λ x. x ≡ f)) (step : StepFailed Stopped r1 r2 w1 w2 f) where
  pub read_failed : r1 ≡ r0 → IfErr r (λ x. x ≡ fault.Read → RoseOrStands r0 r2)
  read_failed same = passed (λ x. x ≡ fault.Read → RoseOrStands r0 r2) r f is (λ e. subst (λ n. RoseOrStands n r2) same (subst (StepFailed Stopped r1 r2 w1 w2) e step))

  pub write_failed : w1 ≡ w0 → IfErr r (λ x. x ≡ fault.Write → RoseOrStands w0 w2)
  write_failed same = passed (λ x. x ≡ fault.Write → RoseOrStands w0 w2) r f is (λ e. subst (λ n. RoseOrStands n w2) same (subst (StepFailed Stopped r1 r2 w1 w2) e step))

  pub disk_failed : IfErr r (λ x. x ≡ fault.Disk → Stopped)
  disk_failed = passed (λ x. x ≡ fault.Disk → Stopped) r f is (λ e. subst (StepFailed Stopped r1 r2 w1 w2) e step)
