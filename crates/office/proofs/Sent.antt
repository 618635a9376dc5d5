-- Texts that are sent on: all of one, a part of another.
use Rattle.std.proofs.Common.{◌≡◌, ℕ, ◌<◌, List, [], ◌++◌, length, Option, refl, sym, subst, MatchResult, Result, Ok, Err, IsErrAnd, arith, length-append}
use Rattle.units.specs.Limits.{export_limit}
use Rattle.byte_streams.specs.Streams.{TookBeginning, RoseOrStands}
use Rattle.byte_streams.proofs.Taking.{append_known-nil, took_then_beginning, beginning_of_longer}
use Rattle.byte_streams.specs.Sending.{TookAll, TookPart}
use Rattle.office.specs.declared.checksum.Checksum.{Checksum}
use Rattle.office.specs.declared.faults.SendFault.{SendFault}
use Rattle.office.specs.declared.faults.SendFault.TheVariants as fault
use Rattle.office.specs.Checksums.{IsChecksum}
use Rattle.office.specs.Sendings.{SentAll, SentPart, CauseOf}

took_nothing : (t : Option (List ℕ)) (text : List ℕ) → TookBeginning t t text
took_nothing t text = record { front = []; rest = text; whole = refl; taken = sym (append_known-nil t) }

-- ---- one text

-- the outcome that `?` passes on
pub returned : {T : Type 0} {t0 t2 : Option (List ℕ)} {f0 f2 : ℕ} {s0 : Checksum} (s2 : Checksum) {whole : List ℕ} (r : Result T SendFault) (x : SendFault) → IsErrAnd r (λ e. e ≡ x) → SentPart t0 t2 f0 f2 s0 whole x
    → MatchResult r (λ _. SentAll t0 t2 f0 f2 s0 s2 whole) (λ e. SentPart t0 t2 f0 f2 s0 whole e)
returned s2 (Ok y) x is part = absurd is
returned {t0 = t0} {t2 = t2} {f0 = f0} {f2 = f2} {s0 = s0} s2 {whole = whole} (Err e) x is part =
    let P : SendFault → Type 0 = λ fault. SentPart t0 t2 f0 f2 s0 whole fault in subst P (sym is) part

pub memory_part : (t : Option (List ℕ)) (f : ℕ) (s : Checksum) (text : List ℕ) (e : SendFault) → e ≡ fault.Memory → SentPart t t f f s text e
memory_part t f s text e is = let P : SendFault → Type 0 = λ x. SentPart t t f f s text x in subst P (sym is) (record { beginning = took_nothing t text; cause = tt })

pub long_part : (t : Option (List ℕ)) (f : ℕ) (s : Checksum) (bytes text : List ℕ) (e : SendFault) → bytes ≡ text → e ≡ fault.Long
    → ((before : List ℕ) → IsChecksum s before → export_limit < length (before ++ bytes)) → SentPart t t f f s text e
long_part t f s bytes text e same is long =
    let P : SendFault → Type 0 = λ x. SentPart t t f f s text x in
    let Q : List ℕ → Type 0 = λ xs. (before : List ℕ) → IsChecksum s before → export_limit < length (before ++ xs) in
    subst P (sym is) (record { beginning = took_nothing t text; cause = subst Q same long })

pub all_sent : (t0 t1 : Option (List ℕ)) (f0 f1 : ℕ) (s0 s1 : Checksum) (bytes text : List ℕ) → bytes ≡ text → TookAll t0 t1 f0 f1 bytes
    → ((before : List ℕ) → IsChecksum s0 before → IsChecksum s1 (before ++ bytes)) → SentAll t0 t1 f0 f1 s0 s1 text
all_sent t0 t1 f0 f1 s0 s1 bytes text same all summed =
    let P : List ℕ → Type 0 = λ xs. SentAll t0 t1 f0 f1 s0 s1 xs in subst P same (record { taken = all.taken; count = all.count; summed = summed })

pub device_part : (t0 t1 : Option (List ℕ)) (f0 f1 : ℕ) (s0 : Checksum) (bytes text : List ℕ) → bytes ≡ text → TookPart t0 t1 f0 f1 bytes → SentPart t0 t1 f0 f1 s0 text fault.Device
device_part t0 t1 f0 f1 s0 bytes text same part =
    let P : List ℕ → Type 0 = λ xs. SentPart t0 t1 f0 f1 s0 xs fault.Device in subst P same (record { beginning = part.beginning; cause = part.count })

-- ---- a text, and a part of another behind it

longer_too : (limit : ℕ) (before a b c : List ℕ) → limit < length ((before ++ a) ++ b) → limit < length (before ++ (a ++ (b ++ c)))
longer_too limit before a b c h = simp (length-append) (omega (arith, length-append (before ++ a) b, length-append before a))

-- the cause of a fault stays one when the text before and behind it is added
cause_of_longer : (e : SendFault) {t0 t1 : Option (List ℕ)} {f0 f1 : ℕ} (f2 : ℕ) {s0 s1 : Checksum} (a b c : List ℕ) → SentAll t0 t1 f0 f1 s0 s1 a → CauseOf e f1 f2 s1 b → CauseOf e f0 f2 s0 (a ++ (b ++ c))
cause_of_longer fault.Device f2 a b c first cause = let P : ℕ → Type 0 = λ f. RoseOrStands f f2 in subst P first.count cause
cause_of_longer fault.Memory f2 a b c first cause = cause
cause_of_longer fault.Long f2 a b c first cause = λ before is. longer_too export_limit before a b c (cause (before ++ a) (first.summed before is))

pub sent_then_part : {t0 t1 t2 : Option (List ℕ)} {f0 f1 f2 : ℕ} {s0 s1 : Checksum} {e : SendFault} {a b : List ℕ} (c : List ℕ) → SentAll t0 t1 f0 f1 s0 s1 a → SentPart t1 t2 f1 f2 s1 b e → SentPart t0 t2 f0 f2 s0 (a ++ (b ++ c)) e
sent_then_part {t0} {t1} {t2} {f2 = f2} {e = e} {a = a} {b = b} c first part = record {
  beginning = took_then_beginning t0 t1 t2 a (b ++ c) first.taken (beginning_of_longer t1 t2 b c part.beginning);
  cause = cause_of_longer e f2 a b c first part.cause;
}
