-- What a sink of entries sends on to its writer, and what it took from one state to another. This project's own words.
use Rattle.std.specs.Prelude.{◌≡◌, ◌<◌, ℕ, List, [], ◌∷◌, ◌++◌, length, Bool, true, Option, Result, MatchResult, ⊤, refl}
use Rattle.std.specs.List.{AllByRecursion}
use Rattle.std.proofs.Common.{sym, ap, ◌∙◌, subst, append_assoc}
use Rattle.std.proofs.lemmas.List.{append-nil}
use Rattle.units.specs.Limits.{export_limit}
use Rattle.byte_streams.specs.Streams.{Took, TookBeginning, RoseOrStands}
use Rattle.byte_streams.proofs.Taking.{append_known-nil, took_both}
use Rattle.po_text.proofs.EntryLists.{all_both}
use Rattle.po_text.specs.declared.entry.Entry.{Entry}
use Rattle.po_write.specs.Text.{entry_text, separated}
use Rattle.office.specs.Checksums.{IsChecksum}
use Rattle.office_specification.specs.EntryStrings.{HasEntryStrings}
use Rattle.office.specs.declared.checksum.Checksum.{Checksum}
use Rattle.office.specs.declared.faults.SendFault.{SendFault}
use Rattle.office.specs.declared.faults.SendFault.TheVariants as fault

-- All of a text was sent behind what was sent before, and counted and digested; no write failed.
pub record SentAll (taken_old taken_new : Option (List ℕ)) (failed_old failed_new : ℕ) (old new : Checksum) (text : List ℕ) : Type 0 where
  pub taken : Took taken_old taken_new text
  pub count : failed_new ≡ failed_old
  pub summed : (before : List ℕ) → IsChecksum old before → IsChecksum new (before ++ text)

-- what each fault says of the text that was to be sent
abbrev pub CauseOf : SendFault → ℕ → ℕ → Checksum → List ℕ → Type 0
CauseOf fault.Device failed_old failed_new old text = RoseOrStands failed_old failed_new
CauseOf fault.Memory failed_old failed_new old text = ⊤
CauseOf fault.Long failed_old failed_new old text = (before : List ℕ) → IsChecksum old before → export_limit < length (before ++ text)

-- A fault came, and the writer took a beginning of the text.
pub record SentPart (taken_old taken_new : Option (List ℕ)) (failed_old failed_new : ℕ) (old : Checksum) (text : List ℕ) (e : SendFault) : Type 0 where
  pub beginning : TookBeginning taken_old taken_new text
  pub cause : CauseOf e failed_old failed_new old text

-- the outcome of sending a text
abbrev pub SendsOn : {W T : Type 0} → (W → Option (List ℕ)) → (W → ℕ) → W → W → Checksum → Checksum → List ℕ → Result T SendFault → Type 0
SendsOn taken failed w_old w_new old new text outcome =
    MatchResult outcome
    (λ _. SentAll (taken w_old) (taken w_new) (failed w_old) (failed w_new) old new text)
    (λ e. SentPart (taken w_old) (taken w_new) (failed w_old) (failed w_new) old text e)

-- ---- entries

-- what entries add to a text that was begun or not: a blank line stands before each but the text's first
abbrev pub added_text : Bool → List Entry → List ℕ
added_text begun [] = []
added_text begun (e ∷ es) = separated begun (entry_text e) ++ added_text true es

-- whether a text is begun after these entries
abbrev pub begun_after : Bool → List Entry → Bool
begun_after begun [] = begun
begun_after begun (e ∷ es) = true

-- From one state to another these entries were taken: their text was sent on.
pub record TookEntries (taken_old taken_new : Option (List ℕ)) (failed_old failed_new : ℕ) (old new : Checksum) (begun_old begun_new : Bool) (es : List Entry) : Type 0 where
  pub sent : SentAll taken_old taken_new failed_old failed_new old new (added_text begun_old es)
  pub begun : begun_new ≡ begun_after begun_old es
  pub strings : AllByRecursion HasEntryStrings es

-- ---- no entry, and more of them

sent_none : (t : Option (List ℕ)) (f : ℕ) (s : Checksum) → SentAll t t f f s s []
sent_none t f s = record {
  taken = sym (append_known-nil t);
  count = refl;
  summed = λ before is. subst (IsChecksum s) (sym (append-nil before)) is;
}

sent_both : {t0 t1 t2 : Option (List ℕ)} {f0 f1 f2 : ℕ} {s0 s1 s2 : Checksum} {a b : List ℕ} → SentAll t0 t1 f0 f1 s0 s1 a → SentAll t1 t2 f1 f2 s1 s2 b → SentAll t0 t2 f0 f2 s0 s2 (a ++ b)
sent_both {t0} {t1} {t2} {s2 = s2} {a = a} {b = b} first second = record {
  taken = took_both t0 t1 t2 a b first.taken second.taken;
  count = second.count ∙ first.count;
  summed = λ before is. subst (IsChecksum s2) (append_assoc before a b) (second.summed (before ++ a) (first.summed before is));
}

after_begun : (es : List Entry) → begun_after true es ≡ true
after_begun [] = refl
after_begun (e ∷ es) = refl

begun-append : (begun : Bool) (xs ys : List Entry) → begun_after begun (xs ++ ys) ≡ begun_after (begun_after begun xs) ys
begun-append begun [] ys = refl
begun-append begun (x ∷ xs) ys = sym (after_begun ys)

pub added-append : (begun : Bool) (xs ys : List Entry) → added_text begun (xs ++ ys) ≡ added_text begun xs ++ added_text (begun_after begun xs) ys
added-append begun [] ys = refl
added-append begun (x ∷ xs) ys =
    ap (λ text. separated begun (entry_text x) ++ text) (added-append true xs ys ∙ ap (λ b. added_text true xs ++ added_text b ys) (after_begun xs))
    ∙ sym (append_assoc (separated begun (entry_text x)) (added_text true xs) (added_text true ys))

-- whether a text is begun, after some entries and after more
pub begun-more : (a b c : Bool) (xs ys : List Entry) → b ≡ begun_after a xs → c ≡ begun_after b ys → c ≡ begun_after a (xs ++ ys)
begun-more a b c xs ys first then = then ∙ (ap (λ x. begun_after x ys) first ∙ sym (begun-append a xs ys))

pub took-none : (t : Option (List ℕ)) (f : ℕ) (s : Checksum) (begun : Bool) → TookEntries t t f f s s begun begun []
took-none t f s begun = record { sent = sent_none t f s; begun = refl; strings = tt }

pub took-more : (t0 t1 t2 : Option (List ℕ)) (f0 f1 f2 : ℕ) (s0 s1 s2 : Checksum) (b0 b1 b2 : Bool) (xs ys : List Entry) → TookEntries t0 t1 f0 f1 s0 s1 b0 b1 xs
    → TookEntries t1 t2 f1 f2 s1 s2 b1 b2 ys → TookEntries t0 t2 f0 f2 s0 s2 b0 b2 (xs ++ ys)
took-more t0 t1 t2 f0 f1 f2 s0 s1 s2 b0 b1 b2 xs ys first then = record {
  sent = subst (SentAll t0 t2 f0 f2 s0 s2) (ap (λ b. added_text b0 xs ++ added_text b ys) first.begun ∙ sym (added-append b0 xs ys)) (sent_both first.sent then.sent);
  begun = begun-more b0 b1 b2 xs ys first.begun then.begun;
  strings = all_both HasEntryStrings xs ys first.strings then.strings;
}
