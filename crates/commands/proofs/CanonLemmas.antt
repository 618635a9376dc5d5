-- What comes of a text that was read.
use Rattle.std.proofs.Common.{◌≡◌, ℕ, ◌<◌, ◌≤◌, List, [], ◌++◌, ◌⊎◌, inl, inr, Bool, true, false, Option, Some, None, Result, MatchResult, IfSome, length, refl, sym, ap, subst, ◌∙◌, append-nil, arith, nat_lt, length-append}
use Rattle.std.proofs.lemmas.Bool.Decides.{nat_tests}
use Rattle.byte_streams.specs.Streams.{RoseOrStands}
use Rattle.byte_streams.specs.declared.vec_sink.VecSink.{VecSink}
use Rattle.po_lex.specs.declared.fault.FaultKind.{FaultKind}
use Rattle.po_lex.specs.declared.fault.FaultKind.TheVariants.{Memory}
use Rattle.po_lex.specs.declared.fault.PoFault.{PoFault}
use Rattle.po_text.specs.declared.entry.Entry.{Entry}
use Rattle.po_read.specs.Spells.{Spells, IsWithin, limits}
use Rattle.po_read.specs.Faults.{IsFault, too_long, not_utf8, at_line, at_end}
use Rattle.po_read.specs.ReaderAnswers.{IsMemory}
use Rattle.po_write.specs.Pushed.{HasPushed}
use Rattle.po_write.specs.Text.{text_of}
use Rattle.po_write.specs.Writing.{Writing}
use Rattle.office.proofs.Streaming.{took_none, all_or_part}
use Rattle.commands.specs.CanonEntries.{taken_in, failed_in, IsWritten}
use Rattle.commands.specs.CanonText.{read_limit, WasGathered, po_fault_line, Writer, TakesAll, TakesPart, Canon, written, broke, told, unread}

-- ---- writing

nothing : (w : Writer) → TakesAll w w []
nothing w = took_none w.taken w.failed

pub none_written : (sink : VecSink) (writer : Writing VecSink) → sink.bytes.items ≡ [] → HasPushed taken_in failed_in sink writer [] → IsWritten writer []
none_written sink writer empty h = record { sink = sink; empty = empty; pushed = h }

-- the text of entries that were written into memory stands there
pub written_text : (writer : Writing VecSink) (es : List Entry) → IsWritten writer es → writer.sink.bytes.items ≡ text_of es
written_text writer es h =
    let behind : writer.sink.bytes.items ≡ h.sink.bytes.items ++ text_of es = cc (h.pushed.text.taken) in
    behind ∙ ap (λ (t : List ℕ). t ++ text_of es) h.empty

pub spelled_is_written : (bytes text : List ℕ) (c : List Entry) (f g : ℕ) (w0 w1 e : Writer) → Spells bytes c → IsWithin limits bytes c → text ≡ text_of c → TakesAll w0 w1 text → Canon bytes f g w0 w1 e e 0
spelled_is_written bytes text c f g w0 w1 e s within is all = written c s within (subst (λ (t : List ℕ). TakesAll w0 w1 t) is all) (nothing e) refl

pub spelled_is_broken : (bytes text : List ℕ) (c : List Entry) (f g : ℕ) (w0 w1 e : Writer) → Spells bytes c → IsWithin limits bytes c → text ≡ text_of c → TakesPart w0 w1 text → Canon bytes f g w0 w1 e e 1
spelled_is_broken bytes text c f g w0 w1 e s within is part = broke c s within (subst (λ (t : List ℕ). TakesPart w0 w1 t) is part) (nothing e) refl

pub fault_is_told : {T F : Type 0} (bytes : List ℕ) (fault : PoFault) (f g : ℕ) (w e0 e1 : Writer) (r : Result T F) → IsFault limits bytes (fault.line, fault.kind) ⊎ IsMemory fault
    → MatchResult r (λ _. TakesAll e0 e1 (po_fault_line fault.line fault.kind)) (λ _. TakesPart e0 e1 (po_fault_line fault.line fault.kind)) → Canon bytes f g w w e0 e1 1
fault_is_told bytes fault f g w e0 e1 r is h = told fault.line fault.kind is (nothing w) (all_or_part e0 e1 (po_fault_line fault.line fault.kind) r h) refl

pub unread_told : (bytes : List ℕ) (f g : ℕ) (w e : Writer) → RoseOrStands f g → Canon bytes f g w w e e 1
unread_told bytes f g w e rose = unread rose (nothing w) (nothing e) refl

pub memory_is_told : {T F : Type 0} (bytes : List ℕ) (f g : ℕ) (w e0 e1 : Writer) (r : Result T F) → MatchResult r (λ _. TakesAll e0 e1 (po_fault_line 0 Memory)) (λ _. TakesPart e0 e1 (po_fault_line 0 Memory)) → Canon bytes f g w w e0 e1 1
memory_is_told bytes f g w e0 e1 r h = told 0 Memory (inr refl) (nothing w) (all_or_part e0 e1 (po_fault_line 0 Memory) r h) refl

-- ---- the whole text, of which no more was read than may be

longer_fault : (got all : List ℕ) (line : ℕ) (kind : FaultKind) → limits.bytes < length got → length got ≤ length all → IsFault limits got (line, kind) → IsFault limits all (line, kind)
longer_fault got all line kind long more (too_long h e) = too_long (omega arith) e
longer_fault got all line kind long more (not_utf8 h u e) = absurd (omega arith)
longer_fault got all line kind long more (at_line h u front at rest k cut p t e) = absurd (omega arith)
longer_fault got all line kind long more (at_end h u k p t e) = absurd (omega arith)

longer : (got all : List ℕ) (f g : ℕ) (w0 w1 e0 e1 : Writer) (status : ℕ) → limits.bytes < length got → length got ≤ length all → Canon got f g w0 w1 e0 e1 status → Canon all f g w0 w1 e0 e1 status
longer got all f g w0 w1 e0 e1 status long more (written c s within a b t) = let few = within.bytes in absurd (omega arith)
longer got all f g w0 w1 e0 e1 status long more (broke c s within a b t) = let few = within.bytes in absurd (omega arith)
longer got all f g w0 w1 e0 e1 status long more (told line kind (inl is) a b t) = told line kind (inl (longer_fault got all line kind long more is)) a b t
longer got all f g w0 w1 e0 e1 status long more (told line kind (inr is) a b t) = told line kind (inr is) a b t
longer got all f g w0 w1 e0 e1 status long more (unread rose a b t) = unread rose a b t

all_read : (all got : List ℕ) (old new : Option (List ℕ)) (f g : ℕ) (w0 w1 e0 e1 : Writer) (status : ℕ) → WasGathered old new got → old ≡ Some all → Canon got f g w0 w1 e0 e1 status → Canon all f g w0 w1 e0 e1 status
all_read all got old None f g w0 w1 e0 e1 status h is canon = let wrong : Some all ≡ None = sym is ∙ h.read.cut in cc
all_read all got old (Some rest) f g w0 w1 e0 e1 status h is canon =
    let cut : all ≡ got ++ rest = cc (is, h.read.cut) in
    by (nat_lt (length got) read_limit) refl cut
  where
    by : (t : Bool) → nat_lt (length got) read_limit ≡ t → all ≡ got ++ rest → Canon all f g w0 w1 e0 e1 status
    by true few cut =
        let less : length got < read_limit = grind (arith, nat_tests) in
        let none : rest ≡ [] = h.all less in
        let same : got ≡ all = sym (append-nil got) ∙ ap (λ t. got ++ t) (sym none) ∙ sym cut in
        subst (λ t. Canon t f g w0 w1 e0 e1 status) same canon
    by false many cut =
        let long : limits.bytes < length got = grind (arith, nat_tests) in
        let more : length got ≤ length all = omega (arith, ap length cut, length-append got rest) in
        longer got all f g w0 w1 e0 e1 status long more canon

-- ---- by what is known of the source

abbrev pub OfSource : Option (List ℕ) → (List ℕ → Type 0) → Type 0
OfSource left P = (bytes : List ℕ) × IfSome left (λ all. bytes ≡ all) × P bytes

-- whatever the bytes are
pub of_any : (left : Option (List ℕ)) (P : List ℕ → Type 0) → ((bytes : List ℕ) → P bytes) → OfSource left P
of_any None P h = ([], tt, h [])
of_any (Some all) P h = (all, refl, h all)

pub of_read : (got : List ℕ) (old new : Option (List ℕ)) (f g : ℕ) (w0 w1 e0 e1 : Writer) (status : ℕ) → WasGathered old new got → Canon got f g w0 w1 e0 e1 status
    → OfSource old (λ bytes. Canon bytes f g w0 w1 e0 e1 status)
of_read got None new f g w0 w1 e0 e1 status h canon = (got, tt, canon)
of_read got (Some all) new f g w0 w1 e0 e1 status h canon = (all, refl, all_read all got (Some all) new f g w0 w1 e0 e1 status h refl canon)
