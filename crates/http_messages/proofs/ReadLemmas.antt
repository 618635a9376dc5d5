-- A head by the places of its parts.
use Rattle.std.proofs.Common.{◌≡◌, ℕ, List, refl, sym, ap, ◌∙◌, Some}
use Rattle.std.specs.Prelude.{IsUtf8}
use Rattle.httparse.specs.Grammar.{RequestHead}
use Rattle.httparse.specs.declared.spans.HeaderSpan.{HeaderSpan}
use Rattle.httparse.specs.declared.spans.RequestSpans.{RequestSpans}
use Rattle.httparse.specs.Spans.{IsRequestAt, span_bytes}
use Rattle.http_messages.specs.Heads.{head_of}
use Rattle.http_messages.specs.Grammar.{IsHead, said}
use Rattle.http_messages.specs.Read.{head_at}
use Rattle.http_messages.proofs.HeadLemmas.{head_of-said}

head_at-said : (bytes : List ℕ) (spans : RequestSpans) (lines : List HeaderSpan) (h : RequestHead) → IsRequestAt bytes lines spans h → head_at bytes spans lines ≡ said h
head_at-said bytes spans lines h at = rw (at.method, at.path, at.version, at.fields) refl

pub head_read : (bytes : List ℕ) (spans : RequestSpans) (lines : List HeaderSpan) (h : RequestHead) → IsHead bytes h → IsRequestAt bytes lines spans h
    → Some (head_at bytes spans lines) ≡ head_of bytes
head_read bytes spans lines h is at = ap Some (head_at-said bytes spans lines h at) ∙ sym (head_of-said bytes h is)

pub target_text : (bytes : List ℕ) (spans : RequestSpans) (lines : List HeaderSpan) (h : RequestHead) → IsHead bytes h → IsRequestAt bytes lines spans h
    → IsUtf8 (span_bytes bytes spans.path)
target_text bytes spans lines h is at = rw at.path is.whole.0.target_text
