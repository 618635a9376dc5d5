-- How entries that are read come into a canonical text in memory: this project's own words.
use Rattle.std.specs.Prelude.{◌≡◌, ℕ, List, [], ◌++◌, Option, Some}
use Rattle.std.proofs.Common.{sym, subst, append-nil, append_assoc}
use Rattle.byte_streams.specs.declared.vec_sink.VecSink.{VecSink}
use Rattle.po_text.specs.declared.entry.Entry.{Entry}
use Rattle.po_write.specs.Pushed.{HasPushed}
use Rattle.po_write.specs.Writing.{Writing}

abbrev pub taken_in : VecSink → Option (List ℕ)
taken_in sink = Some sink.bytes.items

abbrev pub failed_in : VecSink → ℕ
failed_in sink = sink.failed

-- The text of these entries was written into memory, where nothing was.
pub record IsWritten (writer : Writing VecSink) (es : List Entry) : Type 0 where
  pub sink : VecSink
  pub empty : sink.bytes.items ≡ []
  pub pushed : HasPushed taken_in failed_in sink writer es

-- From the first writer to the last these entries were written.
abbrev pub Writes : Writing VecSink → List Entry → Writing VecSink → Type 0
Writes a es b = (before : List Entry) → IsWritten a before → IsWritten b (before ++ es)

pub writes_none : (a : Writing VecSink) → Writes a [] a
writes_none a before h = subst (λ (es : List Entry). IsWritten a es) (sym (append-nil before)) h

pub writes_more : (a b c : Writing VecSink) (xs ys : List Entry) → Writes a xs b → Writes b ys c → Writes a (xs ++ ys) c
writes_more a b c xs ys p q before h = subst (λ (es : List Entry). IsWritten c es) (append_assoc before xs ys) (q (before ++ xs) (p before h))
