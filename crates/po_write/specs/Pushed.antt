-- What a sink took of the entries that were pushed onto a writer, since it was made over that sink. This project's own words.
use Rattle.std.specs.Prelude.{◌≡◌, ℕ, List, Option, true, false, not}
use Rattle.po_text.specs.declared.entry.Entry.{Entry}
use Rattle.po_text.specs.Texts.{is_empty}
use Rattle.byte_streams.specs.Sending.{TookAll, TookPart}
use Rattle.po_write.specs.Text.{text_of}
use Rattle.po_write.specs.Writing.{Writing}

-- These entries were pushed, and no push failed: the sink took their text.
pub record HasPushed {W : Type 0} (taken : W → Option (List ℕ)) (failed : W → ℕ) (sink : W) (writer : Writing W) (es : List Entry) : Type 0 where
  pub text : TookAll (taken sink) (taken writer.sink) (failed sink) (failed writer.sink) (text_of es)
  pub begun : writer.begun ≡ not (is_empty es)
  pub unbroken : writer.failed ≡ false

-- The push of the last of these entries failed, and none before: the sink took a beginning of their text.
pub record HasBroken {W : Type 0} (taken : W → Option (List ℕ)) (failed : W → ℕ) (sink : W) (writer : Writing W) (es : List Entry) : Type 0 where
  pub text : TookPart (taken sink) (taken writer.sink) (failed sink) (failed writer.sink) (text_of es)
  pub broken : writer.failed ≡ true
