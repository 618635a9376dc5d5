-- The book: what is kept of each number's first arrival, and how a request stands to it. This project's own rule.
use Rattle.std.specs.Prelude.{Bool, Option, Some, None, if◌then◌else◌}
use Rattle.request_book.specs.declared.book.Class.{Class}
use Rattle.request_book.specs.declared.book.Class.TheVariants.{First, Repeat, NumberUsed}
use Rattle.std.specs.FinMap as maps
use Rattle.po_text.specs.Texts.{Text, text_cmp, text_eq}
use Rattle.units.specs.Office.{Office}
use Rattle.request_book.specs.declared.act.Request.{Request}
use Rattle.request_book.specs.Replies.{Reply}
use Rattle.request_book.specs.declared.book.Record.{Record}
use Rattle.request_book.specs.Acts.{content_text}

-- what is kept for a number: the content that first came with it, as its canonical text, and the reply that it got
pub record Recorded : Type 0 where
  pub content : Text
  pub reply : Reply

abbrev pub Book : Type 0
Book = maps.FinMap text_cmp Recorded

-- what tables mean: an office and its book
pub record OfficeWithBook : Type 0 where
  pub office : Office
  pub book : Book

abbrev pub recorded_as : Request → Reply → Recorded
recorded_as request reply = record { content = content_text request; reply = reply }

abbrev pub has_number : Text → Request → Bool
has_number number request = text_eq number request.number

-- what is kept for a number, as a record with that number
abbrev pub row_of : Text → Recorded → Record
row_of number recorded = record { number = number; content = recorded.content; reply = recorded.reply }

abbrev pub with_record : Book → Record → Book
with_record book r = maps.insert book r.number (record { content = r.content; reply = r.reply })

-- ---- how a content stands to the record under its number: there is none, it has this content, or it has another one

pub data Standing : Type 0 where
  first : Standing
  repeat : Reply → Standing
  number_used : Standing

abbrev pub standing_of : Class → Standing
standing_of First = first
standing_of (Repeat r) = repeat r.now
standing_of NumberUsed = number_used

abbrev pub class_of : Text → Option Record → Standing
class_of content None = first
class_of content (Some r) = if text_eq r.content content then repeat r.reply else number_used
