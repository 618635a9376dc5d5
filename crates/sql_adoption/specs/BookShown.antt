-- What the rows that a read of all records shows stand for. This project's own rule.
use Rattle.std.specs.Prelude.{List, IsTrue}
use Rattle.sqlite.specs.Order.{Row}
use Rattle.request_book.specs.Book.{Book}
use Rattle.sql_schema.specs.Keys.{text_at}
use Rattle.sql_meaning.specs.Meaning.{number_at}
use Rattle.sql_meaning.specs.Shown.{shown_record}
use Rattle.sql_meaning.specs.OfficeShown.{each_put}
use Rattle.request_book.specs.Contents.{IsContent}
use Rattle.sql_decoding.specs.RowTests.{is_record_row}

-- content, status, body, number: the records, put in one after the other
abbrev pub book_shown : List Row → Book
book_shown = each_put (number_at 3) shown_record

-- each column holds what is written for a record's, and the content is that of some request
pub record IsRecordRow (row : Row) : Type 0 where
  pub stands : IsTrue (is_record_row row)
  pub content : IsContent (text_at 0 row)
