-- Tables in maps as their callers see them: the office with its book that they stand for.
use Rattle.request_book.specs.Book.{OfficeWithBook}
use Rattle.tables.specs.MapsMeaning.{meaning}
use Rattle.tables.specs.declared.plain.PlainTables.{PlainTables}

abbrev pub meaning_of : PlainTables → OfficeWithBook
meaning_of tables = meaning tables.maps
