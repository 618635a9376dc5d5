-- What tables in maps stand for: an office with its book. This project's own rule.
use Rattle.std.specs.FinMap as maps
use Rattle.request_book.specs.Book.{OfficeWithBook, Recorded}
use Rattle.office_maps.specs.MapEntries.{mapped}
use Rattle.office_maps.specs.OfficeIn.{office_in}
use Rattle.tables.specs.declared.record_maps.Kept.{Kept}
use Rattle.tables.specs.declared.record_maps.Maps.{Maps}
pub use Rattle.office_maps.specs.OfficeIn.{place_of}

abbrev pub recorded_of : Kept → Recorded
recorded_of kept = record { content = kept.content; reply = kept.reply }

-- the office, with the records as its book
abbrev pub meaning : Maps → OfficeWithBook
meaning held = record {
  office = office_in held.office;
  book = maps.from_entries (mapped (λ number. number) recorded_of held.records.entries);
}
