-- What tables begin with: an office of which nothing is recorded. This project's own rule.
use Rattle.std.specs.FinMap as maps
use Rattle.units.specs.Office.{Office}
use Rattle.units.specs.Openings.{demo, opening}
use Rattle.request_book.specs.Book.{OfficeWithBook}
use Rattle.tables.specs.declared.start.Start.{Start}
use Rattle.tables.specs.declared.start.Start.TheVariants.{Opening, Demo}

abbrev pub office_of_start : Start → Office
office_of_start (Opening manager) = opening manager
office_of_start Demo = demo

abbrev pub started : Start → OfficeWithBook
started start = record { office = office_of_start start; book = maps.empty }
