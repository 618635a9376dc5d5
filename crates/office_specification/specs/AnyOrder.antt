-- What the desk's calls promise of requests that come in another order. This project's own rule.
use Rattle.std.specs.Prelude.{◌≡◌, ℕ, List, Option, IsSomeAnd}
use Rattle.po_text.specs.Texts.{Text}
use Rattle.units.specs.Office.{Office, project_in}
use Rattle.byte_streams.specs.Streams.{Took}
use Rattle.request_book.specs.declared.act.Request.{Request}
use Rattle.request_book.specs.Book.{OfficeWithBook}
use Rattle.request_book.specs.Clash.{Alike}
use Rattle.office_specification.specs.Deliveries.{first_of, after, IsRecordedIn}
use Rattle.office_specification.specs.ExportText.{export_text}

-- What a list of deliveries left is what any list leaves that is alike to its first arrivals, and each request of that list is
-- recorded with the reply that it gets at its place there.
abbrev pub IsLeftInAnyOrder : OfficeWithBook → OfficeWithBook → List Request → Type 0
IsLeftInAnyOrder old new deliveries =
    (xs : List Request) → Alike xs (first_of old.book deliveries) →
    (new.office ≡ after old.office xs) × IsRecordedIn new.book old.office xs

-- What a sink took, before and after, is the text of a language of a domain of any office that an alike list leads to from the same start.
abbrev pub ExportsTheSame : Office → Text → Text → Option (List ℕ) → Option (List ℕ) → Type 0
ExportsTheSame office domain lang old new =
    (start : Office) (xs ys : List Request) → Alike xs ys → office ≡ after start xs →
    IsSomeAnd (export_text (project_in (after start ys) domain) lang) (Took old new)
