-- What an office is tested with: its domains and their languages, and the statuses of its records by their numbers. This project's own words.
use Rattle.std.specs.Prelude.{◌≡◌, ℕ, List, option_map, IsTrue, Contains}
use Rattle.std.specs.BTreeMap.{BTreeMap, get_by}
use Rattle.std.specs.FinMap as maps
use Rattle.po_text.specs.declared.entry.Entry.{Entry}
use Rattle.po_text.specs.Texts.{Text, text_cmp}
use Rattle.units.specs.Office.{Office, has_domain, project_in}
use Rattle.request_book.specs.Book.{Book}

-- each language is among these
abbrev pub AreAll : maps.FinMap text_cmp Entry → List Text → Type 0
AreAll headers langs = (lang : Text) → IsTrue (maps.contains_key headers lang) → Contains langs lang

-- each domain is among these
abbrev pub AreAllDomains : Office → List Text → Type 0
AreAllDomains office domains = (domain : Text) → IsTrue (has_domain office domain) → Contains domains domain

-- each language of any domain is among these
abbrev pub AreAllLangs : Office → List Text → Type 0
AreAllLangs office langs = (domain : Text) → AreAll (project_in office domain).headers langs

-- the statuses by number are those of the book's replies
abbrev pub AreStatusesOf : Book → BTreeMap Text ℕ → Type 0
AreStatusesOf book statuses = (number : Text) → get_by (text_cmp number) statuses ≡ option_map (λ recorded. recorded.reply.status) (maps.get book number)
