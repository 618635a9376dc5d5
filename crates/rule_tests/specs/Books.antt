-- The parts of the rules of an office with its book that are tested one by one. Only inner clauses and proofs cite this file.
use Rattle.std.specs.Prelude.{◌≡◌, ℕ, List, [], ◌∷◌, Bool, map, nat_eq, Some, IsSome, IsTrue, All}
use Rattle.std.specs.List.{list_any}
use Rattle.std.specs.BTreeMap.{BTreeMap, get_by}
use Rattle.std.specs.BTreeSet.{BTreeSet, contains}
use Rattle.std.specs.FinMap as maps
use Rattle.po_text.specs.Texts.{Text, text_cmp, text_eq}
use Rattle.units.specs.Project.{Place}
use Rattle.units.specs.Office.{Office, Domain}
use Rattle.units.specs.declared.unit.Unit.{Unit}
use Rattle.request_book.specs.Book.{Book, Recorded}

-- a reply may have this status
abbrev pub is_status : ℕ → Bool
is_status status = list_any (nat_eq status) (200 ∷ 403 ∷ 404 ∷ 409 ∷ 422 ∷ [])

abbrev pub HasStatuses : Book → Type 0
HasStatuses book = (number : Text) (recorded : Recorded) → maps.get book number ≡ Some recorded → IsTrue (is_status recorded.reply.status)

-- the number of each suggestion has a status
abbrev pub AreRecorded : BTreeMap Text ℕ → Unit → Type 0
AreRecorded statuses unit = All (λ s. IsSome (get_by (text_cmp s.number) statuses)) unit.suggestions

abbrev pub HasRecords : BTreeMap Text ℕ → Domain → Type 0
HasRecords statuses domain = (place : Place) (unit : Unit) → maps.get domain.units place ≡ Some unit → AreRecorded statuses unit

abbrev pub HaveRecords : BTreeMap Text ℕ → Office → Type 0
HaveRecords statuses office = (name : Text) (domain : Domain) → maps.get office.domains name ≡ Some domain → HasRecords statuses domain

abbrev pub numbers_of : Unit → List Text
numbers_of unit = map (λ s. s.number) unit.suggestions

-- the set has these numbers and no others
abbrev pub AreSeen : List Text → BTreeSet Text → Type 0
AreSeen numbers seen = (q : Text) → contains text_cmp seen q ≡ list_any (text_eq q) numbers
