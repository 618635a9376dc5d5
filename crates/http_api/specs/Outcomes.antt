-- What came of what a message asks, and the bytes that tell it. This project's own rule: a question is answered from the office as the
-- requests before it left it.
use Rattle.std.specs.Prelude.{◌≡◌, ◌<◌, ◌≤◌, ◌⊎◌, List, length, ℕ, Bool, Some, None, Result, Ok, Err, IsSome, IsSomeAnd, ⊤, if◌then◌else◌}
use Rattle.std.specs.FinMap as maps
use Rattle.sha2.specs.Sha256.{sha256}
use Rattle.po_text.specs.Texts.{Text}
use Rattle.units.specs.Office.{Office, project_in}
use Rattle.units.specs.Limits.{export_limit}
use Rattle.request_book.specs.Replies.{Reply}
use Rattle.office_specification.specs.ExportText.{export_text}
use Rattle.views.specs.UnitTexts.{unit_text_at}
use Rattle.views.specs.CountsTexts.{counts_text_at}
use Rattle.tables.specs.declared.faults.Lost.{Lost}
use Rattle.tables.specs.declared.faults.Lost.TheVariants as lost
use Rattle.http_api.specs.declared.answer_bytes.Content.TheVariants.{Json, PoText}
use Rattle.http_messages.specs.declared.refusal.Refusal.{Refusal}
use Rattle.http_messages.specs.declared.refusal.Refusal.TheVariants.{Malformed, NoLanguage, NoUnit, Memory, Disk, Refused, LongExport}
use Rattle.http_api.specs.Statuses.{is_status}
use Rattle.http_api.specs.Answers.{answer_text, refusal_text}
use Rattle.http_messages.specs.Queries.{UnitName}
use Rattle.http_messages.specs.Asked.{LanguageName, Asked}
use Rattle.http_messages.specs.Asked as ask
use Rattle.office.specs.Exchanges.{Exchange, asked, malformed, unread}
use Rattle.request_book.specs.declared.act.Request.{Request}
use Rattle.http_api.specs.Posts.{IsPosted}

pub data Outcome : Type 0 where
  -- what came of a request
  posted : Exchange → Outcome
  -- the JSON text that a question asks for
  shown : Text → Outcome
  -- the PO text of a language
  exported : List ℕ → Outcome
  -- an error
  failed : Refusal → Outcome

abbrev pub IsExported : Outcome → Type 0
IsExported (posted exchange) = ⊥
IsExported (shown text) = ⊥
IsExported (exported text) = ⊤
IsExported (failed _) = ⊥

-- ---- the bytes

abbrev pub lost_refusal : Lost → Refusal
lost_refusal lost.Memory = Memory
lost_refusal lost.Disk = Disk
lost_refusal lost.Refused = Refused

-- A recorded reply keeps its number. One that isn't a status of HTTP no office has given: the disk has.
abbrev pub reply_answer : Reply → Bool → List ℕ
reply_answer reply last = if is_status reply.status then answer_text reply.status Json reply.body last else refusal_text Disk last

abbrev pub result_answer : Result Reply Lost → Bool → List ℕ
result_answer (Ok reply) last = reply_answer reply last
result_answer (Err lost) last = refusal_text (lost_refusal lost) last

abbrev pub exchange_answer : Exchange → Bool → List ℕ
exchange_answer (asked request result) last = result_answer result last
exchange_answer malformed last = refusal_text Malformed last
exchange_answer unread last = refusal_text Memory last

-- the answer that tells an outcome, and whether nothing more is read behind it
abbrev pub outcome_answer : Outcome → Bool → List ℕ
outcome_answer (posted exchange) last = exchange_answer exchange last
outcome_answer (shown text) last = answer_text 200 Json text last
outcome_answer (exported text) last = answer_text 200 (PoText (sha256 text)) text last
outcome_answer (failed refusal) last = refusal_text refusal last

-- ---- what came of a message, over tables of which something is said only while they are honest and whole; that the disk failed is told
-- only where they are stopped afterwards

-- what came of a message that brings a request: it reached the desk, or there is none, or there was no memory to read it
abbrev pub IsPost : List ℕ → List (List ℕ) → List ℕ → Exchange → Type 0
IsPost number callers body (asked request result) = IsPosted number callers body request
IsPost number callers body malformed = (request : Request) → IsPosted number callers body request → ⊥
IsPost number callers body unread = ⊤

-- a unit's view
pub data UnitShown (Honest Whole Stopped : Type 0) (office : Office) (name : UnitName) (o : Outcome) : Type 0 where
  unit_shown : (text : Text) → o ≡ shown text → (Honest → unit_text_at (project_in office name.0) name.1.0 name.1.1 ≡ Some text) → UnitShown Honest Whole Stopped office name o
  unit_without_language : o ≡ failed NoLanguage → (Honest → maps.get (project_in office name.0).headers name.1.0 ≡ None) → UnitShown Honest Whole Stopped office name o
  unit_absent : o ≡ failed NoUnit
      → (Honest → IsSome (maps.get (project_in office name.0).headers name.1.0) × (maps.get (project_in office name.0).units (name.1.0, name.1.1) ≡ None))
      → UnitShown Honest Whole Stopped office name o
  unit_lost : (why : Lost) → o ≡ failed (lost_refusal why) → (why ≡ lost.Disk → Stopped) → UnitShown Honest Whole Stopped office name o

-- a language's counts
pub data CountsShown (Honest Whole Stopped : Type 0) (office : Office) (name : LanguageName) (o : Outcome) : Type 0 where
  counts_shown : (text : Text) → o ≡ shown text → (Honest → counts_text_at (project_in office name.0) name.1 ≡ Some text) → CountsShown Honest Whole Stopped office name o
  counts_without_language : o ≡ failed NoLanguage → (Honest → maps.get (project_in office name.0).headers name.1 ≡ None) → CountsShown Honest Whole Stopped office name o
  counts_lost : (why : Lost) → o ≡ failed (lost_refusal why) → (why ≡ lost.Disk → Stopped) → CountsShown Honest Whole Stopped office name o

-- a language's text
pub data TextExported (Honest Whole Stopped : Type 0) (office : Office) (name : LanguageName) (o : Outcome) : Type 0 where
  text_exported : (text : List ℕ) → o ≡ exported text → (Honest → export_text (project_in office name.0) name.1 ≡ Some text) → (Honest → length text ≤ export_limit)
      → TextExported Honest Whole Stopped office name o
  text_without_language : o ≡ failed NoLanguage → (Honest → export_text (project_in office name.0) name.1 ≡ None) → TextExported Honest Whole Stopped office name o
  text_too_long : o ≡ failed LongExport → (Honest → Whole → IsSomeAnd (export_text (project_in office name.0) name.1) (λ text. export_limit < length text))
      → TextExported Honest Whole Stopped office name o
  text_lost : (why : Lost) → o ≡ failed (lost_refusal why) → (why ≡ lost.Disk → Stopped) → TextExported Honest Whole Stopped office name o

-- a query names no unit, or there was no memory to read it
abbrev pub IsUnnamed : Outcome → Type 0
IsUnnamed o = (o ≡ failed Malformed) ⊎ (o ≡ failed Memory)

abbrev pub IsOutcome : (Honest Whole Stopped : Type 0) → Office → Asked → Outcome → Type 0
IsOutcome Honest Whole Stopped office (ask.refused refusal) o = o ≡ failed refusal
IsOutcome Honest Whole Stopped office (ask.request number callers body) o = (x : Exchange) × (o ≡ posted x) × IsPost number callers body x
IsOutcome Honest Whole Stopped office (ask.export name) o = TextExported Honest Whole Stopped office name o
IsOutcome Honest Whole Stopped office (ask.unit name) o = UnitShown Honest Whole Stopped office name o
IsOutcome Honest Whole Stopped office ask.unnamed o = IsUnnamed o
IsOutcome Honest Whole Stopped office (ask.stats name) o = CountsShown Honest Whole Stopped office name o
