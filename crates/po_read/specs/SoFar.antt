-- What the reader keeps of the lines so far: this project's own words.
use Rattle.std.specs.Prelude.{◌≡◌, ℕ, List, [], ◌∷◌, ◌++◌, Bool, true, false, not, ◌&&◌, ◌||◌, map, Option, Some, None, Result, Ok, Err, is_some, if◌then◌else◌, ◌⊎◌, ◌+◌, length, nat_le}
use Rattle.std.specs.List.{fold, filter_map}
use Rattle.std.specs.Prelude.{flat_map}
use Rattle.po_lex.specs.declared.fault.FaultKind.{FaultKind}
use Rattle.po_lex.specs.declared.fault.FaultKind.TheVariants as kinds
use Rattle.po_lex.specs.Lines.{begins, continues, Line, blank, translator, extracted, reference, flags, previous, message, is_form}
use Rattle.po_text.specs.Entries.{previous_strings, is_header_key}
use Rattle.po_text.specs.Texts.{Text, is_empty}
use Rattle.po_lex.specs.declared.line.Keyword.TheVariants.{Msgid}
use Rattle.po_text.specs.Header.{has_charset}
use Rattle.po_read.specs.Spells.{translator_text, extracted_text, reference_text, flag_items, limits}
use Rattle.po_text.specs.Flags.{add_once, with_fuzzy_first}
use Rattle.po_read.specs.Faults.{Lines, strings_in, previous_in, last_keyword, key_at, has_mark, is_long, when, part_fault, previous_fault, or_else, begins_entry}
use Rattle.po_read.specs.Plain.{entry_of}
use Rattle.po_read.specs.Found.{key_at_hand, has_key, count_in}
use Rattle.po_read.specs.Drafts.{Draft, named, single, draft_of, draft_strings, draft_last, draft_header, draft_end, draft_with, previous_end, previous_with, whole_of}
use Rattle.po_text.specs.declared.entry.Entry.{Entry}
use Rattle.po_text.specs.declared.entry.Previous.{Previous}
use Rattle.po_text.specs.declared.key.EntryKey.{EntryKey}
use Rattle.po_read.specs.declared.unfinished.Unfinished.{Unfinished}
use Rattle.po_read.specs.declared.reading.Reader.{Reader}

-- ---- the entry that may go on

pub record SoFar : Type 0 where
  pub translator : List Text
  pub extracted : List Text
  pub references : List Text
  pub flags : List Text
  pub previous : Previous
  pub draft : Draft
  pub begun : Bool
  pub unmarked : Bool
  pub obsolete : Bool

abbrev pub so_far : Unfinished → SoFar
so_far u = record { translator = u.translator; extracted = u.extracted; references = u.references; flags = u.flags; previous = u.previous; draft = draft_of u.message; begun = u.begun; unmarked = u.unmarked; obsolete = u.obsolete }

abbrev pub marked : SoFar → Bool → Bool
marked s true = s.obsolete
marked s false = s.unmarked

abbrev pub has_strings : SoFar → Bool
has_strings s = is_some (draft_last s.draft)

abbrev pub has_previous : SoFar → Bool
has_previous s = is_some (last_keyword (previous_strings s.previous))

abbrev pub goes_on_here : SoFar → Line → Bool
goes_on_here s (message obsolete (continues text)) = not (marked s (not obsolete)) && has_strings s
goes_on_here s (previous obsolete (continues text)) = not (marked s (not obsolete)) && not (has_strings s) && has_previous s
goes_on_here s _ = false

-- the string that a line begins or goes on with
abbrev pub text_here : SoFar → Line → Option Text
text_here s (message obsolete (begins keyword text)) = Some text
text_here s (message obsolete (continues text)) = if goes_on_here s (message obsolete (continues text)) then Some (draft_end s.draft ++ text) else None
text_here s (previous obsolete (begins keyword text)) = Some text
text_here s (previous obsolete (continues text)) = if goes_on_here s (previous obsolete (continues text)) then Some (previous_end s.previous ++ text) else None
text_here s _ = None

abbrev pub length_fault : SoFar → Line → Option FaultKind
length_fault s line = when (is_long limits.string (text_here s line)) kinds.Limit

abbrev pub order_fault_here : SoFar → Line → Option FaultKind
order_fault_here s (message obsolete part) = if marked s (not obsolete) then Some kinds.Order else part_fault (draft_last s.draft) (draft_header s.draft) part
order_fault_here s (previous obsolete part) = if marked s (not obsolete) || has_strings s then Some kinds.Order else previous_fault (last_keyword (previous_strings s.previous)) part
order_fault_here s line = when (has_strings s) kinds.Order

-- an entry was begun and has no form
abbrev pub end_fault : SoFar → Option FaultKind
end_fault s = if s.begun then when (not (is_form (draft_last s.draft))) kinds.Order else None

abbrev pub with_mark : SoFar → Bool → SoFar
with_mark s true = record s { obsolete = true; begun = true }
with_mark s false = record s { unmarked = true; begun = true }

-- with one more line
abbrev pub with_line : SoFar → Line → SoFar
with_line s blank = s
with_line s (translator text) = record s { translator = s.translator ++ text ∷ []; begun = true }
with_line s (extracted text) = record s { extracted = s.extracted ++ text ∷ []; begun = true }
with_line s (reference text) = record s { references = s.references ++ text ∷ []; begun = true }
with_line s (flags items) = record s { flags = fold add_once s.flags items; begun = true }
with_line s (previous obsolete part) = record (with_mark s obsolete) { previous = previous_with s.previous part }
with_line s (message obsolete part) = record (with_mark s obsolete) { draft = draft_with s.draft part }

-- the entry that was whole
pub record IsEntry (s : SoFar) (e : Entry) : Type 0 where
  pub translator : e.translator ≡ s.translator
  pub extracted : e.extracted ≡ s.extracted
  pub references : e.references ≡ s.references
  pub flags : e.flags ≡ with_fuzzy_first s.flags
  pub previous : e.previous ≡ s.previous
  pub strings : s.draft ≡ whole_of e.ctx e.id e.plural e.forms
  pub obsolete : e.obsolete ≡ s.obsolete

-- ---- what is kept, of the lines

pub record IsSoFar (s : SoFar) (lines : List Line) : Type 0 where
  pub translator : s.translator ≡ filter_map translator_text lines
  pub extracted : s.extracted ≡ filter_map extracted_text lines
  pub references : s.references ≡ filter_map reference_text lines
  pub flags : s.flags ≡ fold add_once [] (flat_map flag_items lines)
  pub previous : previous_strings s.previous ≡ previous_in lines
  pub strings : draft_strings s.draft ≡ strings_in lines
  pub begun : s.begun ≡ not (is_empty lines)
  pub unmarked : s.unmarked ≡ has_mark false lines
  pub obsolete : s.obsolete ≡ has_mark true lines

abbrev pub key_in_hand : List Line → EntryKey
key_in_hand lines = key_at_hand (key_at lines).0 (key_at lines).1

pub record Reads (reader : Reader) (lines : Lines) : Type 0 where
  pub keys : reader.keys ≡ map key_in_hand lines.whole
  pub current : IsSoFar (so_far reader.current) lines.current

-- and a sink took the whole entries, by this relation, since it was the first
pub record HandsOn {S : Type 0} (Took : S → List Entry → S → Type 0) (first : S) (reader : Reader) (sink : S) (lines : Lines) : Type 0 where
  pub reads : Reads reader lines
  pub took : Took first (map entry_of lines.whole) sink

-- ---- the tests of a reader

-- the fault is told, or want of memory
abbrev pub Tells : {A : Type 0} → Result A FaultKind → Option FaultKind → Type 0
Tells (Ok x) fault = fault ≡ None
Tells (Err kind) fault = (fault ≡ Some kind) ⊎ (kind ≡ kinds.Memory)

abbrev pub key_fault_here : Reader → Option Text → Text → Option FaultKind
key_fault_here r ctx id =
    if is_header_key ctx id && (not (is_empty r.keys) || r.current.obsolete) then Some kinds.Order
    else when (has_key ctx id r.keys) kinds.Duplicate

abbrev pub header_fault_here : Reader → Option Text → Text → Text → Option FaultKind
header_fault_here r ctx id form = when (is_empty r.keys && is_header_key ctx id && not (has_charset form)) kinds.Charset

abbrev pub ended_draft : Reader → Bool → Draft → Option FaultKind
ended_draft r ends (named ctx id) = key_fault_here r ctx id
ended_draft r true (single ctx id form) = header_fault_here r ctx id form
ended_draft r ends _ = None

abbrev pub ended_here : Reader → Bool → Option FaultKind
ended_here r ends = ended_draft r ends (draft_of r.current.message)

-- before the entry ends that the line follows
abbrev pub front_fault : Reader → Line → Option FaultKind
front_fault r line = or_else (length_fault (so_far r.current) line) (if goes_on_here (so_far r.current) line then None else ended_here r (begins_entry line))

abbrev pub count_here : Reader → ℕ
count_here r = count_in r.keys

abbrev pub entries_here : Reader → Line → Option FaultKind
entries_here r (message obsolete (begins Msgid text)) = when (nat_le limits.entries (count_here r)) kinds.Limit
entries_here r _ = None

abbrev pub has_form_here : Reader → Bool
has_form_here r = is_form (draft_last (draft_of r.current.message))

-- the entry that went on is this one, and its key is the last
pub record IsClosed (old new : Reader) (entry : Entry) : Type 0 where
  pub was : IsEntry (so_far old.current) entry
  pub keys : new.keys ≡ old.keys ++ key_at_hand entry.ctx entry.id ∷ []
  pub current : IsSoFar (so_far new.current) []

-- and a sink took it
pub record IsHanded {S : Type 0} (Took : S → List Entry → S → Type 0) (old new : Reader) (before after : S) : Type 0 where
  pub entry : Entry
  pub closed : IsClosed old new entry
  pub took : Took before (entry ∷ []) after
