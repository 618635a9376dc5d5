-- The first fault of a text: the least line at which a test fails, with the first such test's kind. The order of an entry's lines is that of the GNU gettext manual,
-- "The Format of PO Files"; the tests, their order and the limits are this project's profile.
use Rattle.std.specs.Prelude.{◌≡◌, ℕ, ◌+◌, ◌-◌, ◌<◌, ◌≤◌, List, [], ◌∷◌, ◌++◌, Bool, true, false, not, ◌&&◌, ◌||◌, ◌==◌, nat_lt, nat_le, length, map, Option, Some, None, is_some, option_map, Result, Ok, Err, if◌then◌else◌, ⊤}
use Rattle.std.specs.List.{list_any, filter_map, fold}
use Rattle.std.specs.Str.{is_utf8}
use Rattle.po_lex.specs.declared.fault.FaultKind.{FaultKind}
use Rattle.po_lex.specs.declared.fault.FaultKind.TheVariants as kinds
use Rattle.po_lex.specs.Lines.{Part, begins, continues, Line, blank, translator, extracted, reference, flags, previous, message, is_form, line_of, lines_of}
use Rattle.po_lex.specs.declared.line.Keyword.{Keyword}
use Rattle.po_lex.specs.declared.line.Keyword.TheVariants.{Msgctxt, Msgid, MsgidPlural, Msgstr, MsgstrAt}
use Rattle.po_text.specs.Entries.{Key, Keyed, is_header_key, same_key}
use Rattle.po_text.specs.Texts.{Text, is_empty}
use Rattle.po_text.specs.Header.{has_charset}
use Rattle.po_read.specs.Spells.{strings_of, previous_part, Limits}

-- ---- the lines so far, without blank ones

pub record Lines : Type 0 where
  -- those of each whole entry
  pub whole : List (List Line)
  -- those of the entry that may go on
  pub current : List Line

abbrev pub message_part : Line → Option Part
message_part (message obsolete part) = Some part
message_part _ = None

-- the strings of an entry's message lines so far, with their keywords
abbrev pub strings_in : List Line → List Keyed
strings_in lines = strings_of (filter_map message_part lines)

abbrev pub previous_in : List Line → List Keyed
previous_in lines = strings_of (filter_map previous_part lines)

abbrev pub last_string : List Keyed → Option Keyed
last_string [] = None
last_string (string ∷ []) = Some string
last_string (string ∷ other ∷ strings) = last_string (other ∷ strings)

abbrev pub last_keyword : List Keyed → Option Keyword
last_keyword strings = option_map (λ string. string.0) (last_string strings)

-- An entry ends where a comment line, a `msgctxt` or a `msgid` follows its forms.
abbrev pub begins_entry : Line → Bool
begins_entry blank = false
begins_entry (translator text) = true
begins_entry (extracted text) = true
begins_entry (reference text) = true
begins_entry (flags items) = true
begins_entry (previous obsolete part) = true
begins_entry (message obsolete (begins Msgctxt text)) = true
begins_entry (message obsolete (begins Msgid text)) = true
begins_entry (message obsolete part) = false

abbrev pub has_form : List Line → Bool
has_form lines = is_form (last_keyword (strings_in lines))

-- the lines so far, as the entry of this line has them
abbrev pub before : Lines → Line → Lines
before so_far line =
    if has_form so_far.current && begins_entry line then record { whole = so_far.whole ++ so_far.current ∷ []; current = [] } else so_far

abbrev pub after : Lines → Line → Lines
after so_far line = let here = before so_far line in record { whole = here.whole; current = here.current ++ line ∷ [] }

-- ---- keys

abbrev pub key_in : List Keyed → Key
key_in ((Msgctxt, ctx) ∷ (Msgid, id) ∷ strings) = (Some ctx, id)
key_in ((Msgid, id) ∷ strings) = (None, id)
key_in _ = (None, [])

abbrev pub key_at : List Line → Key
key_at lines = key_in (strings_in lines)

abbrev pub has_header_key : List Line → Bool
has_header_key lines = is_header_key (key_at lines).0 (key_at lines).1

abbrev pub mark_of : Line → Option Bool
mark_of (previous obsolete part) = Some obsolete
mark_of (message obsolete part) = Some obsolete
mark_of _ = None

-- some line has this mark
abbrev pub same_mark : Bool → Option Bool → Bool
same_mark true (Some true) = true
same_mark false (Some false) = true
same_mark _ _ = false

abbrev pub has_mark : Bool → List Line → Bool
has_mark obsolete lines = list_any (λ line. same_mark obsolete (mark_of line)) lines

-- ---- the tests of a line that has a form

abbrev pub or_else : Option FaultKind → Option FaultKind → Option FaultKind
or_else (Some kind) other = Some kind
or_else None other = other

abbrev pub when : Bool → FaultKind → Option FaultKind
when true kind = Some kind
when false kind = None

-- A piece goes on with the last string of its kind, where there is one and no line of its entry has the other mark; a previous string only in front of the message lines.
abbrev pub goes_on : List Line → Line → Bool
goes_on lines (message obsolete (continues text)) = not (has_mark (not obsolete) lines) && not (is_empty (strings_in lines))
goes_on lines (previous obsolete (continues text)) = not (has_mark (not obsolete) lines) && is_empty (strings_in lines) && not (is_empty (previous_in lines))
goes_on lines _ = false

-- the last string with more at its end
abbrev pub last_with : List Keyed → Text → Option Text
last_with strings more = option_map (λ string. string.1 ++ more) (last_string strings)

-- the string that a line begins or goes on with
abbrev pub string_here : List Line → Line → Option Text
string_here lines (message obsolete (begins keyword text)) = Some text
string_here lines (message obsolete (continues text)) = if goes_on lines (message obsolete (continues text)) then last_with (strings_in lines) text else None
string_here lines (previous obsolete (begins keyword text)) = Some text
string_here lines (previous obsolete (continues text)) = if goes_on lines (previous obsolete (continues text)) then last_with (previous_in lines) text else None
string_here lines _ = None

abbrev pub is_long : ℕ → Option Text → Bool
is_long most None = false
is_long most (Some text) = nat_lt most (length text)

-- that string is too long
abbrev pub string_fault : ℕ → List Line → Line → Option FaultKind
string_fault most lines line = when (is_long most (string_here lines line)) kinds.Limit

-- a msgid has ended: only the first entry may have the header's key, and no key comes twice
abbrev pub key_fault : Lines → Option FaultKind
key_fault so_far =
    if has_header_key so_far.current && (not (is_empty so_far.whole) || has_mark true so_far.current) then Some kinds.Order
    else when (list_any (λ lines. same_key (key_at lines) (key_at so_far.current)) so_far.whole) kinds.Duplicate

-- the header has ended, if this is its string
abbrev pub header_fault : Lines → Text → Option FaultKind
header_fault so_far string = when (is_empty so_far.whole && has_header_key so_far.current && not (has_charset string)) kinds.Charset

-- The last string of the message lines has ended, and with it the entry or not: a header is tested only when its entry ends.
abbrev pub ended_fault : Lines → Bool → Option Keyed → Option FaultKind
ended_fault so_far ends (Some (Msgid, id)) = key_fault so_far
ended_fault so_far true (Some (Msgstr, string)) = header_fault so_far string
ended_fault so_far ends _ = None

-- the place of a keyword among previous strings
abbrev pub rank : Option Keyword → ℕ
rank None = 0
rank (Some Msgctxt) = 1
rank (Some Msgid) = 2
rank (Some MsgidPlural) = 3
rank (Some Msgstr) = 4
rank (Some (MsgstrAt d)) = 4

-- a previous string's line behind the last of the entry so far
abbrev pub previous_fault : Option Keyword → Part → Option FaultKind
previous_fault last (begins keyword text) = when (nat_le (rank (Some keyword)) (rank last)) kinds.Order
previous_fault last (continues text) = when (not (is_some last)) kinds.Order

-- a form behind the last keyword: none, by order (Order), or not this one (Forms)
abbrev pub form_fault : Option Keyword → Option FaultKind
form_fault None = Some kinds.Order
form_fault (Some Msgctxt) = Some kinds.Order
form_fault (Some Msgid) = None
form_fault (Some MsgidPlural) = Some kinds.Forms
form_fault (Some Msgstr) = Some kinds.Order
form_fault (Some (MsgstrAt d)) = Some kinds.Forms

abbrev pub numbered_fault : Option Keyword → ℕ → Option FaultKind
numbered_fault None n = Some kinds.Order
numbered_fault (Some Msgctxt) n = Some kinds.Order
numbered_fault (Some Msgid) n = Some kinds.Forms
numbered_fault (Some MsgidPlural) n = when (not (n == 0)) kinds.Forms
numbered_fault (Some Msgstr) n = Some kinds.Forms
numbered_fault (Some (MsgstrAt d)) n = when (not (n == d + 1)) kinds.Forms

abbrev pub is_id : Option Keyword → Bool
is_id (Some Msgid) = true
is_id _ = false

-- a message line behind the last keyword of the entry so far
abbrev pub part_fault : Option Keyword → Bool → Part → Option FaultKind
part_fault last header (continues text) = when (not (is_some last)) kinds.Order
part_fault last header (begins Msgctxt text) = when (is_some last) kinds.Order
part_fault last header (begins Msgid text) = when (nat_lt 1 (rank last)) kinds.Order
part_fault last header (begins MsgidPlural text) = when (not (is_id last) || header) kinds.Order
part_fault last header (begins Msgstr text) = form_fault last
part_fault last header (begins (MsgstrAt d) text) = numbered_fault last d

-- the line can't follow here, by order or mark (Order), or isn't the form that is due (Forms)
abbrev pub order_fault : List Line → Line → Option FaultKind
order_fault lines (message obsolete part) =
    if has_mark (not obsolete) lines then Some kinds.Order else part_fault (last_keyword (strings_in lines)) (has_header_key lines) part
order_fault lines (previous obsolete part) =
    if has_mark (not obsolete) lines || not (is_empty (strings_in lines)) then Some kinds.Order else previous_fault (last_keyword (previous_in lines)) part
order_fault lines line = when (not (is_empty (strings_in lines))) kinds.Order

-- the whole entries besides the header
abbrev pub count_of : List (List Line) → ℕ
count_of [] = 0
count_of (lines ∷ whole) = length (lines ∷ whole) - (if has_header_key lines then 1 else 0)

-- one more entry than there may be
abbrev pub entries_fault : ℕ → Lines → Line → Option FaultKind
entries_fault most here (message obsolete (begins Msgid text)) = when (nat_le most (count_of here.whole)) kinds.Limit
entries_fault most here _ = None

-- the first test that fails at a line that isn't blank
unfoldable pub fault_at : Limits → Lines → Line → Option FaultKind
fault_at most so_far line =
    let here = before so_far line in
    or_else (string_fault most.string here.current line)
    (or_else (if goes_on so_far.current line then None else ended_fault so_far (begins_entry line) (last_string (strings_in so_far.current)))
    (or_else (order_fault here.current line)
    (entries_fault most.entries here line)))

-- the same at the end of the text
unfoldable pub fault_at_end : Lines → Option FaultKind
fault_at_end so_far =
    or_else (ended_fault so_far true (last_string (strings_in so_far.current)))
    (when (not (is_empty so_far.current) && not (has_form so_far.current)) kinds.Order)

-- ---- the least line where a test fails

abbrev pub no_lines : Lines
no_lines = record { whole = []; current = [] }

-- the lines so far with one more, if it has a form and isn't blank
abbrev pub add_line : Lines → Result Line FaultKind → Lines
add_line so_far (Err kind) = so_far
add_line so_far (Ok blank) = so_far
add_line so_far (Ok line) = after so_far line

-- the lines so far, behind these lines of a text
abbrev pub lines_behind : List (List ℕ) → Lines
lines_behind texts = fold add_line no_lines (map line_of texts)

-- the first test that fails at a line
abbrev pub line_fault : Limits → Lines → Result Line FaultKind → Option FaultKind
line_fault most so_far (Err kind) = Some kind
line_fault most so_far (Ok blank) = None
line_fault most so_far (Ok line) = fault_at most so_far line

-- no test fails at any of these lines, which stand behind the lines so far
abbrev pub Passes : Limits → Lines → List (List ℕ) → Type 0
Passes most so_far [] = ⊤
Passes most so_far (line ∷ rest) = (line_fault most so_far (line_of line) ≡ None) × Passes most (add_line so_far (line_of line)) rest

-- a line, from 1 or 0 for the whole text, and what is wrong there
abbrev pub Fault : Type 0
Fault = ℕ × FaultKind

-- The text is too long; else it isn't UTF-8; else a test fails at a line behind a front where none does; else one fails at the end, which has the number of one more line.
pub data IsFault (most : Limits) (bytes : List ℕ) (fault : Fault) : Type 0 where
  too_long : most.bytes < length bytes → fault ≡ (0, kinds.Limit) → IsFault most bytes fault
  not_utf8 : length bytes ≤ most.bytes → is_utf8 bytes ≡ false → fault ≡ (0, kinds.NotUtf8) → IsFault most bytes fault
  at_line : length bytes ≤ most.bytes → is_utf8 bytes ≡ true → (front : List (List ℕ)) (line : List ℕ) (rest : List (List ℕ)) (kind : FaultKind)
      → lines_of bytes ≡ front ++ line ∷ rest → Passes most no_lines front → line_fault most (lines_behind front) (line_of line) ≡ Some kind → fault ≡ (length front + 1, kind) → IsFault most bytes fault
  at_end : length bytes ≤ most.bytes → is_utf8 bytes ≡ true → (kind : FaultKind)
      → Passes most no_lines (lines_of bytes) → fault_at_end (lines_behind (lines_of bytes)) ≡ Some kind → fault ≡ (length (lines_of bytes) + 1, kind) → IsFault most bytes fault

-- ---- the same, computed

abbrev pub or_later : ℕ → Option FaultKind → Option Fault → Option Fault
or_later number (Some kind) later = Some (number, kind)
or_later number None later = later

-- at the line with this number, or later
unfoldable pub fault_from : Limits → ℕ → Lines → List (List ℕ) → Option Fault
fault_from most number so_far [] = or_later number (fault_at_end so_far) None
fault_from most number so_far (line ∷ rest) = or_later number (line_fault most so_far (line_of line)) (fault_from most (number + 1) (add_line so_far (line_of line)) rest)

unfoldable pub fault_of : Limits → List ℕ → Option Fault
fault_of most bytes =
    if nat_lt most.bytes (length bytes) then Some (0, kinds.Limit)
    else if not (is_utf8 bytes) then Some (0, kinds.NotUtf8)
    else fault_from most 1 no_lines (lines_of bytes)
