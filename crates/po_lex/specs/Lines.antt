-- The forms of lines: the GNU gettext manual, "The Format of PO Files", for the marks of comments, the keywords and the pieces. That a line is of no other form, and
-- which of its faults counts, is this project's profile.
use Rattle.std.specs.Prelude.{ℕ, ◌+◌, List, [], ◌∷◌, ◌++◌, Bool, true, false, not, ◌&&◌, ◌||◌, ◌==◌, nat_lt, length, drop, map, Option, Some, Result, Ok, Err, if◌then◌else◌, codes}
use Rattle.std.specs.List.{find, list_all, slice_split}
use Rattle.std.specs.Str.{byte, bytes_eq}
use Rattle.po_lex.specs.declared.line.Keyword.{Keyword}
use Rattle.po_lex.specs.declared.line.Keyword.TheVariants.{Msgctxt, Msgid, MsgidPlural, Msgstr, MsgstrAt}
use Rattle.po_lex.specs.declared.fault.FaultKind.{FaultKind}
use Rattle.po_lex.specs.declared.fault.FaultKind.TheVariants as kinds
use Rattle.po_lex.specs.Reading.{◌>>=◌, ok_or, is_white, is_all_white, skip_white, trim}
use Rattle.po_lex.specs.Escapes.{quote, string_at}

-- as it is written
abbrev pub keyword_text : Keyword → List ℕ
keyword_text Msgctxt = codes "msgctxt"
keyword_text Msgid = codes "msgid"
keyword_text MsgidPlural = codes "msgid_plural"
keyword_text Msgstr = codes "msgstr"
keyword_text (MsgstrAt d) = codes "msgstr[" ++ (48 + d) ∷ codes "]"

abbrev pub form_keywords : List Keyword
form_keywords = map MsgstrAt (0 ∷ 1 ∷ 2 ∷ 3 ∷ 4 ∷ 5 ∷ 6 ∷ 7 ∷ [])

abbrev pub keywords : List Keyword
keywords = Msgctxt ∷ Msgid ∷ MsgidPlural ∷ Msgstr ∷ form_keywords

-- a string begins, or the one before goes on
pub data Part : Type 0 where
  begins : Keyword → List ℕ → Part
  continues : List ℕ → Part

pub data Line : Type 0 where
  blank : Line
  translator : List ℕ → Line
  extracted : List ℕ → Line
  reference : List ℕ → Line
  flags : List (List ℕ) → Line
  -- whether it has the mark of an obsolete entry
  previous : Bool → Part → Line
  message : Bool → Part → Line

-- The text cut at each LF. A rest behind the last LF is a line if it isn't empty.
abbrev pub with_byte : ℕ → List (List ℕ) → List (List ℕ)
with_byte b [] = (b ∷ []) ∷ []
with_byte b (line ∷ lines) = (b ∷ line) ∷ lines

unfoldable pub lines_of : List ℕ → List (List ℕ)
lines_of [] = []
lines_of (b ∷ bytes) = if b == 10 then [] ∷ lines_of bytes else with_byte b (lines_of bytes)

-- a keyword is all that stands before the first white or the line's end
abbrev pub word_of : List ℕ → List ℕ
word_of [] = []
word_of (b ∷ bytes) = if is_white b then [] else b ∷ word_of bytes

abbrev pub find_keyword : List ℕ → List Keyword → Option Keyword
find_keyword word among = find (λ keyword. bytes_eq (keyword_text keyword) word) among

abbrev pub keyword_of : List ℕ → Option Keyword
keyword_of word = find_keyword word keywords

-- a translation's keyword
abbrev pub is_form : Option Keyword → Bool
is_form (Some Msgstr) = true
is_form (Some (MsgstrAt d)) = true
is_form _ = false

-- a piece
abbrev pub piece_at : List ℕ → Result (List ℕ) FaultKind
piece_at [] = Err kinds.Quote
piece_at (b ∷ bytes) = if b == quote then string_at bytes else Err kinds.Quote

abbrev pub begins_with : ℕ → List ℕ → Bool
begins_with mark [] = false
begins_with mark (b ∷ bytes) = b == mark

-- a message line, keyword, white and piece, or a piece
unfoldable pub part_at : List ℕ → Result Part FaultKind
part_at bytes =
    if begins_with quote bytes then (piece_at bytes >>= λ string. Ok (continues string)) else (do
      keyword ← ok_or (keyword_of (word_of bytes)) kinds.Line
      string ← piece_at (skip_white (drop (length (word_of bytes)) bytes))
      Ok (begins keyword string))

-- no byte below U+0020 other than tab
abbrev pub is_comment_text : List ℕ → Bool
is_comment_text text = list_all (λ b. (b == 9) || not (nat_lt b 32)) text

abbrev pub comment_of : (List ℕ → Line) → List ℕ → Result Line FaultKind
comment_of form text = if is_comment_text text then Ok (form text) else Err kinds.Line

-- without one space at the front, if there is one
abbrev pub skip_space : List ℕ → List ℕ
skip_space [] = []
skip_space (b ∷ bytes) = if b == byte " " then bytes else b ∷ bytes

-- the items between commas, without white at their ends, none of them empty
abbrev pub items_of : List ℕ → List (List ℕ)
items_of text = map trim (slice_split (λ b. b == byte ",") text)

abbrev pub flags_of : List ℕ → Result Line FaultKind
flags_of text =
    if is_comment_text text && list_all (λ item. nat_lt 0 (length item)) (items_of text) then Ok (flags (items_of text)) else Err kinds.Line

-- a space and what stands behind it
abbrev pub spaced : (List ℕ → Result Line FaultKind) → List ℕ → Result Line FaultKind
spaced form [] = Err kinds.Line
spaced form (b ∷ bytes) = if b == 32 then form bytes else Err kinds.Line

-- The keyword decides first: a line of `msgstr` is of no form here.
abbrev pub begins_form : List ℕ → Bool
begins_form bytes = is_form (keyword_of (word_of bytes))

abbrev pub previous_at : Bool → List ℕ → Result Line FaultKind
previous_at obsolete bytes = if begins_form bytes then Err kinds.Line else part_at bytes >>= λ part. Ok (previous obsolete part)

abbrev pub message_at : Bool → List ℕ → Result Line FaultKind
message_at obsolete bytes = part_at bytes >>= λ part. Ok (message obsolete part)

-- behind `#~`
abbrev pub obsolete_at : List ℕ → Result Line FaultKind
obsolete_at [] = Err kinds.Line
obsolete_at (b ∷ bytes) =
    if b == 32 then message_at true bytes
    else if b == byte "|" then spaced (previous_at true) bytes
    else Err kinds.Line

-- behind `#`
abbrev pub comment_at : List ℕ → Result Line FaultKind
comment_at [] = Ok (translator [])
comment_at (b ∷ bytes) =
    if b == byte "." then comment_of extracted (skip_space bytes)
    else if b == byte ":" then comment_of reference (skip_space bytes)
    else if b == byte "," then flags_of bytes
    else if b == byte "|" then spaced (previous_at false) bytes
    else if b == byte "~" then obsolete_at bytes
    else if b == byte "=" then Err kinds.Line
    else comment_of translator (skip_space (b ∷ bytes))

-- what a line is, or the kind of its fault
unfoldable pub line_of : List ℕ → Result Line FaultKind
line_of bytes =
    if is_all_white bytes then Ok blank
    else if begins_with (byte "#") bytes then comment_at (drop 1 bytes)
    else message_at false bytes
