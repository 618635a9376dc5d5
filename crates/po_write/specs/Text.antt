-- The canonical text of a catalogue: the order of an entry's parts, marks, keywords and escapes are those of the GNU
-- gettext manual, "The Format of PO Files". That no line is wrapped at a width, and where a string is cut into pieces,
-- is this project's own rule.
use Rattle.std.specs.Prelude.{ℕ, List, [], ◌∷◌, ◌++◌, Bool, true, false, ◌==◌, nat_lt, length, if◌then◌else◌, codes, flat_map}
use Rattle.po_lex.specs.declared.line.Keyword.{Keyword}
use Rattle.po_lex.specs.Escapes.{quoted}
use Rattle.po_lex.specs.Lines.{keyword_text, with_byte}
use Rattle.po_text.specs.Entries.{Keyed, entry_strings, previous_strings}
use Rattle.po_text.specs.Texts.{Text}
use Rattle.po_text.specs.declared.entry.Entry.{Entry}

-- a line, ended by LF
abbrev pub ended : List ℕ → List ℕ
ended line = line ++ 10 ∷ []

-- a text behind one space, if it isn't empty
abbrev pub spaced : Text → List ℕ
spaced [] = []
spaced (b ∷ text) = 32 ∷ b ∷ text

-- a comment is its mark and, if it isn't empty, one space and its text
abbrev pub comment : List ℕ → Text → List ℕ
comment mark text = ended (mark ++ spaced text)

-- all flags in one line, joined by a comma and a space
abbrev pub further : Text → List ℕ
further flag = codes ", " ++ flag

abbrev pub flags_line : List Text → List ℕ
flags_line [] = []
flags_line (flag ∷ flags) = ended (codes "#, " ++ (flag ++ flat_map further flags))

-- the pieces up to and with each LF, and a rest if there is one
abbrev pub pieces_of : Text → List Text
pieces_of [] = []
pieces_of (b ∷ text) = if b == 10 then (b ∷ []) ∷ pieces_of text else with_byte b (pieces_of text)

abbrev pub piece_lines : List ℕ → List Text → List ℕ
piece_lines mark pieces = flat_map (λ piece. ended (mark ++ quoted piece)) pieces

-- what stands before the first piece of a string
abbrev pub front_of : List ℕ → Keyword → List ℕ
front_of mark keyword = mark ++ (keyword_text keyword ++ codes " ")

-- One piece, or an empty one and then each piece on a line of its own.
abbrev pub string_pieces : List ℕ → Text → List ℕ
string_pieces mark text =
    if nat_lt 1 (length (pieces_of text)) then ended (quoted []) ++ piece_lines mark (pieces_of text)
    else ended (quoted text)

-- a string behind its keyword
unfoldable pub string_lines : List ℕ → Keyed → List ℕ
string_lines mark string = front_of mark string.0 ++ string_pieces mark string.1

abbrev pub message_mark : Bool → List ℕ
message_mark true = codes "#~ "
message_mark false = []

abbrev pub previous_mark : Bool → List ℕ
previous_mark true = codes "#~| "
previous_mark false = codes "#| "

unfoldable pub entry_text : Entry → List ℕ
entry_text e =
    flat_map (comment (codes "#")) e.translator
    ++ (flat_map (comment (codes "#.")) e.extracted
    ++ (flat_map (comment (codes "#:")) e.references
    ++ (flags_line e.flags
    ++ (flat_map (string_lines (previous_mark e.obsolete)) (previous_strings e.previous)
    ++ flat_map (string_lines (message_mark e.obsolete)) (entry_strings e)))))

-- one blank line between two entries
unfoldable pub text_of : List Entry → List ℕ
text_of [] = []
text_of (e ∷ []) = entry_text e
text_of (e ∷ f ∷ es) = entry_text e ++ (10 ∷ text_of (f ∷ es))

-- an entry's text, behind a blank line where an entry came before it
abbrev pub separated : Bool → List ℕ → List ℕ
separated begun text = if begun then 10 ∷ text else text
