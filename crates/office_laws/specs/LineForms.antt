-- The forms of lines, as the table of the format has them: a relation between a line and what it is. The GNU gettext manual, "The Format
-- of PO Files", for the marks of comments, the keywords and the pieces; that there are no other forms is this project's profile.
use Rattle.std.specs.Prelude.{◌≡◌, ◌<◌, ℕ, List, [], ◌∷◌, ◌++◌, Bool, true, false, ◌||◌, ◌==◌, nat_lt, Some, ⊤, length, codes}
use Rattle.std.specs.List.{list_all}
use Rattle.std.specs.Str.{byte}
use Rattle.po_lex.specs.declared.line.Keyword.{Keyword}
use Rattle.po_lex.specs.declared.line.Keyword.TheVariants.{Msgctxt, Msgid, MsgidPlural, Msgstr, MsgstrAt}
use Rattle.po_lex.specs.Reading.{is_white, is_all_white}
use Rattle.po_lex.specs.Escapes.{quote, backslash, meaning_of}
use Rattle.po_lex.specs.Lines.{Part, begins, continues, Line, blank, translator, extracted, reference, flags, previous, message, keyword_text, begins_with, is_comment_text, items_of}

-- What stands behind the first quote of a piece, and the string: characters and escapes, the last quote, and then nothing but white.
pub data IsString : List ℕ → List ℕ → Type 0 where
  closed : (white : List ℕ) → is_all_white white ≡ true → IsString (quote ∷ white) []
  plain : (c : ℕ) (bytes string : List ℕ) → (c == quote) ≡ false → (c == backslash) ≡ false → nat_lt c 32 ≡ false
      → IsString bytes string → IsString (c ∷ bytes) (c ∷ string)
  escape : (letter c : ℕ) (bytes string : List ℕ) → meaning_of letter ≡ Some c → IsString bytes string → IsString (backslash ∷ letter ∷ bytes) (c ∷ string)

-- `msgstr[D]` has one digit from 0 to 7
abbrev pub IsKeyword : Keyword → Type 0
IsKeyword Msgctxt = ⊤
IsKeyword Msgid = ⊤
IsKeyword MsgidPlural = ⊤
IsKeyword Msgstr = ⊤
IsKeyword (MsgstrAt d) = d < 8

-- a keyword, white and a piece; or a piece that goes on
pub data IsPart : List ℕ → Part → Type 0 where
  starts : (keyword : Keyword) (w : ℕ) (white bytes string : List ℕ) → IsKeyword keyword → is_white w ≡ true → is_all_white white ≡ true
      → IsString bytes string → IsPart (keyword_text keyword ++ (w ∷ (white ++ quote ∷ bytes))) (begins keyword string)
  goes_on : (bytes string : List ℕ) → IsString bytes string → IsPart (quote ∷ bytes) (continues string)

-- what a previous string may be: anything but a translation
abbrev pub is_translation : Part → Bool
is_translation (begins Msgctxt string) = false
is_translation (begins Msgid string) = false
is_translation (begins MsgidPlural string) = false
is_translation (begins Msgstr string) = true
is_translation (begins (MsgstrAt d) string) = true
is_translation (continues string) = false

-- what stands behind `#` in the marks of other comments
abbrev pub is_mark : ℕ → Bool
is_mark b = (b == byte " ") || (b == byte ".") || (b == byte ":") || (b == byte ",") || (b == byte "|") || (b == byte "~") || (b == byte "=")

pub data IsForm : List ℕ → Line → Type 0 where
  white : (bytes : List ℕ) → is_all_white bytes ≡ true → IsForm bytes blank
  alone : IsForm (codes "#") (translator [])
  spaced : (text : List ℕ) → is_comment_text text ≡ true → IsForm (codes "# " ++ text) (translator text)
  unspaced : (b : ℕ) (text : List ℕ) → is_mark b ≡ false → is_comment_text (b ∷ text) ≡ true → IsForm (codes "#" ++ b ∷ text) (translator (b ∷ text))
  extracted_spaced : (text : List ℕ) → is_comment_text text ≡ true → IsForm (codes "#. " ++ text) (extracted text)
  extracted_unspaced : (text : List ℕ) → begins_with 32 text ≡ false → is_comment_text text ≡ true → IsForm (codes "#." ++ text) (extracted text)
  reference_spaced : (text : List ℕ) → is_comment_text text ≡ true → IsForm (codes "#: " ++ text) (reference text)
  reference_unspaced : (text : List ℕ) → begins_with 32 text ≡ false → is_comment_text text ≡ true → IsForm (codes "#:" ++ text) (reference text)
  -- items between commas, none of them empty once the white at its ends is gone
  flag_items : (text : List ℕ) → is_comment_text text ≡ true → list_all (λ item. nat_lt 0 (length item)) (items_of text) ≡ true
      → IsForm (codes "#," ++ text) (flags (items_of text))
  previous_part : (bytes : List ℕ) (part : Part) → is_translation part ≡ false → IsPart bytes part → IsForm (codes "#| " ++ bytes) (previous false part)
  obsolete_part : (bytes : List ℕ) (part : Part) → IsPart bytes part → IsForm (codes "#~ " ++ bytes) (message true part)
  obsolete_previous : (bytes : List ℕ) (part : Part) → is_translation part ≡ false → IsPart bytes part → IsForm (codes "#~| " ++ bytes) (previous true part)
  message_part : (bytes : List ℕ) (part : Part) → IsPart bytes part → IsForm bytes (message false part)
