-- The strings that quoted pieces stand for. The GNU gettext manual, "The Format of PO Files", gives strings the syntax of C, escapes included; of these,
-- this project's profile takes the nine that are listed here.
use Rattle.std.specs.Prelude.{ℕ, List, [], ◌∷◌, ◌++◌, Bool, not, ◌||◌, ◌==◌, nat_lt, Option, Some, None, option_map, unwrap_or, is_some, Result, Ok, Err, if◌then◌else◌, flat_map}
use Rattle.std.specs.List.{find}
use Rattle.po_lex.specs.declared.fault.FaultKind.{FaultKind}
use Rattle.po_lex.specs.declared.fault.FaultKind.TheVariants.{Quote, Escape}
use Rattle.po_lex.specs.Reading.{◌>>=◌, is_all_white}

abbrev pub quote : ℕ
quote = 34

abbrev pub backslash : ℕ
backslash = 92

-- each character that is escaped, and the letter that stands for it behind a backslash: \n \t \r \a \b \f \v \" \\
abbrev pub escapes : List (ℕ × ℕ)
escapes = (10, 110) ∷ (9, 116) ∷ (13, 114) ∷ (7, 97) ∷ (8, 98) ∷ (12, 102) ∷ (11, 118) ∷ (34, 34) ∷ (92, 92) ∷ []

-- the letter of a character
abbrev pub letter_of : ℕ → Option ℕ
letter_of c = option_map (λ e. e.1) (find (λ e. e.0 == c) escapes)

-- the character of a letter
abbrev pub meaning_of : ℕ → Option ℕ
meaning_of letter = option_map (λ e. e.0) (find (λ e. e.1 == letter) escapes)

abbrev pub escaped_byte : Option ℕ → ℕ → List ℕ
escaped_byte None c = c ∷ []
escaped_byte (Some letter) c = backslash ∷ letter ∷ []

-- a byte that doesn't stand as it is between quotes: a control character, a quote or a backslash
abbrev pub is_stop : ℕ → Bool
is_stop c = nat_lt c 32 || ((c == quote) || (c == backslash))

abbrev pub is_bare : ℕ → Bool
is_bare c = not (is_stop c)

-- a string as it is written between quotes
abbrev pub escaped : List ℕ → List ℕ
escaped string = flat_map (λ c. escaped_byte (letter_of c) c) string

abbrev pub quoted : List ℕ → List ℕ
quoted string = quote ∷ (escaped string ++ quote ∷ [])

abbrev pub with_front : List ℕ → Result (List ℕ) FaultKind → Result (List ℕ) FaultKind
with_front front found = found >>= λ raw. Ok (front ++ raw)

-- What stands between the quotes of a piece, read behind its first quote; behind its last quote all is white.
-- Else the first of these from the left: a byte below U+0020 or no last quote or something behind it (Quote),
-- and a backslash without one of the nine letters (Escape).
unfoldable mutual
  pub raw_at : List ℕ → Result (List ℕ) FaultKind
  raw_at [] = Err Quote
  raw_at (c ∷ bytes) =
      if c == quote then (if is_all_white bytes then Ok [] else Err Quote)
      else if c == backslash then with_front (c ∷ []) (letter_at bytes)
      else if nat_lt c 32 then Err Quote
      else with_front (c ∷ []) (raw_at bytes)

  -- behind a backslash
  pub letter_at : List ℕ → Result (List ℕ) FaultKind
  letter_at [] = Err Escape
  letter_at (letter ∷ bytes) = if is_some (meaning_of letter) then with_front (letter ∷ []) (raw_at bytes) else Err Escape

-- the string that a piece stands for, of what stands between its quotes
unfoldable mutual
  pub unescaped : List ℕ → List ℕ
  unescaped [] = []
  unescaped (c ∷ raw) = if c == backslash then unescaped_behind raw else c ∷ unescaped raw

  -- behind a backslash
  pub unescaped_behind : List ℕ → List ℕ
  unescaped_behind [] = []
  unescaped_behind (letter ∷ raw) = unwrap_or (meaning_of letter) letter ∷ unescaped raw

abbrev pub string_at : List ℕ → Result (List ℕ) FaultKind
string_at bytes = raw_at bytes >>= λ raw. Ok (unescaped raw)
