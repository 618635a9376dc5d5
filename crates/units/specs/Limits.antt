-- Which texts are a name or a language, which numbers a revision or a threshold, and how large the parts of an office may
-- be: this project's own rules.
use Rattle.std.specs.Prelude.{ℕ, ◌==◌, ◌&&◌, ◌||◌, List, [], ◌∷◌, length, codes, Bool, false, nat_le}
use Rattle.std.specs.List.{list_all}
use Rattle.po_lex.specs.Lines.{is_comment_text}
use Rattle.po_text.specs.Texts.{Text}

abbrev pub is_small_letter : ℕ → Bool
is_small_letter b = nat_le 97 b && nat_le b 122

abbrev pub is_letter : ℕ → Bool
is_letter b = is_small_letter b || (nat_le 65 b && nat_le b 90)

abbrev pub is_digit : ℕ → Bool
is_digit b = nat_le 48 b && nat_le b 57

-- a small letter, a digit, `.`, `-` or `_`
abbrev pub is_name_byte : ℕ → Bool
is_name_byte b = is_small_letter b || is_digit b || (b == 46) || (b == 45) || (b == 95)

abbrev pub starts : (ℕ → Bool) → Text → Bool
starts p [] = false
starts p (b ∷ bs) = p b

abbrev pub name_limit : ℕ
name_limit = 32

-- 1 to so many of these, the first a letter
abbrev pub is_name : Text → Bool
is_name s = starts is_small_letter s && nat_le (length s) name_limit && list_all is_name_byte s

-- the name of the domain that is always there, and that a request is in if it names none
abbrev pub main : Text
main = codes "main"

-- a letter, a digit, `_`, `-` or `@`
abbrev pub is_lang_byte : ℕ → Bool
is_lang_byte b = is_letter b || is_digit b || (b == 95) || (b == 45) || (b == 64)

abbrev pub lang_limit : ℕ
lang_limit = 16

-- 2 to so many of these, the first a letter
abbrev pub is_lang : Text → Bool
is_lang s = starts is_letter s && nat_le 2 (length s) && nat_le (length s) lang_limit && list_all is_lang_byte s

abbrev pub revision_limit : ℕ
revision_limit = 9000000000000000

abbrev pub is_revision : ℕ → Bool
is_revision n = nat_le 1 n && nat_le n revision_limit

abbrev pub accept_at_limit : ℕ
accept_at_limit = 100

-- 0 where no suggestion is accepted by votes
abbrev pub is_accept_at : ℕ → Bool
is_accept_at n = (n == 0) || (nat_le 2 n && nat_le n accept_at_limit)

-- the lines of a comment that an act gives: how many at most, and how many bytes each
abbrev pub comment_limit : ℕ
comment_limit = 20

abbrev pub comment_line_limit : ℕ
comment_line_limit = 1000

-- no line end, and no control character but the tab
abbrev pub is_comment_line : Text → Bool
is_comment_line line = nat_le (length line) comment_line_limit && is_comment_text line

abbrev pub is_comment_lines : List Text → Bool
is_comment_lines lines = nat_le (length lines) comment_limit && list_all is_comment_line lines

-- how many domains an office has at most, languages a domain, names the team, units (obsolete ones included) a language
abbrev pub domain_limit : ℕ
domain_limit = 8

abbrev pub language_limit : ℕ
language_limit = 256

abbrev pub team_limit : ℕ
team_limit = 1000

abbrev pub unit_limit : ℕ
unit_limit = 150000

-- how many suggestions a unit has at most, and votes a suggestion
abbrev pub suggestion_limit : ℕ
suggestion_limit = 100

abbrev pub vote_limit : ℕ
vote_limit = 10000

-- how many bytes an export has at most
abbrev pub export_limit : ℕ
export_limit = 9000000000000000
