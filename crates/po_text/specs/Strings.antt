-- Which texts are strings of a catalogue, and which lists of strings are the forms of an entry: this project's own rule.
use Rattle.std.specs.Prelude.{ℕ, ◌&&◌, ◌||◌, List, length, Bool, nat_le}
use Rattle.std.specs.List.{list_all}
use Rattle.po_text.specs.Texts.{Text}

-- no character below U+0020 but U+0007 to U+000D
abbrev pub is_string_byte : ℕ → Bool
is_string_byte b = (nat_le 7 b && nat_le b 13) || nat_le 32 b

abbrev pub string_limit : ℕ
string_limit = 262144

-- a text of such characters within the limit
abbrev pub is_string : Text → Bool
is_string text = nat_le (length text) string_limit && list_all is_string_byte text

-- how many forms an entry may have
abbrev pub form_limit : ℕ
form_limit = 8

-- 1 to 8 strings
abbrev pub is_forms : List Text → Bool
is_forms forms = nat_le 1 (length forms) && nat_le (length forms) form_limit && list_all is_string forms
