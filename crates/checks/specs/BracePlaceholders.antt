-- The placeholders of a `python-brace-format` text.
-- The flag `python-brace-format` is that of the GNU gettext manual, "The Format of PO Files". Which texts count as placeholders
-- is this project's own rule, given here: `{`, a name or a number, and `}`. At `{{` and at `}}` both are skipped, and any other
-- character is skipped alone.
use Rattle.std.specs.Prelude.{ℕ, zero, suc, ◌-◌, List, [], ◌∷◌, ◌++◌, length, take, drop, Bool, false, ◌&&◌, ◌||◌, ◌==◌, if◌then◌else◌, Option, Some, None, option_to_list, option_map, unwrap_or, codes}
use Rattle.std.specs.Char.{is_ascii_digit, is_ascii_alphabetic, is_ascii_alphanumeric}
use Rattle.std.specs.List.{list_all, prefix_len}
use Rattle.std.specs.Int.{is_in_range}
use Rattle.po_text.specs.Texts.{Text, is_empty}
use Rattle.checks.specs.Directives.{begins_with}

-- ---- names and numbers

-- a letter or `_`
abbrev pub begins_name : ℕ → Bool
begins_name b = is_ascii_alphabetic b || (b == 95)

-- a letter, a digit or `_`
abbrev pub is_name_byte : ℕ → Bool
is_name_byte b = is_ascii_alphanumeric b || (b == 95)

abbrev pub is_name : Text → Bool
is_name [] = false
is_name (b ∷ text) = begins_name b && list_all is_name_byte text

-- `0`, or digits not beginning with 0
abbrev pub is_number : Text → Bool
is_number [] = false
is_number (b ∷ text) = ((b == 48) && is_empty text) || (is_in_range 49 57 b && list_all is_ascii_digit text)

-- ---- one placeholder

-- what stands after a `}`
abbrev pub after_close : Text → Option Text
after_close [] = None
after_close (b ∷ text) = if b == 125 then Some text else None

-- what stands after a placeholder whose `{` stands just before the text: names and numbers are made of letters, digits and `_`,
-- so all of these at the front have to be one
abbrev pub after_open : Text → Option Text
after_open text =
    let n = prefix_len is_name_byte text in
    if is_name (take n text) || is_number (take n text) then after_close (drop n text) else None

-- what stands after a placeholder at the front
abbrev pub after_brace : Text → Option Text
after_brace [] = None
after_brace (b ∷ text) = if b == 123 then after_open text else None

-- how long the placeholder at the front is
abbrev pub brace_len : Text → Option ℕ
brace_len text = option_map (λ rest. length text - length rest) (after_brace text)

-- ---- whole texts

-- `{{` or `}}`, which is no placeholder
abbrev pub begins_doubled : Text → Bool
begins_doubled text = begins_with text (codes "{{") || begins_with text (codes "}}")

-- how many bytes are taken at the front: a doubled brace, else a placeholder, else one byte
abbrev pub brace_taken_at : Text → ℕ
brace_taken_at text = if begins_doubled text then 2 else unwrap_or (brace_len text) 1

-- the placeholder that is taken at the front
abbrev pub brace_at : Text → Option Text
brace_at text = if begins_doubled text then None else option_map (λ n. take n text) (brace_len text)

-- the placeholders of what stands after `skipped` bytes
unfoldable pub braces_after : ℕ → Text → List Text
braces_after skipped [] = []
braces_after (suc skipped) (b ∷ text) = braces_after skipped text
braces_after zero (b ∷ text) = option_to_list (brace_at (b ∷ text)) ++ braces_after (brace_taken_at (b ∷ text) - 1) text

-- left to right
abbrev pub brace_placeholders : Text → List Text
brace_placeholders text = braces_after 0 text
