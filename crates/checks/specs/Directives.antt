-- The directives of a `c-format` text: the parts that `printf` would replace.
-- The flag `c-format` is that of the GNU gettext manual, "The Format of PO Files". The parts of a directive are those of `printf`
-- in ISO C, with the number and `$` of POSIX; which texts count as directives is this project's own rule, given here: `%`, then
-- perhaps a number not beginning with 0 and `$`, any flags, perhaps a width, perhaps `.` and a precision, perhaps a length, and a
-- conversion. Each part takes as much as it can. At `%%` both are skipped, and a `%` that begins no directive is skipped alone.
use Rattle.std.specs.Prelude.{ℕ, zero, suc, ◌-◌, List, [], ◌∷◌, ◌++◌, length, take, drop, Bool, ◌&&◌, ◌||◌, ◌==◌, if◌then◌else◌, nat_eq, Option, Some, None, option_to_list, option_map, unwrap_or, codes}
use Rattle.std.specs.Char.{is_ascii_digit}
use Rattle.std.specs.List.{starts_with, list_any, prefix_len}
use Rattle.std.specs.Int.{is_in_range}
use Rattle.po_text.specs.Texts.{Text}
use Rattle.units.specs.Limits.{starts}

abbrev pub begins_with : Text → Text → Bool
begins_with text part = starts_with nat_eq text part

abbrev pub is_one_of : Text → ℕ → Bool
is_one_of choices b = list_any (λ c. c == b) choices

-- what stands after the bytes at the front that pass the test
abbrev pub after_all : (ℕ → Bool) → Text → Text
after_all test text = drop (prefix_len test text) text

-- what stands after a part that may be there
abbrev pub after_part : Text → Text → Text
after_part part text = if begins_with text part then drop (length part) text else text

-- ---- the parts of a directive, each of which takes as much as it can

-- a number not beginning with 0, and `$`
abbrev pub has_number : Text → Bool
has_number text = starts (is_in_range 49 57) text && begins_with (after_all is_ascii_digit text) (codes "$")

abbrev pub after_number : Text → Text
after_number text = if has_number text then after_part (codes "$") (after_all is_ascii_digit text) else text

abbrev pub is_flag : ℕ → Bool
is_flag b = is_one_of (codes "-+ #0") b

abbrev pub after_flags : Text → Text
after_flags text = after_all is_flag text

-- `*`, or digits, or nothing
abbrev pub after_width : Text → Text
after_width text = if begins_with text (codes "*") then drop 1 text else after_all is_ascii_digit text

-- `.` and `*`, digits or nothing
abbrev pub after_precision : Text → Text
after_precision text = if begins_with text (codes ".") then after_width (drop 1 text) else text

-- one of `hh h ll l L j z t`, the longest that fits
abbrev pub after_length : Text → Text
after_length text =
    if begins_with text (codes "hh") || begins_with text (codes "ll") then drop 2 text
    else if starts (is_one_of (codes "hlLjzt")) text then drop 1 text
    else text

abbrev pub is_conversion : ℕ → Bool
is_conversion b = is_one_of (codes "diouxXcspfFeEgGaA") b

-- what stands after a conversion, where there is one
abbrev pub after_conversion : Text → Option Text
after_conversion [] = None
after_conversion (b ∷ text) = if is_conversion b then Some text else None

-- ---- whole texts

-- what stands after a directive whose `%` stands just before the text
abbrev pub after_percent : Text → Option Text
after_percent text = after_conversion (after_length (after_precision (after_width (after_flags (after_number text)))))

-- what stands after a directive at the front
abbrev pub after_directive : Text → Option Text
after_directive [] = None
after_directive (b ∷ text) = if b == 37 then after_percent text else None

-- how long the directive at the front is
abbrev pub directive_len : Text → Option ℕ
directive_len text = option_map (λ rest. length text - length rest) (after_directive text)

-- how many bytes are taken at the front: `%%`, which is no directive, else a directive, else one byte
abbrev pub taken_at : Text → ℕ
taken_at text = if begins_with text (codes "%%") then 2 else unwrap_or (directive_len text) 1

-- the directive that is taken at the front
abbrev pub directive_at : Text → Option Text
directive_at text = if begins_with text (codes "%%") then None else option_map (λ n. take n text) (directive_len text)

-- the directives of what stands after `skipped` bytes
unfoldable pub directives_after : ℕ → Text → List Text
directives_after skipped [] = []
directives_after (suc skipped) (b ∷ text) = directives_after skipped text
directives_after zero (b ∷ text) = option_to_list (directive_at (b ∷ text)) ++ directives_after (taken_at (b ∷ text) - 1) text

-- left to right
abbrev pub directives : Text → List Text
directives text = directives_after 0 text

-- whether a directive has a number
abbrev pub is_numbered : Text → Bool
is_numbered directive = has_number (drop 1 directive)
