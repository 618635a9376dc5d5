-- Rows of reading that are known, computed by the definitions.
use Rattle.std.proofs.Common.{◌≡◌, ℕ, List, [], ◌∷◌, ◌++◌, refl, Some, None}
use Rattle.std.specs.Prelude.{codes, flat_map}
use Rattle.std.specs.Str.{is_utf8, chars}
use Rattle.po_lex.specs.declared.fault.FaultKind.TheVariants as kinds
use Rattle.po_lex.specs.Escapes.{raw_at, letter_at, unescaped, unescaped_behind}
use Rattle.po_lex.specs.Lines.{line_of, lines_of, part_at}
use Rattle.po_text.specs.Header.{field_value, has_charset}
use Rattle.po_read.specs.Spells.{Limits, limits}
use Rattle.po_read.specs.Faults.{fault_of, fault_from, fault_at, fault_at_end}

abbrev ended : List ℕ → List ℕ
ended line = line ++ 10 ∷ []

abbrev joined_lines : List (List ℕ) → List ℕ
joined_lines ls = flat_map ended ls

abbrev small : Limits
small = record { bytes = 1000; entries = 2; string = 8 }

empty_text : fault_of limits ([]) ≡ None
unfolding fault_of fault_from fault_at fault_at_end is_utf8 chars lines_of line_of part_at raw_at letter_at unescaped unescaped_behind field_value has_charset lib.Utf8.encode
empty_text = refl

two_contexts : fault_of limits (joined_lines (codes "msgid \"x\"" ∷ codes "msgstr \"\"" ∷ [] ∷ codes "msgctxt \"\"" ∷ codes "msgid \"x\"" ∷ codes "msgstr \"\"" ∷ [])) ≡ None
unfolding fault_of fault_from fault_at fault_at_end is_utf8 chars lines_of line_of part_at raw_at letter_at unescaped unescaped_behind field_value has_charset lib.Utf8.encode
two_contexts = refl

one_key_twice : fault_of limits (joined_lines (codes "msgid \"x\"" ∷ codes "msgstr \"\"" ∷ [] ∷ codes "msgid \"x\"" ∷ codes "msgstr \"\"" ∷ [])) ≡ Some (5, kinds.Duplicate)
unfolding fault_of fault_from fault_at fault_at_end is_utf8 chars lines_of line_of part_at raw_at letter_at unescaped unescaped_behind field_value has_charset lib.Utf8.encode
one_key_twice = refl

two_pieces : fault_of limits (joined_lines (codes "msgid \"x\"" ∷ codes "msgstr \"Hello\\nWorld\\n\"" ∷ [])) ≡ None
unfolding fault_of fault_from fault_at fault_at_end is_utf8 chars lines_of line_of part_at raw_at letter_at unescaped unescaped_behind field_value has_charset lib.Utf8.encode
two_pieces = refl

one_piece : fault_of limits (joined_lines (codes "msgid \"x\"" ∷ codes "msgstr \"Hello\\n\"" ∷ [])) ≡ None
unfolding fault_of fault_from fault_at fault_at_end is_utf8 chars lines_of line_of part_at raw_at letter_at unescaped unescaped_behind field_value has_charset lib.Utf8.encode
one_piece = refl

form_left_out : fault_of limits (joined_lines (codes "msgid \"a\"" ∷ codes "msgid_plural \"b\"" ∷ codes "msgstr[0] \"\"" ∷ codes "msgstr[2] \"\"" ∷ [])) ≡ Some (4, kinds.Forms)
unfolding fault_of fault_from fault_at fault_at_end is_utf8 chars lines_of line_of part_at raw_at letter_at unescaped unescaped_behind field_value has_charset lib.Utf8.encode
form_left_out = refl

other_escape : fault_of limits (joined_lines (codes "msgid \"x\"" ∷ codes "msgstr \"\\x41\"" ∷ [])) ≡ Some (2, kinds.Escape)
unfolding fault_of fault_from fault_at fault_at_end is_utf8 chars lines_of line_of part_at raw_at letter_at unescaped unescaped_behind field_value has_charset lib.Utf8.encode
other_escape = refl

cut_in_string : fault_of limits ((joined_lines (codes "msgid \"x\"" ∷ [])) ++ codes "msgstr \"abc") ≡ Some (2, kinds.Quote)
unfolding fault_of fault_from fault_at fault_at_end is_utf8 chars lines_of line_of part_at raw_at letter_at unescaped unescaped_behind field_value has_charset lib.Utf8.encode
cut_in_string = refl

id_alone : fault_of limits (joined_lines (codes "msgid \"x\"" ∷ [])) ≡ Some (2, kinds.Order)
unfolding fault_of fault_from fault_at fault_at_end is_utf8 chars lines_of line_of part_at raw_at letter_at unescaped unescaped_behind field_value has_charset lib.Utf8.encode
id_alone = refl

in_order : fault_of limits (joined_lines (codes "#, c-format, fuzzy" ∷ codes "#: a.c:1" ∷ codes "# note" ∷ codes "msgid \"a\"" ∷ codes "\"b\"" ∷ codes "msgstr \"\"" ∷ codes "\"c\"" ∷ [])) ≡ None
unfolding fault_of fault_from fault_at fault_at_end is_utf8 chars lines_of line_of part_at raw_at letter_at unescaped unescaped_behind field_value has_charset lib.Utf8.encode
in_order = refl

other_charset : fault_of limits (joined_lines (codes "msgid \"\"" ∷ codes "msgstr \"Content-Type: text/plain; charset=ISO-8859-1\\n\"" ∷ [])) ≡ Some (3, kinds.Charset)
unfolding fault_of fault_from fault_at fault_at_end is_utf8 chars lines_of line_of part_at raw_at letter_at unescaped unescaped_behind field_value has_charset lib.Utf8.encode
other_charset = refl

long_vector : fault_of limits (joined_lines (codes "msgid \"\"" ∷ codes "msgstr \"\"" ∷ codes "\"Content-Type: text/plain; charset=UTF-8\\n\"" ∷ codes "\"Plural-Forms: nplurals=2; plural=n != 1;\\n\"" ∷ [] ∷ codes "msgid \"Hello\"" ∷ codes "msgstr \"Hallo\"" ∷ [])) ≡ None
unfolding fault_of fault_from fault_at fault_at_end is_utf8 chars lines_of line_of part_at raw_at letter_at unescaped unescaped_behind field_value has_charset lib.Utf8.encode
long_vector = refl

changed_plural : fault_of limits (joined_lines (codes "#, fuzzy" ∷ codes "#| msgid \"%d file\"" ∷ codes "#| msgid_plural \"%d files\"" ∷ codes "msgid \"%d file\"" ∷ codes "msgid_plural \"%d pieces\"" ∷ codes "msgstr[0] \"%d Datei\"" ∷ codes "msgstr[1] \"%d Dateien\"" ∷ [])) ≡ None
unfolding fault_of fault_from fault_at fault_at_end is_utf8 chars lines_of line_of part_at raw_at letter_at unescaped unescaped_behind field_value has_charset lib.Utf8.encode
changed_plural = refl

french : fault_of limits (joined_lines (codes "msgid \"\"" ∷ codes "msgstr \"Plural-Forms: nplurals=2; plural=n>1;\\n\"" ∷ [] ∷ codes "msgid \"Hello\"" ∷ codes "msgstr \"Bonjour\"" ∷ [] ∷ codes "#~ msgid \"Old\"" ∷ codes "#~ msgstr \"Vieux\"" ∷ [])) ≡ None
unfolding fault_of fault_from fault_at fault_at_end is_utf8 chars lines_of line_of part_at raw_at letter_at unescaped unescaped_behind field_value has_charset lib.Utf8.encode
french = refl

second_header : fault_of limits (joined_lines (codes "msgid \"\"" ∷ codes "msgstr \"\"" ∷ [] ∷ codes "msgid \"\"" ∷ codes "msgstr \"\"" ∷ [])) ≡ Some (5, kinds.Order)
unfolding fault_of fault_from fault_at fault_at_end is_utf8 chars lines_of line_of part_at raw_at letter_at unescaped unescaped_behind field_value has_charset lib.Utf8.encode
second_header = refl

obsolete_header : fault_of limits (joined_lines (codes "#~ msgid \"\"" ∷ codes "#~ msgstr \"\"" ∷ [])) ≡ Some (2, kinds.Order)
unfolding fault_of fault_from fault_at fault_at_end is_utf8 chars lines_of line_of part_at raw_at letter_at unescaped unescaped_behind field_value has_charset lib.Utf8.encode
obsolete_header = refl

later_header : fault_of limits (joined_lines (codes "msgid \"x\"" ∷ codes "msgstr \"\"" ∷ codes "msgid \"\"" ∷ codes "msgstr \"\"" ∷ [])) ≡ Some (4, kinds.Order)
unfolding fault_of fault_from fault_at fault_at_end is_utf8 chars lines_of line_of part_at raw_at letter_at unescaped unescaped_behind field_value has_charset lib.Utf8.encode
later_header = refl

header_with_plural : fault_of limits (joined_lines (codes "msgid \"\"" ∷ codes "msgid_plural \"x\"" ∷ codes "msgstr[0] \"\"" ∷ [])) ≡ Some (2, kinds.Order)
unfolding fault_of fault_from fault_at fault_at_end is_utf8 chars lines_of line_of part_at raw_at letter_at unescaped unescaped_behind field_value has_charset lib.Utf8.encode
header_with_plural = refl

header_numbered : fault_of limits (joined_lines (codes "msgid \"\"" ∷ codes "msgstr[0] \"\"" ∷ [])) ≡ Some (2, kinds.Forms)
unfolding fault_of fault_from fault_at fault_at_end is_utf8 chars lines_of line_of part_at raw_at letter_at unescaped unescaped_behind field_value has_charset lib.Utf8.encode
header_numbered = refl

header_twice_string : fault_of limits (joined_lines (codes "msgid \"\"" ∷ codes "msgstr \"Content-Type: charset=x\\n\"" ∷ codes "msgstr \"\"" ∷ [])) ≡ Some (3, kinds.Order)
unfolding fault_of fault_from fault_at fault_at_end is_utf8 chars lines_of line_of part_at raw_at letter_at unescaped unescaped_behind field_value has_charset lib.Utf8.encode
header_twice_string = refl

header_lower : fault_of limits (joined_lines (codes "msgid \"\"" ∷ codes "msgstr \"Content-Type: text/plain; charset= utf-8 ;x\\n\"" ∷ [])) ≡ None
unfolding fault_of fault_from fault_at fault_at_end is_utf8 chars lines_of line_of part_at raw_at letter_at unescaped unescaped_behind field_value has_charset lib.Utf8.encode
header_lower = refl

header_charset : fault_of limits (joined_lines (codes "msgid \"\"" ∷ codes "msgstr \"Content-Type: charset=charset\\n\"" ∷ [])) ≡ Some (3, kinds.Charset)
unfolding fault_of fault_from fault_at fault_at_end is_utf8 chars lines_of line_of part_at raw_at letter_at unescaped unescaped_behind field_value has_charset lib.Utf8.encode
header_charset = refl

header_first_counts : fault_of limits (joined_lines (codes "msgid \"\"" ∷ codes "msgstr \"\"" ∷ codes "\"Content-Type: charset=UTF-8\\n\"" ∷ codes "\"Content-Type: charset=x\\n\"" ∷ [])) ≡ None
unfolding fault_of fault_from fault_at fault_at_end is_utf8 chars lines_of line_of part_at raw_at letter_at unescaped unescaped_behind field_value has_charset lib.Utf8.encode
header_first_counts = refl

header_no_colon : fault_of limits (joined_lines (codes "msgid \"\"" ∷ codes "msgstr \"no field here\"" ∷ [])) ≡ None
unfolding fault_of fault_from fault_at fault_at_end is_utf8 chars lines_of line_of part_at raw_at letter_at unescaped unescaped_behind field_value has_charset lib.Utf8.encode
header_no_colon = refl

comments_alone : fault_of limits (joined_lines (codes "# c" ∷ [])) ≡ Some (2, kinds.Order)
unfolding fault_of fault_from fault_at fault_at_end is_utf8 chars lines_of line_of part_at raw_at letter_at unescaped unescaped_behind field_value has_charset lib.Utf8.encode
comments_alone = refl

comments_at_end : fault_of limits (joined_lines (codes "msgid \"x\"" ∷ codes "msgstr \"\"" ∷ codes "# c" ∷ [])) ≡ Some (4, kinds.Order)
unfolding fault_of fault_from fault_at fault_at_end is_utf8 chars lines_of line_of part_at raw_at letter_at unescaped unescaped_behind field_value has_charset lib.Utf8.encode
comments_at_end = refl

comment_inside : fault_of limits (joined_lines (codes "msgid \"x\"" ∷ codes "# c" ∷ codes "msgstr \"\"" ∷ [])) ≡ Some (2, kinds.Order)
unfolding fault_of fault_from fault_at fault_at_end is_utf8 chars lines_of line_of part_at raw_at letter_at unescaped unescaped_behind field_value has_charset lib.Utf8.encode
comment_inside = refl

duplicate_before_order : fault_of limits (joined_lines (codes "msgid \"x\"" ∷ codes "msgstr \"\"" ∷ codes "msgid \"x\"" ∷ codes "# c" ∷ [])) ≡ Some (4, kinds.Duplicate)
unfolding fault_of fault_from fault_at fault_at_end is_utf8 chars lines_of line_of part_at raw_at letter_at unescaped unescaped_behind field_value has_charset lib.Utf8.encode
duplicate_before_order = refl

duplicate_obsolete : fault_of limits (joined_lines (codes "msgid \"x\"" ∷ codes "msgstr \"\"" ∷ codes "#~ msgid \"x\"" ∷ codes "#~ msgstr \"\"" ∷ [])) ≡ Some (4, kinds.Duplicate)
unfolding fault_of fault_from fault_at fault_at_end is_utf8 chars lines_of line_of part_at raw_at letter_at unescaped unescaped_behind field_value has_charset lib.Utf8.encode
duplicate_obsolete = refl

duplicate_at_end : fault_of limits (joined_lines (codes "msgid \"x\"" ∷ codes "msgstr \"\"" ∷ codes "msgid \"x\"" ∷ [])) ≡ Some (4, kinds.Duplicate)
unfolding fault_of fault_from fault_at fault_at_end is_utf8 chars lines_of line_of part_at raw_at letter_at unescaped unescaped_behind field_value has_charset lib.Utf8.encode
duplicate_at_end = refl

not_yet_duplicate : fault_of limits (joined_lines (codes "msgid \"x\"" ∷ codes "msgstr \"\"" ∷ codes "msgid \"x\"" ∷ [] ∷ codes "\"y\"" ∷ codes "msgstr \"\"" ∷ [])) ≡ None
unfolding fault_of fault_from fault_at fault_at_end is_utf8 chars lines_of line_of part_at raw_at letter_at unescaped unescaped_behind field_value has_charset lib.Utf8.encode
not_yet_duplicate = refl

second_plain : fault_of limits (joined_lines (codes "msgid \"x\"" ∷ codes "msgstr \"\"" ∷ codes "msgstr \"\"" ∷ [])) ≡ Some (3, kinds.Order)
unfolding fault_of fault_from fault_at fault_at_end is_utf8 chars lines_of line_of part_at raw_at letter_at unescaped unescaped_behind field_value has_charset lib.Utf8.encode
second_plain = refl

numbered_after_plain : fault_of limits (joined_lines (codes "msgid \"x\"" ∷ codes "msgstr \"\"" ∷ codes "msgstr[0] \"\"" ∷ [])) ≡ Some (3, kinds.Forms)
unfolding fault_of fault_from fault_at fault_at_end is_utf8 chars lines_of line_of part_at raw_at letter_at unescaped unescaped_behind field_value has_charset lib.Utf8.encode
numbered_after_plain = refl

plain_after_numbered : fault_of limits (joined_lines (codes "msgid \"x\"" ∷ codes "msgid_plural \"y\"" ∷ codes "msgstr[0] \"\"" ∷ codes "msgstr \"\"" ∷ [])) ≡ Some (4, kinds.Forms)
unfolding fault_of fault_from fault_at fault_at_end is_utf8 chars lines_of line_of part_at raw_at letter_at unescaped unescaped_behind field_value has_charset lib.Utf8.encode
plain_after_numbered = refl

numbered_other_mark : fault_of limits (joined_lines (codes "msgid \"x\"" ∷ codes "msgstr \"\"" ∷ codes "#~ msgstr[0] \"\"" ∷ [])) ≡ Some (3, kinds.Order)
unfolding fault_of fault_from fault_at fault_at_end is_utf8 chars lines_of line_of part_at raw_at letter_at unescaped unescaped_behind field_value has_charset lib.Utf8.encode
numbered_other_mark = refl

plain_with_plural : fault_of limits (joined_lines (codes "msgid \"x\"" ∷ codes "msgid_plural \"y\"" ∷ codes "msgstr \"\"" ∷ [])) ≡ Some (3, kinds.Forms)
unfolding fault_of fault_from fault_at fault_at_end is_utf8 chars lines_of line_of part_at raw_at letter_at unescaped unescaped_behind field_value has_charset lib.Utf8.encode
plain_with_plural = refl

numbered_from_1 : fault_of limits (joined_lines (codes "msgid \"x\"" ∷ codes "msgid_plural \"y\"" ∷ codes "msgstr[1] \"\"" ∷ [])) ≡ Some (3, kinds.Forms)
unfolding fault_of fault_from fault_at fault_at_end is_utf8 chars lines_of line_of part_at raw_at letter_at unescaped unescaped_behind field_value has_charset lib.Utf8.encode
numbered_from_1 = refl

form_first : fault_of limits (joined_lines (codes "msgstr \"\"" ∷ [])) ≡ Some (1, kinds.Order)
unfolding fault_of fault_from fault_at fault_at_end is_utf8 chars lines_of line_of part_at raw_at letter_at unescaped unescaped_behind field_value has_charset lib.Utf8.encode
form_first = refl

form_after_context : fault_of limits (joined_lines (codes "msgctxt \"c\"" ∷ codes "msgstr[3] \"\"" ∷ [])) ≡ Some (2, kinds.Order)
unfolding fault_of fault_from fault_at fault_at_end is_utf8 chars lines_of line_of part_at raw_at letter_at unescaped unescaped_behind field_value has_charset lib.Utf8.encode
form_after_context = refl

digit_8 : fault_of limits (joined_lines (codes "msgid \"x\"" ∷ codes "msgid_plural \"y\"" ∷ codes "msgstr[8] \"\"" ∷ [])) ≡ Some (3, kinds.Line)
unfolding fault_of fault_from fault_at fault_at_end is_utf8 chars lines_of line_of part_at raw_at letter_at unescaped unescaped_behind field_value has_charset lib.Utf8.encode
digit_8 = refl

piece_first : fault_of limits (joined_lines (codes "\"x\"" ∷ [])) ≡ Some (1, kinds.Order)
unfolding fault_of fault_from fault_at fault_at_end is_utf8 chars lines_of line_of part_at raw_at letter_at unescaped unescaped_behind field_value has_charset lib.Utf8.encode
piece_first = refl

piece_other_mark : fault_of limits (joined_lines (codes "msgid \"a\"" ∷ codes "msgstr \"\"" ∷ codes "#~ \"b\"" ∷ [])) ≡ Some (3, kinds.Order)
unfolding fault_of fault_from fault_at fault_at_end is_utf8 chars lines_of line_of part_at raw_at letter_at unescaped unescaped_behind field_value has_charset lib.Utf8.encode
piece_other_mark = refl

piece_after_blank : fault_of limits (joined_lines (codes "msgid \"a\"" ∷ [] ∷ codes "\"b\"" ∷ codes "msgstr \"\"" ∷ [])) ≡ None
unfolding fault_of fault_from fault_at fault_at_end is_utf8 chars lines_of line_of part_at raw_at letter_at unescaped unescaped_behind field_value has_charset lib.Utf8.encode
piece_after_blank = refl

piece_after_comment : fault_of limits (joined_lines (codes "msgid \"a\"" ∷ codes "msgstr \"\"" ∷ codes "# c" ∷ codes "\"b\"" ∷ [])) ≡ Some (4, kinds.Order)
unfolding fault_of fault_from fault_at fault_at_end is_utf8 chars lines_of line_of part_at raw_at letter_at unescaped unescaped_behind field_value has_charset lib.Utf8.encode
piece_after_comment = refl

previous_other_mark : fault_of limits (joined_lines (codes "#| msgid \"a\"" ∷ codes "#~ msgid \"b\"" ∷ codes "#~ msgstr \"\"" ∷ [])) ≡ Some (2, kinds.Order)
unfolding fault_of fault_from fault_at fault_at_end is_utf8 chars lines_of line_of part_at raw_at letter_at unescaped unescaped_behind field_value has_charset lib.Utf8.encode
previous_other_mark = refl

previous_two_marks : fault_of limits (joined_lines (codes "#| msgid \"a\"" ∷ codes "#~| msgid_plural \"b\"" ∷ [])) ≡ Some (2, kinds.Order)
unfolding fault_of fault_from fault_at fault_at_end is_utf8 chars lines_of line_of part_at raw_at letter_at unescaped unescaped_behind field_value has_charset lib.Utf8.encode
previous_two_marks = refl

previous_order : fault_of limits (joined_lines (codes "#| msgid \"a\"" ∷ codes "#| msgctxt \"b\"" ∷ [])) ≡ Some (2, kinds.Order)
unfolding fault_of fault_from fault_at fault_at_end is_utf8 chars lines_of line_of part_at raw_at letter_at unescaped unescaped_behind field_value has_charset lib.Utf8.encode
previous_order = refl

previous_parted : fault_of limits (joined_lines (codes "#| msgid \"a\"" ∷ codes "# c" ∷ codes "#| \"b\"" ∷ codes "msgid \"x\"" ∷ codes "msgstr \"\"" ∷ [])) ≡ None
unfolding fault_of fault_from fault_at fault_at_end is_utf8 chars lines_of line_of part_at raw_at letter_at unescaped unescaped_behind field_value has_charset lib.Utf8.encode
previous_parted = refl

previous_piece_first : fault_of limits (joined_lines (codes "#| \"b\"" ∷ [])) ≡ Some (1, kinds.Order)
unfolding fault_of fault_from fault_at fault_at_end is_utf8 chars lines_of line_of part_at raw_at letter_at unescaped unescaped_behind field_value has_charset lib.Utf8.encode
previous_piece_first = refl

previous_form : fault_of limits (joined_lines (codes "#| msgstr \"b\"" ∷ [])) ≡ Some (1, kinds.Line)
unfolding fault_of fault_from fault_at fault_at_end is_utf8 chars lines_of line_of part_at raw_at letter_at unescaped unescaped_behind field_value has_charset lib.Utf8.encode
previous_form = refl

previous_form_no_quote : fault_of limits (joined_lines (codes "#| msgstr b" ∷ [])) ≡ Some (1, kinds.Line)
unfolding fault_of fault_from fault_at fault_at_end is_utf8 chars lines_of line_of part_at raw_at letter_at unescaped unescaped_behind field_value has_charset lib.Utf8.encode
previous_form_no_quote = refl

previous_no_quote : fault_of limits (joined_lines (codes "#| msgid b" ∷ [])) ≡ Some (1, kinds.Quote)
unfolding fault_of fault_from fault_at fault_at_end is_utf8 chars lines_of line_of part_at raw_at letter_at unescaped unescaped_behind field_value has_charset lib.Utf8.encode
previous_no_quote = refl

no_space : fault_of limits (joined_lines (codes "#|msgid \"b\"" ∷ [])) ≡ Some (1, kinds.Line)
unfolding fault_of fault_from fault_at fault_at_end is_utf8 chars lines_of line_of part_at raw_at letter_at unescaped unescaped_behind field_value has_charset lib.Utf8.encode
no_space = refl

obsolete_comment : fault_of limits (joined_lines (codes "#~ # c" ∷ [])) ≡ Some (1, kinds.Line)
unfolding fault_of fault_from fault_at fault_at_end is_utf8 chars lines_of line_of part_at raw_at letter_at unescaped unescaped_behind field_value has_charset lib.Utf8.encode
obsolete_comment = refl

obsolete_alone : fault_of limits (joined_lines (codes "#~" ∷ [])) ≡ Some (1, kinds.Line)
unfolding fault_of fault_from fault_at fault_at_end is_utf8 chars lines_of line_of part_at raw_at letter_at unescaped unescaped_behind field_value has_charset lib.Utf8.encode
obsolete_alone = refl

sticky : fault_of limits (joined_lines (codes "#=fuzzy" ∷ [])) ≡ Some (1, kinds.Line)
unfolding fault_of fault_from fault_at fault_at_end is_utf8 chars lines_of line_of part_at raw_at letter_at unescaped unescaped_behind field_value has_charset lib.Utf8.encode
sticky = refl

white_first : fault_of limits (joined_lines (codes " msgid \"x\"" ∷ [])) ≡ Some (1, kinds.Line)
unfolding fault_of fault_from fault_at fault_at_end is_utf8 chars lines_of line_of part_at raw_at letter_at unescaped unescaped_behind field_value has_charset lib.Utf8.encode
white_first = refl

no_white : fault_of limits (joined_lines (codes "msgid\"x\"" ∷ [])) ≡ Some (1, kinds.Line)
unfolding fault_of fault_from fault_at fault_at_end is_utf8 chars lines_of line_of part_at raw_at letter_at unescaped unescaped_behind field_value has_charset lib.Utf8.encode
no_white = refl

keyword_alone : fault_of limits (joined_lines (codes "msgid" ∷ [])) ≡ Some (1, kinds.Quote)
unfolding fault_of fault_from fault_at fault_at_end is_utf8 chars lines_of line_of part_at raw_at letter_at unescaped unescaped_behind field_value has_charset lib.Utf8.encode
keyword_alone = refl

more_behind : fault_of limits (joined_lines (codes "msgid \"x\" y" ∷ [])) ≡ Some (1, kinds.Quote)
unfolding fault_of fault_from fault_at fault_at_end is_utf8 chars lines_of line_of part_at raw_at letter_at unescaped unescaped_behind field_value has_charset lib.Utf8.encode
more_behind = refl

escape_before_quote : fault_of limits (joined_lines (codes "msgid \"a\\q" ∷ [])) ≡ Some (1, kinds.Escape)
unfolding fault_of fault_from fault_at fault_at_end is_utf8 chars lines_of line_of part_at raw_at letter_at unescaped unescaped_behind field_value has_charset lib.Utf8.encode
escape_before_quote = refl

no_flags : fault_of limits (joined_lines (codes "#," ∷ [])) ≡ Some (1, kinds.Line)
unfolding fault_of fault_from fault_at fault_at_end is_utf8 chars lines_of line_of part_at raw_at letter_at unescaped unescaped_behind field_value has_charset lib.Utf8.encode
no_flags = refl

empty_flag : fault_of limits (joined_lines (codes "#, a,,b" ∷ [])) ≡ Some (1, kinds.Line)
unfolding fault_of fault_from fault_at fault_at_end is_utf8 chars lines_of line_of part_at raw_at letter_at unescaped unescaped_behind field_value has_charset lib.Utf8.encode
empty_flag = refl

flags_twice : fault_of limits (joined_lines (codes "#, a, fuzzy" ∷ codes "#,b , a" ∷ codes "msgid \"x\"" ∷ codes "msgstr \"\"" ∷ [])) ≡ None
unfolding fault_of fault_from fault_at fault_at_end is_utf8 chars lines_of line_of part_at raw_at letter_at unescaped unescaped_behind field_value has_charset lib.Utf8.encode
flags_twice = refl

comment_forms : fault_of limits (joined_lines (codes "#a" ∷ codes "#" ∷ codes "#  b" ∷ codes "#.c" ∷ codes "#. d" ∷ codes "#." ∷ codes "#:" ∷ codes "#:  e" ∷ codes "msgid \"x\"" ∷ codes "msgstr \"\"" ∷ [])) ≡ None
unfolding fault_of fault_from fault_at fault_at_end is_utf8 chars lines_of line_of part_at raw_at letter_at unescaped unescaped_behind field_value has_charset lib.Utf8.encode
comment_forms = refl

all_escapes : fault_of limits (joined_lines (codes "msgid \"\\t\\r\\a\\b\\f\\v\\\"\\\\\"" ∷ codes "msgstr \"\"" ∷ [])) ≡ None
unfolding fault_of fault_from fault_at fault_at_end is_utf8 chars lines_of line_of part_at raw_at letter_at unescaped unescaped_behind field_value has_charset lib.Utf8.encode
all_escapes = refl

obsolete_entry : fault_of limits (joined_lines (codes "#~| msgid \"o\"" ∷ codes "#~ msgctxt \"c\"" ∷ codes "#~ msgid \"a\"" ∷ codes "#~ \"b\"" ∷ codes "#~ msgid_plural \"p\"" ∷ codes "#~ msgstr[0] \"x\\ny\"" ∷ codes "#~ msgstr[1] \"\"" ∷ [])) ≡ None
unfolding fault_of fault_from fault_at fault_at_end is_utf8 chars lines_of line_of part_at raw_at letter_at unescaped unescaped_behind field_value has_charset lib.Utf8.encode
obsolete_entry = refl

byte_ff : fault_of limits (255 ∷ (joined_lines (codes "msgid \"\"" ∷ codes "msgstr \"\"" ∷ codes "\"Content-Type: text/plain; charset=UTF-8\\n\"" ∷ codes "\"Plural-Forms: nplurals=2; plural=n != 1;\\n\"" ∷ [] ∷ codes "msgid \"Hello\"" ∷ codes "msgstr \"Hallo\"" ∷ []))) ≡ Some (0, kinds.NotUtf8)
unfolding fault_of fault_from fault_at fault_at_end is_utf8 chars lines_of line_of part_at raw_at letter_at unescaped unescaped_behind field_value has_charset lib.Utf8.encode
byte_ff = refl

byte_order_mark : fault_of limits (239 ∷ 187 ∷ 191 ∷ (joined_lines (codes "msgid \"\"" ∷ codes "msgstr \"\"" ∷ codes "\"Content-Type: text/plain; charset=UTF-8\\n\"" ∷ codes "\"Plural-Forms: nplurals=2; plural=n != 1;\\n\"" ∷ [] ∷ codes "msgid \"Hello\"" ∷ codes "msgstr \"Hallo\"" ∷ []))) ≡ Some (1, kinds.Line)
unfolding fault_of fault_from fault_at fault_at_end is_utf8 chars lines_of line_of part_at raw_at letter_at unescaped unescaped_behind field_value has_charset lib.Utf8.encode
byte_order_mark = refl

carriage_return : fault_of limits (codes "msgid \"x\"" ++ (13 ∷ 10 ∷ [])) ≡ Some (1, kinds.Quote)
unfolding fault_of fault_from fault_at fault_at_end is_utf8 chars lines_of line_of part_at raw_at letter_at unescaped unescaped_behind field_value has_charset lib.Utf8.encode
carriage_return = refl

raw_tab : fault_of limits (codes "msgid \"x" ++ (9 ∷ codes "\"")) ≡ Some (1, kinds.Quote)
unfolding fault_of fault_from fault_at fault_at_end is_utf8 chars lines_of line_of part_at raw_at letter_at unescaped unescaped_behind field_value has_charset lib.Utf8.encode
raw_tab = refl

comment_carriage_return : fault_of limits (codes "# x" ++ (13 ∷ 10 ∷ [])) ≡ Some (1, kinds.Line)
unfolding fault_of fault_from fault_at fault_at_end is_utf8 chars lines_of line_of part_at raw_at letter_at unescaped unescaped_behind field_value has_charset lib.Utf8.encode
comment_carriage_return = refl

longest_string : fault_of small (joined_lines (codes "msgid \"a\"" ∷ codes "msgstr \"aaaaaaaa\"" ∷ [])) ≡ None
unfolding fault_of fault_from fault_at fault_at_end is_utf8 chars lines_of line_of part_at raw_at letter_at unescaped unescaped_behind field_value has_charset lib.Utf8.encode
longest_string = refl

string_over : fault_of small (joined_lines (codes "msgid \"a\"" ∷ codes "msgstr \"aaaaaaaaa\"" ∷ [])) ≡ Some (2, kinds.Limit)
unfolding fault_of fault_from fault_at fault_at_end is_utf8 chars lines_of line_of part_at raw_at letter_at unescaped unescaped_behind field_value has_charset lib.Utf8.encode
string_over = refl

string_over_by_piece : fault_of small (joined_lines (codes "msgid \"a\"" ∷ codes "msgstr \"\"" ∷ codes "\"aaaaaaaa\"" ∷ codes "\"a\"" ∷ codes "\"bbbb\"" ∷ [])) ≡ Some (4, kinds.Limit)
unfolding fault_of fault_from fault_at fault_at_end is_utf8 chars lines_of line_of part_at raw_at letter_at unescaped unescaped_behind field_value has_charset lib.Utf8.encode
string_over_by_piece = refl

entries_over : fault_of (record { bytes = 1000; entries = 2; string = 8 }) (joined_lines (codes "msgid \"\"" ∷ codes "msgstr \"\"" ∷ codes "msgid \"a\"" ∷ codes "msgstr \"\"" ∷ codes "msgid \"b\"" ∷ codes "msgstr \"\"" ∷ codes "msgid \"c\"" ∷ codes "msgstr \"\"" ∷ [])) ≡ Some (7, kinds.Limit)
unfolding fault_of fault_from fault_at fault_at_end is_utf8 chars lines_of line_of part_at raw_at letter_at unescaped unescaped_behind field_value has_charset lib.Utf8.encode
entries_over = refl

entries_no_header : fault_of (record { bytes = 1000; entries = 2; string = 8 }) (joined_lines (codes "msgid \"a\"" ∷ codes "msgstr \"\"" ∷ codes "msgid \"b\"" ∷ codes "msgstr \"\"" ∷ codes "msgctxt \"x\"" ∷ codes "msgid \"c\"" ∷ codes "msgstr \"\"" ∷ [])) ≡ Some (6, kinds.Limit)
unfolding fault_of fault_from fault_at fault_at_end is_utf8 chars lines_of line_of part_at raw_at letter_at unescaped unescaped_behind field_value has_charset lib.Utf8.encode
entries_no_header = refl

bytes_over : fault_of (record { bytes = 18; entries = 2; string = 8 }) (joined_lines (codes "msgid \"a\"" ∷ codes "msgstr \"\"" ∷ [])) ≡ Some (0, kinds.Limit)
unfolding fault_of fault_from fault_at fault_at_end is_utf8 chars lines_of line_of part_at raw_at letter_at unescaped unescaped_behind field_value has_charset lib.Utf8.encode
bytes_over = refl

cut_0 : fault_of limits ([]) ≡ None
unfolding fault_of fault_from fault_at fault_at_end is_utf8 chars lines_of line_of part_at raw_at letter_at unescaped unescaped_behind field_value has_charset lib.Utf8.encode
cut_0 = refl

cut_18 : fault_of limits ((joined_lines (codes "msgid \"\"" ∷ [])) ++ codes "msgstr \"\"") ≡ None
unfolding fault_of fault_from fault_at fault_at_end is_utf8 chars lines_of line_of part_at raw_at letter_at unescaped unescaped_behind field_value has_charset lib.Utf8.encode
cut_18 = refl

cut_19 : fault_of limits (joined_lines (codes "msgid \"\"" ∷ codes "msgstr \"\"" ∷ [])) ≡ None
unfolding fault_of fault_from fault_at fault_at_end is_utf8 chars lines_of line_of part_at raw_at letter_at unescaped unescaped_behind field_value has_charset lib.Utf8.encode
cut_19 = refl

cut_62 : fault_of limits ((joined_lines (codes "msgid \"\"" ∷ codes "msgstr \"\"" ∷ [])) ++ codes "\"Content-Type: text/plain; charset=UTF-8\\n\"") ≡ None
unfolding fault_of fault_from fault_at fault_at_end is_utf8 chars lines_of line_of part_at raw_at letter_at unescaped unescaped_behind field_value has_charset lib.Utf8.encode
cut_62 = refl

cut_63 : fault_of limits (joined_lines (codes "msgid \"\"" ∷ codes "msgstr \"\"" ∷ codes "\"Content-Type: text/plain; charset=UTF-8\\n\"" ∷ [])) ≡ None
unfolding fault_of fault_from fault_at fault_at_end is_utf8 chars lines_of line_of part_at raw_at letter_at unescaped unescaped_behind field_value has_charset lib.Utf8.encode
cut_63 = refl

cut_107 : fault_of limits ((joined_lines (codes "msgid \"\"" ∷ codes "msgstr \"\"" ∷ codes "\"Content-Type: text/plain; charset=UTF-8\\n\"" ∷ [])) ++ codes "\"Plural-Forms: nplurals=2; plural=n != 1;\\n\"") ≡ None
unfolding fault_of fault_from fault_at fault_at_end is_utf8 chars lines_of line_of part_at raw_at letter_at unescaped unescaped_behind field_value has_charset lib.Utf8.encode
cut_107 = refl

cut_108 : fault_of limits (joined_lines (codes "msgid \"\"" ∷ codes "msgstr \"\"" ∷ codes "\"Content-Type: text/plain; charset=UTF-8\\n\"" ∷ codes "\"Plural-Forms: nplurals=2; plural=n != 1;\\n\"" ∷ [])) ≡ None
unfolding fault_of fault_from fault_at fault_at_end is_utf8 chars lines_of line_of part_at raw_at letter_at unescaped unescaped_behind field_value has_charset lib.Utf8.encode
cut_108 = refl

cut_109 : fault_of limits (joined_lines (codes "msgid \"\"" ∷ codes "msgstr \"\"" ∷ codes "\"Content-Type: text/plain; charset=UTF-8\\n\"" ∷ codes "\"Plural-Forms: nplurals=2; plural=n != 1;\\n\"" ∷ [] ∷ [])) ≡ None
unfolding fault_of fault_from fault_at fault_at_end is_utf8 chars lines_of line_of part_at raw_at letter_at unescaped unescaped_behind field_value has_charset lib.Utf8.encode
cut_109 = refl

cut_137 : fault_of limits ((joined_lines (codes "msgid \"\"" ∷ codes "msgstr \"\"" ∷ codes "\"Content-Type: text/plain; charset=UTF-8\\n\"" ∷ codes "\"Plural-Forms: nplurals=2; plural=n != 1;\\n\"" ∷ [] ∷ codes "msgid \"Hello\"" ∷ [])) ++ codes "msgstr \"Hallo\"") ≡ None
unfolding fault_of fault_from fault_at fault_at_end is_utf8 chars lines_of line_of part_at raw_at letter_at unescaped unescaped_behind field_value has_charset lib.Utf8.encode
cut_137 = refl

cut_138 : fault_of limits (joined_lines (codes "msgid \"\"" ∷ codes "msgstr \"\"" ∷ codes "\"Content-Type: text/plain; charset=UTF-8\\n\"" ∷ codes "\"Plural-Forms: nplurals=2; plural=n != 1;\\n\"" ∷ [] ∷ codes "msgid \"Hello\"" ∷ codes "msgstr \"Hallo\"" ∷ [])) ≡ None
unfolding fault_of fault_from fault_at fault_at_end is_utf8 chars lines_of line_of part_at raw_at letter_at unescaped unescaped_behind field_value has_charset lib.Utf8.encode
cut_138 = refl

cut_1 : fault_of limits (codes "m") ≡ Some (1, kinds.Line)
unfolding fault_of fault_from fault_at fault_at_end is_utf8 chars lines_of line_of part_at raw_at letter_at unescaped unescaped_behind field_value has_charset lib.Utf8.encode
cut_1 = refl

cut_2 : fault_of limits (codes "ms") ≡ Some (1, kinds.Line)
unfolding fault_of fault_from fault_at fault_at_end is_utf8 chars lines_of line_of part_at raw_at letter_at unescaped unescaped_behind field_value has_charset lib.Utf8.encode
cut_2 = refl

cut_3 : fault_of limits (codes "msg") ≡ Some (1, kinds.Line)
unfolding fault_of fault_from fault_at fault_at_end is_utf8 chars lines_of line_of part_at raw_at letter_at unescaped unescaped_behind field_value has_charset lib.Utf8.encode
cut_3 = refl

cut_4 : fault_of limits (codes "msgi") ≡ Some (1, kinds.Line)
unfolding fault_of fault_from fault_at fault_at_end is_utf8 chars lines_of line_of part_at raw_at letter_at unescaped unescaped_behind field_value has_charset lib.Utf8.encode
cut_4 = refl

cut_10 : fault_of limits ((joined_lines (codes "msgid \"\"" ∷ [])) ++ codes "m") ≡ Some (2, kinds.Line)
unfolding fault_of fault_from fault_at fault_at_end is_utf8 chars lines_of line_of part_at raw_at letter_at unescaped unescaped_behind field_value has_charset lib.Utf8.encode
cut_10 = refl

cut_11 : fault_of limits ((joined_lines (codes "msgid \"\"" ∷ [])) ++ codes "ms") ≡ Some (2, kinds.Line)
unfolding fault_of fault_from fault_at fault_at_end is_utf8 chars lines_of line_of part_at raw_at letter_at unescaped unescaped_behind field_value has_charset lib.Utf8.encode
cut_11 = refl

cut_12 : fault_of limits ((joined_lines (codes "msgid \"\"" ∷ [])) ++ codes "msg") ≡ Some (2, kinds.Line)
unfolding fault_of fault_from fault_at fault_at_end is_utf8 chars lines_of line_of part_at raw_at letter_at unescaped unescaped_behind field_value has_charset lib.Utf8.encode
cut_12 = refl

cut_13 : fault_of limits ((joined_lines (codes "msgid \"\"" ∷ [])) ++ codes "msgs") ≡ Some (2, kinds.Line)
unfolding fault_of fault_from fault_at fault_at_end is_utf8 chars lines_of line_of part_at raw_at letter_at unescaped unescaped_behind field_value has_charset lib.Utf8.encode
cut_13 = refl

cut_14 : fault_of limits ((joined_lines (codes "msgid \"\"" ∷ [])) ++ codes "msgst") ≡ Some (2, kinds.Line)
unfolding fault_of fault_from fault_at fault_at_end is_utf8 chars lines_of line_of part_at raw_at letter_at unescaped unescaped_behind field_value has_charset lib.Utf8.encode
cut_14 = refl

cut_110 : fault_of limits ((joined_lines (codes "msgid \"\"" ∷ codes "msgstr \"\"" ∷ codes "\"Content-Type: text/plain; charset=UTF-8\\n\"" ∷ codes "\"Plural-Forms: nplurals=2; plural=n != 1;\\n\"" ∷ [] ∷ [])) ++ codes "m") ≡ Some (6, kinds.Line)
unfolding fault_of fault_from fault_at fault_at_end is_utf8 chars lines_of line_of part_at raw_at letter_at unescaped unescaped_behind field_value has_charset lib.Utf8.encode
cut_110 = refl

cut_111 : fault_of limits ((joined_lines (codes "msgid \"\"" ∷ codes "msgstr \"\"" ∷ codes "\"Content-Type: text/plain; charset=UTF-8\\n\"" ∷ codes "\"Plural-Forms: nplurals=2; plural=n != 1;\\n\"" ∷ [] ∷ [])) ++ codes "ms") ≡ Some (6, kinds.Line)
unfolding fault_of fault_from fault_at fault_at_end is_utf8 chars lines_of line_of part_at raw_at letter_at unescaped unescaped_behind field_value has_charset lib.Utf8.encode
cut_111 = refl

cut_112 : fault_of limits ((joined_lines (codes "msgid \"\"" ∷ codes "msgstr \"\"" ∷ codes "\"Content-Type: text/plain; charset=UTF-8\\n\"" ∷ codes "\"Plural-Forms: nplurals=2; plural=n != 1;\\n\"" ∷ [] ∷ [])) ++ codes "msg") ≡ Some (6, kinds.Line)
unfolding fault_of fault_from fault_at fault_at_end is_utf8 chars lines_of line_of part_at raw_at letter_at unescaped unescaped_behind field_value has_charset lib.Utf8.encode
cut_112 = refl

cut_113 : fault_of limits ((joined_lines (codes "msgid \"\"" ∷ codes "msgstr \"\"" ∷ codes "\"Content-Type: text/plain; charset=UTF-8\\n\"" ∷ codes "\"Plural-Forms: nplurals=2; plural=n != 1;\\n\"" ∷ [] ∷ [])) ++ codes "msgi") ≡ Some (6, kinds.Line)
unfolding fault_of fault_from fault_at fault_at_end is_utf8 chars lines_of line_of part_at raw_at letter_at unescaped unescaped_behind field_value has_charset lib.Utf8.encode
cut_113 = refl

cut_124 : fault_of limits ((joined_lines (codes "msgid \"\"" ∷ codes "msgstr \"\"" ∷ codes "\"Content-Type: text/plain; charset=UTF-8\\n\"" ∷ codes "\"Plural-Forms: nplurals=2; plural=n != 1;\\n\"" ∷ [] ∷ codes "msgid \"Hello\"" ∷ [])) ++ codes "m") ≡ Some (7, kinds.Line)
unfolding fault_of fault_from fault_at fault_at_end is_utf8 chars lines_of line_of part_at raw_at letter_at unescaped unescaped_behind field_value has_charset lib.Utf8.encode
cut_124 = refl

cut_125 : fault_of limits ((joined_lines (codes "msgid \"\"" ∷ codes "msgstr \"\"" ∷ codes "\"Content-Type: text/plain; charset=UTF-8\\n\"" ∷ codes "\"Plural-Forms: nplurals=2; plural=n != 1;\\n\"" ∷ [] ∷ codes "msgid \"Hello\"" ∷ [])) ++ codes "ms") ≡ Some (7, kinds.Line)
unfolding fault_of fault_from fault_at fault_at_end is_utf8 chars lines_of line_of part_at raw_at letter_at unescaped unescaped_behind field_value has_charset lib.Utf8.encode
cut_125 = refl

cut_126 : fault_of limits ((joined_lines (codes "msgid \"\"" ∷ codes "msgstr \"\"" ∷ codes "\"Content-Type: text/plain; charset=UTF-8\\n\"" ∷ codes "\"Plural-Forms: nplurals=2; plural=n != 1;\\n\"" ∷ [] ∷ codes "msgid \"Hello\"" ∷ [])) ++ codes "msg") ≡ Some (7, kinds.Line)
unfolding fault_of fault_from fault_at fault_at_end is_utf8 chars lines_of line_of part_at raw_at letter_at unescaped unescaped_behind field_value has_charset lib.Utf8.encode
cut_126 = refl

cut_127 : fault_of limits ((joined_lines (codes "msgid \"\"" ∷ codes "msgstr \"\"" ∷ codes "\"Content-Type: text/plain; charset=UTF-8\\n\"" ∷ codes "\"Plural-Forms: nplurals=2; plural=n != 1;\\n\"" ∷ [] ∷ codes "msgid \"Hello\"" ∷ [])) ++ codes "msgs") ≡ Some (7, kinds.Line)
unfolding fault_of fault_from fault_at fault_at_end is_utf8 chars lines_of line_of part_at raw_at letter_at unescaped unescaped_behind field_value has_charset lib.Utf8.encode
cut_127 = refl

cut_128 : fault_of limits ((joined_lines (codes "msgid \"\"" ∷ codes "msgstr \"\"" ∷ codes "\"Content-Type: text/plain; charset=UTF-8\\n\"" ∷ codes "\"Plural-Forms: nplurals=2; plural=n != 1;\\n\"" ∷ [] ∷ codes "msgid \"Hello\"" ∷ [])) ++ codes "msgst") ≡ Some (7, kinds.Line)
unfolding fault_of fault_from fault_at fault_at_end is_utf8 chars lines_of line_of part_at raw_at letter_at unescaped unescaped_behind field_value has_charset lib.Utf8.encode
cut_128 = refl

cut_60 : fault_of limits ((joined_lines (codes "msgid \"\"" ∷ codes "msgstr \"\"" ∷ [])) ++ codes "\"Content-Type: text/plain; charset=UTF-8\\") ≡ Some (3, kinds.Escape)
unfolding fault_of fault_from fault_at fault_at_end is_utf8 chars lines_of line_of part_at raw_at letter_at unescaped unescaped_behind field_value has_charset lib.Utf8.encode
cut_60 = refl

cut_105 : fault_of limits ((joined_lines (codes "msgid \"\"" ∷ codes "msgstr \"\"" ∷ codes "\"Content-Type: text/plain; charset=UTF-8\\n\"" ∷ [])) ++ codes "\"Plural-Forms: nplurals=2; plural=n != 1;\\") ≡ Some (4, kinds.Escape)
unfolding fault_of fault_from fault_at fault_at_end is_utf8 chars lines_of line_of part_at raw_at letter_at unescaped unescaped_behind field_value has_charset lib.Utf8.encode
cut_105 = refl

cut_8 : fault_of limits (codes "msgid \"\"") ≡ Some (2, kinds.Order)
unfolding fault_of fault_from fault_at fault_at_end is_utf8 chars lines_of line_of part_at raw_at letter_at unescaped unescaped_behind field_value has_charset lib.Utf8.encode
cut_8 = refl

cut_9 : fault_of limits (joined_lines (codes "msgid \"\"" ∷ [])) ≡ Some (2, kinds.Order)
unfolding fault_of fault_from fault_at fault_at_end is_utf8 chars lines_of line_of part_at raw_at letter_at unescaped unescaped_behind field_value has_charset lib.Utf8.encode
cut_9 = refl

cut_122 : fault_of limits ((joined_lines (codes "msgid \"\"" ∷ codes "msgstr \"\"" ∷ codes "\"Content-Type: text/plain; charset=UTF-8\\n\"" ∷ codes "\"Plural-Forms: nplurals=2; plural=n != 1;\\n\"" ∷ [] ∷ [])) ++ codes "msgid \"Hello\"") ≡ Some (7, kinds.Order)
unfolding fault_of fault_from fault_at fault_at_end is_utf8 chars lines_of line_of part_at raw_at letter_at unescaped unescaped_behind field_value has_charset lib.Utf8.encode
cut_122 = refl

cut_123 : fault_of limits (joined_lines (codes "msgid \"\"" ∷ codes "msgstr \"\"" ∷ codes "\"Content-Type: text/plain; charset=UTF-8\\n\"" ∷ codes "\"Plural-Forms: nplurals=2; plural=n != 1;\\n\"" ∷ [] ∷ codes "msgid \"Hello\"" ∷ [])) ≡ Some (7, kinds.Order)
unfolding fault_of fault_from fault_at fault_at_end is_utf8 chars lines_of line_of part_at raw_at letter_at unescaped unescaped_behind field_value has_charset lib.Utf8.encode
cut_123 = refl

cut_5 : fault_of limits (codes "msgid") ≡ Some (1, kinds.Quote)
unfolding fault_of fault_from fault_at fault_at_end is_utf8 chars lines_of line_of part_at raw_at letter_at unescaped unescaped_behind field_value has_charset lib.Utf8.encode
cut_5 = refl

cut_6 : fault_of limits (codes "msgid ") ≡ Some (1, kinds.Quote)
unfolding fault_of fault_from fault_at fault_at_end is_utf8 chars lines_of line_of part_at raw_at letter_at unescaped unescaped_behind field_value has_charset lib.Utf8.encode
cut_6 = refl

cut_7 : fault_of limits (codes "msgid \"") ≡ Some (1, kinds.Quote)
unfolding fault_of fault_from fault_at fault_at_end is_utf8 chars lines_of line_of part_at raw_at letter_at unescaped unescaped_behind field_value has_charset lib.Utf8.encode
cut_7 = refl

cut_15 : fault_of limits ((joined_lines (codes "msgid \"\"" ∷ [])) ++ codes "msgstr") ≡ Some (2, kinds.Quote)
unfolding fault_of fault_from fault_at fault_at_end is_utf8 chars lines_of line_of part_at raw_at letter_at unescaped unescaped_behind field_value has_charset lib.Utf8.encode
cut_15 = refl

cut_16 : fault_of limits ((joined_lines (codes "msgid \"\"" ∷ [])) ++ codes "msgstr ") ≡ Some (2, kinds.Quote)
unfolding fault_of fault_from fault_at fault_at_end is_utf8 chars lines_of line_of part_at raw_at letter_at unescaped unescaped_behind field_value has_charset lib.Utf8.encode
cut_16 = refl

cut_17 : fault_of limits ((joined_lines (codes "msgid \"\"" ∷ [])) ++ codes "msgstr \"") ≡ Some (2, kinds.Quote)
unfolding fault_of fault_from fault_at fault_at_end is_utf8 chars lines_of line_of part_at raw_at letter_at unescaped unescaped_behind field_value has_charset lib.Utf8.encode
cut_17 = refl

cut_20 : fault_of limits ((joined_lines (codes "msgid \"\"" ∷ codes "msgstr \"\"" ∷ [])) ++ codes "\"") ≡ Some (3, kinds.Quote)
unfolding fault_of fault_from fault_at fault_at_end is_utf8 chars lines_of line_of part_at raw_at letter_at unescaped unescaped_behind field_value has_charset lib.Utf8.encode
cut_20 = refl

cut_21 : fault_of limits ((joined_lines (codes "msgid \"\"" ∷ codes "msgstr \"\"" ∷ [])) ++ codes "\"C") ≡ Some (3, kinds.Quote)
unfolding fault_of fault_from fault_at fault_at_end is_utf8 chars lines_of line_of part_at raw_at letter_at unescaped unescaped_behind field_value has_charset lib.Utf8.encode
cut_21 = refl

cut_22 : fault_of limits ((joined_lines (codes "msgid \"\"" ∷ codes "msgstr \"\"" ∷ [])) ++ codes "\"Co") ≡ Some (3, kinds.Quote)
unfolding fault_of fault_from fault_at fault_at_end is_utf8 chars lines_of line_of part_at raw_at letter_at unescaped unescaped_behind field_value has_charset lib.Utf8.encode
cut_22 = refl

cut_23 : fault_of limits ((joined_lines (codes "msgid \"\"" ∷ codes "msgstr \"\"" ∷ [])) ++ codes "\"Con") ≡ Some (3, kinds.Quote)
unfolding fault_of fault_from fault_at fault_at_end is_utf8 chars lines_of line_of part_at raw_at letter_at unescaped unescaped_behind field_value has_charset lib.Utf8.encode
cut_23 = refl

cut_24 : fault_of limits ((joined_lines (codes "msgid \"\"" ∷ codes "msgstr \"\"" ∷ [])) ++ codes "\"Cont") ≡ Some (3, kinds.Quote)
unfolding fault_of fault_from fault_at fault_at_end is_utf8 chars lines_of line_of part_at raw_at letter_at unescaped unescaped_behind field_value has_charset lib.Utf8.encode
cut_24 = refl

cut_25 : fault_of limits ((joined_lines (codes "msgid \"\"" ∷ codes "msgstr \"\"" ∷ [])) ++ codes "\"Conte") ≡ Some (3, kinds.Quote)
unfolding fault_of fault_from fault_at fault_at_end is_utf8 chars lines_of line_of part_at raw_at letter_at unescaped unescaped_behind field_value has_charset lib.Utf8.encode
cut_25 = refl

cut_26 : fault_of limits ((joined_lines (codes "msgid \"\"" ∷ codes "msgstr \"\"" ∷ [])) ++ codes "\"Conten") ≡ Some (3, kinds.Quote)
unfolding fault_of fault_from fault_at fault_at_end is_utf8 chars lines_of line_of part_at raw_at letter_at unescaped unescaped_behind field_value has_charset lib.Utf8.encode
cut_26 = refl

cut_27 : fault_of limits ((joined_lines (codes "msgid \"\"" ∷ codes "msgstr \"\"" ∷ [])) ++ codes "\"Content") ≡ Some (3, kinds.Quote)
unfolding fault_of fault_from fault_at fault_at_end is_utf8 chars lines_of line_of part_at raw_at letter_at unescaped unescaped_behind field_value has_charset lib.Utf8.encode
cut_27 = refl

cut_28 : fault_of limits ((joined_lines (codes "msgid \"\"" ∷ codes "msgstr \"\"" ∷ [])) ++ codes "\"Content-") ≡ Some (3, kinds.Quote)
unfolding fault_of fault_from fault_at fault_at_end is_utf8 chars lines_of line_of part_at raw_at letter_at unescaped unescaped_behind field_value has_charset lib.Utf8.encode
cut_28 = refl

cut_29 : fault_of limits ((joined_lines (codes "msgid \"\"" ∷ codes "msgstr \"\"" ∷ [])) ++ codes "\"Content-T") ≡ Some (3, kinds.Quote)
unfolding fault_of fault_from fault_at fault_at_end is_utf8 chars lines_of line_of part_at raw_at letter_at unescaped unescaped_behind field_value has_charset lib.Utf8.encode
cut_29 = refl

cut_30 : fault_of limits ((joined_lines (codes "msgid \"\"" ∷ codes "msgstr \"\"" ∷ [])) ++ codes "\"Content-Ty") ≡ Some (3, kinds.Quote)
unfolding fault_of fault_from fault_at fault_at_end is_utf8 chars lines_of line_of part_at raw_at letter_at unescaped unescaped_behind field_value has_charset lib.Utf8.encode
cut_30 = refl

cut_31 : fault_of limits ((joined_lines (codes "msgid \"\"" ∷ codes "msgstr \"\"" ∷ [])) ++ codes "\"Content-Typ") ≡ Some (3, kinds.Quote)
unfolding fault_of fault_from fault_at fault_at_end is_utf8 chars lines_of line_of part_at raw_at letter_at unescaped unescaped_behind field_value has_charset lib.Utf8.encode
cut_31 = refl

cut_32 : fault_of limits ((joined_lines (codes "msgid \"\"" ∷ codes "msgstr \"\"" ∷ [])) ++ codes "\"Content-Type") ≡ Some (3, kinds.Quote)
unfolding fault_of fault_from fault_at fault_at_end is_utf8 chars lines_of line_of part_at raw_at letter_at unescaped unescaped_behind field_value has_charset lib.Utf8.encode
cut_32 = refl

cut_33 : fault_of limits ((joined_lines (codes "msgid \"\"" ∷ codes "msgstr \"\"" ∷ [])) ++ codes "\"Content-Type:") ≡ Some (3, kinds.Quote)
unfolding fault_of fault_from fault_at fault_at_end is_utf8 chars lines_of line_of part_at raw_at letter_at unescaped unescaped_behind field_value has_charset lib.Utf8.encode
cut_33 = refl

cut_34 : fault_of limits ((joined_lines (codes "msgid \"\"" ∷ codes "msgstr \"\"" ∷ [])) ++ codes "\"Content-Type: ") ≡ Some (3, kinds.Quote)
unfolding fault_of fault_from fault_at fault_at_end is_utf8 chars lines_of line_of part_at raw_at letter_at unescaped unescaped_behind field_value has_charset lib.Utf8.encode
cut_34 = refl

cut_35 : fault_of limits ((joined_lines (codes "msgid \"\"" ∷ codes "msgstr \"\"" ∷ [])) ++ codes "\"Content-Type: t") ≡ Some (3, kinds.Quote)
unfolding fault_of fault_from fault_at fault_at_end is_utf8 chars lines_of line_of part_at raw_at letter_at unescaped unescaped_behind field_value has_charset lib.Utf8.encode
cut_35 = refl

cut_36 : fault_of limits ((joined_lines (codes "msgid \"\"" ∷ codes "msgstr \"\"" ∷ [])) ++ codes "\"Content-Type: te") ≡ Some (3, kinds.Quote)
unfolding fault_of fault_from fault_at fault_at_end is_utf8 chars lines_of line_of part_at raw_at letter_at unescaped unescaped_behind field_value has_charset lib.Utf8.encode
cut_36 = refl

cut_37 : fault_of limits ((joined_lines (codes "msgid \"\"" ∷ codes "msgstr \"\"" ∷ [])) ++ codes "\"Content-Type: tex") ≡ Some (3, kinds.Quote)
unfolding fault_of fault_from fault_at fault_at_end is_utf8 chars lines_of line_of part_at raw_at letter_at unescaped unescaped_behind field_value has_charset lib.Utf8.encode
cut_37 = refl

cut_38 : fault_of limits ((joined_lines (codes "msgid \"\"" ∷ codes "msgstr \"\"" ∷ [])) ++ codes "\"Content-Type: text") ≡ Some (3, kinds.Quote)
unfolding fault_of fault_from fault_at fault_at_end is_utf8 chars lines_of line_of part_at raw_at letter_at unescaped unescaped_behind field_value has_charset lib.Utf8.encode
cut_38 = refl

cut_39 : fault_of limits ((joined_lines (codes "msgid \"\"" ∷ codes "msgstr \"\"" ∷ [])) ++ codes "\"Content-Type: text/") ≡ Some (3, kinds.Quote)
unfolding fault_of fault_from fault_at fault_at_end is_utf8 chars lines_of line_of part_at raw_at letter_at unescaped unescaped_behind field_value has_charset lib.Utf8.encode
cut_39 = refl

cut_40 : fault_of limits ((joined_lines (codes "msgid \"\"" ∷ codes "msgstr \"\"" ∷ [])) ++ codes "\"Content-Type: text/p") ≡ Some (3, kinds.Quote)
unfolding fault_of fault_from fault_at fault_at_end is_utf8 chars lines_of line_of part_at raw_at letter_at unescaped unescaped_behind field_value has_charset lib.Utf8.encode
cut_40 = refl

cut_41 : fault_of limits ((joined_lines (codes "msgid \"\"" ∷ codes "msgstr \"\"" ∷ [])) ++ codes "\"Content-Type: text/pl") ≡ Some (3, kinds.Quote)
unfolding fault_of fault_from fault_at fault_at_end is_utf8 chars lines_of line_of part_at raw_at letter_at unescaped unescaped_behind field_value has_charset lib.Utf8.encode
cut_41 = refl

cut_42 : fault_of limits ((joined_lines (codes "msgid \"\"" ∷ codes "msgstr \"\"" ∷ [])) ++ codes "\"Content-Type: text/pla") ≡ Some (3, kinds.Quote)
unfolding fault_of fault_from fault_at fault_at_end is_utf8 chars lines_of line_of part_at raw_at letter_at unescaped unescaped_behind field_value has_charset lib.Utf8.encode
cut_42 = refl

cut_43 : fault_of limits ((joined_lines (codes "msgid \"\"" ∷ codes "msgstr \"\"" ∷ [])) ++ codes "\"Content-Type: text/plai") ≡ Some (3, kinds.Quote)
unfolding fault_of fault_from fault_at fault_at_end is_utf8 chars lines_of line_of part_at raw_at letter_at unescaped unescaped_behind field_value has_charset lib.Utf8.encode
cut_43 = refl

cut_44 : fault_of limits ((joined_lines (codes "msgid \"\"" ∷ codes "msgstr \"\"" ∷ [])) ++ codes "\"Content-Type: text/plain") ≡ Some (3, kinds.Quote)
unfolding fault_of fault_from fault_at fault_at_end is_utf8 chars lines_of line_of part_at raw_at letter_at unescaped unescaped_behind field_value has_charset lib.Utf8.encode
cut_44 = refl

cut_45 : fault_of limits ((joined_lines (codes "msgid \"\"" ∷ codes "msgstr \"\"" ∷ [])) ++ codes "\"Content-Type: text/plain;") ≡ Some (3, kinds.Quote)
unfolding fault_of fault_from fault_at fault_at_end is_utf8 chars lines_of line_of part_at raw_at letter_at unescaped unescaped_behind field_value has_charset lib.Utf8.encode
cut_45 = refl

cut_46 : fault_of limits ((joined_lines (codes "msgid \"\"" ∷ codes "msgstr \"\"" ∷ [])) ++ codes "\"Content-Type: text/plain; ") ≡ Some (3, kinds.Quote)
unfolding fault_of fault_from fault_at fault_at_end is_utf8 chars lines_of line_of part_at raw_at letter_at unescaped unescaped_behind field_value has_charset lib.Utf8.encode
cut_46 = refl

cut_47 : fault_of limits ((joined_lines (codes "msgid \"\"" ∷ codes "msgstr \"\"" ∷ [])) ++ codes "\"Content-Type: text/plain; c") ≡ Some (3, kinds.Quote)
unfolding fault_of fault_from fault_at fault_at_end is_utf8 chars lines_of line_of part_at raw_at letter_at unescaped unescaped_behind field_value has_charset lib.Utf8.encode
cut_47 = refl

cut_48 : fault_of limits ((joined_lines (codes "msgid \"\"" ∷ codes "msgstr \"\"" ∷ [])) ++ codes "\"Content-Type: text/plain; ch") ≡ Some (3, kinds.Quote)
unfolding fault_of fault_from fault_at fault_at_end is_utf8 chars lines_of line_of part_at raw_at letter_at unescaped unescaped_behind field_value has_charset lib.Utf8.encode
cut_48 = refl

cut_49 : fault_of limits ((joined_lines (codes "msgid \"\"" ∷ codes "msgstr \"\"" ∷ [])) ++ codes "\"Content-Type: text/plain; cha") ≡ Some (3, kinds.Quote)
unfolding fault_of fault_from fault_at fault_at_end is_utf8 chars lines_of line_of part_at raw_at letter_at unescaped unescaped_behind field_value has_charset lib.Utf8.encode
cut_49 = refl

cut_50 : fault_of limits ((joined_lines (codes "msgid \"\"" ∷ codes "msgstr \"\"" ∷ [])) ++ codes "\"Content-Type: text/plain; char") ≡ Some (3, kinds.Quote)
unfolding fault_of fault_from fault_at fault_at_end is_utf8 chars lines_of line_of part_at raw_at letter_at unescaped unescaped_behind field_value has_charset lib.Utf8.encode
cut_50 = refl

cut_51 : fault_of limits ((joined_lines (codes "msgid \"\"" ∷ codes "msgstr \"\"" ∷ [])) ++ codes "\"Content-Type: text/plain; chars") ≡ Some (3, kinds.Quote)
unfolding fault_of fault_from fault_at fault_at_end is_utf8 chars lines_of line_of part_at raw_at letter_at unescaped unescaped_behind field_value has_charset lib.Utf8.encode
cut_51 = refl

cut_52 : fault_of limits ((joined_lines (codes "msgid \"\"" ∷ codes "msgstr \"\"" ∷ [])) ++ codes "\"Content-Type: text/plain; charse") ≡ Some (3, kinds.Quote)
unfolding fault_of fault_from fault_at fault_at_end is_utf8 chars lines_of line_of part_at raw_at letter_at unescaped unescaped_behind field_value has_charset lib.Utf8.encode
cut_52 = refl

cut_53 : fault_of limits ((joined_lines (codes "msgid \"\"" ∷ codes "msgstr \"\"" ∷ [])) ++ codes "\"Content-Type: text/plain; charset") ≡ Some (3, kinds.Quote)
unfolding fault_of fault_from fault_at fault_at_end is_utf8 chars lines_of line_of part_at raw_at letter_at unescaped unescaped_behind field_value has_charset lib.Utf8.encode
cut_53 = refl

cut_54 : fault_of limits ((joined_lines (codes "msgid \"\"" ∷ codes "msgstr \"\"" ∷ [])) ++ codes "\"Content-Type: text/plain; charset=") ≡ Some (3, kinds.Quote)
unfolding fault_of fault_from fault_at fault_at_end is_utf8 chars lines_of line_of part_at raw_at letter_at unescaped unescaped_behind field_value has_charset lib.Utf8.encode
cut_54 = refl

cut_55 : fault_of limits ((joined_lines (codes "msgid \"\"" ∷ codes "msgstr \"\"" ∷ [])) ++ codes "\"Content-Type: text/plain; charset=U") ≡ Some (3, kinds.Quote)
unfolding fault_of fault_from fault_at fault_at_end is_utf8 chars lines_of line_of part_at raw_at letter_at unescaped unescaped_behind field_value has_charset lib.Utf8.encode
cut_55 = refl

cut_56 : fault_of limits ((joined_lines (codes "msgid \"\"" ∷ codes "msgstr \"\"" ∷ [])) ++ codes "\"Content-Type: text/plain; charset=UT") ≡ Some (3, kinds.Quote)
unfolding fault_of fault_from fault_at fault_at_end is_utf8 chars lines_of line_of part_at raw_at letter_at unescaped unescaped_behind field_value has_charset lib.Utf8.encode
cut_56 = refl

cut_57 : fault_of limits ((joined_lines (codes "msgid \"\"" ∷ codes "msgstr \"\"" ∷ [])) ++ codes "\"Content-Type: text/plain; charset=UTF") ≡ Some (3, kinds.Quote)
unfolding fault_of fault_from fault_at fault_at_end is_utf8 chars lines_of line_of part_at raw_at letter_at unescaped unescaped_behind field_value has_charset lib.Utf8.encode
cut_57 = refl

cut_58 : fault_of limits ((joined_lines (codes "msgid \"\"" ∷ codes "msgstr \"\"" ∷ [])) ++ codes "\"Content-Type: text/plain; charset=UTF-") ≡ Some (3, kinds.Quote)
unfolding fault_of fault_from fault_at fault_at_end is_utf8 chars lines_of line_of part_at raw_at letter_at unescaped unescaped_behind field_value has_charset lib.Utf8.encode
cut_58 = refl

cut_59 : fault_of limits ((joined_lines (codes "msgid \"\"" ∷ codes "msgstr \"\"" ∷ [])) ++ codes "\"Content-Type: text/plain; charset=UTF-8") ≡ Some (3, kinds.Quote)
unfolding fault_of fault_from fault_at fault_at_end is_utf8 chars lines_of line_of part_at raw_at letter_at unescaped unescaped_behind field_value has_charset lib.Utf8.encode
cut_59 = refl

cut_61 : fault_of limits ((joined_lines (codes "msgid \"\"" ∷ codes "msgstr \"\"" ∷ [])) ++ codes "\"Content-Type: text/plain; charset=UTF-8\\n") ≡ Some (3, kinds.Quote)
unfolding fault_of fault_from fault_at fault_at_end is_utf8 chars lines_of line_of part_at raw_at letter_at unescaped unescaped_behind field_value has_charset lib.Utf8.encode
cut_61 = refl

cut_64 : fault_of limits ((joined_lines (codes "msgid \"\"" ∷ codes "msgstr \"\"" ∷ codes "\"Content-Type: text/plain; charset=UTF-8\\n\"" ∷ [])) ++ codes "\"") ≡ Some (4, kinds.Quote)
unfolding fault_of fault_from fault_at fault_at_end is_utf8 chars lines_of line_of part_at raw_at letter_at unescaped unescaped_behind field_value has_charset lib.Utf8.encode
cut_64 = refl

cut_65 : fault_of limits ((joined_lines (codes "msgid \"\"" ∷ codes "msgstr \"\"" ∷ codes "\"Content-Type: text/plain; charset=UTF-8\\n\"" ∷ [])) ++ codes "\"P") ≡ Some (4, kinds.Quote)
unfolding fault_of fault_from fault_at fault_at_end is_utf8 chars lines_of line_of part_at raw_at letter_at unescaped unescaped_behind field_value has_charset lib.Utf8.encode
cut_65 = refl

cut_66 : fault_of limits ((joined_lines (codes "msgid \"\"" ∷ codes "msgstr \"\"" ∷ codes "\"Content-Type: text/plain; charset=UTF-8\\n\"" ∷ [])) ++ codes "\"Pl") ≡ Some (4, kinds.Quote)
unfolding fault_of fault_from fault_at fault_at_end is_utf8 chars lines_of line_of part_at raw_at letter_at unescaped unescaped_behind field_value has_charset lib.Utf8.encode
cut_66 = refl

cut_67 : fault_of limits ((joined_lines (codes "msgid \"\"" ∷ codes "msgstr \"\"" ∷ codes "\"Content-Type: text/plain; charset=UTF-8\\n\"" ∷ [])) ++ codes "\"Plu") ≡ Some (4, kinds.Quote)
unfolding fault_of fault_from fault_at fault_at_end is_utf8 chars lines_of line_of part_at raw_at letter_at unescaped unescaped_behind field_value has_charset lib.Utf8.encode
cut_67 = refl

cut_68 : fault_of limits ((joined_lines (codes "msgid \"\"" ∷ codes "msgstr \"\"" ∷ codes "\"Content-Type: text/plain; charset=UTF-8\\n\"" ∷ [])) ++ codes "\"Plur") ≡ Some (4, kinds.Quote)
unfolding fault_of fault_from fault_at fault_at_end is_utf8 chars lines_of line_of part_at raw_at letter_at unescaped unescaped_behind field_value has_charset lib.Utf8.encode
cut_68 = refl

cut_69 : fault_of limits ((joined_lines (codes "msgid \"\"" ∷ codes "msgstr \"\"" ∷ codes "\"Content-Type: text/plain; charset=UTF-8\\n\"" ∷ [])) ++ codes "\"Plura") ≡ Some (4, kinds.Quote)
unfolding fault_of fault_from fault_at fault_at_end is_utf8 chars lines_of line_of part_at raw_at letter_at unescaped unescaped_behind field_value has_charset lib.Utf8.encode
cut_69 = refl

cut_70 : fault_of limits ((joined_lines (codes "msgid \"\"" ∷ codes "msgstr \"\"" ∷ codes "\"Content-Type: text/plain; charset=UTF-8\\n\"" ∷ [])) ++ codes "\"Plural") ≡ Some (4, kinds.Quote)
unfolding fault_of fault_from fault_at fault_at_end is_utf8 chars lines_of line_of part_at raw_at letter_at unescaped unescaped_behind field_value has_charset lib.Utf8.encode
cut_70 = refl

cut_71 : fault_of limits ((joined_lines (codes "msgid \"\"" ∷ codes "msgstr \"\"" ∷ codes "\"Content-Type: text/plain; charset=UTF-8\\n\"" ∷ [])) ++ codes "\"Plural-") ≡ Some (4, kinds.Quote)
unfolding fault_of fault_from fault_at fault_at_end is_utf8 chars lines_of line_of part_at raw_at letter_at unescaped unescaped_behind field_value has_charset lib.Utf8.encode
cut_71 = refl

cut_72 : fault_of limits ((joined_lines (codes "msgid \"\"" ∷ codes "msgstr \"\"" ∷ codes "\"Content-Type: text/plain; charset=UTF-8\\n\"" ∷ [])) ++ codes "\"Plural-F") ≡ Some (4, kinds.Quote)
unfolding fault_of fault_from fault_at fault_at_end is_utf8 chars lines_of line_of part_at raw_at letter_at unescaped unescaped_behind field_value has_charset lib.Utf8.encode
cut_72 = refl

cut_73 : fault_of limits ((joined_lines (codes "msgid \"\"" ∷ codes "msgstr \"\"" ∷ codes "\"Content-Type: text/plain; charset=UTF-8\\n\"" ∷ [])) ++ codes "\"Plural-Fo") ≡ Some (4, kinds.Quote)
unfolding fault_of fault_from fault_at fault_at_end is_utf8 chars lines_of line_of part_at raw_at letter_at unescaped unescaped_behind field_value has_charset lib.Utf8.encode
cut_73 = refl

cut_74 : fault_of limits ((joined_lines (codes "msgid \"\"" ∷ codes "msgstr \"\"" ∷ codes "\"Content-Type: text/plain; charset=UTF-8\\n\"" ∷ [])) ++ codes "\"Plural-For") ≡ Some (4, kinds.Quote)
unfolding fault_of fault_from fault_at fault_at_end is_utf8 chars lines_of line_of part_at raw_at letter_at unescaped unescaped_behind field_value has_charset lib.Utf8.encode
cut_74 = refl

cut_75 : fault_of limits ((joined_lines (codes "msgid \"\"" ∷ codes "msgstr \"\"" ∷ codes "\"Content-Type: text/plain; charset=UTF-8\\n\"" ∷ [])) ++ codes "\"Plural-Form") ≡ Some (4, kinds.Quote)
unfolding fault_of fault_from fault_at fault_at_end is_utf8 chars lines_of line_of part_at raw_at letter_at unescaped unescaped_behind field_value has_charset lib.Utf8.encode
cut_75 = refl

cut_76 : fault_of limits ((joined_lines (codes "msgid \"\"" ∷ codes "msgstr \"\"" ∷ codes "\"Content-Type: text/plain; charset=UTF-8\\n\"" ∷ [])) ++ codes "\"Plural-Forms") ≡ Some (4, kinds.Quote)
unfolding fault_of fault_from fault_at fault_at_end is_utf8 chars lines_of line_of part_at raw_at letter_at unescaped unescaped_behind field_value has_charset lib.Utf8.encode
cut_76 = refl

cut_77 : fault_of limits ((joined_lines (codes "msgid \"\"" ∷ codes "msgstr \"\"" ∷ codes "\"Content-Type: text/plain; charset=UTF-8\\n\"" ∷ [])) ++ codes "\"Plural-Forms:") ≡ Some (4, kinds.Quote)
unfolding fault_of fault_from fault_at fault_at_end is_utf8 chars lines_of line_of part_at raw_at letter_at unescaped unescaped_behind field_value has_charset lib.Utf8.encode
cut_77 = refl

cut_78 : fault_of limits ((joined_lines (codes "msgid \"\"" ∷ codes "msgstr \"\"" ∷ codes "\"Content-Type: text/plain; charset=UTF-8\\n\"" ∷ [])) ++ codes "\"Plural-Forms: ") ≡ Some (4, kinds.Quote)
unfolding fault_of fault_from fault_at fault_at_end is_utf8 chars lines_of line_of part_at raw_at letter_at unescaped unescaped_behind field_value has_charset lib.Utf8.encode
cut_78 = refl

cut_79 : fault_of limits ((joined_lines (codes "msgid \"\"" ∷ codes "msgstr \"\"" ∷ codes "\"Content-Type: text/plain; charset=UTF-8\\n\"" ∷ [])) ++ codes "\"Plural-Forms: n") ≡ Some (4, kinds.Quote)
unfolding fault_of fault_from fault_at fault_at_end is_utf8 chars lines_of line_of part_at raw_at letter_at unescaped unescaped_behind field_value has_charset lib.Utf8.encode
cut_79 = refl

cut_80 : fault_of limits ((joined_lines (codes "msgid \"\"" ∷ codes "msgstr \"\"" ∷ codes "\"Content-Type: text/plain; charset=UTF-8\\n\"" ∷ [])) ++ codes "\"Plural-Forms: np") ≡ Some (4, kinds.Quote)
unfolding fault_of fault_from fault_at fault_at_end is_utf8 chars lines_of line_of part_at raw_at letter_at unescaped unescaped_behind field_value has_charset lib.Utf8.encode
cut_80 = refl

cut_81 : fault_of limits ((joined_lines (codes "msgid \"\"" ∷ codes "msgstr \"\"" ∷ codes "\"Content-Type: text/plain; charset=UTF-8\\n\"" ∷ [])) ++ codes "\"Plural-Forms: npl") ≡ Some (4, kinds.Quote)
unfolding fault_of fault_from fault_at fault_at_end is_utf8 chars lines_of line_of part_at raw_at letter_at unescaped unescaped_behind field_value has_charset lib.Utf8.encode
cut_81 = refl

cut_82 : fault_of limits ((joined_lines (codes "msgid \"\"" ∷ codes "msgstr \"\"" ∷ codes "\"Content-Type: text/plain; charset=UTF-8\\n\"" ∷ [])) ++ codes "\"Plural-Forms: nplu") ≡ Some (4, kinds.Quote)
unfolding fault_of fault_from fault_at fault_at_end is_utf8 chars lines_of line_of part_at raw_at letter_at unescaped unescaped_behind field_value has_charset lib.Utf8.encode
cut_82 = refl

cut_83 : fault_of limits ((joined_lines (codes "msgid \"\"" ∷ codes "msgstr \"\"" ∷ codes "\"Content-Type: text/plain; charset=UTF-8\\n\"" ∷ [])) ++ codes "\"Plural-Forms: nplur") ≡ Some (4, kinds.Quote)
unfolding fault_of fault_from fault_at fault_at_end is_utf8 chars lines_of line_of part_at raw_at letter_at unescaped unescaped_behind field_value has_charset lib.Utf8.encode
cut_83 = refl

cut_84 : fault_of limits ((joined_lines (codes "msgid \"\"" ∷ codes "msgstr \"\"" ∷ codes "\"Content-Type: text/plain; charset=UTF-8\\n\"" ∷ [])) ++ codes "\"Plural-Forms: nplura") ≡ Some (4, kinds.Quote)
unfolding fault_of fault_from fault_at fault_at_end is_utf8 chars lines_of line_of part_at raw_at letter_at unescaped unescaped_behind field_value has_charset lib.Utf8.encode
cut_84 = refl

cut_85 : fault_of limits ((joined_lines (codes "msgid \"\"" ∷ codes "msgstr \"\"" ∷ codes "\"Content-Type: text/plain; charset=UTF-8\\n\"" ∷ [])) ++ codes "\"Plural-Forms: nplural") ≡ Some (4, kinds.Quote)
unfolding fault_of fault_from fault_at fault_at_end is_utf8 chars lines_of line_of part_at raw_at letter_at unescaped unescaped_behind field_value has_charset lib.Utf8.encode
cut_85 = refl

cut_86 : fault_of limits ((joined_lines (codes "msgid \"\"" ∷ codes "msgstr \"\"" ∷ codes "\"Content-Type: text/plain; charset=UTF-8\\n\"" ∷ [])) ++ codes "\"Plural-Forms: nplurals") ≡ Some (4, kinds.Quote)
unfolding fault_of fault_from fault_at fault_at_end is_utf8 chars lines_of line_of part_at raw_at letter_at unescaped unescaped_behind field_value has_charset lib.Utf8.encode
cut_86 = refl

cut_87 : fault_of limits ((joined_lines (codes "msgid \"\"" ∷ codes "msgstr \"\"" ∷ codes "\"Content-Type: text/plain; charset=UTF-8\\n\"" ∷ [])) ++ codes "\"Plural-Forms: nplurals=") ≡ Some (4, kinds.Quote)
unfolding fault_of fault_from fault_at fault_at_end is_utf8 chars lines_of line_of part_at raw_at letter_at unescaped unescaped_behind field_value has_charset lib.Utf8.encode
cut_87 = refl

cut_88 : fault_of limits ((joined_lines (codes "msgid \"\"" ∷ codes "msgstr \"\"" ∷ codes "\"Content-Type: text/plain; charset=UTF-8\\n\"" ∷ [])) ++ codes "\"Plural-Forms: nplurals=2") ≡ Some (4, kinds.Quote)
unfolding fault_of fault_from fault_at fault_at_end is_utf8 chars lines_of line_of part_at raw_at letter_at unescaped unescaped_behind field_value has_charset lib.Utf8.encode
cut_88 = refl

cut_89 : fault_of limits ((joined_lines (codes "msgid \"\"" ∷ codes "msgstr \"\"" ∷ codes "\"Content-Type: text/plain; charset=UTF-8\\n\"" ∷ [])) ++ codes "\"Plural-Forms: nplurals=2;") ≡ Some (4, kinds.Quote)
unfolding fault_of fault_from fault_at fault_at_end is_utf8 chars lines_of line_of part_at raw_at letter_at unescaped unescaped_behind field_value has_charset lib.Utf8.encode
cut_89 = refl

cut_90 : fault_of limits ((joined_lines (codes "msgid \"\"" ∷ codes "msgstr \"\"" ∷ codes "\"Content-Type: text/plain; charset=UTF-8\\n\"" ∷ [])) ++ codes "\"Plural-Forms: nplurals=2; ") ≡ Some (4, kinds.Quote)
unfolding fault_of fault_from fault_at fault_at_end is_utf8 chars lines_of line_of part_at raw_at letter_at unescaped unescaped_behind field_value has_charset lib.Utf8.encode
cut_90 = refl

cut_91 : fault_of limits ((joined_lines (codes "msgid \"\"" ∷ codes "msgstr \"\"" ∷ codes "\"Content-Type: text/plain; charset=UTF-8\\n\"" ∷ [])) ++ codes "\"Plural-Forms: nplurals=2; p") ≡ Some (4, kinds.Quote)
unfolding fault_of fault_from fault_at fault_at_end is_utf8 chars lines_of line_of part_at raw_at letter_at unescaped unescaped_behind field_value has_charset lib.Utf8.encode
cut_91 = refl

cut_92 : fault_of limits ((joined_lines (codes "msgid \"\"" ∷ codes "msgstr \"\"" ∷ codes "\"Content-Type: text/plain; charset=UTF-8\\n\"" ∷ [])) ++ codes "\"Plural-Forms: nplurals=2; pl") ≡ Some (4, kinds.Quote)
unfolding fault_of fault_from fault_at fault_at_end is_utf8 chars lines_of line_of part_at raw_at letter_at unescaped unescaped_behind field_value has_charset lib.Utf8.encode
cut_92 = refl

cut_93 : fault_of limits ((joined_lines (codes "msgid \"\"" ∷ codes "msgstr \"\"" ∷ codes "\"Content-Type: text/plain; charset=UTF-8\\n\"" ∷ [])) ++ codes "\"Plural-Forms: nplurals=2; plu") ≡ Some (4, kinds.Quote)
unfolding fault_of fault_from fault_at fault_at_end is_utf8 chars lines_of line_of part_at raw_at letter_at unescaped unescaped_behind field_value has_charset lib.Utf8.encode
cut_93 = refl

cut_94 : fault_of limits ((joined_lines (codes "msgid \"\"" ∷ codes "msgstr \"\"" ∷ codes "\"Content-Type: text/plain; charset=UTF-8\\n\"" ∷ [])) ++ codes "\"Plural-Forms: nplurals=2; plur") ≡ Some (4, kinds.Quote)
unfolding fault_of fault_from fault_at fault_at_end is_utf8 chars lines_of line_of part_at raw_at letter_at unescaped unescaped_behind field_value has_charset lib.Utf8.encode
cut_94 = refl

cut_95 : fault_of limits ((joined_lines (codes "msgid \"\"" ∷ codes "msgstr \"\"" ∷ codes "\"Content-Type: text/plain; charset=UTF-8\\n\"" ∷ [])) ++ codes "\"Plural-Forms: nplurals=2; plura") ≡ Some (4, kinds.Quote)
unfolding fault_of fault_from fault_at fault_at_end is_utf8 chars lines_of line_of part_at raw_at letter_at unescaped unescaped_behind field_value has_charset lib.Utf8.encode
cut_95 = refl

cut_96 : fault_of limits ((joined_lines (codes "msgid \"\"" ∷ codes "msgstr \"\"" ∷ codes "\"Content-Type: text/plain; charset=UTF-8\\n\"" ∷ [])) ++ codes "\"Plural-Forms: nplurals=2; plural") ≡ Some (4, kinds.Quote)
unfolding fault_of fault_from fault_at fault_at_end is_utf8 chars lines_of line_of part_at raw_at letter_at unescaped unescaped_behind field_value has_charset lib.Utf8.encode
cut_96 = refl

cut_97 : fault_of limits ((joined_lines (codes "msgid \"\"" ∷ codes "msgstr \"\"" ∷ codes "\"Content-Type: text/plain; charset=UTF-8\\n\"" ∷ [])) ++ codes "\"Plural-Forms: nplurals=2; plural=") ≡ Some (4, kinds.Quote)
unfolding fault_of fault_from fault_at fault_at_end is_utf8 chars lines_of line_of part_at raw_at letter_at unescaped unescaped_behind field_value has_charset lib.Utf8.encode
cut_97 = refl

cut_98 : fault_of limits ((joined_lines (codes "msgid \"\"" ∷ codes "msgstr \"\"" ∷ codes "\"Content-Type: text/plain; charset=UTF-8\\n\"" ∷ [])) ++ codes "\"Plural-Forms: nplurals=2; plural=n") ≡ Some (4, kinds.Quote)
unfolding fault_of fault_from fault_at fault_at_end is_utf8 chars lines_of line_of part_at raw_at letter_at unescaped unescaped_behind field_value has_charset lib.Utf8.encode
cut_98 = refl

cut_99 : fault_of limits ((joined_lines (codes "msgid \"\"" ∷ codes "msgstr \"\"" ∷ codes "\"Content-Type: text/plain; charset=UTF-8\\n\"" ∷ [])) ++ codes "\"Plural-Forms: nplurals=2; plural=n ") ≡ Some (4, kinds.Quote)
unfolding fault_of fault_from fault_at fault_at_end is_utf8 chars lines_of line_of part_at raw_at letter_at unescaped unescaped_behind field_value has_charset lib.Utf8.encode
cut_99 = refl

cut_100 : fault_of limits ((joined_lines (codes "msgid \"\"" ∷ codes "msgstr \"\"" ∷ codes "\"Content-Type: text/plain; charset=UTF-8\\n\"" ∷ [])) ++ codes "\"Plural-Forms: nplurals=2; plural=n !") ≡ Some (4, kinds.Quote)
unfolding fault_of fault_from fault_at fault_at_end is_utf8 chars lines_of line_of part_at raw_at letter_at unescaped unescaped_behind field_value has_charset lib.Utf8.encode
cut_100 = refl

cut_101 : fault_of limits ((joined_lines (codes "msgid \"\"" ∷ codes "msgstr \"\"" ∷ codes "\"Content-Type: text/plain; charset=UTF-8\\n\"" ∷ [])) ++ codes "\"Plural-Forms: nplurals=2; plural=n !=") ≡ Some (4, kinds.Quote)
unfolding fault_of fault_from fault_at fault_at_end is_utf8 chars lines_of line_of part_at raw_at letter_at unescaped unescaped_behind field_value has_charset lib.Utf8.encode
cut_101 = refl

cut_102 : fault_of limits ((joined_lines (codes "msgid \"\"" ∷ codes "msgstr \"\"" ∷ codes "\"Content-Type: text/plain; charset=UTF-8\\n\"" ∷ [])) ++ codes "\"Plural-Forms: nplurals=2; plural=n != ") ≡ Some (4, kinds.Quote)
unfolding fault_of fault_from fault_at fault_at_end is_utf8 chars lines_of line_of part_at raw_at letter_at unescaped unescaped_behind field_value has_charset lib.Utf8.encode
cut_102 = refl

cut_103 : fault_of limits ((joined_lines (codes "msgid \"\"" ∷ codes "msgstr \"\"" ∷ codes "\"Content-Type: text/plain; charset=UTF-8\\n\"" ∷ [])) ++ codes "\"Plural-Forms: nplurals=2; plural=n != 1") ≡ Some (4, kinds.Quote)
unfolding fault_of fault_from fault_at fault_at_end is_utf8 chars lines_of line_of part_at raw_at letter_at unescaped unescaped_behind field_value has_charset lib.Utf8.encode
cut_103 = refl

cut_104 : fault_of limits ((joined_lines (codes "msgid \"\"" ∷ codes "msgstr \"\"" ∷ codes "\"Content-Type: text/plain; charset=UTF-8\\n\"" ∷ [])) ++ codes "\"Plural-Forms: nplurals=2; plural=n != 1;") ≡ Some (4, kinds.Quote)
unfolding fault_of fault_from fault_at fault_at_end is_utf8 chars lines_of line_of part_at raw_at letter_at unescaped unescaped_behind field_value has_charset lib.Utf8.encode
cut_104 = refl

cut_106 : fault_of limits ((joined_lines (codes "msgid \"\"" ∷ codes "msgstr \"\"" ∷ codes "\"Content-Type: text/plain; charset=UTF-8\\n\"" ∷ [])) ++ codes "\"Plural-Forms: nplurals=2; plural=n != 1;\\n") ≡ Some (4, kinds.Quote)
unfolding fault_of fault_from fault_at fault_at_end is_utf8 chars lines_of line_of part_at raw_at letter_at unescaped unescaped_behind field_value has_charset lib.Utf8.encode
cut_106 = refl

cut_114 : fault_of limits ((joined_lines (codes "msgid \"\"" ∷ codes "msgstr \"\"" ∷ codes "\"Content-Type: text/plain; charset=UTF-8\\n\"" ∷ codes "\"Plural-Forms: nplurals=2; plural=n != 1;\\n\"" ∷ [] ∷ [])) ++ codes "msgid") ≡ Some (6, kinds.Quote)
unfolding fault_of fault_from fault_at fault_at_end is_utf8 chars lines_of line_of part_at raw_at letter_at unescaped unescaped_behind field_value has_charset lib.Utf8.encode
cut_114 = refl

cut_115 : fault_of limits ((joined_lines (codes "msgid \"\"" ∷ codes "msgstr \"\"" ∷ codes "\"Content-Type: text/plain; charset=UTF-8\\n\"" ∷ codes "\"Plural-Forms: nplurals=2; plural=n != 1;\\n\"" ∷ [] ∷ [])) ++ codes "msgid ") ≡ Some (6, kinds.Quote)
unfolding fault_of fault_from fault_at fault_at_end is_utf8 chars lines_of line_of part_at raw_at letter_at unescaped unescaped_behind field_value has_charset lib.Utf8.encode
cut_115 = refl

cut_116 : fault_of limits ((joined_lines (codes "msgid \"\"" ∷ codes "msgstr \"\"" ∷ codes "\"Content-Type: text/plain; charset=UTF-8\\n\"" ∷ codes "\"Plural-Forms: nplurals=2; plural=n != 1;\\n\"" ∷ [] ∷ [])) ++ codes "msgid \"") ≡ Some (6, kinds.Quote)
unfolding fault_of fault_from fault_at fault_at_end is_utf8 chars lines_of line_of part_at raw_at letter_at unescaped unescaped_behind field_value has_charset lib.Utf8.encode
cut_116 = refl

cut_117 : fault_of limits ((joined_lines (codes "msgid \"\"" ∷ codes "msgstr \"\"" ∷ codes "\"Content-Type: text/plain; charset=UTF-8\\n\"" ∷ codes "\"Plural-Forms: nplurals=2; plural=n != 1;\\n\"" ∷ [] ∷ [])) ++ codes "msgid \"H") ≡ Some (6, kinds.Quote)
unfolding fault_of fault_from fault_at fault_at_end is_utf8 chars lines_of line_of part_at raw_at letter_at unescaped unescaped_behind field_value has_charset lib.Utf8.encode
cut_117 = refl

cut_118 : fault_of limits ((joined_lines (codes "msgid \"\"" ∷ codes "msgstr \"\"" ∷ codes "\"Content-Type: text/plain; charset=UTF-8\\n\"" ∷ codes "\"Plural-Forms: nplurals=2; plural=n != 1;\\n\"" ∷ [] ∷ [])) ++ codes "msgid \"He") ≡ Some (6, kinds.Quote)
unfolding fault_of fault_from fault_at fault_at_end is_utf8 chars lines_of line_of part_at raw_at letter_at unescaped unescaped_behind field_value has_charset lib.Utf8.encode
cut_118 = refl

cut_119 : fault_of limits ((joined_lines (codes "msgid \"\"" ∷ codes "msgstr \"\"" ∷ codes "\"Content-Type: text/plain; charset=UTF-8\\n\"" ∷ codes "\"Plural-Forms: nplurals=2; plural=n != 1;\\n\"" ∷ [] ∷ [])) ++ codes "msgid \"Hel") ≡ Some (6, kinds.Quote)
unfolding fault_of fault_from fault_at fault_at_end is_utf8 chars lines_of line_of part_at raw_at letter_at unescaped unescaped_behind field_value has_charset lib.Utf8.encode
cut_119 = refl

cut_120 : fault_of limits ((joined_lines (codes "msgid \"\"" ∷ codes "msgstr \"\"" ∷ codes "\"Content-Type: text/plain; charset=UTF-8\\n\"" ∷ codes "\"Plural-Forms: nplurals=2; plural=n != 1;\\n\"" ∷ [] ∷ [])) ++ codes "msgid \"Hell") ≡ Some (6, kinds.Quote)
unfolding fault_of fault_from fault_at fault_at_end is_utf8 chars lines_of line_of part_at raw_at letter_at unescaped unescaped_behind field_value has_charset lib.Utf8.encode
cut_120 = refl

cut_121 : fault_of limits ((joined_lines (codes "msgid \"\"" ∷ codes "msgstr \"\"" ∷ codes "\"Content-Type: text/plain; charset=UTF-8\\n\"" ∷ codes "\"Plural-Forms: nplurals=2; plural=n != 1;\\n\"" ∷ [] ∷ [])) ++ codes "msgid \"Hello") ≡ Some (6, kinds.Quote)
unfolding fault_of fault_from fault_at fault_at_end is_utf8 chars lines_of line_of part_at raw_at letter_at unescaped unescaped_behind field_value has_charset lib.Utf8.encode
cut_121 = refl

cut_129 : fault_of limits ((joined_lines (codes "msgid \"\"" ∷ codes "msgstr \"\"" ∷ codes "\"Content-Type: text/plain; charset=UTF-8\\n\"" ∷ codes "\"Plural-Forms: nplurals=2; plural=n != 1;\\n\"" ∷ [] ∷ codes "msgid \"Hello\"" ∷ [])) ++ codes "msgstr") ≡ Some (7, kinds.Quote)
unfolding fault_of fault_from fault_at fault_at_end is_utf8 chars lines_of line_of part_at raw_at letter_at unescaped unescaped_behind field_value has_charset lib.Utf8.encode
cut_129 = refl

cut_130 : fault_of limits ((joined_lines (codes "msgid \"\"" ∷ codes "msgstr \"\"" ∷ codes "\"Content-Type: text/plain; charset=UTF-8\\n\"" ∷ codes "\"Plural-Forms: nplurals=2; plural=n != 1;\\n\"" ∷ [] ∷ codes "msgid \"Hello\"" ∷ [])) ++ codes "msgstr ") ≡ Some (7, kinds.Quote)
unfolding fault_of fault_from fault_at fault_at_end is_utf8 chars lines_of line_of part_at raw_at letter_at unescaped unescaped_behind field_value has_charset lib.Utf8.encode
cut_130 = refl

cut_131 : fault_of limits ((joined_lines (codes "msgid \"\"" ∷ codes "msgstr \"\"" ∷ codes "\"Content-Type: text/plain; charset=UTF-8\\n\"" ∷ codes "\"Plural-Forms: nplurals=2; plural=n != 1;\\n\"" ∷ [] ∷ codes "msgid \"Hello\"" ∷ [])) ++ codes "msgstr \"") ≡ Some (7, kinds.Quote)
unfolding fault_of fault_from fault_at fault_at_end is_utf8 chars lines_of line_of part_at raw_at letter_at unescaped unescaped_behind field_value has_charset lib.Utf8.encode
cut_131 = refl

cut_132 : fault_of limits ((joined_lines (codes "msgid \"\"" ∷ codes "msgstr \"\"" ∷ codes "\"Content-Type: text/plain; charset=UTF-8\\n\"" ∷ codes "\"Plural-Forms: nplurals=2; plural=n != 1;\\n\"" ∷ [] ∷ codes "msgid \"Hello\"" ∷ [])) ++ codes "msgstr \"H") ≡ Some (7, kinds.Quote)
unfolding fault_of fault_from fault_at fault_at_end is_utf8 chars lines_of line_of part_at raw_at letter_at unescaped unescaped_behind field_value has_charset lib.Utf8.encode
cut_132 = refl

cut_133 : fault_of limits ((joined_lines (codes "msgid \"\"" ∷ codes "msgstr \"\"" ∷ codes "\"Content-Type: text/plain; charset=UTF-8\\n\"" ∷ codes "\"Plural-Forms: nplurals=2; plural=n != 1;\\n\"" ∷ [] ∷ codes "msgid \"Hello\"" ∷ [])) ++ codes "msgstr \"Ha") ≡ Some (7, kinds.Quote)
unfolding fault_of fault_from fault_at fault_at_end is_utf8 chars lines_of line_of part_at raw_at letter_at unescaped unescaped_behind field_value has_charset lib.Utf8.encode
cut_133 = refl

cut_134 : fault_of limits ((joined_lines (codes "msgid \"\"" ∷ codes "msgstr \"\"" ∷ codes "\"Content-Type: text/plain; charset=UTF-8\\n\"" ∷ codes "\"Plural-Forms: nplurals=2; plural=n != 1;\\n\"" ∷ [] ∷ codes "msgid \"Hello\"" ∷ [])) ++ codes "msgstr \"Hal") ≡ Some (7, kinds.Quote)
unfolding fault_of fault_from fault_at fault_at_end is_utf8 chars lines_of line_of part_at raw_at letter_at unescaped unescaped_behind field_value has_charset lib.Utf8.encode
cut_134 = refl

cut_135 : fault_of limits ((joined_lines (codes "msgid \"\"" ∷ codes "msgstr \"\"" ∷ codes "\"Content-Type: text/plain; charset=UTF-8\\n\"" ∷ codes "\"Plural-Forms: nplurals=2; plural=n != 1;\\n\"" ∷ [] ∷ codes "msgid \"Hello\"" ∷ [])) ++ codes "msgstr \"Hall") ≡ Some (7, kinds.Quote)
unfolding fault_of fault_from fault_at fault_at_end is_utf8 chars lines_of line_of part_at raw_at letter_at unescaped unescaped_behind field_value has_charset lib.Utf8.encode
cut_135 = refl

cut_136 : fault_of limits ((joined_lines (codes "msgid \"\"" ∷ codes "msgstr \"\"" ∷ codes "\"Content-Type: text/plain; charset=UTF-8\\n\"" ∷ codes "\"Plural-Forms: nplurals=2; plural=n != 1;\\n\"" ∷ [] ∷ codes "msgid \"Hello\"" ∷ [])) ++ codes "msgstr \"Hallo") ≡ Some (7, kinds.Quote)
unfolding fault_of fault_from fault_at fault_at_end is_utf8 chars lines_of line_of part_at raw_at letter_at unescaped unescaped_behind field_value has_charset lib.Utf8.encode
cut_136 = refl

foreign_header_numbered : fault_of limits (joined_lines (codes "msgid \"\"" ∷ codes "msgstr \"Content-Type: text/plain; charset=ISO-8859-1\\n\"" ∷ codes "msgstr[1] \"x\"" ∷ [])) ≡ Some (3, kinds.Forms)
unfolding fault_of fault_from fault_at fault_at_end is_utf8 chars lines_of line_of part_at raw_at letter_at unescaped unescaped_behind field_value has_charset lib.Utf8.encode
foreign_header_numbered = refl

foreign_header_plural : fault_of limits (joined_lines (codes "msgid \"\"" ∷ codes "msgstr \"Content-Type: text/plain; charset=ISO-8859-1\\n\"" ∷ codes "msgid_plural \"x\"" ∷ [])) ≡ Some (3, kinds.Order)
unfolding fault_of fault_from fault_at fault_at_end is_utf8 chars lines_of line_of part_at raw_at letter_at unescaped unescaped_behind field_value has_charset lib.Utf8.encode
foreign_header_plural = refl

foreign_header_comment : fault_of limits (joined_lines (codes "msgid \"\"" ∷ codes "msgstr \"Content-Type: text/plain; charset=ISO-8859-1\\n\"" ∷ codes "#~| msgid \"x\"" ∷ [])) ≡ Some (3, kinds.Charset)
unfolding fault_of fault_from fault_at fault_at_end is_utf8 chars lines_of line_of part_at raw_at letter_at unescaped unescaped_behind field_value has_charset lib.Utf8.encode
foreign_header_comment = refl

foreign_header_other_piece : fault_of limits (joined_lines (codes "msgid \"\"" ∷ codes "msgstr \"Content-Type: text/plain; charset=ISO-8859-1\\n\"" ∷ codes "#~ \"x\"" ∷ [])) ≡ Some (3, kinds.Order)
unfolding fault_of fault_from fault_at fault_at_end is_utf8 chars lines_of line_of part_at raw_at letter_at unescaped unescaped_behind field_value has_charset lib.Utf8.encode
foreign_header_other_piece = refl

twice_and_other_piece : fault_of limits (joined_lines (codes "msgid \"b\"" ∷ codes "msgstr \"\"" ∷ codes "msgid \"b\"" ∷ codes "#~ \"t\"" ∷ [])) ≡ Some (4, kinds.Duplicate)
unfolding fault_of fault_from fault_at fault_at_end is_utf8 chars lines_of line_of part_at raw_at letter_at unescaped unescaped_behind field_value has_charset lib.Utf8.encode
twice_and_other_piece = refl

twice_and_own_piece : fault_of limits (joined_lines (codes "msgid \"b\"" ∷ codes "msgstr \"\"" ∷ codes "msgid \"b\"" ∷ codes "\"t\"" ∷ codes "msgstr \"\"" ∷ [])) ≡ None
unfolding fault_of fault_from fault_at fault_at_end is_utf8 chars lines_of line_of part_at raw_at letter_at unescaped unescaped_behind field_value has_charset lib.Utf8.encode
twice_and_own_piece = refl

long_other_previous_piece : fault_of small (joined_lines (codes "#| msgid \"p\"" ∷ codes "#~| \"ppppppppp\"" ∷ codes "msgid \"a\"" ∷ codes "msgstr \"\"" ∷ [])) ≡ Some (2, kinds.Order)
unfolding fault_of fault_from fault_at fault_at_end is_utf8 chars lines_of line_of part_at raw_at letter_at unescaped unescaped_behind field_value has_charset lib.Utf8.encode
long_other_previous_piece = refl

long_own_previous_piece : fault_of small (joined_lines (codes "#| msgid \"p\"" ∷ codes "#| \"pppppppp\"" ∷ codes "msgid \"a\"" ∷ codes "msgstr \"\"" ∷ [])) ≡ Some (2, kinds.Limit)
unfolding fault_of fault_from fault_at fault_at_end is_utf8 chars lines_of line_of part_at raw_at letter_at unescaped unescaped_behind field_value has_charset lib.Utf8.encode
long_own_previous_piece = refl

long_piece_behind_message : fault_of small (joined_lines (codes "#| msgid \"p\"" ∷ codes "msgid \"a\"" ∷ codes "#| \"pppppppp\"" ∷ [])) ≡ Some (3, kinds.Order)
unfolding fault_of fault_from fault_at fault_at_end is_utf8 chars lines_of line_of part_at raw_at letter_at unescaped unescaped_behind field_value has_charset lib.Utf8.encode
long_piece_behind_message = refl
