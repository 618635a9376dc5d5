-- Texts that are known, read by the plain reader and written again, computed by the definitions.
use Rattle.std.proofs.Common.{◌≡◌, ℕ, List, [], ◌∷◌, ◌++◌, refl, Result, Ok, Err}
use Rattle.std.specs.Prelude.{codes, flat_map}
use Rattle.std.specs.Str.{is_utf8, chars}
use Rattle.po_lex.specs.Escapes.{raw_at, letter_at, unescaped, unescaped_behind}
use Rattle.po_lex.specs.Lines.{line_of, lines_of, part_at}
use Rattle.po_text.specs.declared.entry.Entry.{Entry}
use Rattle.po_text.specs.Header.{field_value, has_charset}
use Rattle.po_read.specs.Spells.{Limits, limits}
use Rattle.po_read.specs.Faults.{Fault, fault_of, fault_from, fault_at, fault_at_end}
use Rattle.po_read.specs.Plain.{reading_of, entries_of, entry_of}
use Rattle.po_write.specs.Text.{ended, text_of, entry_text, string_lines}

abbrev joined_lines : List (List ℕ) → List ℕ
joined_lines ls = flat_map ended ls

abbrev texts : Result (List Entry) Fault → Result (List ℕ) Fault
texts (Ok entries) = Ok (text_of entries)
texts (Err fault) = Err fault

-- the canonical text of a text without faults
unfoldable canon_of : Limits → List ℕ → Result (List ℕ) Fault
canon_of most bytes = texts (reading_of most bytes)

abbrev small : Limits
small = record { bytes = 1000; entries = 2; string = 8 }

empty_text : canon_of limits ([]) ≡ Ok ([])
unfolding canon_of reading_of fault_of fault_from fault_at fault_at_end is_utf8 chars lines_of line_of part_at raw_at letter_at unescaped unescaped_behind entries_of entry_of field_value has_charset text_of entry_text string_lines lib.Utf8.encode
empty_text = refl

two_contexts : canon_of limits (joined_lines (codes "msgid \"x\"" ∷ codes "msgstr \"\"" ∷ [] ∷ codes "msgctxt \"\"" ∷ codes "msgid \"x\"" ∷ codes "msgstr \"\"" ∷ [])) ≡ Ok (joined_lines (codes "msgid \"x\"" ∷ codes "msgstr \"\"" ∷ [] ∷ codes "msgctxt \"\"" ∷ codes "msgid \"x\"" ∷ codes "msgstr \"\"" ∷ []))
unfolding canon_of reading_of fault_of fault_from fault_at fault_at_end is_utf8 chars lines_of line_of part_at raw_at letter_at unescaped unescaped_behind entries_of entry_of field_value has_charset text_of entry_text string_lines lib.Utf8.encode
two_contexts = refl

two_pieces : canon_of limits (joined_lines (codes "msgid \"x\"" ∷ codes "msgstr \"Hello\\nWorld\\n\"" ∷ [])) ≡ Ok (joined_lines (codes "msgid \"x\"" ∷ codes "msgstr \"\"" ∷ codes "\"Hello\\n\"" ∷ codes "\"World\\n\"" ∷ []))
unfolding canon_of reading_of fault_of fault_from fault_at fault_at_end is_utf8 chars lines_of line_of part_at raw_at letter_at unescaped unescaped_behind entries_of entry_of field_value has_charset text_of entry_text string_lines lib.Utf8.encode
two_pieces = refl

one_piece : canon_of limits (joined_lines (codes "msgid \"x\"" ∷ codes "msgstr \"Hello\\n\"" ∷ [])) ≡ Ok (joined_lines (codes "msgid \"x\"" ∷ codes "msgstr \"Hello\\n\"" ∷ []))
unfolding canon_of reading_of fault_of fault_from fault_at fault_at_end is_utf8 chars lines_of line_of part_at raw_at letter_at unescaped unescaped_behind entries_of entry_of field_value has_charset text_of entry_text string_lines lib.Utf8.encode
one_piece = refl

in_order : canon_of limits (joined_lines (codes "#, c-format, fuzzy" ∷ codes "#: a.c:1" ∷ codes "# note" ∷ codes "msgid \"a\"" ∷ codes "\"b\"" ∷ codes "msgstr \"\"" ∷ codes "\"c\"" ∷ [])) ≡ Ok (joined_lines (codes "# note" ∷ codes "#: a.c:1" ∷ codes "#, fuzzy, c-format" ∷ codes "msgid \"ab\"" ∷ codes "msgstr \"c\"" ∷ []))
unfolding canon_of reading_of fault_of fault_from fault_at fault_at_end is_utf8 chars lines_of line_of part_at raw_at letter_at unescaped unescaped_behind entries_of entry_of field_value has_charset text_of entry_text string_lines lib.Utf8.encode
in_order = refl

long_vector : canon_of limits (joined_lines (codes "msgid \"\"" ∷ codes "msgstr \"\"" ∷ codes "\"Content-Type: text/plain; charset=UTF-8\\n\"" ∷ codes "\"Plural-Forms: nplurals=2; plural=n != 1;\\n\"" ∷ [] ∷ codes "msgid \"Hello\"" ∷ codes "msgstr \"Hallo\"" ∷ [])) ≡ Ok (joined_lines (codes "msgid \"\"" ∷ codes "msgstr \"\"" ∷ codes "\"Content-Type: text/plain; charset=UTF-8\\n\"" ∷ codes "\"Plural-Forms: nplurals=2; plural=n != 1;\\n\"" ∷ [] ∷ codes "msgid \"Hello\"" ∷ codes "msgstr \"Hallo\"" ∷ []))
unfolding canon_of reading_of fault_of fault_from fault_at fault_at_end is_utf8 chars lines_of line_of part_at raw_at letter_at unescaped unescaped_behind entries_of entry_of field_value has_charset text_of entry_text string_lines lib.Utf8.encode
long_vector = refl

changed_plural : canon_of limits (joined_lines (codes "#, fuzzy" ∷ codes "#| msgid \"%d file\"" ∷ codes "#| msgid_plural \"%d files\"" ∷ codes "msgid \"%d file\"" ∷ codes "msgid_plural \"%d pieces\"" ∷ codes "msgstr[0] \"%d Datei\"" ∷ codes "msgstr[1] \"%d Dateien\"" ∷ [])) ≡ Ok (joined_lines (codes "#, fuzzy" ∷ codes "#| msgid \"%d file\"" ∷ codes "#| msgid_plural \"%d files\"" ∷ codes "msgid \"%d file\"" ∷ codes "msgid_plural \"%d pieces\"" ∷ codes "msgstr[0] \"%d Datei\"" ∷ codes "msgstr[1] \"%d Dateien\"" ∷ []))
unfolding canon_of reading_of fault_of fault_from fault_at fault_at_end is_utf8 chars lines_of line_of part_at raw_at letter_at unescaped unescaped_behind entries_of entry_of field_value has_charset text_of entry_text string_lines lib.Utf8.encode
changed_plural = refl

french : canon_of limits (joined_lines (codes "msgid \"\"" ∷ codes "msgstr \"Plural-Forms: nplurals=2; plural=n>1;\\n\"" ∷ [] ∷ codes "msgid \"Hello\"" ∷ codes "msgstr \"Bonjour\"" ∷ [] ∷ codes "#~ msgid \"Old\"" ∷ codes "#~ msgstr \"Vieux\"" ∷ [])) ≡ Ok (joined_lines (codes "msgid \"\"" ∷ codes "msgstr \"Plural-Forms: nplurals=2; plural=n>1;\\n\"" ∷ [] ∷ codes "msgid \"Hello\"" ∷ codes "msgstr \"Bonjour\"" ∷ [] ∷ codes "#~ msgid \"Old\"" ∷ codes "#~ msgstr \"Vieux\"" ∷ []))
unfolding canon_of reading_of fault_of fault_from fault_at fault_at_end is_utf8 chars lines_of line_of part_at raw_at letter_at unescaped unescaped_behind entries_of entry_of field_value has_charset text_of entry_text string_lines lib.Utf8.encode
french = refl

header_lower : canon_of limits (joined_lines (codes "msgid \"\"" ∷ codes "msgstr \"Content-Type: text/plain; charset= utf-8 ;x\\n\"" ∷ [])) ≡ Ok (joined_lines (codes "msgid \"\"" ∷ codes "msgstr \"Content-Type: text/plain; charset= utf-8 ;x\\n\"" ∷ []))
unfolding canon_of reading_of fault_of fault_from fault_at fault_at_end is_utf8 chars lines_of line_of part_at raw_at letter_at unescaped unescaped_behind entries_of entry_of field_value has_charset text_of entry_text string_lines lib.Utf8.encode
header_lower = refl

header_CHARSET : canon_of limits (joined_lines (codes "msgid \"\"" ∷ codes "msgstr \"Content-Type: charset=CHARSET\\n\"" ∷ [])) ≡ Ok (joined_lines (codes "msgid \"\"" ∷ codes "msgstr \"Content-Type: charset=CHARSET\\n\"" ∷ []))
unfolding canon_of reading_of fault_of fault_from fault_at fault_at_end is_utf8 chars lines_of line_of part_at raw_at letter_at unescaped unescaped_behind entries_of entry_of field_value has_charset text_of entry_text string_lines lib.Utf8.encode
header_CHARSET = refl

header_first_counts : canon_of limits (joined_lines (codes "msgid \"\"" ∷ codes "msgstr \"\"" ∷ codes "\"Content-Type: charset=UTF-8\\n\"" ∷ codes "\"Content-Type: charset=x\\n\"" ∷ [])) ≡ Ok (joined_lines (codes "msgid \"\"" ∷ codes "msgstr \"\"" ∷ codes "\"Content-Type: charset=UTF-8\\n\"" ∷ codes "\"Content-Type: charset=x\\n\"" ∷ []))
unfolding canon_of reading_of fault_of fault_from fault_at fault_at_end is_utf8 chars lines_of line_of part_at raw_at letter_at unescaped unescaped_behind entries_of entry_of field_value has_charset text_of entry_text string_lines lib.Utf8.encode
header_first_counts = refl

header_no_colon : canon_of limits (joined_lines (codes "msgid \"\"" ∷ codes "msgstr \"no field here\"" ∷ [])) ≡ Ok (joined_lines (codes "msgid \"\"" ∷ codes "msgstr \"no field here\"" ∷ []))
unfolding canon_of reading_of fault_of fault_from fault_at fault_at_end is_utf8 chars lines_of line_of part_at raw_at letter_at unescaped unescaped_behind entries_of entry_of field_value has_charset text_of entry_text string_lines lib.Utf8.encode
header_no_colon = refl

not_yet_duplicate : canon_of limits (joined_lines (codes "msgid \"x\"" ∷ codes "msgstr \"\"" ∷ codes "msgid \"x\"" ∷ [] ∷ codes "\"y\"" ∷ codes "msgstr \"\"" ∷ [])) ≡ Ok (joined_lines (codes "msgid \"x\"" ∷ codes "msgstr \"\"" ∷ [] ∷ codes "msgid \"xy\"" ∷ codes "msgstr \"\"" ∷ []))
unfolding canon_of reading_of fault_of fault_from fault_at fault_at_end is_utf8 chars lines_of line_of part_at raw_at letter_at unescaped unescaped_behind entries_of entry_of field_value has_charset text_of entry_text string_lines lib.Utf8.encode
not_yet_duplicate = refl

piece_after_blank : canon_of limits (joined_lines (codes "msgid \"a\"" ∷ [] ∷ codes "\"b\"" ∷ codes "msgstr \"\"" ∷ [])) ≡ Ok (joined_lines (codes "msgid \"ab\"" ∷ codes "msgstr \"\"" ∷ []))
unfolding canon_of reading_of fault_of fault_from fault_at fault_at_end is_utf8 chars lines_of line_of part_at raw_at letter_at unescaped unescaped_behind entries_of entry_of field_value has_charset text_of entry_text string_lines lib.Utf8.encode
piece_after_blank = refl

previous_parted : canon_of limits (joined_lines (codes "#| msgid \"a\"" ∷ codes "# c" ∷ codes "#| \"b\"" ∷ codes "msgid \"x\"" ∷ codes "msgstr \"\"" ∷ [])) ≡ Ok (joined_lines (codes "# c" ∷ codes "#| msgid \"ab\"" ∷ codes "msgid \"x\"" ∷ codes "msgstr \"\"" ∷ []))
unfolding canon_of reading_of fault_of fault_from fault_at fault_at_end is_utf8 chars lines_of line_of part_at raw_at letter_at unescaped unescaped_behind entries_of entry_of field_value has_charset text_of entry_text string_lines lib.Utf8.encode
previous_parted = refl

flags_twice : canon_of limits (joined_lines (codes "#, a, fuzzy" ∷ codes "#,b , a" ∷ codes "msgid \"x\"" ∷ codes "msgstr \"\"" ∷ [])) ≡ Ok (joined_lines (codes "#, fuzzy, a, b" ∷ codes "msgid \"x\"" ∷ codes "msgstr \"\"" ∷ []))
unfolding canon_of reading_of fault_of fault_from fault_at fault_at_end is_utf8 chars lines_of line_of part_at raw_at letter_at unescaped unescaped_behind entries_of entry_of field_value has_charset text_of entry_text string_lines lib.Utf8.encode
flags_twice = refl

comment_forms : canon_of limits (joined_lines (codes "#a" ∷ codes "#" ∷ codes "#  b" ∷ codes "#.c" ∷ codes "#. d" ∷ codes "#." ∷ codes "#:" ∷ codes "#:  e" ∷ codes "msgid \"x\"" ∷ codes "msgstr \"\"" ∷ [])) ≡ Ok (joined_lines (codes "# a" ∷ codes "#" ∷ codes "#  b" ∷ codes "#. c" ∷ codes "#. d" ∷ codes "#." ∷ codes "#:" ∷ codes "#:  e" ∷ codes "msgid \"x\"" ∷ codes "msgstr \"\"" ∷ []))
unfolding canon_of reading_of fault_of fault_from fault_at fault_at_end is_utf8 chars lines_of line_of part_at raw_at letter_at unescaped unescaped_behind entries_of entry_of field_value has_charset text_of entry_text string_lines lib.Utf8.encode
comment_forms = refl

all_escapes : canon_of limits (joined_lines (codes "msgid \"\\t\\r\\a\\b\\f\\v\\\"\\\\\"" ∷ codes "msgstr \"\"" ∷ [])) ≡ Ok (joined_lines (codes "msgid \"\\t\\r\\a\\b\\f\\v\\\"\\\\\"" ∷ codes "msgstr \"\"" ∷ []))
unfolding canon_of reading_of fault_of fault_from fault_at fault_at_end is_utf8 chars lines_of line_of part_at raw_at letter_at unescaped unescaped_behind entries_of entry_of field_value has_charset text_of entry_text string_lines lib.Utf8.encode
all_escapes = refl

obsolete_entry : canon_of limits (joined_lines (codes "#~| msgid \"o\"" ∷ codes "#~ msgctxt \"c\"" ∷ codes "#~ msgid \"a\"" ∷ codes "#~ \"b\"" ∷ codes "#~ msgid_plural \"p\"" ∷ codes "#~ msgstr[0] \"x\\ny\"" ∷ codes "#~ msgstr[1] \"\"" ∷ [])) ≡ Ok (joined_lines (codes "#~| msgid \"o\"" ∷ codes "#~ msgctxt \"c\"" ∷ codes "#~ msgid \"ab\"" ∷ codes "#~ msgid_plural \"p\"" ∷ codes "#~ msgstr[0] \"\"" ∷ codes "#~ \"x\\n\"" ∷ codes "#~ \"y\"" ∷ codes "#~ msgstr[1] \"\"" ∷ []))
unfolding canon_of reading_of fault_of fault_from fault_at fault_at_end is_utf8 chars lines_of line_of part_at raw_at letter_at unescaped unescaped_behind entries_of entry_of field_value has_charset text_of entry_text string_lines lib.Utf8.encode
obsolete_entry = refl

longest_string : canon_of small (joined_lines (codes "msgid \"a\"" ∷ codes "msgstr \"aaaaaaaa\"" ∷ [])) ≡ Ok (joined_lines (codes "msgid \"a\"" ∷ codes "msgstr \"aaaaaaaa\"" ∷ []))
unfolding canon_of reading_of fault_of fault_from fault_at fault_at_end is_utf8 chars lines_of line_of part_at raw_at letter_at unescaped unescaped_behind entries_of entry_of field_value has_charset text_of entry_text string_lines lib.Utf8.encode
longest_string = refl

cut_0 : canon_of limits ([]) ≡ Ok ([])
unfolding canon_of reading_of fault_of fault_from fault_at fault_at_end is_utf8 chars lines_of line_of part_at raw_at letter_at unescaped unescaped_behind entries_of entry_of field_value has_charset text_of entry_text string_lines lib.Utf8.encode
cut_0 = refl

cut_18 : canon_of limits ((joined_lines (codes "msgid \"\"" ∷ [])) ++ codes "msgstr \"\"") ≡ Ok (joined_lines (codes "msgid \"\"" ∷ codes "msgstr \"\"" ∷ []))
unfolding canon_of reading_of fault_of fault_from fault_at fault_at_end is_utf8 chars lines_of line_of part_at raw_at letter_at unescaped unescaped_behind entries_of entry_of field_value has_charset text_of entry_text string_lines lib.Utf8.encode
cut_18 = refl

cut_19 : canon_of limits (joined_lines (codes "msgid \"\"" ∷ codes "msgstr \"\"" ∷ [])) ≡ Ok (joined_lines (codes "msgid \"\"" ∷ codes "msgstr \"\"" ∷ []))
unfolding canon_of reading_of fault_of fault_from fault_at fault_at_end is_utf8 chars lines_of line_of part_at raw_at letter_at unescaped unescaped_behind entries_of entry_of field_value has_charset text_of entry_text string_lines lib.Utf8.encode
cut_19 = refl

cut_62 : canon_of limits ((joined_lines (codes "msgid \"\"" ∷ codes "msgstr \"\"" ∷ [])) ++ codes "\"Content-Type: text/plain; charset=UTF-8\\n\"") ≡ Ok (joined_lines (codes "msgid \"\"" ∷ codes "msgstr \"Content-Type: text/plain; charset=UTF-8\\n\"" ∷ []))
unfolding canon_of reading_of fault_of fault_from fault_at fault_at_end is_utf8 chars lines_of line_of part_at raw_at letter_at unescaped unescaped_behind entries_of entry_of field_value has_charset text_of entry_text string_lines lib.Utf8.encode
cut_62 = refl

cut_63 : canon_of limits (joined_lines (codes "msgid \"\"" ∷ codes "msgstr \"\"" ∷ codes "\"Content-Type: text/plain; charset=UTF-8\\n\"" ∷ [])) ≡ Ok (joined_lines (codes "msgid \"\"" ∷ codes "msgstr \"Content-Type: text/plain; charset=UTF-8\\n\"" ∷ []))
unfolding canon_of reading_of fault_of fault_from fault_at fault_at_end is_utf8 chars lines_of line_of part_at raw_at letter_at unescaped unescaped_behind entries_of entry_of field_value has_charset text_of entry_text string_lines lib.Utf8.encode
cut_63 = refl

cut_107 : canon_of limits ((joined_lines (codes "msgid \"\"" ∷ codes "msgstr \"\"" ∷ codes "\"Content-Type: text/plain; charset=UTF-8\\n\"" ∷ [])) ++ codes "\"Plural-Forms: nplurals=2; plural=n != 1;\\n\"") ≡ Ok (joined_lines (codes "msgid \"\"" ∷ codes "msgstr \"\"" ∷ codes "\"Content-Type: text/plain; charset=UTF-8\\n\"" ∷ codes "\"Plural-Forms: nplurals=2; plural=n != 1;\\n\"" ∷ []))
unfolding canon_of reading_of fault_of fault_from fault_at fault_at_end is_utf8 chars lines_of line_of part_at raw_at letter_at unescaped unescaped_behind entries_of entry_of field_value has_charset text_of entry_text string_lines lib.Utf8.encode
cut_107 = refl

cut_108 : canon_of limits (joined_lines (codes "msgid \"\"" ∷ codes "msgstr \"\"" ∷ codes "\"Content-Type: text/plain; charset=UTF-8\\n\"" ∷ codes "\"Plural-Forms: nplurals=2; plural=n != 1;\\n\"" ∷ [])) ≡ Ok (joined_lines (codes "msgid \"\"" ∷ codes "msgstr \"\"" ∷ codes "\"Content-Type: text/plain; charset=UTF-8\\n\"" ∷ codes "\"Plural-Forms: nplurals=2; plural=n != 1;\\n\"" ∷ []))
unfolding canon_of reading_of fault_of fault_from fault_at fault_at_end is_utf8 chars lines_of line_of part_at raw_at letter_at unescaped unescaped_behind entries_of entry_of field_value has_charset text_of entry_text string_lines lib.Utf8.encode
cut_108 = refl

cut_109 : canon_of limits (joined_lines (codes "msgid \"\"" ∷ codes "msgstr \"\"" ∷ codes "\"Content-Type: text/plain; charset=UTF-8\\n\"" ∷ codes "\"Plural-Forms: nplurals=2; plural=n != 1;\\n\"" ∷ [] ∷ [])) ≡ Ok (joined_lines (codes "msgid \"\"" ∷ codes "msgstr \"\"" ∷ codes "\"Content-Type: text/plain; charset=UTF-8\\n\"" ∷ codes "\"Plural-Forms: nplurals=2; plural=n != 1;\\n\"" ∷ []))
unfolding canon_of reading_of fault_of fault_from fault_at fault_at_end is_utf8 chars lines_of line_of part_at raw_at letter_at unescaped unescaped_behind entries_of entry_of field_value has_charset text_of entry_text string_lines lib.Utf8.encode
cut_109 = refl

cut_137 : canon_of limits ((joined_lines (codes "msgid \"\"" ∷ codes "msgstr \"\"" ∷ codes "\"Content-Type: text/plain; charset=UTF-8\\n\"" ∷ codes "\"Plural-Forms: nplurals=2; plural=n != 1;\\n\"" ∷ [] ∷ codes "msgid \"Hello\"" ∷ [])) ++ codes "msgstr \"Hallo\"") ≡ Ok (joined_lines (codes "msgid \"\"" ∷ codes "msgstr \"\"" ∷ codes "\"Content-Type: text/plain; charset=UTF-8\\n\"" ∷ codes "\"Plural-Forms: nplurals=2; plural=n != 1;\\n\"" ∷ [] ∷ codes "msgid \"Hello\"" ∷ codes "msgstr \"Hallo\"" ∷ []))
unfolding canon_of reading_of fault_of fault_from fault_at fault_at_end is_utf8 chars lines_of line_of part_at raw_at letter_at unescaped unescaped_behind entries_of entry_of field_value has_charset text_of entry_text string_lines lib.Utf8.encode
cut_137 = refl

cut_138 : canon_of limits (joined_lines (codes "msgid \"\"" ∷ codes "msgstr \"\"" ∷ codes "\"Content-Type: text/plain; charset=UTF-8\\n\"" ∷ codes "\"Plural-Forms: nplurals=2; plural=n != 1;\\n\"" ∷ [] ∷ codes "msgid \"Hello\"" ∷ codes "msgstr \"Hallo\"" ∷ [])) ≡ Ok (joined_lines (codes "msgid \"\"" ∷ codes "msgstr \"\"" ∷ codes "\"Content-Type: text/plain; charset=UTF-8\\n\"" ∷ codes "\"Plural-Forms: nplurals=2; plural=n != 1;\\n\"" ∷ [] ∷ codes "msgid \"Hello\"" ∷ codes "msgstr \"Hallo\"" ∷ []))
unfolding canon_of reading_of fault_of fault_from fault_at fault_at_end is_utf8 chars lines_of line_of part_at raw_at letter_at unescaped unescaped_behind entries_of entry_of field_value has_charset text_of entry_text string_lines lib.Utf8.encode
cut_138 = refl
