-- A plain slow reader, which computes the catalogue of a text without faults: this project's own rule. Laws tie it to what a text spells.
use Rattle.std.specs.Prelude.{ℕ, List, [], ◌∷◌, ◌++◌, true, map, Option, Some, None, option_map, Result, Ok, Err, flat_map, ◌==◌, if◌then◌else◌}
use Rattle.std.specs.List.{find, filter, filter_map}
use Rattle.po_lex.specs.Lines.{Line, is_form, lines_of}
use Rattle.po_text.specs.Entries.{Keyed}
use Rattle.po_text.specs.Texts.{Text, is_empty}
use Rattle.po_text.specs.declared.entry.Entry.{Entry}
use Rattle.po_read.specs.Spells.{translator_text, extracted_text, reference_text, flag_items, flags_kept, Limits}
use Rattle.po_read.specs.Faults.{Lines, strings_in, previous_in, key_at, has_mark, rank, lines_behind, Fault, fault_of}

-- the first string of the keyword with this rank
abbrev pub string_with : ℕ → List Keyed → Option Text
string_with place strings = option_map (λ string. string.1) (find (λ string. rank (Some string.0) == place) strings)

abbrev pub forms_in : List Keyed → List Text
forms_in strings = map (λ string. string.1) (filter (λ string. is_form (Some string.0)) strings)

-- the entry that these lines spell, if they spell one
unfoldable pub entry_of : List Line → Entry
entry_of lines = record {
  translator = filter_map translator_text lines;
  extracted = filter_map extracted_text lines;
  references = filter_map reference_text lines;
  flags = flags_kept (flat_map flag_items lines);
  previous = record { ctx = string_with 1 (previous_in lines); id = string_with 2 (previous_in lines); plural = string_with 3 (previous_in lines) };
  ctx = (key_at lines).0;
  id = (key_at lines).1;
  plural = string_with 3 (strings_in lines);
  forms = forms_in (strings_in lines);
  obsolete = has_mark true lines;
}

abbrev pub groups_of : Lines → List (List Line)
groups_of lines = if is_empty lines.current then lines.whole else lines.whole ++ lines.current ∷ []

unfoldable pub entries_of : List ℕ → List Entry
entries_of bytes = map entry_of (groups_of (lines_behind (lines_of bytes)))

-- the catalogue or the first fault
abbrev pub unless : Option Fault → List Entry → Result (List Entry) Fault
unless (Some fault) entries = Err fault
unless None entries = Ok entries

unfoldable pub reading_of : Limits → List ℕ → Result (List Entry) Fault
reading_of most bytes = unless (fault_of most bytes) (entries_of bytes)
