-- The template that a PO text gives. Entries, flags and the header entry are those of the GNU gettext manual, "The Format of PO
-- Files"; what a template keeps of them is this project's own rule.
use Rattle.std.specs.Prelude.{List, [], ◌∷◌, map, filter, Bool, not, ◌&&◌}
use Rattle.po_text.specs.declared.entry.Entry.{Entry}
use Rattle.po_text.specs.Entries.{is_header}
use Rattle.po_text.specs.Texts.{Text, text_eq}
use Rattle.po_text.specs.Valid.{fuzzy}
use Rattle.units.specs.Units.{has_flag, no_previous}

abbrev pub is_fuzzy : Entry → Bool
is_fuzzy entry = has_flag entry.flags fuzzy

abbrev pub without_fuzzy : List Text → List Text
without_fuzzy flags = filter (λ flag. not (text_eq fuzzy flag)) flags

-- without translator comments, previous strings and the flag `fuzzy`; one empty form stands for its forms
abbrev pub as_template : Entry → Entry
as_template entry = record entry {
  translator = [];
  flags = without_fuzzy entry.flags;
  previous = no_previous;
  forms = [] ∷ [];
}

-- neither the header nor obsolete
abbrev pub is_message : Entry → Bool
is_message entry = not entry.obsolete && not (is_header entry)

-- the messages of a text, in their order
abbrev pub template_of : List Entry → List Entry
template_of entries = map as_template (filter is_message entries)
