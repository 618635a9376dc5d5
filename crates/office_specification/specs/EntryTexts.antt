-- The pieces of a language's text, as they are sent: this project's own rule.
use Rattle.std.specs.Prelude.{ℕ, List, [], ◌∷◌, Bool, not, ◌&&◌, if◌then◌else◌}
use Rattle.std.specs.Option.{option_map_or}
use Rattle.std.specs.FinMap as maps
use Rattle.po_text.specs.declared.entry.Entry.{Entry}
use Rattle.po_text.specs.Texts.{Text, text_eq}
use Rattle.po_write.specs.Text.{entry_text}
use Rattle.units.specs.Units.{key_of, all_empty}
use Rattle.units.specs.Project.{Project}
use Rattle.units.specs.declared.unit.Unit.{Unit}
use Rattle.office_specification.specs.ExportedEntries.{translated, obsolete_entry}

-- an entry behind a blank line
abbrev pub behind : Entry → List ℕ
behind entry = 10 ∷ entry_text entry

-- a template's entry with its unit, if it is there
abbrev pub with_its_unit : Project → Text → Entry → Entry
with_its_unit project lang entry = option_map_or (translated entry) (maps.get project.units (lang, key_of entry)) entry

-- an obsolete unit of the language with a nonempty form
abbrev pub is_exported_obsolete : Text → Text → Unit → Bool
is_exported_obsolete lang own unit = text_eq lang own && (unit.obsolete && not (all_empty unit.forms))

-- the piece of a unit of any language
abbrev pub unit_piece : Text → Text → Unit → List ℕ
unit_piece lang own unit = if is_exported_obsolete lang own unit then behind (obsolete_entry unit) else []
