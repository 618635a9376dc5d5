-- The PO text of a language: the canonical text of its catalogue. This project's own rule, over the format of the GNU gettext
-- manual ("The Format of PO Files").
use Rattle.std.specs.Prelude.{Option, option_map}
use Rattle.std.specs.FinMap as maps
use Rattle.po_text.specs.Texts.{Text}
use Rattle.po_write.specs.Text.{text_of}
use Rattle.units.specs.Project.{Project}
use Rattle.office_specification.specs.ExportedEntries.{catalogue_of}

-- none where the language isn't there
abbrev pub export_text : Project → Text → Option Text
export_text project lang = option_map (λ header. text_of (catalogue_of project lang header)) (maps.get project.headers lang)
