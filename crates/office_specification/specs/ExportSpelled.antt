-- When a language's exported text spells its catalogue: the relation of the GNU gettext manual ("The Format of PO Files") between
-- a text and the catalogue that it spells. Which entries the catalogue has is this project's own rule.
use Rattle.std.specs.Prelude.{◌≡◌, ℕ, List, Option, option_map, IsSomeAnd}
use Rattle.std.specs.FinMap as maps
use Rattle.po_read.specs.Spells.{Spells}
use Rattle.po_text.specs.Texts.{Text}
use Rattle.po_text.specs.declared.entry.Entry.{Entry}
use Rattle.units.specs.Project.{Project}
use Rattle.byte_streams.specs.Streams.{Took}
use Rattle.office_specification.specs.ExportedEntries.{catalogue_of}

-- What a sink took spells the catalogue, and no other.
pub record TookSpelled (old new : Option (List ℕ)) (catalogue : List Entry) : Type 0 where
  pub text : List ℕ
  pub taken : Took old new text
  pub spelled : Spells text catalogue
  pub only : (other : List Entry) → Spells text other → other ≡ catalogue

-- the same of a language's catalogue, which is there
abbrev pub TookCatalogue : Project → Text → Option (List ℕ) → Option (List ℕ) → Type 0
TookCatalogue project lang old new = IsSomeAnd (option_map (catalogue_of project lang) (maps.get project.headers lang)) (TookSpelled old new)
