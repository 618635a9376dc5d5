-- The front of a list of units that belongs to a language. This project's own words, for inner functions.
use Rattle.std.specs.Prelude.{List, [], ◌∷◌, if◌then◌else◌}
use Rattle.po_text.specs.Texts.{Text, text_eq}
use Rattle.units.specs.declared.unit.Unit.{Unit}
use Rattle.office_maps.specs.declared.place.Place.{Place}

-- the units up to the first that is another language's
abbrev pub taken : Text → List (Place × Unit) → List Unit
taken lang [] = []
taken lang (e ∷ es) = if text_eq lang e.0.lang then e.1 ∷ taken lang es else []
