-- What a unit counts, by what is read of it. Only private clauses and proofs cite this file.
use Rattle.std.specs.Prelude.{⊤, ◌⊎◌, ◌≡◌, ◌++◌, List, [], ◌∷◌, Bool, Option, Some, None, length}
use Rattle.std.specs.FinMap as maps
use Rattle.sqlite.specs.Effect.{Database}
use Rattle.po_text.specs.declared.entry.Entry.{Entry}
use Rattle.po_text.specs.Texts.{Text}
use Rattle.units.specs.declared.unit.Key.{Key}
use Rattle.units.specs.declared.unit.Suggestion.{Suggestion}
use Rattle.units.specs.declared.unit.Unit.{Unit}
use Rattle.office_specification.specs.Counting.{none_counted}
use Rattle.office_specification.specs.declared.tally.Tally.{Tally}
use Rattle.tables.specs.Tallies.{counted, moved}
use Rattle.sql_commits.specs.Figures.{project_at}
use Rattle.sql_commits.specs.declared.unit_counts.CountedValues.{CountedValues}

-- these are the unit's
abbrev pub HasValues : Unit → CountedValues → Type 0
HasValues unit values = (unit.state ≡ values.state) × (unit.obsolete ≡ values.obsolete) × (length unit.suggestions ≡ values.suggestions)

-- of the unit of a key, if it is there
abbrev pub HasValuesIf : Key → Option Unit → Option CountedValues → Type 0
HasValuesIf key (Some unit) (Some values) = (unit.key ≡ key) × HasValues unit values
HasValuesIf key (Some unit) None = ⊥
HasValuesIf key None (Some values) = ⊥
HasValuesIf key None None = ⊤

abbrev pub ShowsValues : Text → Text → Key → Database → Option CountedValues → Type 0
ShowsValues domain lang key db there = HasValuesIf key (maps.get (project_at domain db).units (lang, key)) there

-- These are the unit's; but where a unit that is as obsolete as this takes its place, its suggestions aren't counted.
abbrev pub HasMoving : Bool → Unit → CountedValues → Type 0
HasMoving obsolete unit values =
    (unit.state ≡ values.state) × (unit.obsolete ≡ values.obsolete) × (((unit.obsolete ≡ obsolete) × (values.suggestions ≡ 0)) ⊎ (length unit.suggestions ≡ values.suggestions))

-- of the unit of a key, if it is there
abbrev pub HasMovingIf : Key → Bool → Option Unit → Option CountedValues → Type 0
HasMovingIf key obsolete (Some unit) (Some values) = (unit.key ≡ key) × HasMoving obsolete unit values
HasMovingIf key obsolete (Some unit) None = ⊥
HasMovingIf key obsolete None (Some values) = ⊥
HasMovingIf key obsolete None None = ⊤

-- of the unit at the place of this one
abbrev pub ShowsMoving : Text → Text → Unit → Database → Option CountedValues → Type 0
ShowsMoving domain lang unit db there = HasMovingIf unit.key unit.obsolete (maps.get (project_at domain db).units (lang, unit.key)) there

-- with this a tally moves as with what a unit counts with a suggestion more, in the place of what it counts
abbrev pub CountsOneMore : Bool → Tally → Type 0
CountsOneMore obsolete one = (template : List Entry) (unit : Unit) (s : Suggestion) (before : Tally) → unit.obsolete ≡ obsolete
    → moved before none_counted one ≡ moved before (counted template unit) (counted template (record unit { suggestions = unit.suggestions ++ s ∷ [] }))
