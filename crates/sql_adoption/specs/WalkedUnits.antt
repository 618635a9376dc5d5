-- What is asked of a language's units, and of the suggestions on them, as the rows of walks show them. This project's own words.
use Rattle.std.specs.Prelude.{◌≡◌, ◌≤◌, ◌==◌, if◌then◌else◌, ℕ, [], length, true}
use Rattle.sqlite.specs.Order.{Row}
use Rattle.plural_expr.specs.Values.{Rule}
use Rattle.units.specs.Limits.{suggestion_limit}
use Rattle.units.specs.Project.{Project}
use Rattle.units.specs.declared.unit.Unit.{Unit}
use Rattle.rule_tests.specs.Bare.{FitsEntry}
use Rattle.rule_tests.specs.Parts.{IsPlaced}
use Rattle.sql_meaning.specs.Meaning.{key_at}
use Rattle.sql_meaning.specs.OfficeShown.{place_shown}
use Rattle.sql_meaning.specs.Shown.{shown_unit}
use Rattle.sql_meaning.specs.Values.{flag_at, natural_at, texts_at}

-- plural, forms, state, obsolete, revision, comment, previous, lang, key, and how many suggestions: the unit by itself
abbrev pub unit_alone : Row → Unit
unit_alone row = shown_unit (key_at 8 row) [] row

-- It keeps the rules at its place without its suggestions, has its entry where it is current, and few suggestions, none where it is obsolete.
pub record IsKeptUnit (project : Project) (row : Row) : Type 0 where
  pub placed : IsPlaced project (place_shown row) (unit_alone row)
  pub fits : FitsEntry project.template (key_at 8 row) (unit_alone row)
  pub few : natural_at 9 row ≤ suggestion_limit
  pub none : flag_at 3 row ≡ true → natural_at 9 row ≡ 0

-- what of that is asked of how many there are
abbrev pub MayHave : Unit → ℕ → Type 0
MayHave unit suggestions = (suggestions ≤ suggestion_limit) × (unit.obsolete ≡ true → suggestions ≡ 0)

-- how many forms a unit needs that has so many plurals, one or none
abbrev pub forms_with : Rule → ℕ → ℕ
forms_with rule plurals = if plurals == 0 then 1 else rule.count

-- number, place, suggester, forms, lang, key, and how many plurals the unit has: it has the forms that its unit needs
abbrev pub IsKeptSuggestion : Rule → Row → Type 0
IsKeptSuggestion rule row = length (texts_at 3 row) ≡ forms_with rule (natural_at 6 row)
