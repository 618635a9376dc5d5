-- Which votes go where a unit's suggestions are taken away.
use Rattle.std.specs.Prelude.{◌≡◌, ℕ, true, List, codes}
use Rattle.sqlite.specs.Order.{Row}
use Rattle.sqlite_rules.specs.Lists.{Has}
use Rattle.sql_schema.specs.Layouts.{NamedRows}
use Rattle.sql_schema.specs.Keys.{first_text, is_on_unit}

-- the vote is on a suggestion of the unit
abbrev pub IsOn : NamedRows → List ℕ → List ℕ → Row → Type 0
IsOn rows lang key vote = (s : Row) × Has (rows (codes "suggestion")) s × (is_on_unit lang key s ≡ true) × (first_text vote ≡ first_text s)
