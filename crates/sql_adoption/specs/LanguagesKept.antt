-- What is told of the rows of a domain's language. This project's own words.
use Rattle.std.specs.Prelude.{◌≡◌, ◌≤◌, ◌&&◌, true, false, not, List, filter, fold, length, codes}
use Rattle.sqlite.specs.Effect.{Database}
use Rattle.sqlite.specs.Order.{Row}
use Rattle.sqlite_rules.specs.Lists.{Has}
use Rattle.po_text.specs.declared.entry.Entry.{Entry}
use Rattle.po_text.specs.Texts.{Text}
use Rattle.plural_expr.specs.Values.{Rule}
use Rattle.units.specs.Limits.{unit_limit}
use Rattle.units.specs.Project.{Project}
use Rattle.units.specs.Rules.{rule_at}
use Rattle.office_specification.specs.Counting.{none_counted, plus}
use Rattle.office_specification.specs.declared.tally.Tally.{Tally}
use Rattle.sql_schema.specs.Layouts.{rows_named}
use Rattle.sql_meaning.specs.Values.{flag_at}
use Rattle.sql_decoding.specs.RowTests.{is_suggestion_row, is_unit_row}
use Rattle.sql_statements.specs.WalkedRows.{unit_counted, suggestion_beside, is_unit_of, is_suggestion_of}
use Rattle.sql_adoption.specs.TookUnits.{row_counts}
use Rattle.sql_adoption.specs.WalkedUnits.{IsKeptUnit, IsKeptSuggestion}
use Rattle.sql_adoption.specs.declared.unit_sinks.Told.{Told}

-- ---- units

-- each unit's row stands for one
abbrev pub UnitsStand : Database → Text → Text → Type 0
UnitsStand db domain lang = (u : Row) → Has (rows_named db (codes "d_unit")) u → is_unit_of domain lang u ≡ true → is_unit_row (unit_counted (rows_named db) u) ≡ true

-- The units keep the rules, and are few.
pub record UnitsKeep (db : Database) (project : Project) (domain lang : Text) : Type 0 where
  pub each : (u : Row) → Has (rows_named db (codes "d_unit")) u → is_unit_of domain lang u ≡ true → IsKeptUnit project (unit_counted (rows_named db) u)
  pub few : length (filter (is_unit_of domain lang) (rows_named db (codes "d_unit"))) ≤ unit_limit

abbrev pub current_units : Database → Text → Text → List Row
current_units db domain lang = filter (λ u. is_unit_of domain lang u && not (flag_at 7 u)) (rows_named db (codes "d_unit"))

-- what they count, by the rows of a walk
abbrev pub walked_tally : Database → List Entry → Text → Text → Tally
walked_tally db template domain lang =
    fold (λ tally u. plus tally (row_counts template (unit_counted (rows_named db) u))) none_counted (filter (is_unit_of domain lang) (rows_named db (codes "d_unit")))

-- They do, and this is what they count.
pub record AreUnitsKept (db : Database) (project : Project) (domain lang : Text) (told : Told) : Type 0 where
  pub keep : UnitsKeep db project domain lang
  pub current : told.current ≡ length (current_units db domain lang)
  pub tally : told.tally ≡ walked_tally db project.template domain lang

pub record AreUnitsTold (db : Database) (project : Project) (domain lang : Text) (told : Told) : Type 0 where
  pub stand : UnitsStand db domain lang
  pub kept : told.kept ≡ true → AreUnitsKept db project domain lang told
  pub broken : told.kept ≡ false → ¬ UnitsKeep db project domain lang

-- ---- suggestions

abbrev pub SuggestionsStand : Database → Text → Text → Type 0
SuggestionsStand db domain lang = (s : Row) → Has (rows_named db (codes "d_suggestion")) s → is_suggestion_of domain lang s ≡ true → is_suggestion_row (suggestion_beside (rows_named db) s) ≡ true

abbrev pub SuggestionsAreFormed : Database → Rule → Text → Text → Type 0
SuggestionsAreFormed db rule domain lang = (s : Row) → Has (rows_named db (codes "d_suggestion")) s → is_suggestion_of domain lang s ≡ true → IsKeptSuggestion rule (suggestion_beside (rows_named db) s)

-- ---- all of it

-- each of its rows stands for something
pub record StandsLanguage (db : Database) (domain lang : Text) : Type 0 where
  pub units : UnitsStand db domain lang
  pub suggestions : SuggestionsStand db domain lang

-- The units keep the rules, the suggestions on them have the forms that they need, and there are as many current units as entries, at least.
pub record IsLanguageKept (db : Database) (project : Project) (domain lang : Text) : Type 0 where
  pub units : (u : Row) → Has (rows_named db (codes "d_unit")) u → is_unit_of domain lang u ≡ true → IsKeptUnit project (unit_counted (rows_named db) u)
  pub suggestions : (s : Row) → Has (rows_named db (codes "d_suggestion")) s → is_suggestion_of domain lang s ≡ true → IsKeptSuggestion (rule_at project lang) (suggestion_beside (rows_named db) s)
  pub few : length (filter (is_unit_of domain lang) (rows_named db (codes "d_unit"))) ≤ unit_limit
  pub as_many : length project.template ≤ length (filter (λ u. is_unit_of domain lang u && not (flag_at 7 u)) (rows_named db (codes "d_unit")))
