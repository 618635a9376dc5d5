-- What the rows that a look at a unit shows stand for.
use Rattle.std.specs.Prelude.{◌≡◌, [], Option, Some, None, map, option_map, unwrap_or}
use Rattle.sqlite.specs.Order.{Row}
use Rattle.po_text.specs.Texts.{Text}
use Rattle.po_text.specs.declared.entry.Entry.{Entry}
use Rattle.plural_expr.specs.Trees.{number}
use Rattle.plural_expr.specs.Values.{Rule}
use Rattle.units.specs.Openings.{plain_entry}
use Rattle.units.specs.Rules.{by_result, rule_in}
use Rattle.units.specs.declared.unit.Key.{Key}
use Rattle.units.specs.declared.unit.Role.{Role}
use Rattle.units.specs.declared.unit.Role.TheVariants.{Guest}
use Rattle.units.specs.declared.unit.Suggestion.{Suggestion}
use Rattle.units.specs.declared.unit.UnitView.{UnitView}
use Rattle.office_specification.specs.declared.values.ActContext.{ActContext}
use Rattle.sql_columns.specs.Readings.{header_read}
use Rattle.sql_statements.specs.declared.unit_rows.SuggestionRows.{SuggestionRows}
use Rattle.sql_statements.specs.declared.unit_rows.UnitRows.{UnitRows}
use Rattle.sql_statements.specs.declared.unit_rows.ContextRows.{ContextRows}
use Rattle.sql_schema.specs.Keys.{text_at}
use Rattle.sql_meaning.specs.Values.{texts_at, role_at}
use Rattle.sql_meaning.specs.Meaning.{number_at}
use Rattle.sql_meaning.specs.Shown.{shown_header, shown_policy, shown_entry, shown_unit, shown_votes}

-- a suggestion and the votes on it
abbrev pub suggestion_shown : SuggestionRows → Suggestion
suggestion_shown rows = record {
  number = number_at 0 rows.suggestion;
  suggester = text_at 2 rows.suggestion;
  forms = texts_at 3 rows.suggestion;
  votes = shown_votes rows.votes.items;
}

abbrev pub rule_of_header : Entry → Rule
rule_of_header header = by_result (λ fault. record { count = 1; tree = number 0 }) (λ rule. rule) (rule_in (Some header))

-- of the text of a header's column
abbrev pub header_of_column : Text → Entry
header_of_column column = unwrap_or (header_read column) (plain_entry [] [])

abbrev pub rule_of_column : Text → Rule
rule_of_column column = rule_of_header (header_of_column column)

-- of a language's row
abbrev pub shown_rule : Row → Rule
shown_rule shown = rule_of_header (shown_header shown)

-- who has no row is a guest
abbrev pub shown_role : Option Row → Role
shown_role found = unwrap_or (option_map (role_at 0) found) Guest

abbrev pub shown_source : Key → Option Row → Option Entry
shown_source key = option_map (shown_entry key)

abbrev pub shown_view : Key → UnitRows → Option UnitView
shown_view key rows = option_map (λ unit. record { unit = shown_unit key (map suggestion_shown rows.suggestions.items) unit; source = shown_source key rows.entry }) rows.unit

-- where there are a language and a policy, of these rows
abbrev pub context_shown : Key → Row → Row → ContextRows → ActContext
context_shown key language policy rows = record {
  rule = shown_rule language;
  policy = shown_policy policy;
  role = shown_role rows.office.role;
  view = shown_view key rows.unit;
}

-- none without the language; with it there is a policy
abbrev pub IsShownWith : Key → ContextRows → Option Row → Option Row → Option ActContext → Type 0
IsShownWith key rows None policy found = found ≡ None
IsShownWith key rows (Some language) None found = ⊥
IsShownWith key rows (Some language) (Some policy) found = found ≡ Some (context_shown key language policy rows)

abbrev pub IsShownContext : Key → ContextRows → Option ActContext → Type 0
IsShownContext key rows = IsShownWith key rows rows.office.language rows.office.policy
