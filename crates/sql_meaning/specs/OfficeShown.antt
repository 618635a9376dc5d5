-- What the rows that reads of whole tables show stand for: of each map's rows one is put in after the other.
use Rattle.std.specs.Prelude.{List, Bool, map, filter, fold, Option, option_map, unwrap_or, ◌&&◌}
use Rattle.std.specs.declared.cmp.Ordering.{Ordering}
use Rattle.std.specs.FinMap as maps
use Rattle.sqlite.specs.Order.{Row}
use Rattle.po_text.specs.declared.entry.Entry.{Entry}
use Rattle.po_text.specs.Texts.{Text, text_cmp}
use Rattle.units.specs.Project.{Project, Place, place_cmp}
use Rattle.units.specs.Office.{Office, domain_of}
use Rattle.units.specs.Openings.{closed_policy}
use Rattle.units.specs.declared.unit.Unit.{Unit}
use Rattle.units.specs.declared.unit.Suggestion.{Suggestion}
use Rattle.units.specs.declared.unit.Policy.{Policy}
use Rattle.units.specs.declared.unit.Role.{Role}
use Rattle.units.specs.declared.votes.VoteValue.{VoteValue}
use Rattle.sql_schema.specs.Keys.{text_at, has_text}
use Rattle.sql_meaning.specs.Values.{texts_at, role_at}
use Rattle.sql_meaning.specs.Meaning.{number_at, key_at}
use Rattle.sql_meaning.specs.Shown.{shown_entry, shown_header, shown_policy, shown_votes, shown_unit}
use Rattle.sql_statements.specs.declared.whole_office.UnitTables.{UnitTables}
use Rattle.sql_statements.specs.declared.whole_office.WholeOffice.{WholeOffice}

-- the map of what rows hold at their keys
abbrev pub each_put : {K X : Type 0} {R : K → K → Ordering} → (Row → K) → (Row → X) → List Row → maps.FinMap R X
each_put key item = fold (λ m row. maps.insert m (key row) (item row)) maps.empty

-- role, name
abbrev pub team_shown : List Row → maps.FinMap text_cmp Role
team_shown = each_put (text_at 1) (role_at 0)

-- the policy, and the closed one where none is there
abbrev pub policy_shown : Option Row → Policy
policy_shown row = unwrap_or (option_map shown_policy row) closed_policy

-- plural, extracted, refs, flags, key, place
abbrev pub template_shown : List Row → List Entry
template_shown = map (λ row. shown_entry (key_at 4 row) row)

-- header, plural, lang
abbrev pub headers_shown : List Row → maps.FinMap text_cmp Entry
headers_shown = each_put (text_at 2) shown_header

-- voter, value, number: the votes on the suggestion of a number
abbrev pub votes_shown : List Row → Text → maps.FinMap text_cmp VoteValue
votes_shown votes number = shown_votes (filter (has_text 2 number) votes)

-- number, place, suggester, forms, lang, key: a suggestion, with those of all votes that are on it
abbrev pub suggestion_shown : List Row → Row → Suggestion
suggestion_shown votes row = record { number = number_at 0 row; suggester = text_at 2 row; forms = texts_at 3 row; votes = votes_shown votes (text_at 0 row) }

abbrev pub is_of_unit : Text → Text → Row → Bool
is_of_unit lang key row = has_text 4 lang row && has_text 5 key row

-- the suggestions on a unit
abbrev pub suggestions_shown : UnitTables → Text → Text → List Suggestion
suggestions_shown rows lang key = map (suggestion_shown rows.votes.items) (filter (is_of_unit lang key) rows.suggestions.items)

-- plural, forms, state, obsolete, revision, comment, previous, lang, key: the unit, with its suggestions
abbrev pub unit_shown : UnitTables → Row → Unit
unit_shown rows row = shown_unit (key_at 8 row) (suggestions_shown rows (text_at 7 row) (text_at 8 row)) row

abbrev pub place_shown : Row → Place
place_shown row = (text_at 7 row, key_at 8 row)

abbrev pub units_shown : UnitTables → maps.FinMap place_cmp Unit
units_shown rows = each_put place_shown (unit_shown rows) rows.units.items

-- a domain, with the team and the policy of the office
abbrev pub project_shown : WholeOffice → Project
project_shown rows = record {
  template = template_shown rows.office.template.items;
  headers = headers_shown rows.office.languages.items;
  units = units_shown rows.units;
  team = team_shown rows.office.team.items;
  policy = policy_shown rows.office.policy;
}

-- an office with a domain that rows show, and with their team and policy
abbrev pub with_shown : Office → Text → WholeOffice → Office
with_shown office domain rows = record {
  domains = maps.insert office.domains domain (domain_of (project_shown rows));
  team = team_shown rows.office.team.items;
  policy = policy_shown rows.office.policy;
}
