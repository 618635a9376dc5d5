-- How many units of a language callers see in each state. The states are those of Weblate's documentation ("Translation states"); that
-- an obsolete unit counts as obsolete and as nothing else is this project's own rule.
use Rattle.std.specs.Prelude.{ℕ, List, Bool, true, false, not, Option, option_map, count_by, sum_by, filter, length}
use Rattle.std.specs.FinMap as maps
use Rattle.po_text.specs.declared.entry.Entry.{Entry}
use Rattle.po_text.specs.Texts.{Text}
use Rattle.units.specs.Units.{shown_state}
use Rattle.units.specs.Project.{Project, entry_of, units_of}
use Rattle.units.specs.declared.unit.Unit.{Unit}
use Rattle.units.specs.declared.unit.ShownState.{ShownState}
use Rattle.units.specs.declared.unit.ShownState.TheVariants.{Untranslated, NeedsEditing, Translated, Approved, ReadOnly}
use Rattle.office_specification.specs.declared.tally.Tally.{Tally}

-- whether two states are one
abbrev pub is_state : ShownState → ShownState → Bool
is_state Untranslated Untranslated = true
is_state NeedsEditing NeedsEditing = true
is_state Translated Translated = true
is_state Approved Approved = true
is_state ReadOnly ReadOnly = true
is_state _ _ = false

-- the units that aren't obsolete
abbrev pub current : List Unit → List Unit
current units = filter (λ unit. not unit.obsolete) units

-- how many of these units are shown in a state, by their entries of the template
abbrev pub shown_in : List Entry → ShownState → List Unit → ℕ
shown_in template state units = count_by (λ unit. is_state state (shown_state (entry_of template unit.key) unit)) units

-- the counts of a language's units
abbrev pub counts_in : List Entry → List Unit → Tally
counts_in template units = record {
  approved = shown_in template Approved (current units);
  needs_editing = shown_in template NeedsEditing (current units);
  obsolete = count_by (λ unit. unit.obsolete) units;
  read_only = shown_in template ReadOnly (current units);
  suggestions = sum_by (λ unit. length unit.suggestions) (current units);
  translated = shown_in template Translated (current units);
  untranslated = shown_in template Untranslated (current units);
}

-- none where the language isn't there
abbrev pub counts_of : Project → Text → Option Tally
counts_of project lang = option_map (λ _. counts_in project.template (units_of project lang)) (maps.get project.headers lang)
