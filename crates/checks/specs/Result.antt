-- The state that a unit's forms give it. The states are those of Weblate, "Translation workflows" and "Translation states"; which
-- forms give which is this project's own rule, given here.
use Rattle.std.specs.Prelude.{List, Bool, not, ◌&&◌, ◌||◌, if◌then◌else◌}
use Rattle.plural_expr.specs.Values.{Rule}
use Rattle.po_text.specs.declared.entry.Entry.{Entry}
use Rattle.units.specs.declared.unit.Policy.{Policy}
use Rattle.units.specs.declared.unit.UnitState.{UnitState}
use Rattle.units.specs.declared.unit.UnitState.TheVariants.{Untranslated, NeedsEditing, Translated}
use Rattle.po_text.specs.Texts.{Text, is_empty}
use Rattle.units.specs.Units.{all_empty, some_empty}
use Rattle.checks.specs.Source.{Source}
use Rattle.checks.specs.declared.source.Findings.{Findings}
use Rattle.checks.specs.Findings.{findings}

-- what a translation of a template's entry is checked against
abbrev pub source_of_entry : Entry → Source
source_of_entry entry = record { id = entry.id; plural = entry.plural; flags = entry.flags }

-- an enforced check finds something
abbrev pub is_found : Policy → Findings → Bool
is_found policy found = (policy.placeholders && not (is_empty found.placeholders)) || (policy.line_ends && not (is_empty found.line_ends))

-- untranslated if all forms are empty; else needs editing if some form is empty or an enforced check finds something; else translated
unfoldable pub result_state : Policy → Rule → Source → List Text → UnitState
result_state policy rule source forms =
    if all_empty forms then Untranslated
    else if some_empty forms || is_found policy (findings source forms rule) then NeedsEditing
    else Translated
