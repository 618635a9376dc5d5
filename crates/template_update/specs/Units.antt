-- Units under a template's msgid_plural. States are those of Weblate's documentation ("Translation states"), forms and previous
-- strings those of the GNU gettext manual ("Plural forms", "The Format of PO Files"); what is kept of a translation is this
-- project's own rule.
use Rattle.std.specs.Prelude.{◌==◌, ◌||◌, ◌&&◌, List, [], length, replicate, Bool, false, not, nat_le, if◌then◌else◌, Option, Some, None}
use Rattle.std.specs.List.{list_all}
use Rattle.plural_expr.specs.Values.{Rule}
use Rattle.po_text.specs.declared.entry.Entry.{Entry}
use Rattle.po_text.specs.Texts.{Text, maybe_text_eq}
use Rattle.units.specs.declared.unit.Unit.{Unit}
use Rattle.units.specs.declared.unit.UnitState.TheVariants.{Untranslated, NeedsEditing}
use Rattle.units.specs.Limits.{unit_limit, revision_limit}
use Rattle.units.specs.Units.{key_of, forms_needed, all_empty, in_state, no_previous}
use Rattle.template_update.specs.declared.plans.Plan.{Plan}
use Rattle.template_update.specs.declared.plans.Counts.{Counts}

-- as many empty forms as a msgid_plural needs
abbrev pub empty_forms : Rule → Option Text → List Text
empty_forms rule plural = replicate (forms_needed rule plural) []

-- a unit that nobody has worked on
abbrev pub new_unit : Rule → Entry → Unit
new_unit rule entry = record {
  key = key_of entry;
  plural = entry.plural;
  forms = empty_forms rule entry.plural;
  state = Untranslated;
  obsolete = false;
  revision = 1;
  comment = [];
  previous = no_previous;
  suggestions = [];
}

-- the forms can't be kept: they aren't the needed number, or all are empty
abbrev pub is_useless : Rule → Option Text → List Text → Bool
is_useless rule plural forms = not (length forms == forms_needed rule plural) || all_empty forms

-- the unit without a translation, under another msgid_plural
abbrev pub emptied : Rule → Option Text → Unit → Unit
emptied rule plural unit = in_state Untranslated (record unit { plural = plural; forms = empty_forms rule plural })

-- the unit's forms under another msgid_plural, for which they need editing; what it was before is told
abbrev pub reworded : Option Text → Unit → Unit
reworded plural unit = record unit {
  plural = plural;
  state = NeedsEditing;
  previous = record { ctx = unit.key.ctx; id = Some unit.key.id; plural = unit.plural };
}

-- The unit under a msgid_plural: without its forms where they can't be kept, needing editing where the msgid_plural is another,
-- else as it is.
abbrev pub refit : Rule → Option Text → Unit → Unit
refit rule plural unit =
    if is_useless rule plural unit.forms then emptied rule plural unit
    else if not (maybe_text_eq plural unit.plural) then reworded plural unit
    else unit

-- no unit is past the last revision
abbrev pub has_revision : Unit → Bool
has_revision unit = nat_le unit.revision revision_limit

-- where no limit is passed
abbrev pub within_limits : List Unit → List Bool → Counts → Option Plan
within_limits units stays counts = if nat_le (length units) unit_limit && list_all has_revision units then Some (record { units = units; stays = stays; counts = counts }) else None
