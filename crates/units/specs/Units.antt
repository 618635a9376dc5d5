-- Units: one language's translation of one key.
-- States, roles, suggestions and votes are those of Weblate's documentation ("Translation workflows", "Translation
-- states"); keys, forms, flags and previous strings are those of the GNU gettext manual ("The Format of PO Files",
-- "Plural forms"). The sum of votes and the order of keys are this project's own.
use Rattle.std.specs.Prelude.{ℕ, ◌+◌, List, ◌∷◌, ◌++◌, Bool, true, false, not, nat_lt, if◌then◌else◌, Option, None, is_some, find, filter, codes}
use Rattle.std.specs.declared.cmp.Ordering.{Ordering}
use Rattle.std.specs.Ordering.{on, then_cmp}
use Rattle.std.specs.Option.{option_map_or, option_cmp}
use Rattle.std.specs.List.{list_any, list_all}
use Rattle.po_text.specs.declared.entry.Entry.{Entry}
use Rattle.po_text.specs.declared.entry.Previous.{Previous}
use Rattle.plural_expr.specs.Values.{Rule}
use Rattle.units.specs.declared.unit.Key.{Key}
use Rattle.units.specs.declared.unit.Unit.{Unit}
use Rattle.units.specs.declared.unit.UnitState.{UnitState}
use Rattle.units.specs.declared.unit.UnitState.TheVariants.{Untranslated, NeedsEditing, Translated, Approved}
use Rattle.units.specs.declared.unit.ShownState.{ShownState}
use Rattle.units.specs.declared.unit.ShownState.TheVariants as shown
use Rattle.units.specs.declared.unit.Role.{Role}
use Rattle.units.specs.declared.unit.Role.TheVariants.{Guest, Translator, Reviewer, Manager}
use Rattle.units.specs.declared.unit.Suggestion.{Suggestion}
pub use Rattle.units.specs.Ballots.{is_for, vote_eq, vote_sum}
use Rattle.po_text.specs.Texts.{Text, text_cmp, text_eq, is_empty}

-- ---- keys

-- U+0004, which parts a key's context from its msgid
abbrev pub context_glue : ℕ
context_glue = 4

-- the msgid, or the context, that and the msgid
abbrev pub key_text : Key → Text
key_text key = option_map_or (λ ctx. ctx ++ context_glue ∷ key.id) key.ctx key.id

-- by key text; at equal texts, which the keys of an office never have, by context and msgid
abbrev pub key_cmp : Key → Key → Ordering
key_cmp = then_cmp (on key_text text_cmp) (then_cmp (on (λ key. key.ctx) (option_cmp text_cmp)) (on (λ key. key.id) text_cmp))

-- the key of a template entry, or of an entry of a PO text
abbrev pub key_of : Entry → Key
key_of entry = record { ctx = entry.ctx; id = entry.id }

-- ---- roles: each has the rights of those before it

abbrev pub rank : Role → ℕ
rank Guest = 0
rank Translator = 1
rank Reviewer = 2
rank Manager = 3

abbrev pub is_below : Role → Role → Bool
is_below role least = nat_lt (rank role) (rank least)

-- ---- states

abbrev pub is_untranslated : UnitState → Bool
is_untranslated Untranslated = true
is_untranslated NeedsEditing = false
is_untranslated Translated = false
is_untranslated Approved = false

abbrev pub is_needs_editing : UnitState → Bool
is_needs_editing Untranslated = false
is_needs_editing NeedsEditing = true
is_needs_editing Translated = false
is_needs_editing Approved = false

abbrev pub is_translated : UnitState → Bool
is_translated Untranslated = false
is_translated NeedsEditing = false
is_translated Translated = true
is_translated Approved = false

abbrev pub is_approved : UnitState → Bool
is_approved Untranslated = false
is_approved NeedsEditing = false
is_approved Translated = false
is_approved Approved = true

abbrev pub state_eq : UnitState → UnitState → Bool
state_eq Untranslated s = is_untranslated s
state_eq NeedsEditing s = is_needs_editing s
state_eq Translated s = is_translated s
state_eq Approved s = is_approved s

abbrev pub has_flag : List Text → Text → Bool
has_flag flags flag = list_any (text_eq flag) flags

-- the template's entry has the flag `read-only`
abbrev pub is_read_only : Option Entry → Bool
is_read_only source = option_map_or (λ entry. has_flag entry.flags (codes "read-only")) source false

abbrev pub stored_as_shown : UnitState → ShownState
stored_as_shown Untranslated = shown.Untranslated
stored_as_shown NeedsEditing = shown.NeedsEditing
stored_as_shown Translated = shown.Translated
stored_as_shown Approved = shown.Approved

-- read-only while the template's entry has that flag, else the stored state
abbrev pub shown_state : Option Entry → Unit → ShownState
shown_state source unit = if is_read_only source then shown.ReadOnly else stored_as_shown unit.state

-- ---- previous strings, which are kept only while the stored state is needs editing

abbrev pub no_previous : Previous
no_previous = record { ctx = None; id = None; plural = None }

abbrev pub kept_previous : UnitState → Previous → Previous
kept_previous state previous = if is_needs_editing state then previous else no_previous

-- the unit in a state
abbrev pub in_state : UnitState → Unit → Unit
in_state state unit = record unit { state = state; previous = kept_previous state unit.previous }

-- ---- revisions

-- the unit at the next revision
abbrev pub next_revision : Unit → Unit
next_revision unit = record unit { revision = unit.revision + 1 }

-- ---- forms

-- how many forms a unit with this msgid_plural needs
abbrev pub forms_needed : Rule → Option Text → ℕ
forms_needed rule plural = if is_some plural then rule.count else 1

abbrev pub all_empty : List Text → Bool
all_empty forms = list_all is_empty forms

abbrev pub some_empty : List Text → Bool
some_empty forms = list_any is_empty forms

-- ---- suggestions and votes

abbrev pub has_number : Text → Suggestion → Bool
has_number number suggestion = text_eq number suggestion.number

abbrev pub suggestion_of : Text → Unit → Option Suggestion
suggestion_of number unit = find (has_number number) unit.suggestions

abbrev pub without_suggestion : Text → Unit → Unit
without_suggestion number unit = record unit { suggestions = filter (λ s. not (has_number number s)) unit.suggestions }
