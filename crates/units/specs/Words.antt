-- The words of roles, and of the states that callers see. This project's own rule; the states are those of Weblate's documentation
-- ("Translation workflows").
use Rattle.std.specs.Prelude.{Option, Some, None, codes, if◌then◌else◌}
use Rattle.std.specs.Str.{bytes_eq}
use Rattle.po_text.specs.Texts.{Text}
use Rattle.units.specs.declared.unit.ShownState.{ShownState}
use Rattle.units.specs.declared.unit.ShownState.TheVariants.{Untranslated, NeedsEditing, Translated, Approved, ReadOnly}
use Rattle.units.specs.declared.unit.Role.{Role}
use Rattle.units.specs.declared.unit.Role.TheVariants.{Guest, Translator, Reviewer, Manager}

abbrev pub state_text : ShownState → Text
state_text Untranslated = codes "untranslated"
state_text NeedsEditing = codes "needs-editing"
state_text Translated = codes "translated"
state_text Approved = codes "approved"
state_text ReadOnly = codes "read-only"

abbrev pub role_text : Role → Text
role_text Guest = codes "guest"
role_text Translator = codes "translator"
role_text Reviewer = codes "reviewer"
role_text Manager = codes "manager"

-- the role with this word
abbrev pub role_named : Text → Option Role
role_named word =
    if bytes_eq word (codes "guest") then Some Guest
    else (if bytes_eq word (codes "translator") then Some Translator
    else (if bytes_eq word (codes "reviewer") then Some Reviewer
    else (if bytes_eq word (codes "manager") then Some Manager else None)))
