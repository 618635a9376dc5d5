-- What the values of columns stand for. Of a value that stands for nothing nothing is promised: tables hold none. This project's own
-- rule; states are those of Weblate's documentation ("Translation states"), statuses those of RFC 9110 ("HTTP Semantics").
use Rattle.std.specs.Prelude.{ℕ, zero, suc, ℤ, pos, negsuc, Bool, true, false, List, [], Option, Some, None, unwrap_or}
use Rattle.sqlite.specs.declared.types.Value.{Value}
use Rattle.sqlite.specs.declared.types.Value.TheVariants.{Null, Int, Real, Text as Words, Blob}
use Rattle.sqlite.specs.Order.{Row, column}
use Rattle.po_text.specs.Texts.{Text}
use Rattle.units.specs.declared.unit.UnitState.{UnitState}
use Rattle.units.specs.declared.unit.UnitState.TheVariants.{Untranslated, NeedsEditing, Translated, Approved}
use Rattle.units.specs.declared.unit.Role.{Role}
use Rattle.units.specs.declared.unit.Role.TheVariants.{Guest, Translator, Reviewer, Manager}
use Rattle.units.specs.declared.votes.VoteValue.{VoteValue}
use Rattle.units.specs.declared.votes.VoteValue.TheVariants.{For, Against}
use Rattle.sql_schema.specs.Keys.{text_at}
use Rattle.sql_columns.specs.Readings.{texts_read}

abbrev pub integer_of : Value → ℤ
integer_of Null = pos 0
integer_of (Int n) = n
integer_of (Real x) = pos 0
integer_of (Words t) = pos 0
integer_of (Blob b) = pos 0

abbrev pub integer_at : ℕ → Row → ℤ
integer_at place row = integer_of (column row place)

abbrev pub natural : ℤ → ℕ
natural (pos n) = n
natural (negsuc n) = 0

abbrev pub natural_at : ℕ → Row → ℕ
natural_at place row = natural (integer_at place row)

-- null is no text
abbrev pub text_of : Value → Option Text
text_of Null = None
text_of (Int n) = None
text_of (Real x) = None
text_of (Words t) = Some t
text_of (Blob b) = None

abbrev pub text_or_null_at : ℕ → Row → Option Text
text_or_null_at place row = text_of (column row place)

-- a list of texts, as JSON
abbrev pub texts_at : ℕ → Row → List Text
texts_at place row = unwrap_or (texts_read (text_at place row)) []

abbrev is_one : ℕ → Bool
is_one (suc zero) = true
is_one _ = false

abbrev pub flag_at : ℕ → Row → Bool
flag_at place row = is_one (natural_at place row)

abbrev state_of : ℕ → UnitState
state_of zero = Untranslated
state_of (suc zero) = NeedsEditing
state_of (suc (suc zero)) = Translated
state_of (suc (suc (suc n))) = Approved

abbrev pub state_at : ℕ → Row → UnitState
state_at place row = state_of (natural_at place row)

abbrev role_of : ℕ → Role
role_of zero = Guest
role_of (suc zero) = Translator
role_of (suc (suc zero)) = Reviewer
role_of (suc (suc (suc n))) = Manager

abbrev pub role_at : ℕ → Row → Role
role_at place row = role_of (natural_at place row)

abbrev vote_of : ℤ → VoteValue
vote_of (pos n) = For
vote_of (negsuc n) = Against

abbrev pub vote_at : ℕ → Row → VoteValue
vote_at place row = vote_of (integer_at place row)
