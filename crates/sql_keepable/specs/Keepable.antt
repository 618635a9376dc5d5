-- Values that an adoption can read back of their rows: within their limits, and their texts UTF-8. This project's own rule.
use Rattle.std.specs.Prelude.{◌≡◌, List, [], Some, true, IfSome, IsUtf8, unwrap_or}
use Rattle.std.specs.FinMap as maps
use Rattle.sqlite_rules.specs.Lists.{Has}
use Rattle.po_text.specs.Strings.{is_string, is_forms}
use Rattle.po_text.specs.Texts.{Text}
use Rattle.po_text.specs.declared.entry.Entry.{Entry}
use Rattle.sql_columns.specs.Written.{ArePrevious, texts_text, previous_text, header_text}
use Rattle.template_update.specs.declared.plans.Plan.{Plan}
use Rattle.units.specs.KeyTexts.{HasStrings}
use Rattle.units.specs.Limits.{is_name, is_lang, is_revision}
use Rattle.units.specs.Rules.{plural_field}
use Rattle.units.specs.Units.{key_of, key_text}
use Rattle.units.specs.declared.unit.Suggestion.{Suggestion}
use Rattle.units.specs.declared.unit.Unit.{Unit}
use Rattle.units.specs.declared.votes.VoteValue.{VoteValue}

-- a text that is a name
abbrev pub IsNamed : Text → Type 0
IsNamed name = (is_name name ≡ true) × IsUtf8 name

abbrev pub IsLanguage : Text → Type 0
IsLanguage lang = (is_lang lang ≡ true) × IsUtf8 lang

abbrev pub IsPlural : Text → Type 0
IsPlural text = (is_string text ≡ true) × IsUtf8 text

abbrev pub IsVoter : Text × VoteValue → Type 0
IsVoter vote = IsNamed vote.0

-- ---- a unit

-- A suggestion within its limits, whose texts are UTF-8, and so its voters.
pub record IsKeepableSuggestion (s : Suggestion) : Type 0 where
  pub suggester : IsNamed s.suggester
  pub forms : is_forms s.forms ≡ true
  pub forms_column : IsUtf8 (texts_text s.forms)
  pub voters : (vote : Text × VoteValue) → Has (maps.entries s.votes) vote → IsVoter vote

-- So is a unit of a language.
pub record IsKeepableUnit (lang : Text) (unit : Unit) : Type 0 where
  pub language : IsLanguage lang
  pub key : HasStrings unit.key
  pub key_column : IsUtf8 (key_text unit.key)
  pub plural : IfSome unit.plural IsPlural
  pub forms : is_forms unit.forms ≡ true
  pub forms_column : IsUtf8 (texts_text unit.forms)
  pub revision : is_revision unit.revision ≡ true
  pub comment_column : IsUtf8 (texts_text unit.comment)
  pub previous : ArePrevious unit.previous
  pub previous_column : IsUtf8 (previous_text unit.previous)
  pub suggestions : (s : Suggestion) → Has unit.suggestions s → IsKeepableSuggestion s

abbrev pub AreKeepableUnits : Text → List Unit → Type 0
AreKeepableUnits lang units = (unit : Unit) → Has units unit → IsKeepableUnit lang unit

abbrev pub IsKeepablePlan : Text × Plan → Type 0
IsKeepablePlan p = AreKeepableUnits p.0 p.1.units

abbrev pub AreKeepablePlans : List (Text × Plan) → Type 0
AreKeepablePlans plans = (p : Text × Plan) → Has plans p → IsKeepablePlan p

-- ---- a language

-- A language and its header, whose forms and previous strings are within their limits.
pub record IsKeepableLanguage (lang : Text) (header : Entry) : Type 0 where
  pub language : IsLanguage lang
  pub forms : is_forms header.forms ≡ true
  pub previous : ArePrevious header.previous
  pub header_column : IsUtf8 (header_text header)
  pub rule_column : IsUtf8 (unwrap_or (plural_field (Some header)) [])

-- ---- a template

pub record IsKeepableEntry (entry : Entry) : Type 0 where
  pub key_column : IsUtf8 (key_text (key_of entry))
  pub plural : IfSome entry.plural IsPlural
  pub extracted_column : IsUtf8 (texts_text entry.extracted)
  pub references_column : IsUtf8 (texts_text entry.references)
  pub flags_column : IsUtf8 (texts_text entry.flags)

abbrev pub AreKeepableEntries : List Entry → Type 0
AreKeepableEntries entries = (entry : Entry) → Has entries entry → IsKeepableEntry entry
