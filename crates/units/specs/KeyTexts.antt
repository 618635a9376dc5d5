-- Which keys have texts of their own. This project's own rule.
use Rattle.std.specs.Prelude.{◌≡◌, true}
use Rattle.std.specs.Option.{option_map_or}
use Rattle.po_text.specs.Strings.{is_string}
use Rattle.units.specs.declared.unit.Key.{Key}

-- the context, if there is one, and the msgid are strings of a catalogue
pub record HasStrings (key : Key) : Type 0 where
  pub ctx : option_map_or is_string key.ctx true ≡ true
  pub id : is_string key.id ≡ true
