-- What the types of an entry's texts keep. This project's own words.
use Rattle.std.specs.Prelude.{◌∷◌, ◌++◌, IsUtf8}
use Rattle.std.specs.List.{AllByRecursion}
use Rattle.po_lex.specs.declared.line.Keyword.TheVariants.{Msgctxt, Msgid, MsgidPlural}
use Rattle.po_text.specs.Entries.{optional, previous_strings}
use Rattle.po_text.specs.Valid.{IsString, AllStrings}
use Rattle.po_text.specs.declared.entry.Entry.{Entry}

-- Translator comments are Unicode text; context, msgid, msgid_plural, forms and previous strings are strings of a catalogue.
pub record HasEntryStrings (entry : Entry) : Type 0 where
  pub translator : AllByRecursion (λ line. IsUtf8 line) entry.translator
  pub key : AllStrings IsString (optional Msgctxt entry.ctx ++ ((Msgid, entry.id) ∷ optional MsgidPlural entry.plural))
  pub forms : AllByRecursion IsString entry.forms
  pub previous : AllStrings IsString (previous_strings entry.previous)
