-- Which keywords the writer can write. This project's own rule: an entry has at most eight forms.
use Rattle.std.specs.Prelude.{◌<◌, ⊤}
use Rattle.po_lex.specs.declared.line.Keyword.{Keyword}
use Rattle.po_lex.specs.declared.line.Keyword.TheVariants.{Msgctxt, Msgid, MsgidPlural, Msgstr, MsgstrAt}

-- the number of a form is a digit
abbrev pub HasDigit : Keyword → Type 0
HasDigit Msgctxt = ⊤
HasDigit Msgid = ⊤
HasDigit MsgidPlural = ⊤
HasDigit Msgstr = ⊤
HasDigit (MsgstrAt number) = number < 10
