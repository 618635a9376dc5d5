use Rattle.std.proofs.Common.{◌≡◌, true, take}
use Rattle.std.specs.List.{list_all}
use Rattle.po_text.specs.Strings.{is_string}
use Rattle.sql_columns.proofs.lists.forms_of.Given as goal

-- the texts so far, each of which is a string
abbrev pub invariant-loop-text : goal.invariant-loop-text
invariant-loop-text l = record {
  parts : l.strings.items ≡ take l.text-index l.texts;
  fit : list_all is_string l.strings.items ≡ true;
}
