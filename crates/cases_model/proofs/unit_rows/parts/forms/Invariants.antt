use Rattle.std.proofs.Common.{◌≡◌, true}
use Rattle.std.specs.List.{list_all}
use Rattle.po_text.specs.Strings.{is_string}
use Rattle.cases_model.proofs.unit_rows.parts.forms.Given as goal

abbrev pub invariant-loop-text : goal.invariant-loop-text
invariant-loop-text l = list_all is_string l.strings.items ≡ true
