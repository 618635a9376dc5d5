use Rattle.std.proofs.Common.{◌≡◌, true}
use Rattle.std.specs.List.{list_all}
use Rattle.po_text.specs.Strings.{is_string}
use Rattle.cases_model.proofs.catalogue_rows.entries.forms.Given as goal

abbrev pub invariant-loop-item : goal.invariant-loop-item
invariant-loop-item l = list_all is_string l.strings.items ≡ true
