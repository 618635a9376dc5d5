use Rattle.std.proofs.Common.{take}
use Rattle.std.specs.Prelude.{All}
use Rattle.office_maps.specs.OfficeIn.{lent_project}
use Rattle.rule_tests.specs.Parts.{HasUnit}
use Rattle.rule_tests.proofs.language_rules.has_each_unit.Given as goal

abbrev pub invariant-loop-entry : goal.invariant-loop-entry
invariant-loop-entry l = All (HasUnit (lent_project l.project) l.fn.lang) (take l.entry-index l.entries)
