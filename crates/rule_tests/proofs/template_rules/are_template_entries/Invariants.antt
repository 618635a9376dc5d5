use Rattle.std.proofs.Common.{take}
use Rattle.std.specs.Prelude.{All}
use Rattle.units.specs.Projects.{IsTemplateEntry}
use Rattle.rule_tests.proofs.template_rules.are_template_entries.Given as goal

abbrev pub invariant-loop-entry : goal.invariant-loop-entry
invariant-loop-entry l = All IsTemplateEntry (take l.entry-index l.entries)
