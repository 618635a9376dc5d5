use Rattle.std.proofs.Common.{take}
use Rattle.std.specs.Prelude.{All}
use Rattle.office_maps.specs.OfficeIn.{lent_project}
use Rattle.rule_tests.specs.Parts.{IsHeaded}
use Rattle.rule_tests.proofs.language_rules.are_headed.Given as goal

abbrev pub invariant-loop-lang : goal.invariant-loop-lang
invariant-loop-lang l = All (IsHeaded (lent_project l.project)) (take l.lang-index l.langs)
