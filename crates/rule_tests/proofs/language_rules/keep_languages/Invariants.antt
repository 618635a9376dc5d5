use Rattle.std.proofs.Common.{take}
use Rattle.std.specs.Prelude.{All}
use Rattle.office_maps.specs.OfficeIn.{lent_project}
use Rattle.rule_tests.proofs.LanguageTests.{KeepsIfThere}
use Rattle.rule_tests.proofs.language_rules.keep_languages.Given as goal

abbrev pub invariant-loop-lang : goal.invariant-loop-lang
invariant-loop-lang l = All (KeepsIfThere (lent_project l.project)) (take l.lang-index l.langs)
