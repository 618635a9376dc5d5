use Rattle.std.proofs.Common.{◌≡◌, map, take}
use Rattle.office_specification.specs.ProjectActs.{LanguagePlan}
use Rattle.office_specification.specs.Tally.{counts_in}
use Rattle.outcomes.proofs.tallies.tallies_of.Given as goal

abbrev pub invariant-loop-lang : goal.invariant-loop-lang
invariant-loop-lang l = l.tallies.items ≡ map (λ (p : LanguagePlan). (p.0, counts_in l.template.catalogue p.1.units)) (take l.lang-index l.plans)
