use Rattle.std.proofs.Common.{◌≡◌, drop}
use Rattle.office_specification.specs.Tally.{counts_in}
use Rattle.office_specification.specs.Counting.{plus}
use Rattle.outcomes.proofs.tallies.tally_of.Given as goal

-- what is counted, and what is left to count
abbrev pub invariant-loop-unit : goal.invariant-loop-unit
invariant-loop-unit l = plus l.tally (counts_in l.template.catalogue (drop l.unit-index l.units)) ≡ counts_in l.template.catalogue l.units
