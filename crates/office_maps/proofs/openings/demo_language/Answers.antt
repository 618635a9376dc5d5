use Rattle.office_specification.proofs.rules.Demo.{ruled}
use Rattle.office_maps.proofs.openings.demo_language.Goals as goal

pub invariant_of-result : goal.invariant_of-result
invariant_of-result c = record { ruled = ruled c.in_ok-header.header c.in-Ok.rule c.in_ok-header.ensures c.in-Ok.ensures }
