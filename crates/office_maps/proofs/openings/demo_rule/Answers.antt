use Rattle.office_specification.proofs.rules.Demo.{no_fault}
use Rattle.office_maps.proofs.openings.demo_rule.Goals as goal

pub unreachable-requires : goal.unreachable-requires
unreachable-requires c = no_fault c.in-Err.fault (c.in-Err.ensures.read_fault c.in_default.not-Memory)
