use Rattle.plural_expr.proofs.Readings.{reading_rule, rule_reading, reading_fault, fault_reading}
use Rattle.plural_expr.proofs.calls.one_reading.Goals as goal

pub returns-clause-rule : goal.returns-clause-rule
returns-clause-rule c = λ text rule. (reading_rule text rule, rule_reading text rule)

pub returns-clause-fault : goal.returns-clause-fault
returns-clause-fault c = λ text fault. (reading_fault text fault, fault_reading text fault)
