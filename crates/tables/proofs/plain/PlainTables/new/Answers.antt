use Rattle.tables.proofs.Started.{keeps_rules}
use Rattle.tables.proofs.plain.PlainTables.new.Goals as goal

pub invariant_of-result : goal.invariant_of-result
invariant_of-result c = record { kept = keeps_rules c.new.result c.in_ok-office.office c.args.start.now c.new.ensures c.in_ok-office.ensures }
