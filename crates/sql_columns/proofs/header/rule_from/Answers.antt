use Rattle.std.proofs.Common.{rules}
use Rattle.sql_columns.proofs.header.rule_from.Goals as goal

pub returns-then-eq-clause-is_field : goal.returns-then-eq-clause-is_field
returns-then-eq-clause-is_field c = search rules
