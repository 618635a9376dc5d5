use Rattle.std.proofs.Common.{rules}
use Rattle.sql_columns.proofs.numbers.state_from.Goals as goal

pub returns-in-1-clause-ok : goal.returns-in-1-clause-ok
returns-in-1-clause-ok c = search rules

pub returns-in-1-clause-back : goal.returns-in-1-clause-back
returns-in-1-clause-back c = search rules
