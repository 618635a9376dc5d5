use Rattle.std.proofs.Common.{rules}
use Rattle.sql_columns.proofs.json_columns.read_column.Goals as goal

pub returns-then-same-clause-ok : goal.returns-then-same-clause-ok
returns-then-same-clause-ok g c = search rules
