use Rattle.std.proofs.Common.{rules}
use Rattle.sql_columns.proofs.names.read_number.Goals as goal

pub returns-then-eq : goal.returns-then-eq
returns-then-eq c = search rules
