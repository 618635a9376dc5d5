use Rattle.std.proofs.Common.{rules}
use Rattle.sql_columns.proofs.numbers.role_column.Goals as goal

pub returns-in-Guest : goal.returns-in-Guest
returns-in-Guest c = search rules
