use Rattle.std.proofs.Common.{rules}
use Rattle.sql_columns.proofs.numbers.vote_column.Goals as goal

pub returns-in-For : goal.returns-in-For
returns-in-For c = search rules
