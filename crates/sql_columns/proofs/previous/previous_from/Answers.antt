-- What is read of the column is what it is written from.
use Rattle.std.proofs.Common.{◌≡◌}
use Rattle.sql_columns.specs.Readings.{previous_read}
use Rattle.sql_columns.specs.Written.{previous_text}
use Rattle.sql_columns.proofs.Exact.{ok_from, gives_from}
use Rattle.sql_columns.proofs.Readers.{previous_written, previous_found}
use Rattle.sql_columns.proofs.previous.previous_from.Goals as goal

pub returns-clause-ok : goal.returns-clause-ok
returns-clause-ok c = ok_from (previous_read c.args.column.now) (λ v. c.args.column.now ≡ previous_text v) (previous_written c.args.column.now) c.read_column.result c.read_column.ensures.ok

pub returns-clause-back : goal.returns-clause-back
returns-clause-back c = λ v fit e. gives_from (previous_read c.args.column.now) v (previous_found c.args.column.now v fit e) c.read_column.result c.read_column.ensures.ok c.read_column.ensures.malformed
