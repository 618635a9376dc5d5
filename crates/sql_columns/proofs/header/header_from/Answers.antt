-- What is read of the column is what it is written from.
use Rattle.std.proofs.Common.{◌≡◌}
use Rattle.sql_columns.specs.Readings.{header_read}
use Rattle.sql_columns.specs.Written.{header_text}
use Rattle.sql_columns.proofs.Exact.{ok_from, gives_from}
use Rattle.sql_columns.proofs.Readers.{header_written, header_found}
use Rattle.sql_columns.proofs.header.header_from.Goals as goal

pub returns-clause-ok : goal.returns-clause-ok
returns-clause-ok c = ok_from (header_read c.args.column.now) (λ v. c.args.column.now ≡ header_text v) (header_written c.args.column.now) c.read_column.result c.read_column.ensures.ok

pub returns-clause-back : goal.returns-clause-back
returns-clause-back c = λ v fit e. gives_from (header_read c.args.column.now) v (header_found c.args.column.now v fit e) c.read_column.result c.read_column.ensures.ok c.read_column.ensures.malformed
