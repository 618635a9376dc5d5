-- What is read of the column is what it is written from.
use Rattle.std.proofs.Common.{◌≡◌}
use Rattle.sql_columns.specs.Readings.{texts_read}
use Rattle.sql_columns.specs.Written.{texts_text}
use Rattle.sql_columns.proofs.Exact.{ok_from, gives_from}
use Rattle.sql_columns.proofs.Readers.{texts_written, texts_found}
use Rattle.sql_columns.proofs.lists.texts_from.Goals as goal

pub returns-clause-ok : goal.returns-clause-ok
returns-clause-ok c = ok_from (texts_read c.args.column.now) (λ v. c.args.column.now ≡ texts_text v) (texts_written c.args.column.now) c.read_column.result c.read_column.ensures.ok

pub returns-clause-back : goal.returns-clause-back
returns-clause-back c = λ v e. gives_from (texts_read c.args.column.now) v (texts_found c.args.column.now v e) c.read_column.result c.read_column.ensures.ok c.read_column.ensures.malformed
