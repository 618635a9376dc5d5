use Rattle.sqlite.specs.Order.{column}
use Rattle.sql_decoding.proofs.RowsTold.{memory_tells}
use Rattle.sql_decoding.proofs.ColumnsTested.{text_or_null_unread, or_null_is}
use Rattle.sql_decoding.proofs.columns.text_or_null_in.Goals as goal

pub returns-in-Err-clause-unread : goal.returns-in-Err-clause-unread
returns-in-Err-clause-unread c = λ passes other.
    text_or_null_unread c.args.row.now c.args.at c.in-Err.error (λ memory. memory_tells c.unread.result (c.unread.ensures.1 memory) other) c.in-Err.ensures.kind passes

pub returns-in-Ok-clause-shown : goal.returns-in-Ok-clause-shown
returns-in-Ok-clause-shown c = or_null_is (column c.args.row.now c.args.at) c.in-Ok.text c.in-Ok.ensures.ok.1
