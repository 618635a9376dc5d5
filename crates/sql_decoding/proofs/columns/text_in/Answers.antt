use Rattle.sql_decoding.proofs.RowsTold.{memory_tells}
use Rattle.sql_decoding.proofs.ColumnsTested.{text_unread}
use Rattle.sql_decoding.proofs.columns.text_in.Goals as goal

pub returns-in-Err-clause-unread : goal.returns-in-Err-clause-unread
returns-in-Err-clause-unread c = λ passes other.
    text_unread c.args.row.now c.args.at c.in-Err.error (λ memory. memory_tells c.unread.result (c.unread.ensures.1 memory) other) c.in-Err.ensures.kind passes
