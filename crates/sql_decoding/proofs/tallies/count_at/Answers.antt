use Rattle.sql_decoding.specs.RowTests.{holds_integer, is_count}
use Rattle.sql_decoding.proofs.RowsTold.{handed_on}
use Rattle.sql_decoding.proofs.tallies.count_at.Goals as goal

pub returns-in_err-number-clause-unread : goal.returns-in_err-number-clause-unread
returns-in_err-number-clause-unread c =
    let stands = holds_integer is_count c.args.at c.args.row.now in
    handed_on c.from_residual.result c.in_err-number.field-0.0 stands stands c.from_residual.ensures (λ fails. fails) (c.in_err-number.ensures.unread is_count)
