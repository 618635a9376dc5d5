use Rattle.std.proofs.Common.{ℤ, Option, None, cond, sym, ap, ◌∙◌}
use Rattle.sqlite.specs.Order.{column}
use Rattle.sql_schema.specs.Keys.{has_text}
use Rattle.sql_decoding.proofs.RowsSoFar.{one_more_kept}
use Rattle.sql_layouts.specs.RisingRows.{integer_in}
use Rattle.sql_adoption.proofs.suggestion_sums.sums_by_number.Goals as goal

pub loop-row-preserved : goal.loop-row-preserved
loop-row-preserved c = λ number.
    let row = c.row-item.result in
    c.in_ok-put_sum.ensures number
    ∙ ap (λ (before : Option ℤ). cond (has_text 0 number row) (integer_in (column row 1)) before) (c.loop-row.invariant number)
    ∙ sym (one_more_kept c.args.rows.now c.loop-row.row-index row c.loop-row-test.true c.row-item.is (has_text 0 number) (λ (before : Option ℤ) r. integer_in (column r 1)) None)
