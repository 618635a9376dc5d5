use Rattle.std.proofs.Common.{◌+◌, ℕ, sym, ap, ◌∙◌}
use Rattle.std.proofs.lemmas.List.{take_all}
use Rattle.std.specs.Prelude.{sum_by}
use Rattle.sqlite.specs.declared.types.Value.{Value}
use Rattle.sqlite.specs.Order.{Row}
use Rattle.sql_decoding.proofs.RowsSoFar.{one_more}
use Rattle.sql_meaning.specs.Values.{natural, integer_of, natural_at}
use Rattle.sql_adoption.proofs.approvals_read.sum_at.Goals as goal

pub loop-row-preserved : goal.loop-row-preserved
loop-row-preserved c =
    let at = c.args.at in
    let row = c.row-item.result in
    let counted = ap (λ (v : Value). natural (integer_of v)) ((c.natural_in.ensures c.in_ok-count.count).0 c.in_ok-count.was) in
    c.in_ok-sum.ensures.1
    ∙ (ap (λ (n : ℕ). c.loop-row.sum + n) (sym counted)
    ∙ (ap (λ (n : ℕ). n + natural_at at row) c.loop-row.invariant
    ∙ sym (one_more c.args.rows.now c.loop-row.row-index row c.loop-row-test.true c.row-item.is (λ (n : ℕ) (r : Row). n + natural_at at r) 0)))

pub returns : goal.returns
returns c = c.loop-row.invariant ∙ ap (sum_by (natural_at c.args.at)) (take_all c.loop-row.row-index c.args.rows.now c.loop-row-test.false)
