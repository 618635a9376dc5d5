use Rattle.std.proofs.Common.{sym, ◌∙◌}
use Rattle.std.specs.List.{list_all}
use Rattle.sql_decoding.specs.RowTests.{holds_text, is_number}
use Rattle.sql_decoding.proofs.RowsTold.{handed_on, more_stand, all_stand, one_fails}
use Rattle.sql_adoption.specs.FigureRows.{has_its_sum}
use Rattle.sql_adoption.proofs.suggestion_sums.have_their_sums.Goals as goal

pub loop-row-preserved : goal.loop-row-preserved
loop-row-preserved c =
    more_stand (has_its_sum c.args.votes.now c.args.sums.now) c.args.rows.now c.loop-row.row-index c.row-item.result c.loop-row-test.true c.row-item.is c.loop-row.invariant
    (sym c.in_ok-has_its_sum.ensures.told ∙ c.if-not-branch.false)

pub returns-then-not-branch-clause-told : goal.returns-then-not-branch-clause-told
returns-then-not-branch-clause-told c =
    sym (one_fails (has_its_sum c.args.votes.now c.args.sums.now) c.args.rows.now c.loop-row.row-index c.row-item.result c.loop-row-test.true c.row-item.is
    (sym c.in_ok-has_its_sum.ensures.told ∙ c.if-not-branch.true))

pub returns-clause-told : goal.returns-clause-told
returns-clause-told c = sym (all_stand (has_its_sum c.args.votes.now c.args.sums.now) c.args.rows.now c.loop-row.row-index c.loop-row-test.false c.loop-row.invariant)

pub returns-in_err-has_its_sum-clause-unread : goal.returns-in_err-has_its_sum-clause-unread
returns-in_err-has_its_sum-clause-unread c =
    handed_on c.from_residual.result c.in_err-has_its_sum.field-0.0 (list_all (holds_text is_number 0) c.args.rows.now) (holds_text is_number 0 c.row-item.result) c.from_residual.ensures
    (one_fails (holds_text is_number 0) c.args.rows.now c.loop-row.row-index c.row-item.result c.loop-row-test.true c.row-item.is) c.in_err-has_its_sum.ensures.unread
