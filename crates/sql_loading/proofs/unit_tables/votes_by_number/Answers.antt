use Rattle.std.specs.List.{list_all}
use Rattle.std.proofs.Common.{cond, sym, ap, ◌∙◌}
use Rattle.std.specs.FinMap as maps
use Rattle.sql_schema.specs.Keys.{text_at, has_text}
use Rattle.sql_meaning.specs.Values.{vote_at}
use Rattle.sql_decoding.specs.TablesRead.{Votes}
use Rattle.sql_decoding.proofs.RowsSoFar.{one_more_kept}
use Rattle.sql_decoding.specs.RowTests.{is_vote_row}
use Rattle.sql_decoding.proofs.RowsTold.{handed_on, more_stand, all_stand, one_fails}
use Rattle.sql_loading.proofs.unit_tables.votes_by_number.Goals as goal

pub loop-row-preserved : goal.loop-row-preserved
loop-row-preserved c = record {
  shown = λ number.
      let row = c.row-item.result in
      c.in_ok-put_vote_on.ensures.shown number
      ∙ ap (λ (votes : Votes). cond (has_text 2 number row) (maps.insert votes (text_at 0 row) (vote_at 1 row)) votes) (c.loop-row.invariant.shown number)
      ∙ sym (one_more_kept c.args.rows.now c.loop-row.row-index row c.loop-row-test.true c.row-item.is (has_text 2 number)
      (λ (votes : Votes) r. maps.insert votes (text_at 0 r) (vote_at 1 r)) maps.empty);
  stand = more_stand is_vote_row c.args.rows.now c.loop-row.row-index c.row-item.result c.loop-row-test.true c.row-item.is c.loop-row.invariant.stand c.in_ok-put_vote_on.ensures.stands;
}

pub returns-in_err-put_vote_on-clause-unread : goal.returns-in_err-put_vote_on-clause-unread
returns-in_err-put_vote_on-clause-unread c =
    handed_on c.from_residual.result c.in_err-put_vote_on.field-0.0 (list_all is_vote_row c.args.rows.now) (is_vote_row c.row-item.result) c.from_residual.ensures
    (one_fails is_vote_row c.args.rows.now c.loop-row.row-index c.row-item.result c.loop-row-test.true c.row-item.is) c.in_err-put_vote_on.ensures.unread

pub returns-clause-stands : goal.returns-clause-stands
returns-clause-stands c = all_stand is_vote_row c.args.rows.now c.loop-row.row-index c.loop-row-test.false c.loop-row.invariant.stand
