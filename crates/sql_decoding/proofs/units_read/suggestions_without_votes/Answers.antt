use Rattle.std.specs.List.{list_all}
use Rattle.std.specs.FinMap as maps
use Rattle.std.proofs.Common.{[], ◌∷◌, ◌++◌, sym, ap, ◌∙◌}
use Rattle.std.proofs.lemmas.List.{map_more}
use Rattle.sql_decoding.specs.TablesRead.{with_votes}
use Rattle.sql_decoding.specs.RowTests.{is_suggestion}
use Rattle.sql_decoding.proofs.RowsTold.{handed_on, more_stand, all_stand, one_fails}
use Rattle.sql_decoding.proofs.units_read.suggestions_without_votes.Goals as goal

pub loop-row-preserved : goal.loop-row-preserved
loop-row-preserved c = record {
  shown =
      let shown = ap (with_votes maps.empty) c.row-item.is in
      c.in_ok-push_without_votes.ensures.shown ∙ (λ i. c.loop-row.invariant.shown i ++ (shown i ∷ []))
      ∙ sym (map_more (with_votes maps.empty) c.args.rows.now c.loop-row.row-index c.row-item.result c.loop-row-test.true);
  stand = more_stand is_suggestion c.args.rows.now c.loop-row.row-index c.row-item.result c.loop-row-test.true c.row-item.is c.loop-row.invariant.stand c.in_ok-push_without_votes.ensures.stands;
}

pub returns-in_err-push_without_votes-clause-unread : goal.returns-in_err-push_without_votes-clause-unread
returns-in_err-push_without_votes-clause-unread c =
    handed_on c.from_residual.result c.in_err-push_without_votes.field-0.0 (list_all is_suggestion c.args.rows.now) (is_suggestion c.row-item.result) c.from_residual.ensures
    (one_fails is_suggestion c.args.rows.now c.loop-row.row-index c.row-item.result c.loop-row-test.true c.row-item.is) c.in_err-push_without_votes.ensures.unread

pub returns-clause-stands : goal.returns-clause-stands
returns-clause-stands c = all_stand is_suggestion c.args.rows.now c.loop-row.row-index c.loop-row-test.false c.loop-row.invariant.stand
