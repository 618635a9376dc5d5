use Rattle.std.specs.List.{list_all}
use Rattle.std.proofs.Common.{[], ◌∷◌, ◌++◌, sym, ap, ◌∙◌}
use Rattle.std.proofs.lemmas.List.{map_more}
use Rattle.sql_decoding.specs.ShownContexts.{suggestion_shown}
use Rattle.sql_decoding.specs.RowTests.{is_suggestion_with_votes}
use Rattle.sql_decoding.proofs.RowsTold.{handed_on, more_stand, all_stand, one_fails}
use Rattle.sql_decoding.proofs.units_read.suggestions_in.Goals as goal

pub loop-row-preserved : goal.loop-row-preserved
loop-row-preserved c = record {
  shown =
      let shown = ap suggestion_shown c.row-item.is in
      c.in_ok-push_suggestion.ensures.shown ∙ (λ i. c.loop-row.invariant.shown i ++ (shown i ∷ []))
      ∙ sym (map_more suggestion_shown c.args.rows.now c.loop-row.row-index c.row-item.result c.loop-row-test.true);
  stand = more_stand is_suggestion_with_votes c.args.rows.now c.loop-row.row-index c.row-item.result c.loop-row-test.true c.row-item.is c.loop-row.invariant.stand c.in_ok-push_suggestion.ensures.stands;
}

pub returns-in_err-push_suggestion-clause-unread : goal.returns-in_err-push_suggestion-clause-unread
returns-in_err-push_suggestion-clause-unread c =
    handed_on c.from_residual.result c.in_err-push_suggestion.field-0.0 (list_all is_suggestion_with_votes c.args.rows.now) (is_suggestion_with_votes c.row-item.result) c.from_residual.ensures
    (one_fails is_suggestion_with_votes c.args.rows.now c.loop-row.row-index c.row-item.result c.loop-row-test.true c.row-item.is) c.in_err-push_suggestion.ensures.unread

pub returns-clause-stands : goal.returns-clause-stands
returns-clause-stands c = all_stand is_suggestion_with_votes c.args.rows.now c.loop-row.row-index c.loop-row-test.false c.loop-row.invariant.stand
