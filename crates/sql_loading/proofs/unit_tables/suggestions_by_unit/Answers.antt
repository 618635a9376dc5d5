use Rattle.std.specs.List.{list_all}
use Rattle.std.proofs.Common.{[], ◌∷◌, ◌++◌, List, cond, sym, ap, ◌∙◌}
use Rattle.units.specs.declared.unit.Suggestion.{Suggestion}
use Rattle.sql_meaning.specs.OfficeShown.{is_of_unit}
use Rattle.sql_decoding.specs.TablesRead.{with_own_votes}
use Rattle.sql_decoding.proofs.RowsSoFar.{one_more_mapped}
use Rattle.sql_decoding.specs.RowTests.{is_suggestion_row}
use Rattle.sql_decoding.proofs.RowsTold.{handed_on, more_stand, all_stand, one_fails}
use Rattle.sql_loading.proofs.unit_tables.suggestions_by_unit.Goals as goal

pub loop-row-preserved : goal.loop-row-preserved
loop-row-preserved c = record {
  shown = λ lang key.
      let row = c.row-item.result in
      c.in_ok-put_suggestion.ensures.shown lang key
      ∙ ap (λ (all : List Suggestion). cond (is_of_unit lang key row) (all ++ with_own_votes c.args.votes.now row ∷ []) all) (c.loop-row.invariant.shown lang key)
      ∙ sym (one_more_mapped c.args.rows.now c.loop-row.row-index row c.loop-row-test.true c.row-item.is (is_of_unit lang key) (with_own_votes c.args.votes.now));
  stand = more_stand is_suggestion_row c.args.rows.now c.loop-row.row-index c.row-item.result c.loop-row-test.true c.row-item.is c.loop-row.invariant.stand c.in_ok-put_suggestion.ensures.stands;
}

pub returns-in_err-put_suggestion-clause-unread : goal.returns-in_err-put_suggestion-clause-unread
returns-in_err-put_suggestion-clause-unread c =
    handed_on c.from_residual.result c.in_err-put_suggestion.field-0.0 (list_all is_suggestion_row c.args.rows.now) (is_suggestion_row c.row-item.result) c.from_residual.ensures
    (one_fails is_suggestion_row c.args.rows.now c.loop-row.row-index c.row-item.result c.loop-row-test.true c.row-item.is) c.in_err-put_suggestion.ensures.unread

pub returns-clause-stands : goal.returns-clause-stands
returns-clause-stands c = all_stand is_suggestion_row c.args.rows.now c.loop-row.row-index c.loop-row-test.false c.loop-row.invariant.stand
