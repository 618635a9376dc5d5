use Rattle.std.specs.List.{list_all}
use Rattle.std.proofs.Common.{sym, ap, ◌∙◌}
use Rattle.units.specs.Project.{Project, with_unit}
use Rattle.sql_meaning.specs.OfficeShown.{place_shown}
use Rattle.sql_decoding.specs.TablesRead.{with_suggestions}
use Rattle.sql_decoding.proofs.RowsSoFar.{one_more}
use Rattle.sql_decoding.specs.RowTests.{is_unit_row}
use Rattle.sql_decoding.proofs.RowsTold.{handed_on, more_stand, all_stand, one_fails}
use Rattle.sql_loading.specs.DomainChanged.{lending}
use Rattle.sql_loading.proofs.office_read.put_each_unit.Goals as goal

pub loop-row-preserved : goal.loop-row-preserved
loop-row-preserved c = record {
  shown =
      let row = c.row-item.result in
      let all = c.args.suggestions.now in
      λ office project is.
      c.in_ok-put_unit.ensures.shown office _ (c.loop-row.invariant.shown office project is)
      ∙ ap (lending office c.args.domain.now) (sym (one_more c.args.rows.now c.loop-row.row-index row c.loop-row-test.true c.row-item.is (λ (p : Project) r. with_unit p (place_shown r) (with_suggestions all r)) project));
  stand = more_stand is_unit_row c.args.rows.now c.loop-row.row-index c.row-item.result c.loop-row-test.true c.row-item.is c.loop-row.invariant.stand c.in_ok-put_unit.ensures.stands;
}

pub returns-in_err-put_unit-clause-unread : goal.returns-in_err-put_unit-clause-unread
returns-in_err-put_unit-clause-unread c =
    handed_on c.from_residual.result c.in_err-put_unit.field-0.0 (list_all is_unit_row c.args.rows.now) (is_unit_row c.row-item.result) c.from_residual.ensures
    (one_fails is_unit_row c.args.rows.now c.loop-row.row-index c.row-item.result c.loop-row-test.true c.row-item.is) c.in_err-put_unit.ensures.unread

pub returns-clause-stands : goal.returns-clause-stands
returns-clause-stands c = all_stand is_unit_row c.args.rows.now c.loop-row.row-index c.loop-row-test.false c.loop-row.invariant.stand
