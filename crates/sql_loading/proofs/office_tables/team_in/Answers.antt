use Rattle.std.specs.List.{list_all}
use Rattle.std.proofs.Common.{refl, sym, ap, ◌∙◌}
use Rattle.std.specs.FinMap as maps
use Rattle.po_text.specs.Texts.{text_cmp}
use Rattle.units.specs.declared.unit.Role.{Role}
use Rattle.sql_schema.specs.Keys.{text_at}
use Rattle.sql_meaning.specs.Values.{role_at}
use Rattle.sql_loading.proofs.OfficePut.{no_team}
use Rattle.sql_decoding.proofs.RowsSoFar.{one_more}
use Rattle.sql_decoding.specs.RowTests.{is_member_row}
use Rattle.sql_decoding.proofs.RowsTold.{handed_on, more_stand, all_stand, one_fails}
use Rattle.sql_loading.proofs.office_tables.team_in.Goals as goal

pub loop-row-init : goal.loop-row-init
loop-row-init c = record { shown = no_team c.new-team.result c.new-team.ensures.empty; stand = refl }

pub loop-row-preserved : goal.loop-row-preserved
loop-row-preserved c = record {
  shown =
      let row = c.row-item.result in
      c.in_ok-put_member.ensures.shown
      ∙ ap (λ (team : maps.FinMap text_cmp Role). maps.insert team (text_at 1 row) (role_at 0 row)) c.loop-row.invariant.shown
      ∙ sym (one_more c.args.rows.now c.loop-row.row-index row c.loop-row-test.true c.row-item.is (λ (team : maps.FinMap text_cmp Role) r. maps.insert team (text_at 1 r) (role_at 0 r)) maps.empty);
  stand = more_stand is_member_row c.args.rows.now c.loop-row.row-index c.row-item.result c.loop-row-test.true c.row-item.is c.loop-row.invariant.stand c.in_ok-put_member.ensures.stands;
}

pub returns-in_err-put_member-clause-unread : goal.returns-in_err-put_member-clause-unread
returns-in_err-put_member-clause-unread c =
    handed_on c.from_residual.result c.in_err-put_member.field-0.0 (list_all is_member_row c.args.rows.now) (is_member_row c.row-item.result) c.from_residual.ensures
    (one_fails is_member_row c.args.rows.now c.loop-row.row-index c.row-item.result c.loop-row-test.true c.row-item.is) c.in_err-put_member.ensures.unread

pub returns-clause-stands : goal.returns-clause-stands
returns-clause-stands c = all_stand is_member_row c.args.rows.now c.loop-row.row-index c.loop-row-test.false c.loop-row.invariant.stand
