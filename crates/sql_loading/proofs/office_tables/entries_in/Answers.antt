use Rattle.std.specs.List.{list_all}
use Rattle.std.proofs.Common.{rules, ◌≡◌, [], ◌∷◌, ◌++◌, sym, ap, ◌∙◌}
use Rattle.std.proofs.lemmas.List.{map_more}
use Rattle.sql_meaning.specs.Meaning.{key_at}
use Rattle.sql_meaning.specs.Shown.{shown_entry}
use Rattle.sql_decoding.specs.RowTests.{is_entry_row}
use Rattle.sql_decoding.proofs.RowsTold.{handed_on, more_stand, all_stand, one_fails}
use Rattle.sql_loading.proofs.office_tables.entries_in.Goals as goal

pub loop-row-preserved : goal.loop-row-preserved
loop-row-preserved c = record {
  shown =
      let pushed : c.push.new.self.items ≡ c.loop-row.entries.items ++ c.in_ok-template_entry.field-0 ∷ [] = search rules in
      let shown = c.in_ok-template_entry.ensures.shown ∙ ap (λ row. shown_entry (key_at 4 row) row) c.row-item.is in
      pushed ∙ (λ i. c.loop-row.invariant.shown i ++ (shown i ∷ []))
      ∙ sym (map_more (λ row. shown_entry (key_at 4 row) row) c.args.rows.now c.loop-row.row-index c.row-item.result c.loop-row-test.true);
  stand = more_stand is_entry_row c.args.rows.now c.loop-row.row-index c.row-item.result c.loop-row-test.true c.row-item.is c.loop-row.invariant.stand c.in_ok-template_entry.ensures.stands;
}

pub returns-in_err-template_entry-clause-unread : goal.returns-in_err-template_entry-clause-unread
returns-in_err-template_entry-clause-unread c =
    handed_on c.from_residual.result c.in_err-template_entry.field-0.0 (list_all is_entry_row c.args.rows.now) (is_entry_row c.row-item.result) c.from_residual.ensures
    (one_fails is_entry_row c.args.rows.now c.loop-row.row-index c.row-item.result c.loop-row-test.true c.row-item.is) c.in_err-template_entry.ensures.unread

pub returns-clause-stands : goal.returns-clause-stands
returns-clause-stands c = all_stand is_entry_row c.args.rows.now c.loop-row.row-index c.loop-row-test.false c.loop-row.invariant.stand
