use Rattle.std.specs.List.{list_all}
use Rattle.std.proofs.Common.{refl, sym, ◌∙◌}
use Rattle.std.specs.FinMap as maps
use Rattle.po_text.specs.Texts.{text_cmp}
use Rattle.po_text.specs.declared.entry.Entry.{Entry}
use Rattle.sql_schema.specs.Keys.{text_at}
use Rattle.sql_meaning.specs.Shown.{shown_header}
use Rattle.sql_decoding.proofs.RowsSoFar.{one_more}
use Rattle.sql_decoding.specs.RowTests.{is_language_row}
use Rattle.sql_decoding.proofs.RowsTold.{handed_on, more_stand, all_stand, one_fails}
use Rattle.sql_loading.specs.DomainChanged.{lending}
use Rattle.sql_loading.proofs.office_tables.put_languages.Goals as goal

pub loop-row-init : goal.loop-row-init
loop-row-init c = record { shown = λ office project is. is; stand = refl }

pub loop-row-preserved : goal.loop-row-preserved
loop-row-preserved c = record {
  shown = λ office project is.
      let row = c.row-item.result in
      c.in_ok-put_language.ensures.shown office _ (c.loop-row.invariant.shown office project is)
      ∙ (λ i. lending office c.args.domain.now (record project {
        headers = sym (one_more c.args.rows.now c.loop-row.row-index row c.loop-row-test.true c.row-item.is
            (λ (headers : maps.FinMap text_cmp Entry) r. maps.insert headers (text_at 2 r) (shown_header r)) project.headers) i;
      }));
  stand = more_stand is_language_row c.args.rows.now c.loop-row.row-index c.row-item.result c.loop-row-test.true c.row-item.is c.loop-row.invariant.stand c.in_ok-put_language.ensures.stands;
}

pub returns-in_err-put_language-clause-unread : goal.returns-in_err-put_language-clause-unread
returns-in_err-put_language-clause-unread c =
    handed_on c.from_residual.result c.in_err-put_language.field-0.0 (list_all is_language_row c.args.rows.now) (is_language_row c.row-item.result) c.from_residual.ensures
    (one_fails is_language_row c.args.rows.now c.loop-row.row-index c.row-item.result c.loop-row-test.true c.row-item.is) c.in_err-put_language.ensures.unread

pub returns-clause-stands : goal.returns-clause-stands
returns-clause-stands c = all_stand is_language_row c.args.rows.now c.loop-row.row-index c.loop-row-test.false c.loop-row.invariant.stand
