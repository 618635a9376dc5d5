use Rattle.std.proofs.Common.{sym, ap, ◌∙◌}
use Rattle.std.proofs.lemmas.List.{take_all}
use Rattle.sqlite.specs.Order.{Row}
use Rattle.po_text.specs.Texts.{Text}
use Rattle.units.specs.Changes.{with_domain}
use Rattle.units.specs.Office.{Office}
use Rattle.office_maps.specs.OfficeIn.{office_in}
use Rattle.sql_schema.specs.Keys.{text_at}
use Rattle.sql_decoding.proofs.RowsSoFar.{one_more}
use Rattle.sql_adoption.specs.PartsRead.{with_named}
use Rattle.sql_adoption.proofs.parts_read.put_named.Goals as goal

pub loop-row-preserved : goal.loop-row-preserved
loop-row-preserved c =
    let rows = c.args.rows.now in
    let row = c.row-item.result in
    c.in_ok-change.ensures.ok
    ∙ (ap (λ (name : Text). with_domain (office_in c.loop-row.maps) name) c.in_ok-name.ensures.shown
    ∙ (ap (λ (office : Office). with_domain office (text_at 0 row)) c.loop-row.invariant
    ∙ sym (one_more rows c.loop-row.row-index row c.loop-row-test.true c.row-item.is (λ (office : Office) (r : Row). with_domain office (text_at 0 r)) (office_in c.args.maps.now))))

pub returns : goal.returns
returns c = c.loop-row.invariant ∙ ap (with_named (office_in c.args.maps.now)) (take_all c.loop-row.row-index c.args.rows.now c.loop-row-test.false)
