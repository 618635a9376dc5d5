use Rattle.std.proofs.Common.{map, drop, ap, refl}
use Rattle.po_write.proofs.Pieces.{next_left}
use Rattle.office_maps.specs.OfficeIn.{lent_project}
use Rattle.office_specification.specs.EntryTexts.{with_its_unit}
use Rattle.tables.proofs.Handings.{more, stopped}
use Rattle.tables.proofs.handing.hand_template.Goals as goal

pub returns-in_err-hand_made : goal.returns-in_err-hand_made
returns-in_err-hand_made g c =
    let made = with_its_unit (lent_project c.args.project.now) c.args.lang.now in
    stopped g.S.EntrySink.Refuses g.met.S.EntrySink.more {all = map made c.args.entries.now} {left = map made (drop c.loop-entry.entry-index c.args.entries.now)} _ c.from_residual.result c.in_err-hand_made.field-0.0 c.from_residual.ensures.1 c.loop-entry.invariant
    (ap (map made) (next_left c.args.entries.now c.loop-entry.entry-index c.entry-item.result c.entry-item.result c.loop-entry-test.true c.entry-item.is refl))
    (c.in_err-hand_made.ensures (made c.entry-item.result) c.with_its_unit.ensures)

pub loop-entry-preserved : goal.loop-entry-preserved
loop-entry-preserved g c =
    let made = with_its_unit (lent_project c.args.project.now) c.args.lang.now in
    more g.met.S.EntrySink.more {all = map made c.args.entries.now} {left = map made (drop c.loop-entry.entry-index c.args.entries.now)} c.loop-entry.invariant
    (ap (map made) (next_left c.args.entries.now c.loop-entry.entry-index c.entry-item.result c.entry-item.result c.loop-entry-test.true c.entry-item.is refl))
    (c.in_ok-hand_made.ensures (made c.entry-item.result) c.with_its_unit.ensures)
