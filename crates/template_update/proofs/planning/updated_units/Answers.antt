use Rattle.std.proofs.Common.{List}
use Rattle.std.proofs.lemmas.Result.{IfOk-weaker}
use Rattle.po_text.specs.declared.entry.Entry.{Entry}
use Rattle.units.specs.Units.{key_of}
use Rattle.template_update.specs.PlannedUnits.{HaveUpdates}
use Rattle.template_update.specs.KeyIndexes.{IsIndexOf}
use Rattle.template_update.proofs.planning.updated_units.Goals as goal

pub returns : goal.returns
returns c =
    IfOk-weaker c.update_units.result
    (λ done. (was : List Entry) → (will : List Entry) → IsIndexOf key_of was c.in_ok-before.before.found → IsIndexOf key_of will c.in_ok-after.after.found →
    HaveUpdates was will c.args.rule.now c.args.units.now done)
    (HaveUpdates c.args.present.now c.args.next.now c.args.rule.now c.args.units.now)
    (λ done have. have c.args.present.now c.args.next.now c.in_ok-before.ensures c.in_ok-after.ensures)
    c.update_units.ensures
