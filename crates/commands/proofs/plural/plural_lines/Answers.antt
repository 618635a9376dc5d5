use Rattle.commands.proofs.Ends.{refused_ends, index_ends, all_ends, cut_ends}
use Rattle.commands.proofs.plural.plural_lines.Goals as goal

pub returns-in-Err : goal.returns-in-Err
returns-in-Err g c = refused_ends _ _ _ c.args.value.now c.args.ns.now c.in-Err.fault c.send_plural_fault.result c.in-Err.ensures.read_fault c.send_plural_fault.ensures

pub returns-in-Ok-Some : goal.returns-in-Ok-Some
returns-in-Ok-Some g c =
    index_ends _ _ c.args.value.now c.args.ns.now c.in-Ok.forms c.in-Ok.ensures.read _ _ c.in-Ok-Some.fault c.in-Ok-Some.n c.send_index_fault.result
    c.in-Ok-Some.ensures.lines (rw c.in-Ok-Some.field-0-is at c.in-Ok-Some.ensures.end) c.send_index_fault.ensures

pub returns-in-Ok-None : goal.returns-in-Ok-None
returns-in-Ok-None g c = all_ends _ _ c.args.value.now c.args.ns.now c.in-Ok.forms c.in-Ok.ensures.read _ c.in-Ok-None.ensures.lines (rw c.in-Ok-None.field-0-is at c.in-Ok-None.ensures.end)

pub returns : goal.returns
returns g c = cut_ends _ _ c.args.value.now c.args.ns.now c.in-Ok.forms c.in-Ok.ensures.read _ c.in-Err-send_lines.ensures.lines
