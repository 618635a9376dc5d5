use Rattle.std.proofs.Common.{Err}
use Rattle.commands.proofs.CanonLemmas.{of_read, of_any, memory_is_told, unread_told}
use Rattle.commands.proofs.canon.canon_text.Goals as goal

pub returns-in-Ok-clause-canon : goal.returns-in-Ok-clause-canon
returns-in-Ok-clause-canon g c =
    let before = g.R.ByteSource.failed c.args.source.now in
    let after = g.R.ByteSource.failed c.gather.new.source in
    of_read c.in-Ok.bytes.items (g.R.ByteSource.left c.args.source.now) (g.R.ByteSource.left c.gather.new.source) before after _ _ _ _ c.canon_bytes.result c.in-Ok.ensures.ok
    (rw c.as_slice.ensures.value at (c.canon_bytes.ensures.canon before after))

pub returns-in-Err-Memory-clause-canon : goal.returns-in-Err-Memory-clause-canon
returns-in-Err-Memory-clause-canon g c =
    of_any (g.R.ByteSource.left c.args.source.now) _ (λ bytes.
    memory_is_told bytes (g.R.ByteSource.failed c.args.source.now) (g.R.ByteSource.failed c.gather.new.source) _ _ _ c.send_po_fault.result c.send_po_fault.ensures)

pub returns-in-Err-Source-clause-canon : goal.returns-in-Err-Source-clause-canon
returns-in-Err-Source-clause-canon g c =
    of_any (g.R.ByteSource.left c.args.source.now) _ (λ bytes.
    unread_told bytes (g.R.ByteSource.failed c.args.source.now) (g.R.ByteSource.failed c.gather.new.source) _ _ (c.in-Err-Source.ensures.failed (λ i. Err (c.in-Err-Source.field-0-is i))))
