use Rattle.std.proofs.Common.{[], ◌∙◌, ap}
use Rattle.commands.proofs.CanonLemmas.{written_text, spelled_is_written, spelled_is_broken, fault_is_told}
use Rattle.commands.proofs.canon.canon_bytes.Goals as goal

pub returns-in-Ok-written-clause-canon : goal.returns-in-Ok-written-clause-canon
returns-in-Ok-written-clause-canon g c = λ f h.
    let read = c.in-Ok.ensures.catalogue in
    let text = written_text c.in-Ok.canonical.writer read.0 (read.3 [] c.no_entries.ensures) in
    spelled_is_written c.args.bytes.now c.as_slice.result.now read.0 f h _ _ _ read.1 read.2 (c.as_slice.ensures.value ∙ ap (λ s. s.bytes.items) c.finish-text.ensures.sink ∙ text) c.in-Ok-written.ensures

pub returns-in-Err-written-clause-canon : goal.returns-in-Err-written-clause-canon
returns-in-Err-written-clause-canon g c = λ f h.
    let read = c.in-Ok.ensures.catalogue in
    let text = written_text c.in-Ok.canonical.writer read.0 (read.3 [] c.no_entries.ensures) in
    spelled_is_broken c.args.bytes.now c.as_slice.result.now read.0 f h _ _ _ read.1 read.2 (c.as_slice.ensures.value ∙ ap (λ s. s.bytes.items) c.finish-text.ensures.sink ∙ text) c.in-Err-written.ensures

pub returns-in-Err-clause-canon : goal.returns-in-Err-clause-canon
returns-in-Err-clause-canon g c = λ f h. fault_is_told c.args.bytes.now c.in-Err.fault f h _ _ _ c.send_po_fault.result c.in-Err.ensures.fault c.send_po_fault.ensures
