use Rattle.std.proofs.Common.{◌∙◌, ap}
use Rattle.po_write.specs.Text.{entry_text, separated}
use Rattle.office.proofs.Sent.{returned, memory_part, long_part, all_sent}
use Rattle.office.proofs.export_sink.send_entry.Goals as goal

pub returns-in_err-push_entry-clause-sent : goal.returns-in_err-push_entry-clause-sent
returns-in_err-push_entry-clause-sent g c = returned _ c.from_residual.result c.in_err-push_entry.field-0.0 c.from_residual.ensures.1 (memory_part _ _ _ _ _ c.in_err-push_entry.ensures.err)

pub returns-in_err-add-clause-sent : goal.returns-in_err-add-clause-sent
returns-in_err-add-clause-sent g c =
    returned _ c.from_residual-in_err-add.result c.in_err-add.field-0.0 c.from_residual-in_err-add.ensures.1
    (long_part _ _ _ c.as_slice-text.result.now (separated c.args.writer.now.begun (entry_text c.args.entry.now)) _ (c.as_slice-text.ensures.value ∙ (ap (λ s. s.bytes.items) c.sink_mut.ensures.sink ∙ c.in_ok-push_entry.ensures.ok)) c.in_err-add.ensures.only c.in_err-add.ensures.long)

pub returns-in-Ok-clause-sent : goal.returns-in-Ok-clause-sent
returns-in-Ok-clause-sent g c =
    all_sent _ _ _ _ _ _ c.as_slice-text.result.now (separated c.args.writer.now.begun (entry_text c.args.entry.now)) (c.as_slice-text.ensures.value ∙ (ap (λ s. s.bytes.items) c.sink_mut.ensures.sink ∙ c.in_ok-push_entry.ensures.ok)) c.in-Ok.ensures
    (λ before is. c.in_ok-add.ensures.ok before is)
