use Rattle.std.proofs.Common.{drop, None}
use Rattle.std.specs.Prelude.{flat_map}
use Rattle.po_text.specs.Entries.{keyed_forms}
use Rattle.byte_streams.specs.Sending.{SoFar}
use Rattle.po_write.specs.Text.{string_lines}
use Rattle.po_write.proofs.strings.write_single.Given as goal

abbrev pub invariant-loop-form : goal.invariant-loop-form
invariant-loop-form g l = SoFar (g.W.ByteSink.taken l.fn.w) (g.W.ByteSink.taken l.w) (g.W.ByteSink.failed l.fn.w) (g.W.ByteSink.failed l.w)
    (flat_map (string_lines l.mark) (keyed_forms None l.forms)) (flat_map (string_lines l.mark) (keyed_forms None (drop l.form-index l.forms)))
