use Rattle.std.proofs.Common.{◌≡◌, drop}
use Rattle.std.specs.Prelude.{flat_map}
use Rattle.po_text.specs.Entries.{numbered}
use Rattle.byte_streams.specs.Sending.{SoFar}
use Rattle.po_write.specs.Text.{string_lines}
use Rattle.po_write.proofs.strings.write_numbered.Given as goal

abbrev pub invariant-loop-form : goal.invariant-loop-form
invariant-loop-form g l = record {
  number : l.number ≡ l.form-index;
  so_far : SoFar (g.W.ByteSink.taken l.fn.w) (g.W.ByteSink.taken l.w) (g.W.ByteSink.failed l.fn.w) (g.W.ByteSink.failed l.w)
      (flat_map (string_lines l.mark) (numbered 0 l.forms)) (flat_map (string_lines l.mark) (numbered l.number (drop l.form-index l.forms)));
}
