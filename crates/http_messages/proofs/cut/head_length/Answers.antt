use Rattle.std.proofs.Common.{◌≡◌, drop, ◌∙◌, ap, arith}
use Rattle.std.proofs.lemmas.List.{take_rest}
use Rattle.http_messages.specs.Cut.{end_length}
use Rattle.http_messages.proofs.CutLemmas.{cut_found, cut_past}
use Rattle.http_messages.proofs.cut.head_length.Goals as goal

pub returns-then-more-gt0-clause-cut : goal.returns-then-more-gt0-clause-cut
returns-then-more-gt0-clause-cut c =
    let e : c.end_length-more.result ≡ end_length (drop c.loop-i.i c.args.bytes.now) = c.end_length-more.ensures ∙ ap end_length (take_rest c.args.bytes.now c.loop-i.i) in
    rw e (cut_found c.args.bytes.now c.loop-i.i c.loop-i.invariant (omega arith) (omega (arith, e)))

pub loop-i-preserved : goal.loop-i-preserved
loop-i-preserved c =
    let e : c.end_length-more.result ≡ end_length (drop c.loop-i.i c.args.bytes.now) = c.end_length-more.ensures ∙ ap end_length (take_rest c.args.bytes.now c.loop-i.i) in
    cut_past c.args.bytes.now c.loop-i.i c.loop-i.invariant c.loop-i-test.true (omega (arith, e))
