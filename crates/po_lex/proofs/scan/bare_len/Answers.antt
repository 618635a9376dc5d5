use Rattle.std.proofs.Common.{◌≡◌, ◌+◌, ◌-◌, length, sym, ◌∙◌, arith}
use Rattle.std.proofs.lemmas.List.Sums.{prefix_len-le-length}
use Rattle.po_lex.specs.Escapes.{is_bare}
use Rattle.po_lex.proofs.ScanLemmas.{sixteen_past, all_past, stop_found}
use Rattle.po_lex.proofs.scan.bare_len.Goals as goal

pub returns-then-len-lt16-clause-within : goal.returns-then-len-lt16-clause-within
returns-then-len-lt16-clause-within c = omega (arith, c.bare_len_slowly.ensures, prefix_len-le-length is_bare c.args.bytes.now)

pub returns-then-found-ne0-clause-value : goal.returns-then-found-ne0-clause-value
returns-then-found-ne0-clause-value c = stop_found c.args.bytes.now c.loop-i.i c.loop-i.i c.stops-found.result c.loop-i.invariant (omega arith) (omega arith) c.stops-found.ensures c.if-found-ne0.true

pub returns-then-found-ne0-clause-within : goal.returns-then-found-ne0-clause-within
returns-then-found-ne0-clause-within c =
    omega (
      arith,
      stop_found c.args.bytes.now c.loop-i.i c.loop-i.i c.stops-found.result c.loop-i.invariant (omega arith) (omega arith) c.stops-found.ensures c.if-found-ne0.true,
      prefix_len-le-length is_bare c.args.bytes.now,
    )

pub loop-i-preserved : goal.loop-i-preserved
loop-i-preserved c = sixteen_past c.args.bytes.now c.loop-i.i c.loop-i.i c.stops-found.result c.loop-i.invariant (omega arith) (omega arith) c.stops-found.ensures c.if-found-ne0.false

pub returns-then-found-ne0-2-clause-value : goal.returns-then-found-ne0-2-clause-value
returns-then-found-ne0-2-clause-value c =
    stop_found c.args.bytes.now c.loop-i.i (length c.args.bytes.now - 16) c.stops-found-2.result c.loop-i.invariant (omega arith) (omega arith) c.stops-found-2.ensures c.if-found-ne0-2.true

pub returns-then-found-ne0-2-clause-within : goal.returns-then-found-ne0-2-clause-within
returns-then-found-ne0-2-clause-within c =
    omega (
      arith,
      stop_found c.args.bytes.now c.loop-i.i (length c.args.bytes.now - 16) c.stops-found-2.result c.loop-i.invariant (omega arith) (omega arith) c.stops-found-2.ensures c.if-found-ne0-2.true,
      prefix_len-le-length is_bare c.args.bytes.now,
    )

pub returns-else-found-ne0-2-clause-value : goal.returns-else-found-ne0-2-clause-value
returns-else-found-ne0-2-clause-value c =
    let last = length c.args.bytes.now - 16 in
    let end : last + 16 ≡ length c.args.bytes.now = omega arith in
    sym end ∙ all_past c.args.bytes.now (last + 16) (sixteen_past c.args.bytes.now c.loop-i.i last c.stops-found-2.result c.loop-i.invariant (omega arith) (omega arith) c.stops-found-2.ensures c.if-found-ne0-2.false) end
