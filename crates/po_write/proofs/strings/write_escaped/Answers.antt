use Rattle.std.proofs.Common.{ap, arith, rules}
use Rattle.byte_streams.proofs.Sent.{more, whole_sent, stopped}
use Rattle.po_write.proofs.Pieces.{run_cut, no_run}
use Rattle.po_lex.specs.Escapes.{escaped}
use Rattle.po_write.proofs.strings.write_escaped.Goals as goal

pub returns-in_err-send : goal.returns-in_err-send
returns-in_err-send g c = stopped _ _ c.from_residual.ensures.0 c.loop-first.invariant (run_cut c.loop-first.rest.now c.split_at.result.0.now c.split_at.result.1.now c.plain_len.result c.plain_len.ensures.plain c.split_at.ensures.front c.split_at.ensures.back) c.in_err-send.ensures

pub returns-in_err-write_byte : goal.returns-in_err-write_byte
returns-in_err-write_byte g c = stopped _ _ c.from_residual-in_err-write_byte.ensures.0 (more c.loop-first.invariant (run_cut c.loop-first.rest.now c.split_at.result.0.now c.split_at.result.1.now c.plain_len.result c.plain_len.ensures.plain c.split_at.ensures.front c.split_at.ensures.back) c.in_ok-send.ensures) (ap escaped c.in-Some.ensures.cases.0) c.in_err-write_byte.ensures

pub loop-first-preserved : goal.loop-first-preserved
loop-first-preserved g c = more (more c.loop-first.invariant (run_cut c.loop-first.rest.now c.split_at.result.0.now c.split_at.result.1.now c.plain_len.result c.plain_len.ensures.plain c.split_at.ensures.front c.split_at.ensures.back) c.in_ok-send.ensures) (ap escaped c.in-Some.ensures.cases.0) c.in_ok-write_byte.ensures

pub loop-first-smaller : goal.loop-first-smaller
loop-first-smaller g c = omega (arith, c.split_at.ensures.back_len, c.in-Some.ensures.cases.1)

pub returns-in_default : goal.returns-in_default
returns-in_default g c = whole_sent (more c.loop-first.invariant (run_cut c.loop-first.rest.now c.split_at.result.0.now c.split_at.result.1.now c.plain_len.result c.plain_len.ensures.plain c.split_at.ensures.front c.split_at.ensures.back) c.in_ok-send.ensures) (no_run c.split_at.result.1.now (search rules))
