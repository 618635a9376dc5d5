use Rattle.byte_streams.proofs.Sent.{more, stopped}
use Rattle.http_api.proofs.AnswerLemmas.{text_left}
use Rattle.http_api.proofs.answer_bytes.send_all.Goals as goal

pub returns-in_err-send : goal.returns-in_err-send
returns-in_err-send g c =
    stopped _ _ c.from_residual.ensures.0 c.loop-text.invariant (text_left c.args.texts.now c.loop-text.text-index _ c.as_bytes.result.now c.loop-text-test.true c.as_bytes.ensures.value) c.in_err-send.ensures

pub loop-text-preserved : goal.loop-text-preserved
loop-text-preserved g c = more c.loop-text.invariant (text_left c.args.texts.now c.loop-text.text-index _ c.as_bytes.result.now c.loop-text-test.true c.as_bytes.ensures.value) c.in_ok-send.ensures
