use Rattle.std.proofs.Common.{refl, sym}
use Rattle.byte_streams.proofs.Sent.{begin, more, stopped, outcome}
use Rattle.http_api.proofs.AnswerLemmas.{head_cut}
use Rattle.http_api.proofs.answer_bytes.write_head.Goals as goal

pub returns-in_err-send_all : goal.returns-in_err-send_all
returns-in_err-send_all g c =
    let cut = head_cut c.args.head c.as_str.result.now c.phrase.result.now c.media_type.result.now c.format.result.now c.as_str.ensures c.phrase.ensures c.media_type.ensures c.format.ensures.text in
    stopped _ _ c.from_residual.ensures.0 (begin _ _ cut) refl c.in_err-send_all.ensures

pub returns-in_err-send_digest : goal.returns-in_err-send_digest
returns-in_err-send_digest g c =
    let cut = head_cut c.args.head c.as_str.result.now c.phrase.result.now c.media_type.result.now c.format.result.now c.as_str.ensures c.phrase.ensures c.media_type.ensures c.format.ensures.text in
    stopped _ _ c.from_residual-in_err-send_digest.ensures.0 (more (begin _ _ cut) refl c.in_ok-send_all.ensures) refl c.in_err-send_digest.ensures

pub returns : goal.returns
returns g c =
    let cut = head_cut c.args.head c.as_str.result.now c.phrase.result.now c.media_type.result.now c.format.result.now c.as_str.ensures c.phrase.ensures c.media_type.ensures c.format.ensures.text in
    outcome _ _ _ (more (more (begin _ _ cut) refl c.in_ok-send_all.ensures) refl c.in_ok-send_digest.ensures) (sym c.head_end.ensures) c.send.ensures
