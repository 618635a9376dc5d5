use Rattle.std.proofs.Common.{◌≡◌, refl}
use Rattle.byte_streams.proofs.Sent.{begin, more, stopped, outcome}
use Rattle.http_api.specs.Answers.{answer_text}
use Rattle.http_api.specs.declared.answer_bytes.Content.TheVariants.{Json}
use Rattle.http_api.proofs.answer_bytes.write_json.Goals as goal

pub returns-in_err-write_head : goal.returns-in_err-write_head
returns-in_err-write_head g c =
    let start : answer_text c.args.status Json c.args.body.now c.args.last ≡ answer_text c.args.status Json c.args.body.now c.args.last = refl in
    stopped _ _ c.from_residual.ensures.0 (begin _ _ start) refl c.in_err-write_head.ensures

pub returns : goal.returns
returns g c =
    let start : answer_text c.args.status Json c.args.body.now c.args.last ≡ answer_text c.args.status Json c.args.body.now c.args.last = refl in
    let same : c.args.body.now ≡ c.as_bytes.result.now = cc in
    outcome _ _ _ (more (begin _ _ start) refl c.in_ok-write_head.ensures) same c.send.ensures
