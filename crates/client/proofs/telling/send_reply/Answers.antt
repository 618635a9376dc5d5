use Rattle.std.proofs.Common.{◌≡◌, ◌++◌, refl}
use Rattle.std.specs.Prelude.{codes, decimal}
use Rattle.client.specs.SendLines.{reply_line}
use Rattle.byte_streams.proofs.Sent.{begin, more, stopped, outcome}
use Rattle.client.proofs.telling.send_reply.Goals as goal

pub returns-in_err-send_number : goal.returns-in_err-send_number
returns-in_err-send_number g c =
    let start : reply_line c.args.reply.now ≡ decimal c.status.result ++ (codes " " ++ (c.args.reply.now.body ++ codes "\n")) = cc in
    stopped _ _ c.from_residual.ensures.0 (begin _ _ start) refl c.in_err-send_number.ensures

pub returns-in_err-send : goal.returns-in_err-send
returns-in_err-send g c =
    let start : reply_line c.args.reply.now ≡ decimal c.status.result ++ (codes " " ++ (c.args.reply.now.body ++ codes "\n")) = cc in
    stopped _ _ c.from_residual-in_err-send.ensures.0 (more (begin _ _ start) refl c.in_ok-send_number.ensures) refl c.in_err-send.ensures

pub returns-in_err-send-2 : goal.returns-in_err-send-2
returns-in_err-send-2 g c =
    let start : reply_line c.args.reply.now ≡ decimal c.status.result ++ (codes " " ++ (c.as_bytes.result.now ++ codes "\n")) = cc in
    stopped _ _ c.from_residual-in_err-send-2.ensures.0 (more (more (begin _ _ start) refl c.in_ok-send_number.ensures) refl c.in_ok-send.ensures) refl c.in_err-send-2.ensures

pub returns : goal.returns
returns g c =
    let start : reply_line c.args.reply.now ≡ decimal c.status.result ++ (codes " " ++ (c.as_bytes.result.now ++ codes "\n")) = cc in
    outcome _ _ _ (more (more (more (begin _ _ start) refl c.in_ok-send_number.ensures) refl c.in_ok-send.ensures) refl c.in_ok-send-2.ensures) refl c.send-3.ensures
