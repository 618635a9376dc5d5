use Rattle.std.proofs.Common.{◌+◌, ◌++◌, drop, Option, sym, ap, ◌∙◌, arith}
use Rattle.std.proofs.lemmas.List.{drop_all}
use Rattle.byte_streams.proofs.Sent.{more, stopped, whole_sent}
use Rattle.request_book.specs.Replies.{Reply}
use Rattle.sender.specs.Sending.{Sending}
use Rattle.client.specs.SendLines.{told_line, told_lines}
use Rattle.client.proofs.ToldLemmas.{next_told}
use Rattle.client.proofs.telling.send_all_told.Goals as goal

pub returns-in_err-send_told : goal.returns-in_err-send_told
returns-in_err-send_told g c =
    let sending = c.args.sender.now in
    let place = c.loop-place.place in
    stopped _ _ c.from_residual.ensures.0 c.loop-place.invariant
    (next_told sending place (omega arith) ∙ ap (λ (reply : Option Reply). told_line reply ++ told_lines (drop (place + 1) sending)) (sym c.held.ensures))
    c.in_err-send_told.ensures

pub loop-place-preserved : goal.loop-place-preserved
loop-place-preserved g c =
    let sending = c.args.sender.now in
    let place = c.loop-place.place in
    more c.loop-place.invariant
    (next_told sending place (omega arith) ∙ ap (λ (reply : Option Reply). told_line reply ++ told_lines (drop (place + 1) sending)) (sym c.held.ensures))
    c.in_ok-send_told.ensures

pub returns : goal.returns
returns g c = whole_sent c.loop-place.invariant (ap (λ (sending : Sending). told_lines sending) (drop_all c.loop-place.place c.args.sender.now (omega arith)))
