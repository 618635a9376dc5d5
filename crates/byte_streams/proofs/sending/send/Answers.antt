use Rattle.std.proofs.Common.{refl, sym}
use Rattle.std.proofs.lemmas.List.{take-append-drop}
use Rattle.byte_streams.proofs.Sent.{begin, more, whole_sent, outcome, none_there, all_gone, rest_slice}
use Rattle.byte_streams.proofs.sending.send.Goals as goal

pub returns-then-is_empty : goal.returns-then-is_empty
returns-then-is_empty g c = whole_sent (begin _ _ refl) (none_there c.args.bytes.now c.if-is_empty.ensures)

pub returns-then-sent-bytes : goal.returns-then-sent-bytes
returns-then-sent-bytes g c =
    outcome _ _ _ (more (begin _ _ refl) (sym (take-append-drop c.in_ok-sent.sent c.args.bytes.now)) (record { taken = c.in_ok-sent.ensures.ok; count = c.in_ok-sent.ensures.ok_failed }))
    (rest_slice c.args.bytes.now c.in_ok-sent.sent c.in_ok-sent.ensures.most) c.send_rest.ensures

pub returns : goal.returns
returns g c =
    whole_sent (more (begin _ _ refl) (sym (take-append-drop c.in_ok-sent.sent c.args.bytes.now)) (record { taken = c.in_ok-sent.ensures.ok; count = c.in_ok-sent.ensures.ok_failed }))
    (all_gone c.args.bytes.now c.in_ok-sent.sent c.if-sent-bytes.false)
