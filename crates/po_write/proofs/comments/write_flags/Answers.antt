use Rattle.std.proofs.Common.{refl, sym, ap, ◌∙◌, ◌++◌, ◌∷◌, []}
use Rattle.byte_streams.proofs.Sent.{begin, more, stopped, outcome}
use Rattle.po_write.proofs.Pieces.{flags_cut, flag_cut, none_left}
use Rattle.std.specs.Prelude.{flat_map}
use Rattle.po_write.specs.Text.{further}
use Rattle.po_write.proofs.comments.write_flags.Goals as goal

pub returns-in_err-send : goal.returns-in_err-send
returns-in_err-send g c = stopped _ _ c.from_residual.ensures.0 (begin _ _ (flags_cut c.args.flags.now c.in-Some.first.now c.in-Some.others.now c.in-Some.ensures.cases.0)) refl c.in_err-send.ensures

pub returns-in_err-send-2 : goal.returns-in_err-send-2
returns-in_err-send-2 g c = stopped _ _ c.from_residual-in_err-send-2.ensures.0 (more (begin _ _ (flags_cut c.args.flags.now c.in-Some.first.now c.in-Some.others.now c.in-Some.ensures.cases.0)) refl c.in_ok-send.ensures) (ap (λ xs. xs ++ (flat_map further c.in-Some.others.now ++ 10 ∷ [])) (sym (c.as_bytes.ensures.value ∙ c.as_str.ensures))) c.in_err-send-2.ensures

pub returns-in_err-write_further : goal.returns-in_err-write_further
returns-in_err-write_further g c = stopped _ _ c.from_residual-in_err-write_further.ensures.0 c.loop-flag.invariant (flag_cut c.in-Some.others.now c.loop-flag.flag-index c.as_str-in-loop-flag.result.now c.flag-item.result c.loop-flag-test.true c.flag-item.is c.as_str-in-loop-flag.ensures) c.in_err-write_further.ensures

pub loop-flag-preserved : goal.loop-flag-preserved
loop-flag-preserved g c = more c.loop-flag.invariant (flag_cut c.in-Some.others.now c.loop-flag.flag-index c.as_str-in-loop-flag.result.now c.flag-item.result c.loop-flag-test.true c.flag-item.is c.as_str-in-loop-flag.ensures) c.in_ok-write_further.ensures

pub loop-flag-init : goal.loop-flag-init
loop-flag-init g c = more (more (begin _ _ (flags_cut c.args.flags.now c.in-Some.first.now c.in-Some.others.now c.in-Some.ensures.cases.0)) refl c.in_ok-send.ensures) (ap (λ xs. xs ++ (flat_map further c.in-Some.others.now ++ 10 ∷ [])) (sym (c.as_bytes.ensures.value ∙ c.as_str.ensures))) c.in_ok-send-2.ensures

pub returns : goal.returns
returns g c = outcome _ _ _ c.loop-flag.invariant (ap (λ xs. xs ++ 10 ∷ []) (none_left further c.in-Some.others.now c.loop-flag.flag-index c.loop-flag-test.false)) c.send-3.ensures
