use Rattle.std.proofs.Common.{◌≡◌, ◌++◌, refl, sym, ap}
use Rattle.std.specs.Prelude.{codes}
use Rattle.commands.specs.ExportLines.{receipt_line}
use Rattle.byte_streams.proofs.Sent.{begin, more, stopped, outcome}
use Rattle.commands.proofs.export.send_receipt.Goals as goal

pub returns-in_err-send : goal.returns-in_err-send
returns-in_err-send g c =
    let start : receipt_line c.args.receipt ≡ receipt_line c.args.receipt = refl in
    stopped _ _ c.from_residual.ensures.0 (begin _ _ start) refl c.in_err-send.ensures

pub returns-in_err-send_number : goal.returns-in_err-send_number
returns-in_err-send_number g c =
    let start : receipt_line c.args.receipt ≡ receipt_line c.args.receipt = refl in
    stopped _ _ c.from_residual-in_err-send_number.ensures.0 (more (begin _ _ start) refl c.in_ok-send.ensures) refl c.in_err-send_number.ensures

pub returns-in_err-send-2 : goal.returns-in_err-send-2
returns-in_err-send-2 g c =
    let start : receipt_line c.args.receipt ≡ receipt_line c.args.receipt = refl in
    stopped _ _ c.from_residual-in_err-send-2.ensures.0 (more (more (begin _ _ start) refl c.in_ok-send.ensures) refl c.in_ok-send_number.ensures) refl c.in_err-send-2.ensures

pub returns-in_err-send-3 : goal.returns-in_err-send-3
returns-in_err-send-3 g c =
    let start : receipt_line c.args.receipt ≡ receipt_line c.args.receipt = refl in
    let digits = ap (λ ds. ds ++ codes "\n") (sym c.digest_digits.ensures) in
    stopped _ _ c.from_residual-in_err-send-3.ensures.0 (more (more (more (begin _ _ start) refl c.in_ok-send.ensures) refl c.in_ok-send_number.ensures) refl c.in_ok-send-2.ensures) digits c.in_err-send-3.ensures

pub returns : goal.returns
returns g c =
    let start : receipt_line c.args.receipt ≡ receipt_line c.args.receipt = refl in
    let digits = ap (λ ds. ds ++ codes "\n") (sym c.digest_digits.ensures) in
    outcome _ _ _ (more (more (more (more (begin _ _ start) refl c.in_ok-send.ensures) refl c.in_ok-send_number.ensures) refl c.in_ok-send-2.ensures) digits c.in_ok-send-3.ensures) refl c.send-4.ensures
