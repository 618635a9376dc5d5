use Rattle.std.proofs.Common.{◌≡◌, ◌++◌, refl, sym, ap}
use Rattle.std.specs.Prelude.{codes, decimal}
use Rattle.commands.specs.ExportLines.{export_fault_line}
use Rattle.byte_streams.proofs.Sent.{begin, more, stopped, outcome}
use Rattle.commands.proofs.export.send_export_fault.Goals as goal

pub returns-in_err-send : goal.returns-in_err-send
returns-in_err-send g c =
    let start : export_fault_line c.args.fault ≡ export_fault_line c.args.fault = refl in
    stopped _ _ c.from_residual.ensures.0 (begin _ _ start) refl c.in_err-send.ensures

pub returns-in_err-send_number : goal.returns-in_err-send_number
returns-in_err-send_number g c =
    let start : export_fault_line c.args.fault ≡ export_fault_line c.args.fault = refl in
    let number = ap (λ k. decimal k ++ codes "\n") (sym c.number.ensures) in
    stopped _ _ c.from_residual-in_err-send_number.ensures.0 (more (begin _ _ start) refl c.in_ok-send.ensures) number c.in_err-send_number.ensures

pub returns-in_err-send-2 : goal.returns-in_err-send-2
returns-in_err-send-2 g c =
    let start : export_fault_line c.args.fault ≡ export_fault_line c.args.fault = refl in
    let number = ap (λ k. decimal k ++ codes "\n") (sym c.number.ensures) in
    stopped _ _ c.from_residual-in_err-send-2.ensures.0 (more (more (begin _ _ start) refl c.in_ok-send.ensures) number c.in_ok-send_number.ensures) refl c.in_err-send-2.ensures

pub returns : goal.returns
returns g c =
    let start : export_fault_line c.args.fault ≡ export_fault_line c.args.fault = refl in
    let number = ap (λ k. decimal k ++ codes "\n") (sym c.number.ensures) in
    outcome _ _ _ (more (more (more (begin _ _ start) refl c.in_ok-send.ensures) number c.in_ok-send_number.ensures) refl c.in_ok-send-2.ensures) refl c.hand_on.ensures.sent
