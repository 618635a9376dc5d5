use Rattle.std.proofs.Common.{◌≡◌, ◌++◌, refl}
use Rattle.std.specs.Prelude.{codes, decimal}
use Rattle.request_book.specs.Words.{number_text}
use Rattle.commands.specs.RecordLines.{record_line}
use Rattle.byte_streams.proofs.Sent.{begin, more, stopped, outcome}
use Rattle.commands.proofs.record.send_record.Goals as goal

pub returns-in_err-send : goal.returns-in_err-send
returns-in_err-send g c =
    let start : record_line (number_text c.args.number) c.args.status ≡ codes "{\"number\":\"" ++ (number_text c.args.number ++ (codes "\",\"status\":" ++ (decimal c.args.status ++ codes "}\n"))) = refl in
    stopped _ _ c.from_residual.ensures.0 (begin _ _ start) refl c.in_err-send.ensures

pub returns-in_err-send-2 : goal.returns-in_err-send-2
returns-in_err-send-2 g c =
    let start : record_line (number_text c.args.number) c.args.status ≡ codes "{\"number\":\"" ++ (c.as_bytes.result.now ++ (codes "\",\"status\":" ++ (decimal c.args.status ++ codes "}\n"))) = cc in
    stopped _ _ c.from_residual-in_err-send-2.ensures.0 (more (begin _ _ start) refl c.in_ok-send.ensures) refl c.in_err-send-2.ensures

pub returns-in_err-send-3 : goal.returns-in_err-send-3
returns-in_err-send-3 g c =
    let start : record_line (number_text c.args.number) c.args.status ≡ codes "{\"number\":\"" ++ (c.as_bytes.result.now ++ (codes "\",\"status\":" ++ (decimal c.args.status ++ codes "}\n"))) = cc in
    stopped _ _ c.from_residual-in_err-send-3.ensures.0 (more (more (begin _ _ start) refl c.in_ok-send.ensures) refl c.in_ok-send-2.ensures) refl c.in_err-send-3.ensures

pub returns-in_err-send_number : goal.returns-in_err-send_number
returns-in_err-send_number g c =
    let start : record_line (number_text c.args.number) c.args.status ≡ codes "{\"number\":\"" ++ (c.as_bytes.result.now ++ (codes "\",\"status\":" ++ (decimal c.args.status ++ codes "}\n"))) = cc in
    stopped _ _ c.from_residual-in_err-send_number.ensures.0 (more (more (more (begin _ _ start) refl c.in_ok-send.ensures) refl c.in_ok-send-2.ensures) refl c.in_ok-send-3.ensures) refl c.in_err-send_number.ensures

pub returns : goal.returns
returns g c =
    let start : record_line (number_text c.args.number) c.args.status ≡ codes "{\"number\":\"" ++ (c.as_bytes.result.now ++ (codes "\",\"status\":" ++ (decimal c.args.status ++ codes "}\n"))) = cc in
    outcome _ _ _ (more (more (more (more (begin _ _ start) refl c.in_ok-send.ensures) refl c.in_ok-send-2.ensures) refl c.in_ok-send-3.ensures) refl c.in_ok-send_number.ensures) refl c.send-4.ensures
