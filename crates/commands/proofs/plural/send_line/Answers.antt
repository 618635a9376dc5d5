use Rattle.std.proofs.Common.{◌≡◌, refl}
use Rattle.commands.specs.PluralLines.{index_line}
use Rattle.byte_streams.proofs.Sent.{begin, more, stopped, outcome}
use Rattle.commands.proofs.plural.send_line.Goals as goal

pub returns-in_err-send : goal.returns-in_err-send
returns-in_err-send g c =
    let start : index_line c.args.n c.args.form ≡ index_line c.args.n c.args.form = refl in
    stopped _ _ c.from_residual-in_err-send.ensures.0 (more (begin _ _ start) refl c.in_ok-send_number.ensures) refl c.in_err-send.ensures

pub returns-in_err-send_number-2 : goal.returns-in_err-send_number-2
returns-in_err-send_number-2 g c =
    let start : index_line c.args.n c.args.form ≡ index_line c.args.n c.args.form = refl in
    stopped _ _ c.from_residual-in_err-send_number-2.ensures.0 (more (more (begin _ _ start) refl c.in_ok-send_number.ensures) refl c.in_ok-send.ensures) refl c.in_err-send_number-2.ensures

pub returns : goal.returns
returns g c =
    let start : index_line c.args.n c.args.form ≡ index_line c.args.n c.args.form = refl in
    outcome _ _ _ (more (more (more (begin _ _ start) refl c.in_ok-send_number.ensures) refl c.in_ok-send.ensures) refl c.in_ok-send_number-2.ensures) refl c.send-2.ensures
