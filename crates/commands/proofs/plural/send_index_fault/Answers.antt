use Rattle.std.proofs.Common.{◌≡◌, ◌++◌, refl, sym, ap, ◌∙◌}
use Rattle.std.specs.Prelude.{decimal}
use Rattle.commands.specs.PluralLines.{index_fault_line, place}
use Rattle.byte_streams.proofs.Sent.{begin, more, stopped, outcome}
use Rattle.commands.proofs.plural.send_index_fault.Goals as goal

pub returns-in_err-send : goal.returns-in_err-send
returns-in_err-send g c =
    let start : index_fault_line c.args.fault c.args.n ≡ index_fault_line c.args.fault c.args.n = refl in
    stopped _ _ c.from_residual.ensures.0 (begin _ _ start) refl c.in_err-send.ensures

pub returns-in_err-send_number : goal.returns-in_err-send_number
returns-in_err-send_number g c =
    let start : index_fault_line c.args.fault c.args.n ≡ index_fault_line c.args.fault c.args.n = refl in
    let number = ap (λ k. decimal k ++ place c.args.n) (sym (c.from.ensures ∙ c.number.ensures)) in
    stopped _ _ c.from_residual-in_err-send_number.ensures.0 (more (begin _ _ start) refl c.in_ok-send.ensures) number c.in_err-send_number.ensures

pub returns : goal.returns
returns g c =
    let start : index_fault_line c.args.fault c.args.n ≡ index_fault_line c.args.fault c.args.n = refl in
    let number = ap (λ k. decimal k ++ place c.args.n) (sym (c.from.ensures ∙ c.number.ensures)) in
    outcome _ _ _ (more (more (begin _ _ start) refl c.in_ok-send.ensures) number c.in_ok-send_number.ensures) refl c.send_place.ensures
