use Rattle.std.proofs.Common.{◌≡◌, ◌++◌, refl, sym, ap, ◌∙◌}
use Rattle.std.specs.Prelude.{decimal}
use Rattle.plural_expr.specs.Faults.{fault_at}
use Rattle.commands.specs.PluralLines.{plural_fault_line, place_of}
use Rattle.byte_streams.proofs.Sent.{begin, more, stopped, outcome}
use Rattle.commands.proofs.plural.send_plural_fault.Goals as goal

pub returns-in_err-send : goal.returns-in_err-send
returns-in_err-send g c =
    let start : plural_fault_line c.args.fault ≡ plural_fault_line c.args.fault = refl in
    stopped _ _ c.from_residual.ensures.0 (begin _ _ start) refl c.in_err-send.ensures

pub returns-in_err-send_number : goal.returns-in_err-send_number
returns-in_err-send_number g c =
    let start : plural_fault_line c.args.fault ≡ plural_fault_line c.args.fault = refl in
    let number = ap (λ k. decimal k ++ place_of (fault_at c.args.fault)) (sym (c.from.ensures ∙ c.number.ensures)) in
    stopped _ _ c.from_residual-in_err-send_number.ensures.0 (more (begin _ _ start) refl c.in_ok-send.ensures) number c.in_err-send_number.ensures

pub returns-in-Some : goal.returns-in-Some
returns-in-Some g c =
    let start : plural_fault_line c.args.fault ≡ plural_fault_line c.args.fault = refl in
    let number = ap (λ k. decimal k ++ place_of (fault_at c.args.fault)) (sym (c.from.ensures ∙ c.number.ensures)) in
    outcome _ _ _ (more (more (begin _ _ start) refl c.in_ok-send.ensures) number c.in_ok-send_number.ensures) (ap place_of (sym c.in-Some.ensures)) c.send_place.ensures

pub returns-in-None : goal.returns-in-None
returns-in-None g c =
    let start : plural_fault_line c.args.fault ≡ plural_fault_line c.args.fault = refl in
    let number = ap (λ k. decimal k ++ place_of (fault_at c.args.fault)) (sym (c.from.ensures ∙ c.number.ensures)) in
    outcome _ _ _ (more (more (begin _ _ start) refl c.in_ok-send.ensures) number c.in_ok-send_number.ensures) (ap place_of (sym c.in-None.ensures)) c.send-in-None.ensures
