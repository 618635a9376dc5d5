use Rattle.std.proofs.Common.{◌≡◌, ◌++◌, ℕ, List, refl, sym, ap}
use Rattle.std.specs.Prelude.{codes}
use Rattle.hex.specs.Hex.{encode_lower}
use Rattle.byte_streams.proofs.Sent.{begin, more, stopped, outcome}
use Rattle.http_api.specs.Answers.{line_end, digest_line}
use Rattle.http_api.proofs.answer_bytes.send_digest.Goals as goal

pub returns-in_err-send : goal.returns-in_err-send
returns-in_err-send g c =
    let start : digest_line c.args.content ≡ codes "X-Office-SHA256: " ++ (encode_lower c.in-PoText.sha256 ++ line_end) = ap digest_line c.in-PoText.is in
    stopped _ _ c.from_residual.ensures.0 (begin _ _ start) refl c.in_err-send.ensures

pub returns-in_err-send-2 : goal.returns-in_err-send-2
returns-in_err-send-2 g c =
    let start : digest_line c.args.content ≡ codes "X-Office-SHA256: " ++ (encode_lower c.in-PoText.sha256 ++ line_end) = ap digest_line c.in-PoText.is in
    let digits = ap (λ (digits : List ℕ). digits ++ line_end) (sym c.digest_digits.ensures) in
    stopped _ _ c.from_residual-in_err-send-2.ensures.0 (more (begin _ _ start) refl c.in_ok-send.ensures) digits c.in_err-send-2.ensures

pub returns : goal.returns
returns g c =
    let start : digest_line c.args.content ≡ codes "X-Office-SHA256: " ++ (encode_lower c.in-PoText.sha256 ++ line_end) = ap digest_line c.in-PoText.is in
    let digits = ap (λ (digits : List ℕ). digits ++ line_end) (sym c.digest_digits.ensures) in
    outcome _ _ _ (more (more (begin _ _ start) refl c.in_ok-send.ensures) digits c.in_ok-send-2.ensures) refl c.send-3.ensures
