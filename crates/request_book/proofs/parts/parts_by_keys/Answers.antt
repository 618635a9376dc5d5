use Rattle.std.proofs.Common.{Some, sym, ap, ◌∙◌}
use Rattle.std.proofs.lemmas.Result.{IfOk-weaker, err_from_is_err_and}
use Rattle.serde_json.specs.Data.{object}
use Rattle.serde_json.specs.View.{members_view}
use Rattle.request_book.proofs.PartsLemmas.{parts_of_object, no_object, no_parts}
use Rattle.request_book.proofs.Three.{same_err}
use Rattle.request_book.proofs.parts.parts_by_keys.Goals as goal

pub returns-clause-ok : goal.returns-clause-ok
returns-clause-ok c =
    let is = c.in_ok-fields.ensures.ok ∙ ap (λ fields. Some (object (members_view fields))) (sym c.as_slice.ensures.value) in
    IfOk-weaker c.parts_from.result _ _ (λ p e. parts_of_object c.args.text.now _ p is e) c.parts_from.ensures.ok

pub returns-clause-malformed : goal.returns-clause-malformed
returns-clause-malformed c =
    let is = c.in_ok-fields.ensures.ok ∙ ap (λ fields. Some (object (members_view fields))) (sym c.as_slice.ensures.value) in
    λ e p. no_parts c.args.text.now _ p is (c.parts_from.ensures.malformed e)

pub returns-in_err-fields-clause-malformed : goal.returns-in_err-fields-clause-malformed
returns-in_err-fields-clause-malformed c =
    let p = err_from_is_err_and c.from_residual.result c.from_residual.ensures.1 in
    rw (p.1, p.2) (λ is parts. no_object _ parts (c.in_err-fields.ensures.malformed (same_err _ _ is)))
