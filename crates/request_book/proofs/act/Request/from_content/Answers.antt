-- What is read of the text is of one caller and act.
use Rattle.std.proofs.Common.{sym}
use Rattle.std.proofs.lemmas.Result.{err_from_is_err_and}
use Rattle.request_book.proofs.PartsLemmas.{no_content, one_content_of, content_of_parts, not_unnumbered}
use Rattle.request_book.proofs.Three.{same_err}
use Rattle.request_book.proofs.act.Request.from_content.Goals as goal

pub returns-in-Some-clause-one : goal.returns-in-Some-clause-one
returns-in-Some-clause-one c = λ other is. one_content_of _ _ _ other c.in_ok-parts.ensures.ok (sym c.in-Some.ensures) is

pub returns-in-Some-clause-ok : goal.returns-in-Some-clause-ok
returns-in-Some-clause-ok c = (content_of_parts _ _ _ c.in_ok-parts.ensures.ok (sym c.in-Some.ensures)).0

pub returns-in-Some-clause-number : goal.returns-in-Some-clause-number
returns-in-Some-clause-number c = (content_of_parts _ _ _ c.in_ok-parts.ensures.ok (sym c.in-Some.ensures)).1

pub returns-in-Some-clause-malformed : goal.returns-in-Some-clause-malformed
returns-in-Some-clause-malformed c = λ e. absurd cc

pub returns-in-None-clause-malformed : goal.returns-in-None-clause-malformed
returns-in-None-clause-malformed c = λ e request is. not_unnumbered _ _ request c.in_ok-parts.ensures.ok (sym c.in-None.ensures) is

pub returns-in_err-parts-clause-malformed : goal.returns-in_err-parts-clause-malformed
returns-in_err-parts-clause-malformed c =
    let p = err_from_is_err_and c.from_residual.result c.from_residual.ensures.1 in
    rw (p.1, p.2) (λ is request. no_content _ request (c.in_err-parts.ensures.malformed (same_err _ _ is)))
