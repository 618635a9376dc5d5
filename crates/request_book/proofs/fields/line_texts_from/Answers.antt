use Rattle.std.proofs.lemmas.Result.{err_from_is_err_and}
use Rattle.serde_json.specs.Find.{as_str}
use Rattle.request_book.proofs.EachRead.{next_read, all_read, none_read}
use Rattle.request_book.proofs.Three.{same_err}
use Rattle.request_book.proofs.fields.line_texts_from.Goals as goal

pub loop-value-preserved : goal.loop-value-preserved
loop-value-preserved c = next_read as_str c.args.values.now c.loop-value.value-index c.value-item.result c.loop-value.lines c.push.new.self c.in_ok-line.line _ c.loop-value-test.true c.value-item.is c.loop-value.invariant c.in_ok-line.ensures.ok c.in_ok-push.ensures.ok

pub returns-clause-ok : goal.returns-clause-ok
returns-clause-ok c = all_read as_str c.args.values.now c.loop-value.value-index c.loop-value.lines _ c.loop-value-test.false c.loop-value.invariant

pub returns-in_err-line-clause-malformed : goal.returns-in_err-line-clause-malformed
returns-in_err-line-clause-malformed c =
    let p = err_from_is_err_and c.from_residual.result c.from_residual.ensures.1 in
    rw (p.1, p.2) (λ is. none_read as_str c.args.values.now c.loop-value.value-index c.value-item.result c.loop-value.lines _ c.loop-value-test.true c.value-item.is c.loop-value.invariant (c.in_err-line.ensures.malformed (same_err _ _ is)))
