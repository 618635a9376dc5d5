use Rattle.std.proofs.Common.{List, sym, subst}
use Rattle.std.proofs.lemmas.Result.{err_from_is_err_and}
use Rattle.request_book.specs.declared.act.Request.{Request}
use Rattle.client.proofs.LineLemmas.{Along, none_read, one_read, all_read, none_given}
use Rattle.client.proofs.list.requests_in.Goals as goal

pub loop-line-init : goal.loop-line-init
loop-line-init c = subst (λ (requests : List Request). Along c.args.text.now c.args.text.now requests) (sym c.new-requests.ensures.items) (none_read c.args.text.now)

pub loop-line-preserved : goal.loop-line-preserved
loop-line-preserved c = one_read _ _ c.in-Some.line.now c.in-Some.behind.now _ _ c.loop-line.invariant c.in-Some.ensures.0 c.in_ok-push_line.ensures.ok

pub returns-in_err-push_line-clause-err : goal.returns-in_err-push_line-clause-err
returns-in_err-push_line-clause-err c =
    let p = err_from_is_err_and c.from_residual.result c.from_residual.ensures.1 in
    rw (p.1, p.2) (none_given _ _ c.in-Some.line.now c.in-Some.behind.now _ c.in_err-push_line.field-0.0 c.loop-line.invariant c.in-Some.ensures.0 c.in_err-push_line.ensures.err)

pub returns-clause-ok : goal.returns-clause-ok
returns-clause-ok c = all_read _ _ _ c.loop-line.invariant c.in_default.ensures
