use Rattle.std.proofs.Common.{sym, ◌∙◌}
use Rattle.std.proofs.lemmas.Result.{err_from_is_err_and}
use Rattle.po_read.proofs.Tested.{ended_told, end_told, end_closed, end_open}
use Rattle.po_read.proofs.reading.Reader.finish.Goals as goal

pub returns-in_err-test_ended-clause-err : goal.returns-in_err-test_ended-clause-err
returns-in_err-test_ended-clause-err g c =
    let p = err_from_is_err_and c.from_residual.result c.from_residual.ensures.1 in
    rw (p.1, p.2) (ended_told c.args.self.now _ c.in_err-test_ended.ensures)

pub returns-in_err-test_end-clause-err : goal.returns-in_err-test_end-clause-err
returns-in_err-test_end-clause-err g c =
    let p = err_from_is_err_and c.from_residual-in_err-test_end.result c.from_residual-in_err-test_end.ensures.1 in
    rw (p.1, p.2) (end_told c.args.self.now _ c.in_ok-test_ended.ensures c.in_err-test_end.ensures)

pub returns-in_ok-close-clause-ok : goal.returns-in_ok-close-clause-ok
returns-in_ok-close-clause-ok g c = end_closed g.S.ReadSink.Took g.met.S.ReadSink.more c.args.sink.now c.close.new.sink c.args.self.now c.close.new.self c.in_ok-test_ended.ensures c.in_ok-test_end.ensures c.in_ok-close.ensures (sym c.has_form.ensures ∙ c.if-has_form.true)

pub returns-else-has_form-clause-ok : goal.returns-else-has_form-clause-ok
returns-else-has_form-clause-ok g c = end_open g.S.ReadSink.Took c.args.sink.now c.args.self.now c.in_ok-test_ended.ensures c.in_ok-test_end.ensures (sym c.has_form.ensures ∙ c.if-has_form.false)
