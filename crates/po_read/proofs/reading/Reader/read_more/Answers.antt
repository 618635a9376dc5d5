use Rattle.std.proofs.lemmas.Result.{err_from_is_err_and}
use Rattle.po_lex.specs.PlainTokens.{plain_line}
use Rattle.po_read.proofs.Tested.{front_told, entry_told, entry_read}
use Rattle.po_read.proofs.reading.Reader.read_more.Goals as goal

pub returns-in_err-test_front-clause-err : goal.returns-in_err-test_front-clause-err
returns-in_err-test_front-clause-err g c =
    let p = err_from_is_err_and c.from_residual.result c.from_residual.ensures.1 in
    rw (p.1, p.2) (front_told c.args.self.now (plain_line c.args.line) _ c.in_err-test_front.ensures)

pub returns-in_err-test_entry-clause-err : goal.returns-in_err-test_entry-clause-err
returns-in_err-test_entry-clause-err g c =
    let p = err_from_is_err_and c.from_residual-in_err-test_entry.result c.from_residual-in_err-test_entry.ensures.1 in
    rw (p.1, p.2) (entry_told c.args.self.now c.close_before.new.self (plain_line c.args.line) _ c.in_ok-test_front.ensures c.in_err-test_entry.ensures c.in_ok-close_before.ensures.reads)

pub returns-clause-ok : goal.returns-clause-ok
returns-clause-ok g c =
    entry_read g.S.ReadSink.Took c.args.sink.now c.close_before.new.sink c.args.self.now c.close_before.new.self c.add.new.self (plain_line c.args.line) c.in_ok-test_front.ensures c.in_ok-test_entry.ensures c.in_ok-close_before.ensures.reads c.in_ok-close_before.ensures.hands
    c.requires.sound c.requires.some c.in_ok-add.ensures.added c.in_ok-add.ensures.keys
