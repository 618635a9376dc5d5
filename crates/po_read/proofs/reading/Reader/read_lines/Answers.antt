use Rattle.std.proofs.Common.{◌+◌, sym, ◌∙◌, ap, subst}
use Rattle.std.proofs.lemmas.Result.{err_from_is_err_and}
use Rattle.po_lex.specs.PlainTokens.{Rest}
use Rattle.po_read.proofs.TextLines.{Handing, hand_none, token_sound, token_fault, token_reached, reached_here, line_told, token_next, end_of_text, handed_whole}
use Rattle.po_read.proofs.reading.Reader.read_lines.Goals as goal

pub loop-told-init : goal.loop-told-init
loop-told-init g c = record {
  handing = subst (λ (r : Rest). Handing g.S.ReadSink.Took c.args.sink.now c.args.text.now c.args.self.now c.args.sink.now r.text 1) (sym c.lex-lines.ensures) (hand_none g.S.ReadSink.Took g.met.S.ReadSink.none c.args.sink.now c.args.text.now c.args.self.now c.utf8.text c.requires.first);
  number = sym (ap (λ (r : Rest). r.number) c.lex-lines.ensures);
}

pub returns-in_err-token-clause-err : goal.returns-in_err-token-clause-err
returns-in_err-token-clause-err g c =
    let p = err_from_is_err_and c.from_residual.result c.from_residual.ensures.1 in
    rw (p.1, p.2) (token_fault c.args.text.now c.loop-told.self c.loop-told.lines c.next.new.self c.in-Some.told c.in_err-token.field-0.0 c.loop-told.line c.loop-told.invariant.handing.going c.loop-told.invariant.number c.in-Some.ensures.some c.in_err-token.was)

pub returns-in_err-token-clause-memory : goal.returns-in_err-token-clause-memory
returns-in_err-token-clause-memory g c =
    let p = err_from_is_err_and c.from_residual.result c.from_residual.ensures.1 in
    rw (p.1, p.2) (λ m. token_reached c.args.text.now c.loop-told.self c.loop-told.lines c.next.new.self c.in-Some.told c.in_err-token.field-0.0 c.loop-told.line c.loop-told.invariant.handing.going c.loop-told.invariant.number c.in-Some.ensures.some c.in_err-token.was)

pub read_line-requires : goal.read_line-requires
read_line-requires g c = record { sound = token_sound c.args.text.now c.loop-told.self c.loop-told.lines c.next.new.self c.in-Some.told c.in_ok-token.token c.loop-told.line c.loop-told.invariant.handing.going c.in-Some.ensures.some c.in_ok-token.was }

pub returns-in-Err-clause-err : goal.returns-in-Err-clause-err
returns-in-Err-clause-err g c = line_told c.args.text.now c.loop-told.self c.loop-told.lines c.next.new.self c.in-Some.told c.in_ok-token.token c.loop-told.line c.in-Err.kind c.loop-told.invariant.handing.going c.in-Some.ensures.some c.in_ok-token.was c.in-Err.ensures.err

pub returns-in-Err-clause-memory : goal.returns-in-Err-clause-memory
returns-in-Err-clause-memory g c = λ m. reached_here c.args.text.now c.loop-told.self c.loop-told.lines.text c.loop-told.line c.loop-told.invariant.handing.going

pub loop-told-preserved : goal.loop-told-preserved
loop-told-preserved g c = record {
  handing = token_next g.S.ReadSink.Took c.args.sink.now c.loop-told.sink c.read_line.new.sink c.args.text.now c.loop-told.self c.read_line.new.self c.loop-told.lines c.next.new.self c.in-Some.told c.in_ok-token.token c.loop-told.line c.loop-told.invariant.handing c.in-Some.ensures.some c.in_ok-token.was c.in_default-read_line.ensures.ok;
  number = ap (λ n. n + 1) c.loop-told.invariant.number ∙ sym c.in-Some.ensures.some.number;
}

pub returns-in-Ok-clause-ok : goal.returns-in-Ok-clause-ok
returns-in-Ok-clause-ok g c =
    handed_whole g.S.ReadSink.Took c.args.sink.now c.loop-told.sink c.finish.new.sink c.args.text.now c.loop-told.self c.loop-told.lines.text c.loop-told.line c.loop-told.invariant.handing c.in_default.ensures.none.0 c.in-Ok.ensures.ok

pub returns-in-Err-finish-clause-err : goal.returns-in-Err-finish-clause-err
returns-in-Err-finish-clause-err g c = end_of_text c.args.text.now c.loop-told.self c.loop-told.lines.text c.loop-told.line c.in-Err-finish.kind c.loop-told.invariant.handing.going c.in_default.ensures.none.0 c.in-Err-finish.ensures.err

pub returns-in-Err-finish-clause-memory : goal.returns-in-Err-finish-clause-memory
returns-in-Err-finish-clause-memory g c = λ m. reached_here c.args.text.now c.loop-told.self c.loop-told.lines.text c.loop-told.line c.loop-told.invariant.handing.going
