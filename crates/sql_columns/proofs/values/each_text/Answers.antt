use Rattle.std.proofs.Common.{Some, sym, ap, ◌∙◌}
use Rattle.serde_json.specs.Find.{as_str}
use Rattle.request_book.proofs.EachRead.{next_read, all_read}
use Rattle.sql_columns.proofs.values.each_text.Goals as goal

pub loop-value-preserved : goal.loop-value-preserved
loop-value-preserved c =
    let read = sym c.in-Some.ensures ∙ ap Some (sym c.in_ok-from_text.ensures) in
    next_read as_str c.args.values.now c.loop-value.value-index c.value-item.result c.loop-value.texts c.push.new.self c.in_ok-from_text.field-0 _ c.loop-value-test.true c.value-item.is c.loop-value.invariant read c.in_ok-push.ensures.ok

pub returns-clause-ok : goal.returns-clause-ok
returns-clause-ok c = all_read as_str c.args.values.now c.loop-value.value-index c.loop-value.texts _ c.loop-value-test.false c.loop-value.invariant
