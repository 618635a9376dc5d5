use Rattle.std.proofs.lemmas.Result.{err_from_is_err_and}
use Rattle.serde_json.specs.View.{view}
use Rattle.po_text.specs.Strings.{is_string}
use Rattle.request_book.specs.Fields.{text_of}
use Rattle.request_book.proofs.EachRead.{next_read, all_read, none_read, next_passes}
use Rattle.request_book.proofs.Readers.{text_sound}
use Rattle.request_book.proofs.Three.{same_err}
use Rattle.request_book.proofs.fields.texts_from.Goals as goal

pub loop-value-preserved : goal.loop-value-preserved
loop-value-preserved c =
    let front = c.loop-value.texts.items in
    record {
      parts = next_read text_of c.args.values.now c.loop-value.value-index c.value-item.result front c.push.new.self.items c.in_ok-text.text _ c.loop-value-test.true c.value-item.is c.loop-value.invariant.parts c.in_ok-text.ensures.ok c.in_ok-push.ensures.items;
      fit = next_passes is_string front c.push.new.self.items c.in_ok-text.text c.loop-value.invariant.fit (text_sound is_string (view c.value-item.result) c.in_ok-text.text c.in_ok-text.ensures.ok).1 c.in_ok-push.ensures.items;
    }

pub returns-clause-ok : goal.returns-clause-ok
returns-clause-ok c = all_read text_of c.args.values.now c.loop-value.value-index c.loop-value.texts.items _ c.loop-value-test.false c.loop-value.invariant.parts

pub returns-in_err-text-clause-malformed : goal.returns-in_err-text-clause-malformed
returns-in_err-text-clause-malformed c =
    let p = err_from_is_err_and c.from_residual.result c.from_residual.ensures.1 in
    rw (p.1, p.2) (λ is. none_read text_of c.args.values.now c.loop-value.value-index c.value-item.result c.loop-value.texts.items _ c.loop-value-test.true c.value-item.is c.loop-value.invariant.parts (c.in_err-text.ensures.malformed (same_err _ _ is)))
