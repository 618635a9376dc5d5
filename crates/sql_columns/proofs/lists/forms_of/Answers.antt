use Rattle.std.proofs.Common.{◌++◌, ◌∷◌, [], sym, ◌∙◌}
use Rattle.std.proofs.lemmas.List.{take_more}
use Rattle.po_text.specs.Strings.{is_string}
use Rattle.request_book.proofs.EachRead.{next_passes}
use Rattle.sql_columns.proofs.lists.forms_of.Goals as goal

pub loop-text-preserved : goal.loop-text-preserved
loop-text-preserved c =
    let same = sym c.in_ok-string_from.ensures.ok ∙ c.as_str.ensures ∙ c.text-item.is in
    record {
      parts = c.in_ok-push.ensures.items ∙ (λ k. c.loop-text.invariant.parts k ++ same k ∷ []) ∙ sym (take_more c.args.texts.now c.loop-text.text-index c.text-item.result c.loop-text-test.true);
      fit = next_passes is_string c.loop-text.strings.items c.push.new.self.items c.in_ok-string_from.field-0 c.loop-text.invariant.fit c.in_ok-string_from.ensures.fits c.in_ok-push.ensures.items;
    }
