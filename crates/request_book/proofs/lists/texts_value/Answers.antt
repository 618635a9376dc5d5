use Rattle.std.proofs.Common.{ap, ◌∙◌}
use Rattle.serde_json.specs.Data.{array, string}
use Rattle.serde_json.proofs.Views.{view-Array}
use Rattle.request_book.proofs.EachWritten.{next_written, all_written}
use Rattle.request_book.proofs.lists.texts_value.Goals as goal

pub loop-text-preserved : goal.loop-text-preserved
loop-text-preserved c = next_written c.loop-text.list.items c.push.new.self.items c.args.texts.now c.loop-text.text-index c.text-item.result c.in_ok-try_from_str.field-0 c.loop-text-test.true c.text-item.is c.loop-text.invariant (c.in_ok-try_from_str.ensures ∙ ap string c.as_str.ensures) c.in_ok-push.ensures.items

pub returns : goal.returns
returns c = view-Array c.loop-text.list ∙ ap array (all_written c.loop-text.list.items c.args.texts.now c.loop-text.text-index c.loop-text-test.false c.loop-text.invariant)
