use Rattle.std.proofs.Common.{ap, ◌∙◌}
use Rattle.serde_json.specs.Data.{array, string}
use Rattle.serde_json.proofs.Views.{view-Array}
use Rattle.request_book.proofs.EachWritten.{next_written, all_written}
use Rattle.request_book.proofs.lists.strings_value.Goals as goal

pub loop-string-preserved : goal.loop-string-preserved
loop-string-preserved c = next_written c.loop-string.list.items c.push.new.self.items c.args.texts.now c.loop-string.string-index c.string-item.result c.in_ok-try_from_str.field-0 c.loop-string-test.true c.string-item.is c.loop-string.invariant (c.in_ok-try_from_str.ensures ∙ ap string c.as_str.ensures.value) c.in_ok-push.ensures.items

pub returns : goal.returns
returns c = view-Array c.loop-string.list ∙ ap array (all_written c.loop-string.list.items c.args.texts.now c.loop-string.string-index c.loop-string-test.false c.loop-string.invariant)
