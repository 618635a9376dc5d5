use Rattle.std.proofs.Common.{sym, ◌∙◌}
use Rattle.po_text.proofs.EntryLists.{not_false}
use Rattle.po_text.proofs.Checked.{not_true, keys_next, unique_next, key_twice, all_unique}
use Rattle.po_text.proofs.valid.has_unique_keys.Goals as goal

pub loop-entry-preserved : goal.loop-entry-preserved
loop-entry-preserved c = record {
  seen =
      keys_next c.args.entries.now c.loop-entry.entry-index c.entry-item.result c.loop-entry.keys c.insert.new.self c.in_ok-key.key c.loop-entry-test.true c.entry-item.is c.in_ok-key.ensures.ctx c.in_ok-key.ensures.id
      c.loop-entry.invariant.seen c.in_ok-insert.ensures.updates;
  unique =
      unique_next c.args.entries.now c.loop-entry.entry-index c.entry-item.result c.loop-entry.keys c.in_ok-key.key c.loop-entry-test.true c.entry-item.is c.in_ok-key.ensures.ctx c.in_ok-key.ensures.id
      c.loop-entry.invariant.seen (not_true _ (sym c.in_ok-insert.ensures.added ∙ c.if-not-branch.false)) c.loop-entry.invariant.unique;
}

pub returns-then-not-branch : goal.returns-then-not-branch
returns-then-not-branch c =
    key_twice c.args.entries.now c.loop-entry.entry-index c.entry-item.result c.loop-entry.keys c.in_ok-key.key c.loop-entry-test.true c.entry-item.is c.in_ok-key.ensures.ctx c.in_ok-key.ensures.id
    c.loop-entry.invariant.seen (not_false _ (sym c.in_ok-insert.ensures.added ∙ c.if-not-branch.true))

pub returns : goal.returns
returns c = all_unique c.args.entries.now c.loop-entry.entry-index c.loop-entry-test.false c.loop-entry.invariant.unique
