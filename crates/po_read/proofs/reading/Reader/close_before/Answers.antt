use Rattle.std.proofs.Common.{sym, ◌∙◌}
use Rattle.po_lex.specs.PlainTokens.{plain_line}
use Rattle.po_read.proofs.Tested.{closed_before, handed_before, closed_length}
use Rattle.po_read.proofs.reading.Reader.close_before.Goals as goal

pub returns-in_ok-close-clause-reads : goal.returns-in_ok-close-clause-reads
returns-in_ok-close-clause-reads g c = closed_before c.args.self.now c.close.new.self c.in_ok-close.ensures.entry (plain_line c.args.line.now) c.in_ok-close.ensures.closed (sym c.has_form.ensures ∙ c.if-has_form.true) (sym c.begins_entry.ensures ∙ c.if-begins_entry.true)

pub returns-in_ok-close-clause-hands : goal.returns-in_ok-close-clause-hands
returns-in_ok-close-clause-hands g c = handed_before g.S.ReadSink.Took g.met.S.ReadSink.more c.args.sink.now c.close.new.sink c.args.self.now c.close.new.self (plain_line c.args.line.now) c.in_ok-close.ensures (sym c.has_form.ensures ∙ c.if-has_form.true) (sym c.begins_entry.ensures ∙ c.if-begins_entry.true)

pub returns-in_ok-close-clause-length : goal.returns-in_ok-close-clause-length
returns-in_ok-close-clause-length g c = closed_length c.args.self.now c.close.new.self c.in_ok-close.ensures.entry (plain_line c.args.line.now) c.in_ok-close.ensures.closed (sym c.has_form.ensures ∙ c.if-has_form.true) (sym c.begins_entry.ensures ∙ c.if-begins_entry.true)
