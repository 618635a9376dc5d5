use Rattle.std.proofs.Common.{sym, ◌∙◌}
use Rattle.client.proofs.LineLemmas.{line_ended, line_unended}
use Rattle.client.proofs.list.first_line.Goals as goal

pub returns-in-Some : goal.returns-in-Some
returns-in-Some c = line_ended c.args.text.now c.in-Some.end c.in-Some.ensures.0 c.in-Some.ensures.1

pub returns-in-None : goal.returns-in-None
returns-in-None c = line_unended c.args.text.now (sym c.is_empty.ensures ∙ c.if-is_empty.false) c.in-None.ensures
