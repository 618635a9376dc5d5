use Rattle.sqlite.specs.Held.{state}
use Rattle.store_sql.specs.Tables.{connection_of}
use Rattle.office.specs.Writers.{writer_at}
use Rattle.store_commands.proofs.Printing.{printed_on, not_handed_on}
use Rattle.store_commands.proofs.records.print_whole.Goals as goal

pub returns-in-Ok-clause-printed : goal.returns-in-Ok-clause-printed
returns-in-Ok-clause-printed g c clean =
    let as_writer = writer_at g.W.ByteSink.taken g.W.ByteSink.failed in
    printed_on c.args.after (state g.S.Store (connection_of g.S.Store c.args.tables.now)).now (as_writer c.args.w.now) (as_writer c.print_lines.new.w) (as_writer c.hand_on.new.w) (c.in_ok-print_lines.ensures.printed clean) c.in-Ok.ensures.sent

pub returns-in-Err-clause-printed : goal.returns-in-Err-clause-printed
returns-in-Err-clause-printed g c clean =
    let as_writer = writer_at g.W.ByteSink.taken g.W.ByteSink.failed in
    not_handed_on c.args.after (state g.S.Store (connection_of g.S.Store c.args.tables.now)).now (as_writer c.args.w.now) (as_writer c.print_lines.new.w) (as_writer c.hand_on.new.w) (c.in_ok-print_lines.ensures.printed clean) c.in-Err.ensures.sent

pub returns-in_err-print_lines-clause-runs_on : goal.returns-in_err-print_lines-clause-runs_on
returns-in_err-print_lines-clause-runs_on g c = c.in_err-print_lines.ensures.runs_on

pub returns-in-Ok-clause-runs_on : goal.returns-in-Ok-clause-runs_on
returns-in-Ok-clause-runs_on g c = c.in_ok-print_lines.ensures.runs_on

pub returns-in-Err-clause-runs_on : goal.returns-in-Err-clause-runs_on
returns-in-Err-clause-runs_on g c = c.in_ok-print_lines.ensures.runs_on
