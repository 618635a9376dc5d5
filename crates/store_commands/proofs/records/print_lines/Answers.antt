use Rattle.std.proofs.Common.{◌≡◌, ◌∙◌, true, rules, sym}
use Rattle.sqlite.specs.Held.{state}
use Rattle.store_sql.specs.TablesInFile.{is_stopped}
use Rattle.store_sql.specs.Tables.{connection_of, held_by}
use Rattle.store_commands.proofs.Printing.{all_printed, cut_printed, cut_same, disk_told}
use Rattle.tables.proofs.RunsOn.{kept_runs_on}
use Rattle.store_commands.proofs.records.print_lines.Goals as goal

pub returns-in-Ok-clause-printed : goal.returns-in-Ok-clause-printed
returns-in-Ok-clause-printed g c clean =
    let handed = c.in-Ok.ensures.handed clean in
    let same = handed.took.same_reference in
    let it = all_printed g.W.ByteSink.taken g.W.ByteSink.failed (λ lines. lines.w) c.args.after (state g.S.Store (connection_of g.S.Store c.args.tables.now)).now c.new-lines.result c.each_record.new.sink handed in
    search rules

pub returns-in-Err-clause-printed : goal.returns-in-Err-clause-printed
returns-in-Err-clause-printed g c clean =
    let handed = c.in-Err.ensures.handed clean in
    let same = cut_same g.W.ByteSink.taken g.W.ByteSink.failed (λ lines. lines.w) c.args.after (state g.S.Store (connection_of g.S.Store c.args.tables.now)).now c.new-lines.result c.each_record.new.sink c.in-Err.fault handed in
    let it = cut_printed g.W.ByteSink.taken g.W.ByteSink.failed (λ lines. lines.w) c.args.after (state g.S.Store (connection_of g.S.Store c.args.tables.now)).now c.new-lines.result c.each_record.new.sink c.in-Err.fault handed in
    search rules

pub returns-in-Err-clause-disk : goal.returns-in-Err-clause-disk
returns-in-Err-clause-disk g c clean so =
    disk_told g.W.ByteSink.taken g.W.ByteSink.failed (λ lines. lines.w) c.args.after (state g.S.Store (connection_of g.S.Store c.args.tables.now)).now c.new-lines.result c.each_record.new.sink
    (is_stopped g.S.Store (held_by g.S.Store c.each_record.new.self) ≡ true) c.in-Err.fault c.in-Err.ensures.disk (c.in-Err.ensures.handed clean) (sym c.handing_fault.ensures ∙ so)

pub returns-in-Ok-clause-runs_on : goal.returns-in-Ok-clause-runs_on
returns-in-Ok-clause-runs_on g c = kept_runs_on c.in-Ok.ensures.kept

pub returns-in-Err-clause-runs_on : goal.returns-in-Err-clause-runs_on
returns-in-Err-clause-runs_on g c = kept_runs_on c.in-Err.ensures.kept
