use Rattle.std.proofs.Common.{refl}
use Rattle.tables.specs.RunsOn.{RunsOn}
use Rattle.tables.proofs.RunsOn.{runs_since, stopped_by_disk}
use Rattle.store_sql.specs.TablesInFile.{is_honest, is_whole, faults, is_stopped}
use Rattle.store_sql.specs.Tables.{connection_of, held_by}
use Rattle.store_commands.specs.Runs.{worked, refused}
use Rattle.store_commands.proofs.records.records_store.Goals as goal

pub returns-in-Ok-clause-printed : goal.returns-in-Ok-clause-printed
returns-in-Ok-clause-printed g c =
    let closed = c.close_desk.ensures.closed in
    let printed = c.print_records-status.ensures.printed in
    let same = c.print_records-status.ensures.same in
    let runs = c.print_records-status.ensures.runs_on in
    let on : RunsOn (is_honest g.S.Store) (is_whole g.S.Store) (faults g.S.Store) (is_stopped g.S.Store) (held_by g.S.Store c.in-Ok.desk) (held_by g.S.Store c.print_records-status.new.tables) = rw c.into_tables-tables.ensures at runs in
    let ran = on _ (runs_since (held_by g.S.Store c.in-Ok.desk) c.in-Ok.ensures.opened.holds.is_open c.in-Ok.ensures.running) in
    rw (c.close_desk.ensures.held, c.close_desk.ensures.stopped, c.close_desk.ensures.status, c.new.ensures)
    (worked (connection_of g.S.Store c.in-Ok.desk) c.in-Ok.ensures.opened (rw c.into_tables-tables.ensures at printed, rw c.into_tables-tables.ensures at same, λ clean stopped. stopped_by_disk _ (held_by g.S.Store c.print_records-status.new.tables) ran clean stopped) (rw (c.close_desk.ensures.held, c.new.ensures) at closed))

pub returns-in-Err-clause-printed : goal.returns-in-Err-clause-printed
returns-in-Err-clause-printed g c = refused c.in-Err.field-0.fault c.in-Err.ensures.refused (refl, refl) c.tell_store_fault.ensures.told c.tell_store_fault.ensures.status
