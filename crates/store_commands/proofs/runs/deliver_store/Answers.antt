use Rattle.std.proofs.Common.{refl}
use Rattle.store_sql.specs.Tables.{connection_of}
use Rattle.store_commands.specs.Runs.{worked, refused}
use Rattle.tables.proofs.RunsOn.{runs_since, stopped_by_disk}
use Rattle.store_commands.proofs.runs.deliver_store.Goals as goal

pub returns-in-Ok-clause-delivered : goal.returns-in-Ok-clause-delivered
returns-in-Ok-clause-delivered g c =
    let delivered = c.deliver_lines-status.ensures.delivered in
    let closed = c.close_desk.ensures.closed in
    let ran = c.deliver_lines-status.ensures.runs_on _ (runs_since c.in-Ok.desk c.in-Ok.ensures.opened.holds.is_open c.in-Ok.ensures.running) in
    rw (c.close_desk.ensures.held, c.close_desk.ensures.stopped, c.close_desk.ensures.status) (worked (connection_of g.S.Store c.in-Ok.desk) c.in-Ok.ensures.opened (delivered.0, delivered.1, connection_of g.S.Store delivered.2, delivered.3, delivered.4, λ clean stopped. stopped_by_disk _ c.deliver_lines-status.new.desk ran clean stopped) (rw c.close_desk.ensures.held at closed))

pub returns-in-Err-clause-delivered : goal.returns-in-Err-clause-delivered
returns-in-Err-clause-delivered g c = refused c.in-Err.field-0.fault c.in-Err.ensures.refused (refl, refl, refl) c.tell_store_fault.ensures.told c.tell_store_fault.ensures.status
