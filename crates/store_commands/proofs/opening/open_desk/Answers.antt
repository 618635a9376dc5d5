use Rattle.store_sql.specs.Tables.{held_by}
use Rattle.store_commands.proofs.Tables.{is_opened}
use Rattle.store_commands.proofs.opening.open_desk.Goals as goal

pub returns-in-Ok-clause-opened : goal.returns-in-Ok-clause-opened
returns-in-Ok-clause-opened g c = rw c.new.ensures (is_opened g.S.Store (held_by g.S.Store c.in-Ok.tables) c.args.connection c.in-Ok.ensures.adopted)

pub returns-in-Err-clause-refused : goal.returns-in-Err-clause-refused
returns-in-Err-clause-refused g c = record {
  why = c.in-Err.ensures.refused;
  again = c.in-Err.ensures.again;
  disk = c.in-Err.ensures.disk;
  same = c.in-Err.ensures.handed_back;
}

pub returns-in-Ok-clause-running : goal.returns-in-Ok-clause-running
returns-in-Ok-clause-running g c = rw c.new.ensures c.in-Ok.ensures.adopted.running
