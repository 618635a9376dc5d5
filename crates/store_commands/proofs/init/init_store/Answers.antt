use Rattle.std.proofs.Common.{refl, sym, subst}
use Rattle.sqlite.specs.Held.{state}
use Rattle.tables.specs.Starts.{started}
use Rattle.office.proofs.Streaming.{took_none}
use Rattle.sql_files.specs.Files.{KeepsFile, LeavesFiles}
use Rattle.store_sql.specs.Tables.{held_by}
use Rattle.store_commands.specs.Opening.{Holds}
use Rattle.store_commands.specs.Init.{made, refused}
use Rattle.store_commands.proofs.Tables.{holds_made}
use Rattle.store_commands.proofs.init.init_store.Goals as goal

pub returns-in-Ok-clause-initialised : goal.returns-in-Ok-clause-initialised
returns-in-Ok-clause-initialised g c =
    made
    (record {
      was_empty = c.in-Ok.ensures.allowed;
      file = subst (λ held. KeepsFile (state g.S.Store held)) (sym c.into_connection.ensures.held) c.in-Ok.ensures.made.file;
      leaves = subst (λ held. LeavesFiles (state g.S.Store held)) (sym c.into_connection.ensures.held) c.in-Ok.ensures.made.leaves;
      holds = subst (λ held. Holds (state g.S.Store held) (started c.args.start.now)) (sym c.into_connection.ensures.held) (holds_made g.S.Store (held_by g.S.Store c.in-Ok.tables) c.args.start.now c.in-Ok.ensures.made);
    })
    (took_none _ _) refl

pub returns-in-Err-clause-initialised : goal.returns-in-Err-clause-initialised
returns-in-Err-clause-initialised g c =
    refused c.in-Err.fault
    (record { why = c.in-Err.ensures.refused; untouched = c.in-Err.ensures.untouched; disk = c.in-Err.ensures.disk; same = c.in-Err.ensures.handed_back })
    c.tell_store_fault.ensures.told c.tell_store_fault.ensures.status

pub returns-in-Err-clause-between : goal.returns-in-Err-clause-between
returns-in-Err-clause-between g c = c.in-Err.ensures.handed_back.ended
