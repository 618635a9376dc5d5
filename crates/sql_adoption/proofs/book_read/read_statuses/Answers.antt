use Rattle.std.proofs.Common.{List, Ok}
use Rattle.std.specs.FinMap as maps
use Rattle.sqlite.specs.Held.{state}
use Rattle.sqlite.specs.Order.{Row}
use Rattle.sql_streams.specs.declared.walking.WalkFault.{WalkFault}
use Rattle.sql_decoding.specs.declared.faults.Failure.{Failure}
use Rattle.sql_adoption.specs.declared.statuses.Statuses.{Statuses}
use Rattle.sql_adoption.specs.NotedRecords.{NotesRecords}
use Rattle.sql_adoption.specs.Reading.{AreStatusesIn}
use Rattle.sql_layouts.proofs.Looked.{walked_on, looked_failed}
use Rattle.sql_adoption.proofs.Read.{statuses_are_read, walk_refused}
use Rattle.sql_adoption.proofs.OpensBlame.{walk_opens}
use Rattle.sql_adoption.proofs.book_read.read_statuses.Goals as goal

pub returns-clause-found : goal.returns-clause-found
returns-clause-found g c =
    let old = state g.S.Store c.args.connection.now in
    let new = state g.S.Store c.walk_contents.new.connection in
    let last = c.walk_contents.new.sink in
    walked_on old new {E = WalkFault Failure} _ (Ok last.by_number) _ AreStatusesIn c.in_ok-walk_contents.ensures.looked (λ clean early is_open.
    let gave = c.in_ok-walk_contents.ensures.handed clean in
    statuses_are_read c.requires.idle.0 old.now gave.rows gave.answer gave.took.stand (c.requires.idle.1.ready early is_open) last.by_number
    (gave.took.noted maps.empty c.new-statuses.ensures))

pub returns-in_err-walk_contents-clause-found : goal.returns-in_err-walk_contents-clause-found
returns-in_err-walk_contents-clause-found g c =
    looked_failed (state g.S.Store c.args.connection.now) (state g.S.Store c.walk_contents.new.connection) _ c.from_residual.result _ AreStatusesIn c.from_residual.ensures.0 c.in_err-walk_contents.ensures.looked

pub returns-in_err-walk_contents-clause-refused : goal.returns-in_err-walk_contents-clause-refused
returns-in_err-walk_contents-clause-refused g c =
    walk_refused (state g.S.Store c.args.connection.now).now (λ (a : Statuses) (rows : List Row) (b : Statuses). NotesRecords a.by_number rows b.by_number) c.new-statuses.result c.walk_contents.new.sink c.from_residual.result c.in_err-walk_contents.field-0.0
    c.from_residual.ensures.1 c.in_err-walk_contents.ensures.handed

pub returns-in_err-walk_contents-clause-disk : goal.returns-in_err-walk_contents-clause-disk
returns-in_err-walk_contents-clause-disk g c = walk_opens (state g.S.Store c.args.connection.now) (state g.S.Store c.walk_contents.new.connection) c.in_err-walk_contents.field-0.0 c.from_residual.result c.from_residual.ensures.1 c.in_err-walk_contents.ensures.disk
