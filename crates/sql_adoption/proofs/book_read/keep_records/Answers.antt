use Rattle.std.proofs.Common.{List, Ok, sym, ◌∙◌}
use Rattle.sqlite.specs.Held.{state}
use Rattle.sqlite.specs.Order.{Row}
use Rattle.sql_streams.specs.declared.walking.WalkFault.{WalkFault}
use Rattle.sql_decoding.specs.declared.faults.Failure.{Failure}
use Rattle.sql_schema.specs.Layouts.{by_domain}
use Rattle.sql_adoption.specs.declared.statuses.Contents.{Contents}
use Rattle.sql_adoption.specs.NotedRecords.{TestsRecords}
use Rattle.sql_adoption.specs.Reading.{KeepsRecords}
use Rattle.sql_adoption.specs.declared.faults.OpenFault.TheVariants.{Foreign}
use Rattle.sql_adoption.specs.declared.faults.Mismatch.TheVariants.{BrokenRules}
use Rattle.sql_layouts.proofs.Looked.{walked_on, looked_in_vain, looked_failed, looked_ready}
use Rattle.sql_adoption.proofs.Read.{walk_refused}
use Rattle.sql_adoption.proofs.KeptRecords.{records_kept, records_refused, records_unread}
use Rattle.sql_adoption.proofs.OpensBlame.{walk_opens}
use Rattle.sql_adoption.proofs.book_read.keep_records.Goals as goal

pub walk_contents-requires-clause-idle : goal.walk_contents-requires-clause-idle
walk_contents-requires-clause-idle g c = (by_domain, c.requires.idle)

pub returns-then-contents-clause-found : goal.returns-then-contents-clause-found
returns-then-contents-clause-found g c =
    let old = state g.S.Store c.args.connection.now in
    walked_on old (state g.S.Store c.walk_contents.new.connection) {E = WalkFault Failure} _ (Ok _) _ (λ db _. KeepsRecords db) c.in_ok-walk_contents.ensures.looked (λ clean early is_open.
    let gave = c.in_ok-walk_contents.ensures.handed clean in
    records_kept old.now gave.rows gave.answer gave.took.stand (sym gave.took.told ∙ c.if-contents.true))

pub returns-else-contents-clause-found : goal.returns-else-contents-clause-found
returns-else-contents-clause-found g c =
    looked_in_vain (state g.S.Store c.args.connection.now) (state g.S.Store c.walk_contents.new.connection) _ (Foreign BrokenRules) _ (λ db _. KeepsRecords db) c.in_ok-walk_contents.ensures.looked

pub returns-else-contents-clause-refused : goal.returns-else-contents-clause-refused
returns-else-contents-clause-refused g c = λ clean.
    let old = state g.S.Store c.args.connection.now in
    let gave = c.in_ok-walk_contents.ensures.handed clean in
    records_refused old.now gave.rows gave.answer gave.took.stand (looked_ready old (state g.S.Store c.walk_contents.new.connection) _ _ c.requires.idle c.in_ok-walk_contents.ensures.looked clean) (sym gave.took.told ∙ c.if-contents.false)

pub returns-in_err-walk_contents-clause-found : goal.returns-in_err-walk_contents-clause-found
returns-in_err-walk_contents-clause-found g c =
    looked_failed (state g.S.Store c.args.connection.now) (state g.S.Store c.walk_contents.new.connection) _ c.from_residual.result _ (λ db _. KeepsRecords db) c.from_residual.ensures.0 c.in_err-walk_contents.ensures.looked

pub returns-in_err-walk_contents-clause-refused : goal.returns-in_err-walk_contents-clause-refused
returns-in_err-walk_contents-clause-refused g c =
    let db = (state g.S.Store c.args.connection.now).now in
    records_unread _ db c.from_residual.result (walk_refused db (λ (a : Contents) (rows : List Row) (b : Contents). TestsRecords a.answered rows b.answered) _ c.walk_contents.new.sink c.from_residual.result c.in_err-walk_contents.field-0.0
    c.from_residual.ensures.1 c.in_err-walk_contents.ensures.handed)

pub returns-in_err-walk_contents-clause-disk : goal.returns-in_err-walk_contents-clause-disk
returns-in_err-walk_contents-clause-disk g c = walk_opens (state g.S.Store c.args.connection.now) (state g.S.Store c.walk_contents.new.connection) c.in_err-walk_contents.field-0.0 c.from_residual.result c.from_residual.ensures.1 c.in_err-walk_contents.ensures.disk

pub returns-else-contents-clause-disk : goal.returns-else-contents-clause-disk
returns-else-contents-clause-disk g c = λ clean same. absurd cc
