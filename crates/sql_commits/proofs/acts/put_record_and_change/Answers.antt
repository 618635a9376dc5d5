use Rattle.std.proofs.Common.{Ok, codes}
use Rattle.sqlite.specs.Held.{state}
use Rattle.sql_schema.specs.Layouts.{SparesOthers}
use Rattle.sql_changes.specs.Commits.{PutsNumberedRecord}
use Rattle.sql_changes.specs.OnDomains.{OnEach}
use Rattle.sql_commits.specs.Acts.{MakesOneChange}
use Rattle.sql_commits.specs.Changes.{WritesChange}
use Rattle.sql_commits.proofs.ActsWritten.{makes_change}
use Rattle.sql_commits.proofs.WritesInTurn.{write_as, write_then}
use Rattle.sql_schema.specs.Inside.{OnRows}
use Rattle.sql_commits.specs.Figures.{FollowsOneChange}
use Rattle.sql_figures.specs.Figures.{FiguresStay}
use Rattle.sql_figures.proofs.FigureSteps.{stay_beside, record_beside}
use Rattle.sql_commits.proofs.FiguresInTurn.{change_behind}
use Rattle.sql_decoding.proofs.DiskFailures.{fails_behind, failure_told}
use Rattle.sql_commits.proofs.acts.put_record_and_change.Goals as goal

pub returns-in-Some-clause-put : goal.returns-in-Some-clause-put
returns-in-Some-clause-put g c =
    let old = state g.S.Store c.args.tx.now.conn.now in
    let mid = state g.S.Store c.put_record_of.new.tx.conn.now in
    let new = state g.S.Store c.write_change.new.tx.conn.now in
    let row = c.args.row.now in
    let change = c.in-Some.change in
    rw c.in-Some.is (write_then old mid new c.in_ok-put_record_of.field-0 c.write_change.result (OnEach (PutsNumberedRecord row)) (WritesChange change) (MakesOneChange row change)
    (λ recorded. makes_change row old.now mid.now new.now recorded change)
    c.in_ok-put_record_of.ensures.put c.write_change.ensures.put)

pub returns-in-None-clause-put : goal.returns-in-None-clause-put
returns-in-None-clause-put g c = rw c.in-None.is c.in_ok-put_record_of.ensures.put

pub returns-in-Some-clause-figures : goal.returns-in-Some-clause-figures
returns-in-Some-clause-figures g c =
    let old = state g.S.Store c.args.tx.now.conn.now in
    let mid = state g.S.Store c.put_record_of.new.tx.conn.now in
    let new = state g.S.Store c.write_change.new.tx.conn.now in
    let Change = FollowsOneChange c.in-Some.change in
    rw c.in-Some.is (write_then old mid new c.in_ok-put_record_of.field-0 c.write_change.result (OnRows (SparesOthers (codes "record"))) Change Change
    (λ others. change_behind old.now mid.now new.now others c.in-Some.change) c.in_ok-put_record_of.ensures.others c.write_change.ensures.figures)

pub returns-in-None-clause-figures : goal.returns-in-None-clause-figures
returns-in-None-clause-figures g c =
    let old = state g.S.Store c.args.tx.now.conn.now in
    let new = state g.S.Store c.put_record_of.new.tx.conn.now in
    rw c.in-None.is (write_as old new (Ok c.in_ok-put_record_of.field-0) (OnRows (SparesOthers (codes "record"))) FiguresStay (stay_beside (codes "record") record_beside) c.in_ok-put_record_of.ensures.others)

pub returns-in_err-put_record_of-clause-disk : goal.returns-in_err-put_record_of-clause-disk
returns-in_err-put_record_of-clause-disk g c =
    failure_told (state g.S.Store c.args.tx.now.conn.now) (state g.S.Store c.put_record_of.new.tx.conn.now) _ c.from_residual.result c.from_residual.ensures.1 c.in_err-put_record_of.ensures.disk

pub returns-in-Some-clause-disk : goal.returns-in-Some-clause-disk
returns-in-Some-clause-disk g c =
    fails_behind (state g.S.Store c.args.tx.now.conn.now) (state g.S.Store c.put_record_of.new.tx.conn.now) (state g.S.Store c.write_change.new.tx.conn.now) (λ _. ⊥) (λ _. ⊥) c.write_change.result c.in_ok-put_record_of.ensures.put.survives c.write_change.ensures.put.survives
    (c.write_change.ensures.disk)
