use Rattle.sqlite.specs.Held.{state}
use Rattle.sql_schema.specs.Layouts.{SparesOthers}
use Rattle.sql_changes.specs.Commits.{PutsNumberedRecord, WritesRecordAndUnit, MakesIn}
use Rattle.sql_changes.specs.OnDomains.{OnEach}
use Rattle.sql_changes.specs.UnitWrites.{WritesOfUnit}
use Rattle.sql_commits.specs.Changes.{WritesIn}
use Rattle.sql_commits.proofs.ActsWritten.{writes_unit}
use Rattle.sql_commits.proofs.WritesInTurn.{write_then, write_as}
use Rattle.std.proofs.Common.{Ok, codes}
use Rattle.sql_schema.specs.Inside.{OnRows}
use Rattle.sql_commits.specs.Figures.{FollowsWrite, FollowsIn}
use Rattle.sql_figures.specs.Figures.{FiguresStay}
use Rattle.sql_figures.proofs.FigureSteps.{stay_beside, record_beside}
use Rattle.sql_commits.proofs.FiguresInTurn.{write_behind}
use Rattle.sql_decoding.proofs.DiskFailures.{fails_behind, failure_told}
use Rattle.sql_commits.proofs.acts.put_record_and_write.Goals as goal

pub returns-in-Some-clause-put : goal.returns-in-Some-clause-put
returns-in-Some-clause-put g c =
    let old = state g.S.Store c.args.tx.now.conn.now in
    let mid = state g.S.Store c.put_record_of.new.tx.conn.now in
    let new = state g.S.Store c.write_unit_in.new.tx.conn.now in
    let row = c.args.row.now in
    let domain = c.args.domain.now in
    let lang = c.args.lang.now in
    let key = c.args.key.now in
    let write = c.in-Some.write in
    let Unit = WritesIn domain (WritesOfUnit lang key write) in
    let Whole = MakesIn domain row (WritesRecordAndUnit row lang key write) in
    rw c.in-Some.is (write_then old mid new c.in_ok-put_record_of.field-0 c.write_unit_in.result (OnEach (PutsNumberedRecord row)) Unit Whole
    (λ recorded. writes_unit row old.now mid.now new.now recorded domain lang key write)
    c.in_ok-put_record_of.ensures.put c.write_unit_in.ensures.put)

pub returns-in-None-clause-put : goal.returns-in-None-clause-put
returns-in-None-clause-put g c = rw c.in-None.is c.in_ok-put_record_of.ensures.put

pub returns-in-Some-clause-figures : goal.returns-in-Some-clause-figures
returns-in-Some-clause-figures g c =
    let old = state g.S.Store c.args.tx.now.conn.now in
    let mid = state g.S.Store c.put_record_of.new.tx.conn.now in
    let new = state g.S.Store c.write_unit_in.new.tx.conn.now in
    let domain = c.args.domain.now in
    let lang = c.args.lang.now in
    let key = c.args.key.now in
    let write = c.in-Some.write in
    let Follows = FollowsIn domain (FollowsWrite domain lang key write) in
    rw c.in-Some.is (write_then old mid new c.in_ok-put_record_of.field-0 c.write_unit_in.result (OnRows (SparesOthers (codes "record"))) Follows Follows
    (λ others. write_behind old.now mid.now new.now others domain lang key write) c.in_ok-put_record_of.ensures.others c.write_unit_in.ensures.figures)

pub returns-in-None-clause-figures : goal.returns-in-None-clause-figures
returns-in-None-clause-figures g c =
    let old = state g.S.Store c.args.tx.now.conn.now in
    let new = state g.S.Store c.put_record_of.new.tx.conn.now in
    rw c.in-None.is (write_as old new (Ok c.in_ok-put_record_of.field-0) (OnRows (SparesOthers (codes "record"))) FiguresStay (stay_beside (codes "record") record_beside) c.in_ok-put_record_of.ensures.others)

pub returns-in_err-put_record_of-clause-disk : goal.returns-in_err-put_record_of-clause-disk
returns-in_err-put_record_of-clause-disk g c =
    failure_told (state g.S.Store c.args.tx.now.conn.now) (state g.S.Store c.put_record_of.new.tx.conn.now) _ c.from_residual.result c.from_residual.ensures.1 c.in_err-put_record_of.ensures.disk

pub returns-in-Some-clause-disk : goal.returns-in-Some-clause-disk
returns-in-Some-clause-disk g c =
    fails_behind (state g.S.Store c.args.tx.now.conn.now) (state g.S.Store c.put_record_of.new.tx.conn.now) (state g.S.Store c.write_unit_in.new.tx.conn.now) (λ _. ⊥) (λ _. ⊥) c.write_unit_in.result c.in_ok-put_record_of.ensures.put.survives c.write_unit_in.ensures.put.survives
    (c.write_unit_in.ensures.disk)
