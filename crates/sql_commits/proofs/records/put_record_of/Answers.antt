use Rattle.std.proofs.Common.{rules, codes}
use Rattle.sqlite.specs.Held.{state}
use Rattle.sql_schema.specs.Layouts.{by_domain, SparesOthers}
use Rattle.sql_changes.specs.Commits.{PutsNumberedRecord}
use Rattle.sql_changes.specs.OnDomains.{OnEach}
use Rattle.sql_commits.proofs.PlannedWrites.{record_told}
use Rattle.sql_commits.proofs.WritesInTurn.{write_mapped}
use Rattle.sql_commits.proofs.FiguresInTurn.{put_others}
use Rattle.sql_schema.specs.Inside.{OnRows}
use Rattle.sql_decoding.proofs.DiskFailures.{mapped_told, memory_told}
use Rattle.sql_commits.proofs.records.put_record_of.Goals as goal

pub returns-clause-put : goal.returns-clause-put
returns-clause-put g c =
    let old = state g.S.Store c.args.tx.now.conn.now in
    let new = state g.S.Store c.put_record.new.tx.conn.now in
    let row = c.args.row.now in
    write_mapped old new c.put_record.result c.map_err.result _ _ (OnEach (PutsNumberedRecord row)) c.map_err.ensures.cases
    (record_told row c.as_str.result.now c.as_str-2.result.now c.body.result.now _ old.now new.now (search rules) (search rules) (search rules) (search rules) c.in_ok-number.ensures.fits)
    (c.put_record.ensures.put by_domain c.requires.steady)

-- no other table changes
pub returns-clause-others : goal.returns-clause-others
returns-clause-others g c =
    write_mapped (state g.S.Store c.args.tx.now.conn.now) (state g.S.Store c.put_record.new.tx.conn.now) c.put_record.result c.map_err.result _ _ (OnRows (SparesOthers (codes "record"))) c.map_err.ensures.cases put_others
    (c.put_record.ensures.put by_domain c.requires.steady)

pub returns-in_err-number-clause-disk : goal.returns-in_err-number-clause-disk
returns-in_err-number-clause-disk g c =
    memory_told (state g.S.Store c.args.tx.now.conn.now) (state g.S.Store c.args.tx.now.conn.now) c.from_residual.result c.from_residual.ensures.1

pub returns-clause-disk : goal.returns-clause-disk
returns-clause-disk g c =
    mapped_told (state g.S.Store c.args.tx.now.conn.now) (state g.S.Store c.put_record.new.tx.conn.now) c.put_record.result c.map_err.result _ (λ e f t. t) c.map_err.ensures.cases c.put_record.ensures.disk
