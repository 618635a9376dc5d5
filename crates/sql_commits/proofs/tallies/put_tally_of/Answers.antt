use Rattle.std.proofs.Common.{rules}
use Rattle.sqlite.specs.Held.{state}
use Rattle.sql_commits.specs.Figures.{PutsTally}
use Rattle.sql_commits.proofs.TallyRows.{tally_told}
use Rattle.sql_commits.proofs.WritesInTurn.{write_mapped}
use Rattle.sql_decoding.proofs.DiskFailures.{mapped_told, mild_told}
use Rattle.sql_commits.proofs.tallies.put_tally_of.Goals as goal

pub returns-clause-put : goal.returns-clause-put
returns-clause-put g c =
    let old = state g.S.Store c.args.tx.now.conn.now in
    let new = state g.S.Store c.put_tally.new.tx.conn.now in
    let domain = c.args.domain.now in
    let lang = c.args.lang.now in
    let tally = c.args.tally in
    write_mapped old new c.put_tally.result c.map_err.result _ _ (PutsTally domain lang tally) c.map_err.ensures.cases
    (tally_told c.as_str.result.now c.as_str-2.result.now domain lang tally _ _ _ _ _ _ _ old.now new.now (search rules) (search rules) (search rules) (search rules) (search rules) (search rules) (search rules) (search rules) (search rules))
    c.put_tally.ensures.put

pub returns-in_err-count_column-clause-disk : goal.returns-in_err-count_column-clause-disk
returns-in_err-count_column-clause-disk g c =
    mild_told (state g.S.Store c.args.tx.now.conn.now) (state g.S.Store c.args.tx.now.conn.now) _ c.from_residual.result c.from_residual.ensures.1 c.in_err-count_column.ensures.told

pub returns-in_err-count_column-2-clause-disk : goal.returns-in_err-count_column-2-clause-disk
returns-in_err-count_column-2-clause-disk g c =
    mild_told (state g.S.Store c.args.tx.now.conn.now) (state g.S.Store c.args.tx.now.conn.now) _ c.from_residual-in_err-count_column-2.result c.from_residual-in_err-count_column-2.ensures.1 c.in_err-count_column-2.ensures.told

pub returns-in_err-count_column-3-clause-disk : goal.returns-in_err-count_column-3-clause-disk
returns-in_err-count_column-3-clause-disk g c =
    mild_told (state g.S.Store c.args.tx.now.conn.now) (state g.S.Store c.args.tx.now.conn.now) _ c.from_residual-in_err-count_column-3.result c.from_residual-in_err-count_column-3.ensures.1 c.in_err-count_column-3.ensures.told

pub returns-in_err-count_column-4-clause-disk : goal.returns-in_err-count_column-4-clause-disk
returns-in_err-count_column-4-clause-disk g c =
    mild_told (state g.S.Store c.args.tx.now.conn.now) (state g.S.Store c.args.tx.now.conn.now) _ c.from_residual-in_err-count_column-4.result c.from_residual-in_err-count_column-4.ensures.1 c.in_err-count_column-4.ensures.told

pub returns-in_err-count_column-5-clause-disk : goal.returns-in_err-count_column-5-clause-disk
returns-in_err-count_column-5-clause-disk g c =
    mild_told (state g.S.Store c.args.tx.now.conn.now) (state g.S.Store c.args.tx.now.conn.now) _ c.from_residual-in_err-count_column-5.result c.from_residual-in_err-count_column-5.ensures.1 c.in_err-count_column-5.ensures.told

pub returns-in_err-count_column-6-clause-disk : goal.returns-in_err-count_column-6-clause-disk
returns-in_err-count_column-6-clause-disk g c =
    mild_told (state g.S.Store c.args.tx.now.conn.now) (state g.S.Store c.args.tx.now.conn.now) _ c.from_residual-in_err-count_column-6.result c.from_residual-in_err-count_column-6.ensures.1 c.in_err-count_column-6.ensures.told

pub returns-in_err-count_column-7-clause-disk : goal.returns-in_err-count_column-7-clause-disk
returns-in_err-count_column-7-clause-disk g c =
    mild_told (state g.S.Store c.args.tx.now.conn.now) (state g.S.Store c.args.tx.now.conn.now) _ c.from_residual-in_err-count_column-7.result c.from_residual-in_err-count_column-7.ensures.1 c.in_err-count_column-7.ensures.told

pub returns-clause-disk : goal.returns-clause-disk
returns-clause-disk g c =
    mapped_told (state g.S.Store c.args.tx.now.conn.now) (state g.S.Store c.put_tally.new.tx.conn.now) c.put_tally.result c.map_err.result _ (λ e f t. t) c.map_err.ensures.cases c.put_tally.ensures.disk
