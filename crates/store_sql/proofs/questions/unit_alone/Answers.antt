use Rattle.sqlite.specs.Held.{state}
use Rattle.sql_schema.proofs.Sequences.{reads_both, read_mapped, steady_read, fails_after}
use Rattle.store_sql.proofs.PartsBlame.{first_blames, later_blames}
use Rattle.store_sql.proofs.questions.unit_alone.Goals as goal

pub find_domain_entry-requires : goal.find_domain_entry-requires
find_domain_entry-requires g c = record { steady = steady_read (state g.S.Store c.args.tx.now.conn.now) (state g.S.Store c.find_domain_unit.new.tx.conn.now) _ _ c.in_ok-unit.ensures.found }

pub returns-in_err-entry-clause-found : goal.returns-in_err-entry-clause-found
returns-in_err-entry-clause-found g c =
    fails_after (state g.S.Store c.args.tx.now.conn.now) (state g.S.Store c.find_domain_unit.new.tx.conn.now) (state g.S.Store c.find_domain_entry.new.tx.conn.now) _ _ _ _ _ _
    c.from_residual-in_err-entry.ensures.0 c.in_ok-unit.ensures.found c.in_err-entry.ensures.found

pub returns-clause-found : goal.returns-clause-found
returns-clause-found g c =
    let old = state g.S.Store c.args.tx.now.conn.now in
    let new = state g.S.Store c.find_domain_entry.new.tx.conn.now in
    let two = reads_both old (state g.S.Store c.find_domain_unit.new.tx.conn.now) new _ _ _ _ c.in_ok-unit.ensures.found c.in_ok-entry.ensures.found in
    read_mapped old new _ _ _ _ (λ db it. record { unit = it.0; entry = it.1; none = c.new.ensures.items }) two

pub returns-in_err-unit-clause-disk : goal.returns-in_err-unit-clause-disk
returns-in_err-unit-clause-disk g c =
    let first = state g.S.Store c.find_domain_unit.new.tx.conn.now in
    first_blames (state g.S.Store c.args.tx.now.conn.now) first first c.in_err-unit.field-0.0 c.from_residual.result c.from_residual.ensures.1 c.in_err-unit.ensures.disk

pub returns-in_err-entry-clause-disk : goal.returns-in_err-entry-clause-disk
returns-in_err-entry-clause-disk g c =
    later_blames (state g.S.Store c.args.tx.now.conn.now) (state g.S.Store c.find_domain_unit.new.tx.conn.now) (state g.S.Store c.find_domain_entry.new.tx.conn.now) _ _ _ _
    c.in_err-entry.field-0.0 c.from_residual-in_err-entry.result c.from_residual-in_err-entry.ensures.1 c.in_ok-unit.ensures.found c.in_err-entry.ensures.found c.in_err-entry.ensures.disk
