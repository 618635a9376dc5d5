use Rattle.sqlite.specs.Held.{state}
use Rattle.sql_schema.proofs.Sequences.{reads_both, read_mapped, steady_read, fails_after}
use Rattle.store_sql.proofs.PartsBlame.{first_blames, later_blames}
use Rattle.store_sql.proofs.questions.ViewOfQuestion.ask.Goals as goal

pub unit_part-requires : goal.unit_part-requires
unit_part-requires g c = record { steady = steady_read (state g.S.Store c.args.tx.now.conn.now) (state g.S.Store c.office_part.new.tx.conn.now) _ _ c.in_ok-office.ensures.found }

pub returns-in_err-unit-clause-found : goal.returns-in_err-unit-clause-found
returns-in_err-unit-clause-found g c =
    fails_after (state g.S.Store c.args.tx.now.conn.now) (state g.S.Store c.office_part.new.tx.conn.now) (state g.S.Store c.unit_part.new.tx.conn.now) _ _ _ _ _ _
    c.from_residual-in_err-unit.ensures.0 c.in_ok-office.ensures.found c.in_err-unit.ensures.found

pub returns-clause-found : goal.returns-clause-found
returns-clause-found g c =
    let old = state g.S.Store c.args.tx.now.conn.now in
    let new = state g.S.Store c.unit_part.new.tx.conn.now in
    let both = reads_both old (state g.S.Store c.office_part.new.tx.conn.now) new _ _ _ _ c.in_ok-office.ensures.found c.in_ok-unit.ensures.found in
    read_mapped old new _ _ _ _ (λ db it. record { office = it.0; unit = it.1 }) both

pub returns-in_err-office-clause-disk : goal.returns-in_err-office-clause-disk
returns-in_err-office-clause-disk g c =
    let first = state g.S.Store c.office_part.new.tx.conn.now in
    first_blames (state g.S.Store c.args.tx.now.conn.now) first first c.in_err-office.field-0.0 c.from_residual.result c.from_residual.ensures.1 c.in_err-office.ensures.disk

pub returns-in_err-unit-clause-disk : goal.returns-in_err-unit-clause-disk
returns-in_err-unit-clause-disk g c =
    later_blames (state g.S.Store c.args.tx.now.conn.now) (state g.S.Store c.office_part.new.tx.conn.now) (state g.S.Store c.unit_part.new.tx.conn.now) _ _ _ _
    c.in_err-unit.field-0.0 c.from_residual-in_err-unit.result c.from_residual-in_err-unit.ensures.1 c.in_ok-office.ensures.found c.in_err-unit.ensures.found c.in_err-unit.ensures.disk
