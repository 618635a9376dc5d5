use Rattle.sqlite.specs.Held.{state}
use Rattle.sql_schema.proofs.Sequences.{reads_both, read_mapped}
use Rattle.sql_laws.proofs.DiskErrors.{told_on}
use Rattle.sql_schema.proofs.Unread.{unread_told}
use Rattle.sql_statements.proofs.ReadsBlame.{blames_after}
use Rattle.sql_statements.proofs.ReadsUnread.{unread_after}
use Rattle.sql_statements.proofs.domain_office.domain_tables.Goals as goal

pub returns-clause-found : goal.returns-clause-found
returns-clause-found g c =
    let old = state g.S.Store c.args.tx.now.conn.now in
    let first = state g.S.Store c.domain_office_tables.new.tx.conn.now in
    let second = state g.S.Store c.domain_unit_tables.new.tx.conn.now in
    let two = reads_both old first second _ _ _ _ c.in_ok-office.ensures.found c.in_ok-units.ensures.found in
    read_mapped old second _ _ _ _ (λ db it. record { office = it.0; units = it.1 }) two

pub returns-in_err-office-clause-disk : goal.returns-in_err-office-clause-disk
returns-in_err-office-clause-disk g c =
    let old = state g.S.Store c.args.tx.now.conn.now in
    let first = state g.S.Store c.domain_office_tables.new.tx.conn.now in
    told_on old first first _ c.from_residual.result c.from_residual.ensures.1 c.in_err-office.ensures.disk

pub returns-in_err-units-clause-disk : goal.returns-in_err-units-clause-disk
returns-in_err-units-clause-disk g c =
    let old = state g.S.Store c.args.tx.now.conn.now in
    let first = state g.S.Store c.domain_office_tables.new.tx.conn.now in
    let second = state g.S.Store c.domain_unit_tables.new.tx.conn.now in
    let one = c.in_ok-office.ensures.found in
    blames_after old first second _ _ c.from_residual-in_err-units.result _ _ c.from_residual-in_err-units.ensures.1 one c.in_err-units.ensures.found c.in_err-units.ensures.disk

pub returns-in_err-office-clause-errors : goal.returns-in_err-office-clause-errors
returns-in_err-office-clause-errors g c =
    let old = state g.S.Store c.args.tx.now.conn.now in
    let first = state g.S.Store c.domain_office_tables.new.tx.conn.now in
    unread_told old first _ c.from_residual.result c.from_residual.ensures.1 c.in_err-office.ensures.errors

pub returns-in_err-units-clause-errors : goal.returns-in_err-units-clause-errors
returns-in_err-units-clause-errors g c =
    let old = state g.S.Store c.args.tx.now.conn.now in
    let first = state g.S.Store c.domain_office_tables.new.tx.conn.now in
    let second = state g.S.Store c.domain_unit_tables.new.tx.conn.now in
    let one = c.in_ok-office.ensures.found in
    unread_after old first second _ _ c.from_residual-in_err-units.result _ _ c.from_residual-in_err-units.ensures.1 one c.in_err-units.ensures.found c.in_err-units.ensures.errors
