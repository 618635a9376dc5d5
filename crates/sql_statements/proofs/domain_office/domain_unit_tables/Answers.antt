use Rattle.sqlite.specs.Held.{state}
use Rattle.sql_schema.proofs.Sequences.{reads_both, read_mapped}
use Rattle.sql_laws.proofs.DiskErrors.{told_on}
use Rattle.sql_schema.proofs.Unread.{unread_told}
use Rattle.sql_statements.proofs.ReadsBlame.{blames_after}
use Rattle.sql_statements.proofs.ReadsUnread.{unread_after}
use Rattle.sql_statements.proofs.domain_office.domain_unit_tables.Goals as goal

pub returns-clause-found : goal.returns-clause-found
returns-clause-found g c =
    let old = state g.S.Store c.args.tx.now.conn.now in
    let first = state g.S.Store c.all_domain_units.new.tx.conn.now in
    let second = state g.S.Store c.all_domain_suggestions.new.tx.conn.now in
    let third = state g.S.Store c.all_domain_votes.new.tx.conn.now in
    let two = reads_both old first second _ _ _ _ c.in_ok-units.ensures.found c.in_ok-suggestions.ensures.found in
    let three = reads_both old second third _ _ _ _ two c.in_ok-votes.ensures.found in
    read_mapped old third _ _ _ _ (λ db it. record { units = it.0.0; suggestions = it.0.1; votes = it.1 }) three

pub returns-in_err-units-clause-disk : goal.returns-in_err-units-clause-disk
returns-in_err-units-clause-disk g c =
    let old = state g.S.Store c.args.tx.now.conn.now in
    let first = state g.S.Store c.all_domain_units.new.tx.conn.now in
    told_on old first first _ c.from_residual.result c.from_residual.ensures.1 c.in_err-units.ensures.disk

pub returns-in_err-suggestions-clause-disk : goal.returns-in_err-suggestions-clause-disk
returns-in_err-suggestions-clause-disk g c =
    let old = state g.S.Store c.args.tx.now.conn.now in
    let first = state g.S.Store c.all_domain_units.new.tx.conn.now in
    let second = state g.S.Store c.all_domain_suggestions.new.tx.conn.now in
    let one = c.in_ok-units.ensures.found in
    blames_after old first second _ _ c.from_residual-in_err-suggestions.result _ _ c.from_residual-in_err-suggestions.ensures.1 one c.in_err-suggestions.ensures.found c.in_err-suggestions.ensures.disk

pub returns-in_err-votes-clause-disk : goal.returns-in_err-votes-clause-disk
returns-in_err-votes-clause-disk g c =
    let old = state g.S.Store c.args.tx.now.conn.now in
    let first = state g.S.Store c.all_domain_units.new.tx.conn.now in
    let second = state g.S.Store c.all_domain_suggestions.new.tx.conn.now in
    let third = state g.S.Store c.all_domain_votes.new.tx.conn.now in
    let one = c.in_ok-units.ensures.found in
    let two = reads_both old first second _ _ _ _ one c.in_ok-suggestions.ensures.found in
    blames_after old second third _ _ c.from_residual-in_err-votes.result _ _ c.from_residual-in_err-votes.ensures.1 two c.in_err-votes.ensures.found c.in_err-votes.ensures.disk

pub returns-in_err-units-clause-errors : goal.returns-in_err-units-clause-errors
returns-in_err-units-clause-errors g c =
    let old = state g.S.Store c.args.tx.now.conn.now in
    let first = state g.S.Store c.all_domain_units.new.tx.conn.now in
    unread_told old first _ c.from_residual.result c.from_residual.ensures.1 c.in_err-units.ensures.errors

pub returns-in_err-suggestions-clause-errors : goal.returns-in_err-suggestions-clause-errors
returns-in_err-suggestions-clause-errors g c =
    let old = state g.S.Store c.args.tx.now.conn.now in
    let first = state g.S.Store c.all_domain_units.new.tx.conn.now in
    let second = state g.S.Store c.all_domain_suggestions.new.tx.conn.now in
    let one = c.in_ok-units.ensures.found in
    unread_after old first second _ _ c.from_residual-in_err-suggestions.result _ _ c.from_residual-in_err-suggestions.ensures.1 one c.in_err-suggestions.ensures.found c.in_err-suggestions.ensures.errors

pub returns-in_err-votes-clause-errors : goal.returns-in_err-votes-clause-errors
returns-in_err-votes-clause-errors g c =
    let old = state g.S.Store c.args.tx.now.conn.now in
    let first = state g.S.Store c.all_domain_units.new.tx.conn.now in
    let second = state g.S.Store c.all_domain_suggestions.new.tx.conn.now in
    let third = state g.S.Store c.all_domain_votes.new.tx.conn.now in
    let one = c.in_ok-units.ensures.found in
    let two = reads_both old first second _ _ _ _ one c.in_ok-suggestions.ensures.found in
    unread_after old second third _ _ c.from_residual-in_err-votes.result _ _ c.from_residual-in_err-votes.ensures.1 two c.in_err-votes.ensures.found c.in_err-votes.ensures.errors
