use Rattle.std.proofs.Common.{◌≡◌, Ok, subst, rules}
use Rattle.sqlite.specs.Held.{state}
use Rattle.sqlite.specs.declared.error.Error.{Error}
use Rattle.sql_laws.specs.DiskErrors.{BlamesTruly}
use Rattle.sql_schema.specs.Errors.{RefusesNoRead}
use Rattle.sql_schema.specs.Layouts.{rows_named}
use Rattle.sql_schema.specs.SeenRows.{seen_in}
use Rattle.sql_schema.specs.Whole.{IsLookUp}
use Rattle.sql_schema.proofs.Unread.{undone_unread, stopped_unread}
use Rattle.sql_statements.specs.WholeOffice.{ShowsWholeOfficeIn}
use Rattle.sql_statements.proofs.LookedUp.{answers}
use Rattle.sql_statements.proofs.ReadsBlame.{undone_blames, stopped_blames}
use Rattle.sql_statements.proofs.domain_office.look_up_domain.Goals as goal

pub returns-clause-found : goal.returns-clause-found
returns-clause-found g c =
    let old = c.args.connection.now in
    let same : c.commit.new.self.0 ≡ c.connection-2-1.given.0 = search rules in
    subst (λ h. IsLookUp {E = Error} (state g.S.Store old) (state g.S.Store h) (Ok c.in_ok-rows.rows) (λ db rows. ShowsWholeOfficeIn (seen_in c.args.domain.now (rows_named db)) rows)) same
    (answers g.S.Store old c.transaction-tx.result.conn.now c.domain_tables.new.tx.conn.now c.commit.new.self.0 c.transaction-tx.ensures.begun c.requires.idle c.in_ok-commit.ensures.ended c.in_ok-rows.rows
    (λ db rows. ShowsWholeOfficeIn (seen_in c.args.domain.now (rows_named db)) rows) c.in_ok-rows.ensures.found c.in_ok-commit.ensures.survives (λ clean. (c.in_ok-commit.ensures.ok clean).1))

pub returns-in_err-rows-clause-disk : goal.returns-in_err-rows-clause-disk
returns-in_err-rows-clause-disk g c =
    undone_blames g.S.Store c.args.connection.now c.transaction-tx.result.conn.now c.domain_tables.new.tx.conn.now c.connection-1.given.0 c.transaction-tx.ensures.begun (λ _. ⊥)
    c.in_err-rows.field-0.0 c.from_residual.result c.from_residual.ensures.1 c.in_err-rows.ensures.disk (search rules)

pub returns-in_err-commit-clause-disk : goal.returns-in_err-commit-clause-disk
returns-in_err-commit-clause-disk g c =
    let old = c.args.connection.now in
    let mid = c.domain_tables.new.tx.conn.now in
    let same : c.commit.new.self.0 ≡ c.connection-2-1.given.0 = search rules in
    subst (λ h. BlamesTruly (state g.S.Store old) (state g.S.Store h) c.from_residual-in_err-commit.result) same
    (stopped_blames g.S.Store old c.transaction-tx.result.conn.now mid c.commit.new.self.0 c.transaction-tx.ensures.begun (λ _. ⊥) (λ db. db ≡ (state g.S.Store mid).now.trees)
    c.in_ok-rows.ensures.found.survives c.in_err-commit.ensures.survives c.in_err-commit.field-0.0 c.from_residual-in_err-commit.result c.from_residual-in_err-commit.ensures.1 c.in_err-commit.ensures.err)

pub returns-in_err-rows-clause-errors : goal.returns-in_err-rows-clause-errors
returns-in_err-rows-clause-errors g c =
    let old = c.args.connection.now in
    let begun = c.transaction-tx.result.conn.now in
    undone_unread g.S.Store old begun c.domain_tables.new.tx.conn.now c.connection-1.given.0 c.transaction-tx.ensures.begun c.in_err-rows.field-0.0 c.from_residual.result c.from_residual.ensures.1
    (λ _. ⊥) (λ _. ⊥) (search rules) c.in_err-rows.ensures.errors

pub returns-in_err-commit-clause-errors : goal.returns-in_err-commit-clause-errors
returns-in_err-commit-clause-errors g c =
    let old = c.args.connection.now in
    let begun = c.transaction-tx.result.conn.now in
    let mid = c.domain_tables.new.tx.conn.now in
    let read = c.in_ok-rows.ensures.found in
    let same : c.commit.new.self.0 ≡ c.connection-2-1.given.0 = search rules in
    subst (λ h. RefusesNoRead (state g.S.Store old) (state g.S.Store h) c.from_residual-in_err-commit.result) same
    (stopped_unread g.S.Store old begun mid c.commit.new.self.0 c.transaction-tx.ensures.begun c.in_err-commit.field-0.0 c.from_residual-in_err-commit.result c.from_residual-in_err-commit.ensures.1
    (λ _. ⊥) (λ db. db ≡ (state g.S.Store mid).now.trees) c.in_err-commit.ensures.survives read.survives (λ clean. (read.stays clean).inside) c.in_err-commit.ensures.err)
