use Rattle.std.proofs.Common.{rules, ◌≡◌, ℕ, Err, refl, subst}
use Rattle.store_sql.specs.Making.{MakesStart}
use Rattle.store_sql.proofs.Made.{start_committed, undone_truly}
use Rattle.sqlite.specs.Held.{state}
use Rattle.sql_statements.proofs.ReadsBlame.{stopped_blames}
use Rattle.sql_decoding.specs.DiskFailures.{FailsTruly}
use Rattle.sql_decoding.proofs.DiskFailures.{error_told}
use Rattle.store_sql.proofs.create.create_start.Goals as goal

pub returns-clause-committed : goal.returns-clause-committed
returns-clause-committed g c =
    start_committed g.S.Store c.args.connection.now c.transaction-tx.result.conn.now c.make_start.new.tx.conn.now c.connection-2-1.given.0 c.in_ok-make_start.field-0 (MakesStart c.args.start.now)
    c.transaction-tx.ensures.begun c.in_ok-make_start.ensures.made (search rules) (search rules) (search rules) (tt {0})

pub returns-in_err-make_start-clause-disk : goal.returns-in_err-make_start-clause-disk
returns-in_err-make_start-clause-disk g c =
    undone_truly g.S.Store c.args.connection.now c.transaction-tx.result.conn.now c.make_start.new.tx.conn.now c.connection-1.given.0 c.transaction-tx.ensures.begun (λ _. ⊥) c.in_err-make_start.field-0.0
    c.from_residual.result c.from_residual.ensures.1 c.in_err-make_start.ensures.disk (search rules)

pub returns-in_err-commit-clause-disk : goal.returns-in_err-commit-clause-disk
returns-in_err-commit-clause-disk g c =
    let old = c.args.connection.now in
    let mid = c.make_start.new.tx.conn.now in
    let last = c.commit.new.self.0 in
    let same : last ≡ c.connection-2-1.given.0 = search rules in
    subst (λ h. FailsTruly (state g.S.Store old) (state g.S.Store h) c.from_residual-in_err-commit.result) same
    (error_told (state g.S.Store old) (state g.S.Store last) c.in_err-commit.field-0.0 c.from_residual-in_err-commit.result c.from_residual-in_err-commit.ensures.1
    (stopped_blames g.S.Store old c.transaction-tx.result.conn.now mid last c.transaction-tx.ensures.begun {A = ℕ} (λ _. ⊥) (λ db. db ≡ (state g.S.Store mid).now.trees)
    c.in_ok-make_start.ensures.made.survives c.in_err-commit.ensures.survives c.in_err-commit.field-0.0 (Err c.in_err-commit.field-0.0) refl c.in_err-commit.ensures.err))
