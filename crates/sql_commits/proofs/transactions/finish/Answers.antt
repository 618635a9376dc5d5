use Rattle.std.proofs.Common.{◌≡◌, sym, subst}
use Rattle.std.specs.Prelude.{IfErr, IsErrAnd}
use Rattle.sqlite.specs.Held.{state}
use Rattle.sql_commits.proofs.WholeTransactions.{finishes_written, handed_truly, committed_truly}
use Rattle.sql_commits.proofs.transactions.finish.Goals as goal

pub returns-clause-finished : goal.returns-clause-finished
returns-clause-finished g c =
    finishes_written g.S.Store c.args.tx.conn.now c.commit.new.self.0 c.in_ok-written.field-0 c.args.written c.commit.result c.map_err.result _ c.in_ok-written.was c.map_err.ensures.cases
    c.commit.ensures.ok c.commit.ensures.err c.commit.ensures.survives

pub returns-in_err-written-clause-disk : goal.returns-in_err-written-clause-disk
returns-in_err-written-clause-disk g c = λ clean. handed_truly _ c.in_err-written.field-0.0 c.args.written c.from_residual.result c.in_err-written.was c.from_residual.ensures.1

pub returns-clause-disk : goal.returns-clause-disk
returns-clause-disk g c =
    committed_truly (state g.S.Store c.args.tx.conn.now) (state g.S.Store c.commit.new.self.0) c.args.written c.commit.result c.map_err.result _ (λ e f t. t) c.map_err.ensures.cases c.commit.ensures.err

pub returns-in_err-written-clause-told : goal.returns-in_err-written-clause-told
returns-in_err-written-clause-told g c = subst (λ w. IfErr w (λ failure. IsErrAnd c.from_residual.result (λ told. told ≡ failure))) (sym c.in_err-written.was) c.from_residual.ensures.1

pub returns-clause-told : goal.returns-clause-told
returns-clause-told g c = subst (λ w. IfErr w (λ failure. IsErrAnd c.map_err.result (λ told. told ≡ failure))) (sym c.in_ok-written.was) tt
