use Rattle.std.proofs.Common.{◌≡◌, subst, rules}
use Rattle.sqlite.specs.Held.{state}
use Rattle.sql_schema.specs.Layouts.{by_domain}
use Rattle.sql_schema.specs.Whole.{IsCommitOf}
use Rattle.sql_commits.specs.Acts.{MakesAct, CommitsAct}
use Rattle.sql_commits.specs.Figures.{FollowsAct}
use Rattle.sql_commits.proofs.FiguresInTurn.{write_joined}
use Rattle.sql_decoding.specs.DiskFailures.{FailsTruly}
use Rattle.sql_commits.proofs.WholeTransactions.{finishes, finishes_truly}
use Rattle.sql_commits.proofs.acts.commit_act.Goals as goal

pub returns-clause-committed : goal.returns-clause-committed
returns-clause-committed g c =
    let old = c.args.connection.now in
    let begun = c.transaction-tx.result.conn.now in
    let last = c.finish.new.tx.0 in
    let put = c.put_record_and_write-put in
    let Commits = CommitsAct c.args.row.now c.args.domain.now c.args.lang.now c.args.key.now c.args.write.now in
    let same : last ≡ c.connection-1.given.0 = search rules in
    let both = write_joined (state g.S.Store begun) _ put.result (MakesAct c.args.row.now c.args.domain.now c.args.lang.now c.args.key.now c.args.write.now) (FollowsAct c.args.domain.now c.args.lang.now c.args.key.now c.args.write.now) Commits
    (λ makes follows. record { makes = makes; figures = follows }) put.ensures.put put.ensures.figures in
    subst (λ h. IsCommitOf by_domain (state g.S.Store old) (state g.S.Store h) c.finish.result Commits) same
    (finishes g.S.Store old begun last c.transaction-tx.ensures.begun c.requires.idle c.finish.ensures.ended Commits c.finish.ensures.finished both)

pub returns-clause-disk : goal.returns-clause-disk
returns-clause-disk g c =
    let old = c.args.connection.now in
    let begun = c.transaction-tx.result.conn.now in
    let last = c.finish.new.tx.0 in
    let put = c.put_record_and_write-put in
    let same : last ≡ c.connection-1.given.0 = search rules in
    subst (λ h. FailsTruly (state g.S.Store old) (state g.S.Store h) c.finish.result) same
    (finishes_truly g.S.Store old begun put.new.tx.conn.now last c.transaction-tx.ensures.begun (λ _. ⊥) put.result c.finish.result put.ensures.put.survives c.finish.ensures.finished put.ensures.disk c.finish.ensures.disk)
