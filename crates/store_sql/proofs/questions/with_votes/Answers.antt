use Rattle.sqlite.specs.Held.{state}
use Rattle.store_sql.proofs.PartsBlame.{read_mild, first_blames, mild_blames}
use Rattle.store_sql.proofs.questions.with_votes.Goals as goal

pub returns-in_err-number-clause-disk : goal.returns-in_err-number-clause-disk
returns-in_err-number-clause-disk g c =
    let old = state g.S.Store c.args.tx.now.conn.now in
    mild_blames old old old c.in_err-number.field-0.0 c.from_residual.result c.from_residual.ensures.1 (read_mild _ _ _ c.in_err-number.ensures.named)

pub returns-in_err-votes-clause-disk : goal.returns-in_err-votes-clause-disk
returns-in_err-votes-clause-disk g c =
    let new = state g.S.Store c.domain_votes_on.new.tx.conn.now in
    first_blames (state g.S.Store c.args.tx.now.conn.now) new new c.in_err-votes.field-0.0 c.from_residual-in_err-votes.result c.from_residual-in_err-votes.ensures.1 c.in_err-votes.ensures.disk
