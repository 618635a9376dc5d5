use Rattle.std.proofs.Common.{subst, rules, w64, to_z, of_z, SFits}
use Rattle.std.proofs.lemmas.Int.{to_z-of_z}
use Rattle.sqlite.specs.Held.{state}
use Rattle.sql_commits.specs.Figures.{FollowsOwnRow, FollowsRow, FollowsVoteAt, project_at}
use Rattle.sql_commits.proofs.WritesInTurn.{write_as}
use Rattle.sqlite.specs.Effect.{Database}
use Rattle.sql_commits.proofs.unit_parts.write_of_unit.Goals as goal

pub returns-in-Whole-clause-put : goal.returns-in-Whole-clause-put
returns-in-Whole-clause-put g c = rw c.in-Whole.is c.write_view.ensures.put

pub returns-in-Row-clause-put : goal.returns-in-Row-clause-put
returns-in-Row-clause-put g c = rw c.in-Row.is c.write_view_row.ensures.put

pub returns-in-Suggested-clause-put : goal.returns-in-Suggested-clause-put
returns-in-Suggested-clause-put g c = rw c.in-Suggested.is c.write_suggestion.ensures.put

pub returns-in-Voted-clause-put : goal.returns-in-Voted-clause-put
returns-in-Voted-clause-put g c = rw c.in-Voted.is c.write_vote.ensures.put

pub returns-in-Whole-clause-figures : goal.returns-in-Whole-clause-figures
returns-in-Whole-clause-figures g c = rw c.in-Whole.is c.write_view.ensures.figures

-- at the key that is asked for
pub returns-in-Row-clause-figures : goal.returns-in-Row-clause-figures
returns-in-Row-clause-figures g c =
    let old = state g.S.Store c.args.tx.now.conn.now in
    let new = state g.S.Store c.write_view_row.new.tx.conn.now in
    let domain = c.args.domain.now in
    let lang = c.args.lang.now in
    let view = c.in-Row.view in
    rw c.in-Row.is (write_as old new c.write_view_row.result (FollowsOwnRow domain lang view) (λ (before after : Database). FollowsRow domain (project_at domain before) lang c.args.key.now view before after) (λ follows. follows c.args.key.now)
    c.write_view_row.ensures.figures)

pub returns-in-Suggested-clause-figures : goal.returns-in-Suggested-clause-figures
returns-in-Suggested-clause-figures g c = rw c.in-Suggested.is c.write_suggestion.ensures.figures

-- the sum goes through 64 bits
pub returns-in-Voted-clause-figures : goal.returns-in-Voted-clause-figures
returns-in-Voted-clause-figures g c =
    let old = state g.S.Store c.args.tx.now.conn.now in
    let new = state g.S.Store c.write_vote.new.tx.conn.now in
    let sum = c.in-Voted.sum in
    let fits : SFits w64 sum = search rules in
    let Follows = FollowsVoteAt c.args.domain.now c.args.lang.now c.args.key.now c.in-Voted.number c.in-Voted.voter c.in-Voted.value in
    rw c.in-Voted.is (write_as old new c.write_vote.result (Follows (to_z w64 (of_z w64 sum))) (Follows sum) (subst (λ z. Follows z old.now new.now) (to_z-of_z w64 sum fits)) c.write_vote.ensures.figures)
