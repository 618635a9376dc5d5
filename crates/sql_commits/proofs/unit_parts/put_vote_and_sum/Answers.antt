use Rattle.std.proofs.Common.{◌≡◌, ℤ, subst, w64, to_z, of_z}
use Rattle.std.proofs.lemmas.Int.{to_z-of_z}
use Rattle.sqlite.specs.Held.{state}
use Rattle.sql_schema.specs.Inside.{Then}
use Rattle.sql_commits.specs.Figures.{PutsSum}
use Rattle.sql_commits.specs.Votes.{PutsVoteRow}
use Rattle.sql_commits.proofs.WritesInTurn.{write_then}
use Rattle.sql_laws.proofs.DiskErrors.{blames_behind, told_on}
use Rattle.sql_commits.proofs.unit_parts.put_vote_and_sum.Goals as goal

-- the sum goes through 64 bits
pub returns-clause-put : goal.returns-clause-put
returns-clause-put g c =
    let old = state g.S.Store c.args.tx.now.conn.now in
    let mid = state g.S.Store c.put_vote_row.new.tx.conn.now in
    let new = state g.S.Store c.put_sum.new.tx.conn.now in
    let number = c.args.number.now in
    let sum : ℤ = to_z w64 (of_z w64 c.args.sum) in
    let through : sum ≡ c.args.sum = to_z-of_z w64 c.args.sum c.ranges.sum in
    let Vote = PutsVoteRow number c.args.voter.now c.args.value in
    write_then old mid new c.in_ok-put_vote_row.field-0 c.put_sum.result Vote (PutsSum number sum) (Then Vote (PutsSum number c.args.sum))
    (λ vote summed. (mid.now, vote, subst (λ z. PutsSum number z mid.now new.now) through summed)) c.in_ok-put_vote_row.ensures.put c.put_sum.ensures.put

pub returns-in_err-put_vote_row-clause-disk : goal.returns-in_err-put_vote_row-clause-disk
returns-in_err-put_vote_row-clause-disk g c =
    told_on (state g.S.Store c.args.tx.now.conn.now) (state g.S.Store c.put_vote_row.new.tx.conn.now) (state g.S.Store c.put_vote_row.new.tx.conn.now) _ c.from_residual.result c.from_residual.ensures.1 c.in_err-put_vote_row.ensures.disk

pub returns-clause-disk : goal.returns-clause-disk
returns-clause-disk g c =
    blames_behind (state g.S.Store c.args.tx.now.conn.now) (state g.S.Store c.put_vote_row.new.tx.conn.now) (state g.S.Store c.put_sum.new.tx.conn.now) (λ _. ⊥) (λ _. ⊥) c.put_sum.result c.in_ok-put_vote_row.ensures.put.survives c.put_sum.ensures.put.survives
    (c.put_sum.ensures.disk)
