use Rattle.std.proofs.Common.{◌∷◌, [], ◌∙◌, Some, ap, subst, codes, w64, to_z, of_z}
use Rattle.sqlite.specs.Held.{state}
use Rattle.sqlite.specs.declared.types.Value.TheVariants.{Int, Text as Words}
use Rattle.sql_schema.specs.Inside.{PutsRow, HoldsValues}
use Rattle.sql_schema.specs.Keys.{first_texts}
use Rattle.sql_commits.specs.Votes.{PutsVoteRow}
use Rattle.sql_commits.proofs.WritesInTurn.{write_as, vote_through}
use Rattle.sql_commits.proofs.unit_parts.put_vote_row.Goals as goal

-- the column of a vote goes through 64 bits
pub returns-in-Some-clause-put : goal.returns-in-Some-clause-put
returns-in-Some-clause-put g c =
    let old = state g.S.Store c.args.tx.now.conn.now in
    let new = state g.S.Store c.put_domain_vote.new.tx.conn.now in
    let number = c.args.number.now in
    let voter = c.args.voter.now in
    let value = c.in-Some.value in
    let through = ap (λ z. to_z w64 (of_z w64 z)) c.vote_column.ensures ∙ vote_through value in
    rw c.in-Some.is (write_as old new c.put_domain_vote.result _ (PutsVoteRow number voter (Some value))
    (subst (λ z. PutsRow (codes "d_vote") first_texts (HoldsValues (Words number ∷ Words voter ∷ Int z ∷ [])) old.now new.now) through) c.put_domain_vote.ensures.put)

pub returns-in-None-clause-put : goal.returns-in-None-clause-put
returns-in-None-clause-put g c = rw c.in-None.is c.take_domain_vote.ensures.taken
