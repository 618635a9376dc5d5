use Rattle.std.proofs.Common.{refl, Ok, ℕ, ◌+◌, ℤ, take, ◌∙◌, ap, subst, rules, w64, to_z, of_z, [], ◌∷◌, codes, List, map}
use Rattle.std.proofs.lemmas.List.{take_all}
use Rattle.std.specs.FinMap as maps
use Rattle.sqlite.specs.Held.{state}
use Rattle.sqlite.specs.declared.error.Error.{Error}
use Rattle.sqlite.specs.declared.types.Value.TheVariants.{Int, Text as Words}
use Rattle.sql_schema.specs.Inside.{HoldsValues, PutsRow, OnRows}
use Rattle.sql_schema.specs.Keys.{first_texts}
use Rattle.sql_commits.specs.Votes.{PutsVotesOn}
use Rattle.sql_commits.proofs.WritesInTurn.{nothing_put, no_votes_on, write_then, write_between, write_told, puts_vote_on, vote_through, puts_vote_next, write_fails}
use Rattle.sqlite.specs.Effect.{Database}
use Rattle.po_text.specs.Texts.{Text}
use Rattle.units.specs.declared.votes.VoteValue.{VoteValue}
use Rattle.sql_schema.specs.Layouts.{rows_named}
use Rattle.sql_meaning.specs.Cells.{vote_cells}
use Rattle.sql_meaning.specs.Written.{PutsRows}
use Rattle.sql_meaning.proofs.RowsByName.{puts_in}
use Rattle.sql_decoding.proofs.DiskFailures.{error_told, fails_behind}
use Rattle.sql_commits.proofs.unit_writes.put_votes.Goals as goal

-- the rows so far
abbrev Rows : Text → List (Text × VoteValue) → Database → Database → Type 0
Rows number votes = OnRows (PutsRows (codes "d_vote") first_texts (map (vote_cells number) votes))

pub loop-vote-preserved : goal.loop-vote-preserved
loop-vote-preserved g c =
    let old = state g.S.Store c.args.tx.now.conn.now in
    let mid = state g.S.Store c.loop-vote.tx.conn.now in
    let new = state g.S.Store c.put_domain_vote.new.tx.conn.now in
    let domain = c.args.domain.now in
    let number = c.args.number.now in
    let votes = c.as_slice-vote-items.result.now in
    let value : ℤ = to_z w64 (of_z w64 c.vote_column.result) in
    let One = PutsRow (codes "d_vote") first_texts (HoldsValues (Words number ∷ Words c.as_str.result.now ∷ Int value ∷ [])) in (
      c.in_ok-put_domain_vote.ensures.same_reference ∙ c.loop-vote.invariant.0,
      write_between old mid new {A = ℕ} {B = ℕ} {E = Error} {F = Error} 0 (Ok 0) (PutsVotesOn domain number (take c.loop-vote.vote-index votes)) One (PutsVotesOn domain number (take (c.loop-vote.vote-index + 1) votes))
          (puts_vote_on domain number c.as_str.result.now value votes c.loop-vote.vote-index c.vote-item.result old.now mid.now new.now c.loop-vote-test.true (search rules) (search rules)
          (ap (λ z. to_z w64 (of_z w64 z)) c.vote_column.ensures ∙ vote_through c.vote-item.result.1))
          c.loop-vote.invariant.1 (write_told mid new c.in_ok-put_domain_vote.field-0 0 _ One (λ put. put) c.in_ok-put_domain_vote.ensures.put),
      write_then old mid new {A = ℕ} {B = ℕ} {E = Error} {F = Error} 0 (Ok 0) (Rows number (take c.loop-vote.vote-index votes)) One (Rows number (take (c.loop-vote.vote-index + 1) votes))
          (λ front put. puts_vote_next (codes "d_vote") number c.as_str.result.now value votes c.loop-vote.vote-index c.vote-item.result (rows_named old.now) (rows_named mid.now) (rows_named new.now) c.loop-vote-test.true (search rules) (search rules)
          (ap (λ z. to_z w64 (of_z w64 z)) c.vote_column.ensures ∙ vote_through c.vote-item.result.1) front (puts_in put))
          c.loop-vote.invariant.2 (write_told mid new c.in_ok-put_domain_vote.field-0 0 _ One (λ put. put) c.in_ok-put_domain_vote.ensures.put),
    )

pub loop-vote-init : goal.loop-vote-init
loop-vote-init g c =
    let old = state g.S.Store c.args.tx.now.conn.now in
    (refl, nothing_put old {E = Error} 0 (PutsVotesOn c.args.domain.now c.args.number.now []) c.requires.steady c.requires.open (no_votes_on c.args.domain.now c.args.number.now old.now), nothing_put old {E = Error} 0 (Rows c.args.number.now []) c.requires.steady c.requires.open refl)

pub returns-clause-put : goal.returns-clause-put
returns-clause-put g c =
    let old = state g.S.Store c.args.tx.now.conn.now in
    let last = state g.S.Store c.loop-vote.tx.conn.now in
    let domain = c.args.domain.now in
    let number = c.args.number.now in
    let votes = c.as_slice-vote-items.result.now in
    let so_far = take c.loop-vote.vote-index votes in
    let entries = maps.entries c.args.votes.now in
    write_told old last {E = Error} 0 _ (PutsVotesOn domain number so_far) (PutsVotesOn domain number entries)
    (subst (λ vs. PutsVotesOn domain number vs old.now last.now) (take_all c.loop-vote.vote-index votes c.loop-vote-test.false ∙ c.as_slice-vote-items.ensures)) c.loop-vote.invariant.1

pub returns-clause-rows : goal.returns-clause-rows
returns-clause-rows g c =
    let old = state g.S.Store c.args.tx.now.conn.now in
    let last = state g.S.Store c.loop-vote.tx.conn.now in
    let number = c.args.number.now in
    let votes = c.as_slice-vote-items.result.now in
    let so_far = take c.loop-vote.vote-index votes in
    let entries = maps.entries c.args.votes.now in
    write_told old last {E = Error} 0 _ (Rows number so_far) (Rows number entries)
    (subst (λ vs. Rows number vs old.now last.now) (take_all c.loop-vote.vote-index votes c.loop-vote-test.false ∙ c.as_slice-vote-items.ensures)) c.loop-vote.invariant.2

-- an error behind the votes so far
pub returns-in_err-put_domain_vote-clause-put : goal.returns-in_err-put_domain_vote-clause-put
returns-in_err-put_domain_vote-clause-put g c =
    write_fails (state g.S.Store c.args.tx.now.conn.now) (state g.S.Store c.loop-vote.tx.conn.now) (state g.S.Store c.put_domain_vote.new.tx.conn.now) _ _ _ _ _ _ c.from_residual.ensures.0 c.loop-vote.invariant.1
    c.in_err-put_domain_vote.ensures.put

pub returns-in_err-put_domain_vote-clause-rows : goal.returns-in_err-put_domain_vote-clause-rows
returns-in_err-put_domain_vote-clause-rows g c =
    write_fails (state g.S.Store c.args.tx.now.conn.now) (state g.S.Store c.loop-vote.tx.conn.now) (state g.S.Store c.put_domain_vote.new.tx.conn.now) _ _ _ _ _ _ c.from_residual.ensures.0 c.loop-vote.invariant.2
    c.in_err-put_domain_vote.ensures.put

pub returns-in_err-put_domain_vote-clause-disk : goal.returns-in_err-put_domain_vote-clause-disk
returns-in_err-put_domain_vote-clause-disk g c =
    fails_behind (state g.S.Store c.args.tx.now.conn.now) (state g.S.Store c.loop-vote.tx.conn.now) (state g.S.Store c.put_domain_vote.new.tx.conn.now) (λ _. ⊥) (λ _. ⊥) c.from_residual.result c.loop-vote.invariant.1.survives c.in_err-put_domain_vote.ensures.put.survives
    (error_told (state g.S.Store c.loop-vote.tx.conn.now) (state g.S.Store c.put_domain_vote.new.tx.conn.now) _ c.from_residual.result c.from_residual.ensures.1 c.in_err-put_domain_vote.ensures.disk)
