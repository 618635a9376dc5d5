use Rattle.std.proofs.Common.{◌≡◌, Ok, ℕ, take, map, codes}
use Rattle.sqlite.specs.Held.{state}
use Rattle.sqlite.specs.declared.error.Error.{Error}
use Rattle.sql_schema.specs.Inside.{IsInsideOf, OnRows}
use Rattle.sql_schema.specs.Layouts.{by_domain}
use Rattle.sql_commits.specs.Votes.{PutsVotesOn}
use Rattle.sql_schema.specs.Keys.{first_texts}
use Rattle.sql_meaning.specs.Cells.{vote_cells}
use Rattle.sql_meaning.specs.Written.{PutsRows}
use Rattle.sql_commits.proofs.unit_writes.put_votes.Given as goal

-- the votes so far are written
abbrev pub invariant-loop-vote : goal.invariant-loop-vote
invariant-loop-vote g l =
    (l.tx.conn.ghost_name ≡ l.fn.tx.conn.ghost_name)
    × IsInsideOf {A = ℕ} {E = Error} by_domain (state g.S.Store l.fn.tx.conn.now) (state g.S.Store l.tx.conn.now) (Ok 0) (PutsVotesOn l.domain l.number (take l.vote-index l.vote-items))
    × IsInsideOf {A = ℕ} {E = Error} by_domain (state g.S.Store l.fn.tx.conn.now) (state g.S.Store l.tx.conn.now) (Ok 0) (OnRows (PutsRows (codes "d_vote") first_texts (map (vote_cells l.number) (take l.vote-index l.vote-items))))
