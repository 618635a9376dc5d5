use Rattle.std.proofs.Common.{◌≡◌, List, Ok, true, All}
use Rattle.sqlite.specs.Held.{state}
use Rattle.sqlite.specs.Order.{Row}
use Rattle.sql_streams.specs.declared.walking.WalkFault.{WalkFault}
use Rattle.sql_decoding.specs.RowTests.{is_vote_row}
use Rattle.sql_decoding.specs.declared.faults.Failure.{Failure}
use Rattle.sql_adoption.specs.SumsKept.{VotesStand}
use Rattle.sql_adoption.specs.declared.unit_sinks.VoteRows.{VoteRows}
use Rattle.sql_layouts.proofs.Looked.{looked_failed, walked_on}
use Rattle.sql_adoption.proofs.WalksCut.{votes_cut, votes_told}
use Rattle.sql_adoption.proofs.OpensBlame.{walk_opens}
use Rattle.sql_adoption.proofs.walked_office.keep_votes.Goals as goal

pub returns-clause-found : goal.returns-clause-found
returns-clause-found g c =
    let old = state g.S.Store c.args.connection.now in
    walked_on old (state g.S.Store c.walk_votes.new.connection) {E = WalkFault Failure} _ (Ok _) _ (λ db _. VotesStand db) c.in_ok-walk_votes.ensures.looked (λ clean early is_open.
    let gave = c.in_ok-walk_votes.ensures.handed clean in
    votes_told old.now gave.rows gave.answer gave.took)

pub returns-in_err-walk_votes-clause-found : goal.returns-in_err-walk_votes-clause-found
returns-in_err-walk_votes-clause-found g c =
    looked_failed (state g.S.Store c.args.connection.now) (state g.S.Store c.walk_votes.new.connection) _ c.from_residual.result _ (λ db _. VotesStand db) c.from_residual.ensures.0 c.in_err-walk_votes.ensures.looked

pub returns-in_err-walk_votes-clause-refused : goal.returns-in_err-walk_votes-clause-refused
returns-in_err-walk_votes-clause-refused g c =
    votes_cut (state g.S.Store c.args.connection.now).now (λ (a : VoteRows) (rows : List Row) (b : VoteRows). All (λ row. is_vote_row row ≡ true) rows) _ c.walk_votes.new.sink c.from_residual.result c.in_err-walk_votes.field-0.0
    c.from_residual.ensures.1 c.in_err-walk_votes.ensures.handed

pub returns-in_err-walk_votes-clause-disk : goal.returns-in_err-walk_votes-clause-disk
returns-in_err-walk_votes-clause-disk g c = walk_opens (state g.S.Store c.args.connection.now) (state g.S.Store c.walk_votes.new.connection) c.in_err-walk_votes.field-0.0 c.from_residual.result c.from_residual.ensures.1 c.in_err-walk_votes.ensures.disk
