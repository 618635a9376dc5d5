use Rattle.sqlite.specs.Held.{state}
use Rattle.sql_decoding.specs.declared.faults.Failure.{Failure}
use Rattle.sql_changes.specs.OnDomains.{SparesDomains}
use Rattle.sql_changes.proofs.DomainWrites.{nothing_made}
use Rattle.sql_figures.specs.Figures.{moved_at, FiguresFollow}
use Rattle.sql_figures.proofs.FigureSteps.{nothing_moves}
use Rattle.sql_commits.proofs.TalliesMoved.{same_tally}
use Rattle.sql_commits.proofs.WritesInTurn.{nothing_put}
use Rattle.sql_commits.proofs.tallies.put_difference.Goals as goal

-- where both count the same, nothing is written
pub returns-then-eq-clause-spares : goal.returns-then-eq-clause-spares
returns-then-eq-clause-spares g c =
    let old = state g.S.Store c.args.tx.now.conn.now in
    nothing_put old {E = Failure} _ SparesDomains c.requires.steady c.requires.open (nothing_made old.now)

pub returns-then-eq-clause-figures : goal.returns-then-eq-clause-figures
returns-then-eq-clause-figures g c =
    let old = state g.S.Store c.args.tx.now.conn.now in
    let domain = c.args.domain.now in
    let lang = c.args.lang.now in
    nothing_put old {E = Failure} _ (FiguresFollow (moved_at domain lang c.args.was c.args.is)) c.requires.steady c.requires.open
    (nothing_moves old.now domain lang c.args.was c.args.is (same_tally c.args.was c.args.is c.eq.result c.if-eq.true c.eq.ensures))
