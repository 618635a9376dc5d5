use Rattle.store_sql.proofs.StillKept.{left_trees}
use Rattle.store_sql.proofs.office_connection.OfficeConnection.into_connection.Goals as goal

pub returns-clause-settled : goal.returns-clause-settled
returns-clause-settled g c = left_trees g.S.Store c.self.inside.connection (λ h db is_open left. g.met.S.Store.settled h.store db is_open left) c.self.invariant.1.idle
