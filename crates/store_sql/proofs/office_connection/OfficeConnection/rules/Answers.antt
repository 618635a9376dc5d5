use Rattle.std.proofs.Common.{subst}
use Rattle.store_sql.specs.TablesInFile.{LeavesItsOwn, LeavesReadable, KeepsOwnRules, held_part}
use Rattle.store_sql.proofs.StillKept.{leaves_own, leaves_readable}
use Rattle.store_sql.proofs.office_connection.OfficeConnection.rules.Goals as goal

pub returns-clause-settled : goal.returns-clause-settled
returns-clause-settled g c =
    subst (LeavesItsOwn g.S.Store) c.self.view_is
    (leaves_own g.S.Store (c.self.inside.connection, (c.self.inside.stopped, held_part c.self.inside.office))
    (λ h db is_open left. g.met.S.Store.settled h.store db is_open left) c.self.invariant.1)

pub returns-clause-readable : goal.returns-clause-readable
returns-clause-readable g c =
    subst (LeavesReadable g.S.Store) c.self.view_is
    (leaves_readable g.S.Store (c.self.inside.connection, (c.self.inside.stopped, held_part c.self.inside.office))
    (λ h clean. g.met.S.Store.survives h.store clean) c.self.invariant.1)

pub returns-clause-rules : goal.returns-clause-rules
returns-clause-rules g c = subst (KeepsOwnRules g.S.Store) c.self.view_is c.self.invariant.1.rules
