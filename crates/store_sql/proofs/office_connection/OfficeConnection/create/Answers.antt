use Rattle.std.proofs.Common.{None, false, refl, subst, sym}
use Rattle.sqlite.specs.Held.{state}
use Rattle.store_sql.proofs.Made.{keeps_made, are_made}
use Rattle.store_sql.specs.TablesInFile.{IsPartAtHand}
use Rattle.store_sql.proofs.office_connection.OfficeConnection.create.Goals as goal

pub invariant_of-result : goal.invariant_of-result
invariant_of-result g c = (
  c.in-Ok.ensures.committed.ended,
  keeps_made g.S.Store c.args.start.now (state g.S.Store c.args.connection) c.make.new.connection c.in-Ok.field-0 c.in-Ok.ensures.committed
      (λ h db is_open left. g.met.S.Store.settled h.store db is_open left),
  tt,
  subst (IsPartAtHand (state g.S.Store c.make.new.connection)) (sym c.nothing_kept.ensures) (λ clean is_open. tt),
)

pub returns-in-Ok-clause-made : goal.returns-in-Ok-clause-made
returns-in-Ok-clause-made g c =
    are_made g.S.Store c.args.start.now (state g.S.Store c.args.connection) c.make.new.connection c.in-Ok.field-0 c.in-Ok.ensures.committed
    (λ h db is_open left. g.met.S.Store.settled h.store db is_open left) (false, None) refl
