use Rattle.std.proofs.Common.{None, false, refl, subst, sym}
use Rattle.sqlite.specs.Held.{state}
use Rattle.sql_files.proofs.Refused.{lost_alone}
use Rattle.store_sql.proofs.Adopted.{keeps_adopted, are_adopted}
use Rattle.store_sql.specs.TablesInFile.{IsPartAtHand}
use Rattle.store_sql.proofs.office_connection.OfficeConnection.adopt.Goals as goal

pub invariant_of-result : goal.invariant_of-result
invariant_of-result g c = (
  c.in-Ok.ensures.taken.ended,
  keeps_adopted g.S.Store c.args.connection c.take_over.new.connection c.in-Ok.ensures.taken (λ h db is_open left. g.met.S.Store.settled h.store db is_open left),
  tt,
  subst (IsPartAtHand (state g.S.Store c.take_over.new.connection)) (sym c.nothing_kept.ensures) (λ clean is_open. tt),
)

pub returns-in-Ok-clause-adopted : goal.returns-in-Ok-clause-adopted
returns-in-Ok-clause-adopted g c =
    are_adopted g.S.Store c.args.connection c.take_over.new.connection c.in-Ok.ensures.taken (λ h db is_open left. g.met.S.Store.settled h.store db is_open left) (false, None) refl

pub returns-in-Err-clause-again : goal.returns-in-Err-clause-again
returns-in-Err-clause-again g c = λ clean shown file. lost_alone (state g.S.Store c.args.connection).now shown file c.in-Err.fault (c.in-Err.ensures.refused clean)
