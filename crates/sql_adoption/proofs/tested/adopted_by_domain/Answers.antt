use Rattle.std.proofs.Common.{Ok, Err}
use Rattle.sqlite.specs.Held.{state}
use Rattle.sql_schema.specs.Layouts.{by_domain}
use Rattle.sql_adoption.specs.Adoption.{IsAdoptedOf, IsAdoptedWith}
use Rattle.sql_adoption.specs.declared.faults.OpenFault.{OpenFault}
use Rattle.sql_layouts.proofs.Looked.{looked_in_vain, looked_on}
use Rattle.sql_adoption.proofs.tested.adopted_by_domain.Goals as goal

pub returns-in-Ok-clause-adopted : goal.returns-in-Ok-clause-adopted
returns-in-Ok-clause-adopted g c =
    looked_on (state g.S.Store c.args.connection.now) (state g.S.Store c.keep_by_domain.new.connection) {E = OpenFault} _ (Ok _) (λ db _. IsAdoptedOf by_domain db) IsAdoptedWith c.in-Ok.ensures.found (λ early is_open it. it)

pub returns-in-Err-clause-adopted : goal.returns-in-Err-clause-adopted
returns-in-Err-clause-adopted g c =
    looked_in_vain (state g.S.Store c.args.connection.now) (state g.S.Store c.keep_by_domain.new.connection) (Err c.in-Err.fault) c.in-Err.fault (λ db _. IsAdoptedOf by_domain db) IsAdoptedWith c.in-Err.ensures.found
