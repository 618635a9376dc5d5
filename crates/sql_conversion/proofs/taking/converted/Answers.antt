use Rattle.std.proofs.Common.{subst}
use Rattle.sqlite.specs.Held.{state}
use Rattle.sql_adoption.specs.Adoption.{HasItsForm, IsAdoptedIn}
use Rattle.sql_adoption.specs.declared.tested.Adopted.{Adopted}
use Rattle.sql_conversion.proofs.TakenOver.{as_they_stand}
use Rattle.sql_conversion.proofs.taking.converted.Goals as goal

pub convert_adopted-requires-clause-form : goal.convert_adopted-requires-clause-form
convert_adopted-requires-clause-form g c = subst HasItsForm c.in-ForMain.is c.requires.adopted.main

pub convert_adopted-requires-clause-adopted : goal.convert_adopted-requires-clause-adopted
convert_adopted-requires-clause-adopted g c = subst (λ (adopted : Adopted). IsAdoptedIn (state g.S.Store c.args.connection.now) adopted) c.in-ForMain.is c.requires.adopted

pub returns-in-ByDomain-clause-taken : goal.returns-in-ByDomain-clause-taken
returns-in-ByDomain-clause-taken g c =
    as_they_stand (state g.S.Store c.args.connection.now) (subst (λ (adopted : Adopted). IsAdoptedIn (state g.S.Store c.args.connection.now) adopted) c.in-ByDomain.is c.requires.adopted) c.requires.autocommit
