use Rattle.std.proofs.Common.{Ok, Err, ap, sym, subst}
use Rattle.sqlite.specs.Held.{state}
use Rattle.sql_schema.specs.Layouts.{IsForMain}
use Rattle.sql_layouts.specs.Tables.{form_told}
use Rattle.sql_layouts.specs.declared.office_tables.Form.{Form}
use Rattle.sql_adoption.specs.Adoption.{IsAdoptedAs, IsAdoptedWith}
use Rattle.sql_adoption.specs.declared.faults.OpenFault.{OpenFault}
use Rattle.sql_layouts.proofs.Looked.{looked_in_vain, looked_on}
use Rattle.sql_adoption.proofs.tested.adopted_main.Goals as goal

pub returns-in-Ok-clause-form : goal.returns-in-Ok-clause-form
returns-in-Ok-clause-form g c = record { same = ap form_told c.in-Ok.ensures.form; main = subst (λ (f : Form). IsForMain (form_told f)) (sym c.in-Ok.ensures.form) c.requires.main }

pub returns-in-Ok-clause-adopted : goal.returns-in-Ok-clause-adopted
returns-in-Ok-clause-adopted g c =
    looked_on (state g.S.Store c.args.connection.now) (state g.S.Store c.tested_main.new.connection) {E = OpenFault} c.in-Ok.office (Ok _) IsAdoptedAs IsAdoptedWith c.in-Ok.ensures.adopted (λ early is_open it. it)

pub returns-in-Err-clause-adopted : goal.returns-in-Err-clause-adopted
returns-in-Err-clause-adopted g c =
    looked_in_vain (state g.S.Store c.args.connection.now) (state g.S.Store c.tested_main.new.connection) (Err c.in-Err.fault) c.in-Err.fault IsAdoptedAs IsAdoptedWith c.in-Err.ensures.adopted
