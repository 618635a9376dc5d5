use Rattle.office_maps.proofs.UnitRows.{taken_out, put_again}
use Rattle.office_maps.proofs.unit_rows.put_one_back.Goals as goal

pub returns-in-None : goal.returns-in-None
returns-in-None c = λ was had. taken_out was c.args.units.now c.remove.new.self c.args.before had c.in-None.is c.remove.ensures.entries c.remove.ensures.updates.1

pub returns-in-Some : goal.returns-in-Some
returns-in-Some c = λ was had. put_again c.insert.result was c.args.units.now c.insert.new.self c.args.before c.in-Some.unit had c.in-Some.is c.insert.ensures.entries c.insert.ensures.absent
