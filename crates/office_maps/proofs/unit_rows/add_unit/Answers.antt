use Rattle.std.proofs.Common.{◌∙◌}
use Rattle.std.specs.FinMap as maps
use Rattle.std.proofs.lemmas.Result.{on_ok_weaker}
use Rattle.office_maps.specs.Rows.{units_in}
use Rattle.office_maps.proofs.unit_rows.add_unit.Goals as goal

pub returns-in-Ok : goal.returns-in-Ok
returns-in-Ok c =
    on_ok_weaker c.put_at.result (λ put. put ∙ (λ i. maps.insert (units_in c.args.units.now) (c.in-Ok.ensures.lang i, c.in-Ok.ensures.key i) c.args.unit)) c.put_at.ensures.ok
