use Rattle.std.proofs.Common.{Some, None, sym, ap, ◌∙◌}
use Rattle.std.specs.Option.{option_copied}
use Rattle.units.specs.Project.{entry_of}
use Rattle.units.specs.declared.unit.Unit.{Unit}
use Rattle.office_maps.specs.OfficeIn.{lent_project}
use Rattle.office_maps.proofs.WrittenUnits.{unit_written_at}
use Rattle.office_maps.proofs.project_maps.ProjectMaps.written.Goals as goal

pub returns-in_ok-unit_written-in-Some : goal.returns-in_ok-unit_written-in-Some
returns-in_ok-unit_written-in-Some c =
    ap (λ (unit : Unit). Some unit) (c.in_ok-unit_written-in-Some.ensures (entry_of (lent_project c.args.self.now).template c.args.key.now))
    ∙ unit_written_at (lent_project c.args.self.now) c.args.lang.now c.args.key.now c.args.write (Some c.in-Some.unit.now) (sym (ap option_copied c.in-Some.is) ∙ c.in_ok-unit.ensures)

pub returns-in-None : goal.returns-in-None
returns-in-None c = unit_written_at (lent_project c.args.self.now) c.args.lang.now c.args.key.now c.args.write None (sym (ap option_copied c.in-None.is) ∙ c.in_ok-unit.ensures)
