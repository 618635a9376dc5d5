use Rattle.std.proofs.Common.{◌≡◌, Option, subst, sym, ap, ◌∙◌}
use Rattle.std.specs.Prelude.{IfOk, option_and_then}
use Rattle.std.specs.Option.{option_copied}
use Rattle.units.specs.Units.{suggestion_of}
use Rattle.units.specs.declared.unit.Unit.{Unit}
use Rattle.office_maps.proofs.project_maps.ProjectMaps.suggestion_of.Goals as goal

pub returns-in-Some : goal.returns-in-Some
returns-in-Some c =
    subst (λ (unit : Option Unit). IfOk c.copy_of_number.result (λ r. r ≡ option_and_then (suggestion_of c.args.number.now) unit))
    (sym (ap option_copied c.in-Some.is) ∙ c.in_ok-unit.ensures) c.copy_of_number.ensures

pub returns-in-None : goal.returns-in-None
returns-in-None c = ap (option_and_then (suggestion_of c.args.number.now)) (sym (ap option_copied c.in-None.is) ∙ c.in_ok-unit.ensures)
