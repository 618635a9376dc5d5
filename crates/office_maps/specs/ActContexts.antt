-- What an act finds, by the view that it finds of its unit. This project's own words, for inner functions.
use Rattle.std.specs.Prelude.{Option, option_map}
use Rattle.std.specs.FinMap as maps
use Rattle.po_text.specs.Texts.{Text}
use Rattle.units.specs.Project.{Project, role_of}
use Rattle.units.specs.Rules.{rule_at}
use Rattle.units.specs.declared.unit.UnitView.{UnitView}
use Rattle.office_specification.specs.declared.values.ActContext.{ActContext}

abbrev pub context_with : Project → Text → Text → Option UnitView → Option ActContext
context_with project lang name view =
    option_map (λ header. record { rule = rule_at project lang; policy = project.policy; role = role_of project name; view = view }) (maps.get project.headers lang)
