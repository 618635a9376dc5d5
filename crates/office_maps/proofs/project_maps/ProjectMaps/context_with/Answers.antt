use Rattle.office_maps.proofs.OfficeLookUps.{context_there, no_context}
use Rattle.office_maps.proofs.project_maps.ProjectMaps.context_with.Goals as goal

pub returns-in_default : goal.returns-in_default
returns-in_default c = no_context c.args.self.now c.args.lang.now c.args.name.now c.args.view c.in_default.ensures

pub returns-in-Ok : goal.returns-in-Ok
returns-in-Ok c =
    context_there c.args.self.now c.args.lang.now c.args.name.now c.args.view c.in-Some.language.now c.in-Some.ensures
    c.in-Ok.rule c.role_of.result c.in-Ok.ensures c.role_of.ensures
