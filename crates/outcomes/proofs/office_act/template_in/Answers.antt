use Rattle.units.specs.Office.{Office}
use Rattle.units.specs.declared.unit.Refusal.TheVariants.{NoDomain}
use Rattle.replies.specs.Bodies.{refused}
use Rattle.office_specification.specs.ProjectActs.{template_step}
use Rattle.office_specification.specs.Parts.{AreAlikeIn}
use Rattle.office_specification.specs.declared.parts.Part.TheVariants as parts
use Rattle.office_specification.specs.Step.{in_known_domain}
use Rattle.office_maps.specs.OfficeIn.{office_in, lent_project}
use Rattle.outcomes.proofs.ActsSettled.{unchanged}
use Rattle.outcomes.proofs.Settling.{settled_in, unknown_there}
use Rattle.outcomes.proofs.office_act.template_in.Goals as goal

pub returns-in-Ok : goal.returns-in-Ok
returns-in-Ok c =
    settled_in c.in_domain.result (office_in c.args.office.now) c.args.domain.now (lent_project c.in-Some.project) c.in-Ok.outcome
    (λ project. template_step project c.args.po.now) c.in-Some.ensures.there c.in-Some.ensures.its c.in-Ok.ensures c.in_domain.ensures

pub returns-in-None : goal.returns-in-None
returns-in-None c =
    let office = office_in c.args.office.now in
    let domain = c.args.domain.now in
    unchanged c.refused.result (refused NoDomain) (AreAlikeIn (parts.Domain domain) office) (λ (whole : Office). in_known_domain whole domain (λ project. template_step project c.args.po.now))
    (λ whole alike. unknown_there office whole domain (λ project. template_step project c.args.po.now) alike.0 c.in-None.ensures.none) c.refused.ensures
