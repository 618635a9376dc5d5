use Rattle.std.proofs.Common.{true, false, sym, subst, ◌∙◌}
use Rattle.units.specs.Office.{Office}
use Rattle.units.specs.declared.unit.Refusal.TheVariants.{BelowRole}
use Rattle.request_book.specs.declared.act.Act.{Act}
use Rattle.replies.specs.Bodies.{refused}
use Rattle.office_specification.specs.OfficeActs.{team_step, domain_step}
use Rattle.office_specification.specs.Parts.{part_of, ShareTeam, AreAlikeIn}
use Rattle.office_specification.specs.ProjectActs.{template_step, language_step}
use Rattle.office_specification.specs.Step.{step, in_known_domain}
use Rattle.office_specification.specs.declared.parts.Part.TheVariants as parts
use Rattle.office_maps.specs.OfficeIn.{office_in}
use Rattle.outcomes.proofs.ActsSettled.{unchanged, alike}
use Rattle.outcomes.proofs.Settling.{same_right, refused_request, template_request, language_request, role_request, domain_request}
use Rattle.outcomes.proofs.office_act.office_outcome.Goals as goal

pub returns-then-is_below_manager : goal.returns-then-is_below_manager
returns-then-is_below_manager c =
    let office = office_in c.args.office.now in
    let request = c.args.request.now in
    unchanged c.refused.result (refused BelowRole) (AreAlikeIn (part_of request.act) office) (λ (whole : Office). step whole request)
    (λ whole same. refused_request whole request c.requires.act (same_right office request true (sym c.is_below_manager.ensures ∙ c.if-is_below_manager.true) whole same)) c.refused.ensures

pub returns-in-SetTemplate : goal.returns-in-SetTemplate
returns-in-SetTemplate c =
    let office = office_in c.args.office.now in
    let request = c.args.request.now in
    let domain = c.in-SetTemplate.domain in
    let po = c.in-SetTemplate.po in
    alike c.template_in.result (AreAlikeIn (parts.Domain domain) office) (AreAlikeIn (part_of request.act) office) (λ (whole : Office). in_known_domain whole domain (λ project. template_step project po))
    (λ (whole : Office). step whole request) (λ whole same. subst (λ (act : Act). AreAlikeIn (part_of act) office whole) c.in-SetTemplate.is same)
    (λ whole same. template_request whole request domain po c.in-SetTemplate.is (same_right office request false (sym c.is_below_manager.ensures ∙ c.if-is_below_manager.false) whole same))
    c.template_in.ensures

pub returns-in-AddLanguage : goal.returns-in-AddLanguage
returns-in-AddLanguage c =
    let office = office_in c.args.office.now in
    let request = c.args.request.now in
    let domain = c.in-AddLanguage.domain in
    let lang = c.in-AddLanguage.lang in
    let po = c.in-AddLanguage.po in
    alike c.language_in.result (AreAlikeIn (parts.Languages domain) office) (AreAlikeIn (part_of request.act) office) (λ (whole : Office). in_known_domain whole domain (λ project. language_step project lang po))
    (λ (whole : Office). step whole request) (λ whole same. subst (λ (act : Act). AreAlikeIn (part_of act) office whole) c.in-AddLanguage.is same)
    (λ whole same. language_request whole request domain lang po c.in-AddLanguage.is (same_right office request false (sym c.is_below_manager.ensures ∙ c.if-is_below_manager.false) whole same))
    c.language_in.ensures

pub returns-in-SetRole : goal.returns-in-SetRole
returns-in-SetRole c =
    let office = office_in c.args.office.now in
    let request = c.args.request.now in
    let name = c.in-SetRole.name in
    let role = c.in-SetRole.role in
    alike c.role_outcome.result (ShareTeam office) (AreAlikeIn (part_of request.act) office) (λ (whole : Office). team_step whole name role)
    (λ (whole : Office). step whole request) (λ whole same. subst (λ (act : Act). AreAlikeIn (part_of act) office whole) c.in-SetRole.is same)
    (λ whole same. role_request whole request name role c.in-SetRole.is (same_right office request false (sym c.is_below_manager.ensures ∙ c.if-is_below_manager.false) whole same))
    c.role_outcome.ensures

pub returns-in-AddDomain : goal.returns-in-AddDomain
returns-in-AddDomain c =
    let office = office_in c.args.office.now in
    let request = c.args.request.now in
    let domain = c.in-AddDomain.domain in
    alike c.domain_outcome.result (ShareTeam office) (AreAlikeIn (part_of request.act) office) (λ (whole : Office). domain_step whole domain)
    (λ (whole : Office). step whole request) (λ whole same. subst (λ (act : Act). AreAlikeIn (part_of act) office whole) c.in-AddDomain.is same)
    (λ whole same. domain_request whole request domain c.in-AddDomain.is (same_right office request false (sym c.is_below_manager.ensures ∙ c.if-is_below_manager.false) whole same))
    c.domain_outcome.ensures
