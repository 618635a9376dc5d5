use Rattle.std.proofs.Common.{◌≡◌, true, false, sym, ◌∙◌, arith}
use Rattle.std.specs.Prelude.{nat_le}
use Rattle.std.specs.FinMap as maps
use Rattle.std.proofs.lemmas.Grind.{common_steps}
use Rattle.units.specs.Limits.{domain_limit}
use Rattle.units.specs.Office.{Office}
use Rattle.units.specs.declared.unit.Refusal.TheVariants.{DomainExists, PastLimit}
use Rattle.replies.specs.Bodies.{refused}
use Rattle.office_specification.specs.OfficeActs.{domain_step}
use Rattle.office_specification.specs.Parts.{ShareTeam}
use Rattle.office_maps.specs.OfficeIn.{office_in}
use Rattle.outcomes.proofs.ActsSettled.{unchanged}
use Rattle.outcomes.proofs.TeamSteps.{domain_there, domains_full, domain_settled}
use Rattle.outcomes.proofs.domain_act.domain_outcome.Goals as goal

pub returns-then-has_domain : goal.returns-then-has_domain
returns-then-has_domain c =
    let office = office_in c.args.office.now in
    let domain = c.args.domain.now in
    unchanged c.refused.result (refused DomainExists) (ShareTeam office) (λ (whole : Office). domain_step whole domain)
    (λ whole alike. domain_there office domain whole alike (sym c.has_domain.ensures ∙ c.if-has_domain.true)) c.refused.ensures

pub returns-then-domain_count-ge-DOMAIN_LIMIT : goal.returns-then-domain_count-ge-DOMAIN_LIMIT
returns-then-domain_count-ge-DOMAIN_LIMIT c =
    let office = office_in c.args.office.now in
    let domain = c.args.domain.now in
    let full : nat_le domain_limit (maps.len office.domains) ≡ true = grind (arith, common_steps) in
    unchanged c.refused-then-domain_count-ge-DOMAIN_LIMIT.result (refused PastLimit) (ShareTeam office) (λ (whole : Office). domain_step whole domain)
    (λ whole alike. domains_full office domain whole alike (sym c.has_domain.ensures ∙ c.if-has_domain.false) full) c.refused-then-domain_count-ge-DOMAIN_LIMIT.ensures

pub returns-in-Ok : goal.returns-in-Ok
returns-in-Ok c =
    let office = office_in c.args.office.now in
    let domain = c.args.domain.now in
    let few : nat_le domain_limit (maps.len office.domains) ≡ false = grind (arith, common_steps) in
    λ whole alike. domain_settled office domain whole alike (sym c.has_domain.ensures ∙ c.if-has_domain.false) few c.in_ok-own.own c.in-Ok.reply c.in_ok-own.ensures c.in-Ok.ensures
