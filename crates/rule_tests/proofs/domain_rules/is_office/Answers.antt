use Rattle.std.proofs.Common.{ap, leb, ◌∙◌}
use Rattle.std.specs.FinMap as maps
use Rattle.units.specs.Limits.{domain_limit}
use Rattle.office_maps.specs.OfficeIn.{office_in}
use Rattle.rule_tests.proofs.DomainTests.{office_told}
use Rattle.rule_tests.proofs.domain_rules.is_office.Goals as goal

pub returns : goal.returns
returns c =
    let office = office_in c.args.maps.now in
    office_told office c.hold_all.result c.has_domain-main.result (leb c.domain_count.result domain_limit) c.in_ok-projects.projects c.hold_all.ensures
    (c.has_domain-main.ensures ∙ ap (maps.contains_key office.domains) c.main_domain.ensures) (ap (λ n. leb n domain_limit) c.domain_count.ensures) c.in_ok-projects.ensures
