use Rattle.std.proofs.Common.{◌≤◌, arith, sym, subst}
use Rattle.std.proofs.lemmas.Bool.{false≢true}
use Rattle.units.specs.Limits.{domain_limit}
use Rattle.office_maps.specs.OfficeIn.{office_in}
use Rattle.sql_adoption.proofs.AdoptedByWalks.{main_told}
use Rattle.sql_adoption.proofs.walked_office.has_few_domains.Goals as goal

pub returns-then-count-gt-DOMAIN_LIMIT : goal.returns-then-count-gt-DOMAIN_LIMIT
returns-then-count-gt-DOMAIN_LIMIT c = (
  λ e. absurd (false≢true e),
  λ it. absurd (let few = subst (λ n. n ≤ domain_limit) (sym c.domain_count-count.ensures) it.few in omega arith),
)

pub returns : goal.returns
returns c =
    let office = office_in c.args.maps.now in
    let few = subst (λ n. n ≤ domain_limit) c.domain_count-count.ensures c.if-count-gt-DOMAIN_LIMIT.false in
    main_told office c.main_domain.result c.has_domain.result c.has_domain.ensures c.main_domain.ensures few
