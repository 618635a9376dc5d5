use Rattle.std.proofs.Common.{rules, ◌≡◌, subst}
use Rattle.office_maps.specs.OfficeIn.{office_in}
use Rattle.sql_figures.specs.KeptTallies.{office_counts}
use Rattle.sql_adoption.specs.FigureRows.{places_of, AreCounted}
use Rattle.sql_adoption.proofs.TalliesTold.{none_counted, one_domain_counted, all_domains_counted}
use Rattle.sql_adoption.proofs.language_tallies.counted_langs.Goals as goal

pub loop-domain-init : goal.loop-domain-init
loop-domain-init c = λ is_office. none_counted (office_counts (office_in c.args.read.now.maps)) c.new-counted.result.items (search rules)

pub loop-domain-preserved : goal.loop-domain-preserved
loop-domain-preserved c = λ is_office.
    let counts = office_counts (office_in c.args.read.now.maps) in
    one_domain_counted counts c.as_slice-domains.result.now c.args.read.now.langs.items c.loop-domain.domain-index c.domain-item.result c.count_langs.new.counted.items
    c.loop-domain-test.true c.domain-item.is (c.in_ok-count_langs.ensures is_office _ (c.loop-domain.invariant is_office))

pub returns : goal.returns
returns c = λ is_office.
    let counts = office_counts (office_in c.args.read.now.maps) in
    let langs = c.args.read.now.langs.items in
    let same : c.as_slice-domains.result.now ≡ c.args.read.now.domains.items = search rules in
    subst (λ domains. AreCounted counts (places_of domains langs) c.loop-domain.counted.items) same
    (all_domains_counted counts c.as_slice-domains.result.now langs c.loop-domain.domain-index c.loop-domain.counted.items c.loop-domain-test.false (c.loop-domain.invariant is_office))
