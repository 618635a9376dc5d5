use Rattle.std.proofs.Common.{◌∙◌}
use Rattle.std.proofs.lemmas.Map.Iter.{rest_all}
use Rattle.office_specification.specs.Approvals.{count_in}
use Rattle.office_maps.specs.declared.domain_maps.DomainMaps.{DomainMaps}
use Rattle.office_maps.specs.OfficeIn.{domain_in}
use Rattle.tables.specs.ApprovalTests.{is_counted}
use Rattle.tables.proofs.ApprovalsCounted.{sum_in, all_counted}
use Rattle.tables.proofs.approval_counts.count_all.Goals as goal

pub returns : goal.returns
returns c =
    all_counted (λ (d : DomainMaps). count_in (is_counted c.args.at_last) (domain_in d)) c.loop-domain.count c.loop-domain.domain-iterator _
    (rest_all (λ y. y.now) c.loop-domain.domain-iterator c.next.new.self c.next.result c.in-None.is c.next.ensures.steps) c.loop-domain.invariant
    ∙ sum_in (count_in (is_counted c.args.at_last)) c.args.office.now.domains c.values-domain-items.ensures.ordered
