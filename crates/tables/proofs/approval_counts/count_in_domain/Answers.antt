use Rattle.std.proofs.Common.{◌∙◌, rules, tests}
use Rattle.std.specs.Map.{values_of}
use Rattle.std.proofs.lemmas.Iterator.Consumers.{YieldsList-from_rest, YieldsList-from_filter, count_from_yields_List}
use Rattle.std.proofs.lemmas.List.Sums.{length-filter}
use Rattle.tables.specs.ApprovalTests.{is_counted}
use Rattle.tables.proofs.ApprovalsCounted.{counted_in}
use Rattle.tables.proofs.approval_counts.count_in_domain.Goals as goal

pub returns : goal.returns
returns c =
    let counted = is_counted c.args.at_last in
    count_from_yields_List c.filter.result c.count.result c.count.ensures.ran
    (YieldsList-from_filter _ counted (YieldsList-from_rest (values_of c.args.domain.now.units.entries) (cc)) c.filter.ensures.closure (λ x r q k. search (rules, tests)))
    ∙ (length-filter counted (values_of c.args.domain.now.units.entries)
    ∙ counted_in c.args.domain.now.units counted c.values.ensures.ordered)
