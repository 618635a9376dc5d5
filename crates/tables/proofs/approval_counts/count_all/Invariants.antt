use Rattle.std.proofs.Common.{◌≡◌, ◌+◌}
use Rattle.std.specs.Prelude.{sum_by}
use Rattle.std.specs.Map.{values_of}
use Rattle.office_specification.specs.Approvals.{count_in}
use Rattle.office_maps.specs.OfficeIn.{domain_in}
use Rattle.tables.specs.ApprovalTests.{is_counted}
use Rattle.tables.proofs.approval_counts.count_all.Given as goal

-- what is counted, and what is left to count
abbrev pub invariant-loop-domain : goal.invariant-loop-domain
invariant-loop-domain l =
    l.count + sum_by (λ d. count_in (is_counted l.fn.at_last) (domain_in d)) l.domain-iterator ≡ sum_by (λ d. count_in (is_counted l.fn.at_last) (domain_in d)) (values_of l.fn.office.domains.entries)
