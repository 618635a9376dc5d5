use Rattle.office_specification.proofs.acts.ApprovalCounts.{turned_counted, passes_counted}
use Rattle.office_specification.proofs.laws.policies_read_approvals.Goals as goal

pub returns-clause-turned : goal.returns-clause-turned
returns-clause-turned c = λ office rules policy. turned_counted office policy

pub returns-clause-passes : goal.returns-clause-passes
returns-clause-passes c = λ office rules policy. passes_counted office rules policy
