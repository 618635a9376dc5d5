use Rattle.std.proofs.Common.{◌∙◌}
use Rattle.std.specs.List.{list_all}
use Rattle.checks.proofs.agreement.is_subset.Goals as goal

-- in the set is what is one of all
pub returns : goal.returns
returns c = c.are_members.ensures ∙ (λ i. list_all (λ text. c.in_ok-set.ensures text i) c.args.some.now)
