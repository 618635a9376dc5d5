use Rattle.std.proofs.Common.{ap, leb}
use Rattle.units.specs.Limits.{team_limit}
use Rattle.rule_tests.proofs.TeamTests.{team_told}
use Rattle.rule_tests.proofs.project_rules.is_team.Goals as goal

pub returns : goal.returns
returns c =
    team_told c.args.team.now c.hold_all.result c.is_managed-managed.result c.has_no_guest.result (leb c.len.result team_limit) c.len.ensures.ordered c.hold_all.ensures c.is_managed-managed.ensures c.has_no_guest.ensures
    (ap (λ n. leb n team_limit) c.len.ensures.len)
