use Rattle.std.proofs.Common.{◌∙◌}
use Rattle.sql_meaning.specs.OfficeShown.{team_shown, policy_shown}
use Rattle.sql_adoption.specs.PartsRead.{with_named}
use Rattle.sql_adoption.proofs.parts_read.shared_office.Goals as goal

pub returns : goal.returns
returns c =
    c.in_ok-set_team.ensures.shown
    ∙ (λ i. record ((c.in_ok-put_named.ensures ∙ (λ j. with_named (c.in_ok-maps.ensures j) (c.as_slice.ensures.value j))) i) { team = team_shown (c.as_slice-2.ensures.value i); policy = policy_shown c.args.rows.now.policy })
