use Rattle.std.proofs.Common.{rules, codes}
use Rattle.sqlite.specs.Held.{state}
use Rattle.sql_schema.specs.Layouts.{by_domain, SparesOthers}
use Rattle.sql_changes.specs.Commits.{PutsPolicy}
use Rattle.sql_changes.specs.OnDomains.{OnEach}
use Rattle.sql_commits.specs.Rows.{PutsPolicyOf}
use Rattle.sql_commits.proofs.PlannedWrites.{policy_told, policy_row_told}
use Rattle.sql_commits.proofs.WritesInTurn.{write_as}
use Rattle.sql_schema.specs.Inside.{OnRows}
use Rattle.sql_commits.proofs.FiguresInTurn.{put_others}
use Rattle.sql_commits.proofs.policies.put_policy_of.Goals as goal

pub returns-clause-put : goal.returns-clause-put
returns-clause-put g c =
    let old = state g.S.Store c.args.tx.now.conn.now in
    let new = state g.S.Store c.set_policy.new.tx.conn.now in
    let policy = c.args.policy.now in
    write_as old new c.set_policy.result _ (OnEach (PutsPolicy policy)) (policy_told policy _ old.now new.now (search rules)) (c.set_policy.ensures.put by_domain c.requires.steady)

-- no other table changes
pub returns-clause-others : goal.returns-clause-others
returns-clause-others g c =
    write_as (state g.S.Store c.args.tx.now.conn.now) (state g.S.Store c.set_policy.new.tx.conn.now) c.set_policy.result _ (OnRows (SparesOthers (codes "policy"))) put_others
    (c.set_policy.ensures.put by_domain c.requires.steady)

pub returns-clause-row : goal.returns-clause-row
returns-clause-row g c =
    let old = state g.S.Store c.args.tx.now.conn.now in
    let new = state g.S.Store c.set_policy.new.tx.conn.now in
    let policy = c.args.policy.now in
    write_as old new c.set_policy.result _ (PutsPolicyOf policy) (policy_row_told policy _ old.now new.now (search rules)) (c.set_policy.ensures.put by_domain c.requires.steady)
