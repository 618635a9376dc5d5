use Rattle.std.proofs.Common.{subst}
use Rattle.sqlite.specs.Held.{state}
use Rattle.units.specs.declared.unit.Policy.{Policy}
use Rattle.sql_meaning.specs.Beginnings.{PutsClosedPolicy}
use Rattle.sql_commits.specs.Rows.{PutsPolicyOf}
use Rattle.sql_commits.proofs.WritesInTurn.{write_mapped}
use Rattle.sql_decoding.proofs.DiskFailures.{mapped_told}
use Rattle.store_sql.proofs.create.put_closed_policy.Goals as goal

pub returns-clause-put : goal.returns-clause-put
returns-clause-put g c =
    let old = state g.S.Store c.args.tx.now.conn.now in
    let new = state g.S.Store c.put_policy_of.new.tx.conn.now in
    write_mapped old new c.put_policy_of.result c.map_err.result _ _ PutsClosedPolicy c.map_err.ensures.cases
    (λ put. subst (λ (policy : Policy). PutsPolicyOf policy old.now new.now) c.closed_policy.ensures put) c.put_policy_of.ensures.row

pub returns-clause-disk : goal.returns-clause-disk
returns-clause-disk g c = mapped_told (state g.S.Store c.args.tx.now.conn.now) (state g.S.Store c.put_policy_of.new.tx.conn.now) c.put_policy_of.result c.map_err.result _ (λ e f t. t) c.map_err.ensures.cases c.put_policy_of.ensures.disk
