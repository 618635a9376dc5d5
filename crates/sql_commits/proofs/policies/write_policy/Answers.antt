use Rattle.std.proofs.Common.{Ok, sym, subst, codes}
use Rattle.sqlite.specs.Held.{state}
use Rattle.sqlite.specs.declared.error.Error.{Error}
use Rattle.sql_schema.specs.Layouts.{SparesOthers}
use Rattle.sql_statements.specs.DomainRenewed.{UnapprovesDomainUnits, UnapprovesTallies}
use Rattle.sql_meaning.specs.RowChanges.{HaveNextIn, UnapprovesIn}
use Rattle.sql_changes.specs.Commits.{PutsPolicy, UnapprovesUnless, WritesPolicy}
use Rattle.sql_changes.specs.OnDomains.{OnDomainsWhere, OnEach}
use Rattle.sql_changes.proofs.DomainWrites.{seen, domains_then, domains_where, spares_last, units_on_domains, tallies_on_domains}
use Rattle.sql_commits.proofs.WritesInTurn.{write_told, write_then}
use Rattle.sql_commits.proofs.PolicyTurns.{next_behind_policy, stays_reviewed}
use Rattle.sqlite.specs.Effect.{Database}
use Rattle.po_text.specs.Texts.{Text}
use Rattle.sql_schema.specs.Inside.{OnRows}
use Rattle.sql_commits.proofs.FiguresInTurn.{policy_stays, policy_turns}
use Rattle.sql_commits.specs.Figures.{FollowsPolicy}
use Rattle.sql_laws.proofs.DiskErrors.{blames_behind, told_on}
use Rattle.sql_laws.proofs.Transactions.{survives_both}
use Rattle.sql_commits.proofs.policies.write_policy.Goals as goal

pub returns-then-policy-clause-put : goal.returns-then-policy-clause-put
returns-then-policy-clause-put g c =
    let old = state g.S.Store c.args.tx.now.conn.now in
    let mid = state g.S.Store c.put_policy_of.new.tx.conn.now in
    let policy = c.args.policy.now in
    write_told old mid c.in_ok-put_policy_of.field-0 _ (OnEach (PutsPolicy policy)) (OnDomainsWhere HaveNextIn (λ d. WritesPolicy policy)) (stays_reviewed policy old.now mid.now c.if-policy.true) c.in_ok-put_policy_of.ensures.put

pub returns-in_ok-unapprove_domain_units-clause-put : goal.returns-in_ok-unapprove_domain_units-clause-put
returns-in_ok-unapprove_domain_units-clause-put g c =
    let old = state g.S.Store c.args.tx.now.conn.now in
    let mid = state g.S.Store c.put_policy_of.new.tx.conn.now in
    let next = state g.S.Store c.unapprove_domain_units.new.tx.conn.now in
    let new = state g.S.Store c.unapprove_tallies.new.tx.conn.now in
    let policy = c.args.policy.now in
    let Puts = λ (d : Text). PutsPolicy policy in
    let Whole = λ (d : Text). WritesPolicy policy in
    let units = write_then old mid next {F = Error} c.in_ok-put_policy_of.field-0 (Ok c.in_ok-unapprove_domain_units.field-0) (OnEach (PutsPolicy policy)) UnapprovesDomainUnits (OnDomainsWhere HaveNextIn Whole)
    (λ put made. domains_then HaveNextIn Puts (λ d. UnapprovesIn) Whole
    (λ d put made. (seen d mid.now, put, subst (λ reviews. UnapprovesUnless reviews (seen d mid.now) (seen d next.now)) (sym c.if-policy.false) made))
    (λ d. next_behind_policy policy (seen d old.now) (seen d mid.now)) (domains_where HaveNextIn Puts put) (units_on_domains made))
    c.in_ok-put_policy_of.ensures.put c.in_ok-unapprove_domain_units.ensures.unapproved in
    write_then old next new c.in_ok-unapprove_domain_units.field-0 c.unapprove_tallies.result (OnDomainsWhere HaveNextIn Whole) UnapprovesTallies (OnDomainsWhere HaveNextIn Whole)
    (λ whole tallied. spares_last HaveNextIn Whole whole (tallies_on_domains tallied)) units c.unapprove_tallies.ensures.unapproved

pub returns-then-policy-clause-figures : goal.returns-then-policy-clause-figures
returns-then-policy-clause-figures g c =
    let old = state g.S.Store c.args.tx.now.conn.now in
    let mid = state g.S.Store c.put_policy_of.new.tx.conn.now in
    let policy = c.args.policy.now in
    write_told old mid c.in_ok-put_policy_of.field-0 _ (OnRows (SparesOthers (codes "policy"))) (FollowsPolicy policy) (policy_stays policy old.now mid.now c.if-policy.true) c.in_ok-put_policy_of.ensures.others

-- what was approved is counted as translated
pub returns-in_ok-unapprove_domain_units-clause-figures : goal.returns-in_ok-unapprove_domain_units-clause-figures
returns-in_ok-unapprove_domain_units-clause-figures g c =
    let old = state g.S.Store c.args.tx.now.conn.now in
    let mid = state g.S.Store c.put_policy_of.new.tx.conn.now in
    let next = state g.S.Store c.unapprove_domain_units.new.tx.conn.now in
    let new = state g.S.Store c.unapprove_tallies.new.tx.conn.now in
    let policy = c.args.policy.now in
    let Others = OnRows (SparesOthers (codes "policy")) in
    let Both = λ (before after : Database). Others old.now mid.now × UnapprovesDomainUnits mid.now after in
    let units = write_then old mid next {F = Error} c.in_ok-put_policy_of.field-0 (Ok c.in_ok-unapprove_domain_units.field-0) Others UnapprovesDomainUnits Both (λ others made. (others, made))
    c.in_ok-put_policy_of.ensures.others c.in_ok-unapprove_domain_units.ensures.unapproved in
    write_then old next new c.in_ok-unapprove_domain_units.field-0 c.unapprove_tallies.result Both UnapprovesTallies (FollowsPolicy policy)
    (λ both tallied. policy_turns policy old.now mid.now next.now new.now c.if-policy.false both.0 both.1 tallied) units c.unapprove_tallies.ensures.unapproved

pub returns-in_err-put_policy_of-clause-disk : goal.returns-in_err-put_policy_of-clause-disk
returns-in_err-put_policy_of-clause-disk g c =
    told_on (state g.S.Store c.args.tx.now.conn.now) (state g.S.Store c.put_policy_of.new.tx.conn.now) (state g.S.Store c.put_policy_of.new.tx.conn.now) _ c.from_residual.result c.from_residual.ensures.1 c.in_err-put_policy_of.ensures.disk

pub returns-in_err-unapprove_domain_units-clause-disk : goal.returns-in_err-unapprove_domain_units-clause-disk
returns-in_err-unapprove_domain_units-clause-disk g c =
    blames_behind (state g.S.Store c.args.tx.now.conn.now) (state g.S.Store c.put_policy_of.new.tx.conn.now) (state g.S.Store c.unapprove_domain_units.new.tx.conn.now) (λ _. ⊥) (λ _. ⊥) c.from_residual-in_err-unapprove_domain_units.result c.in_ok-put_policy_of.ensures.put.survives c.in_err-unapprove_domain_units.ensures.unapproved.survives
    (told_on (state g.S.Store c.put_policy_of.new.tx.conn.now) (state g.S.Store c.unapprove_domain_units.new.tx.conn.now) (state g.S.Store c.unapprove_domain_units.new.tx.conn.now) _ c.from_residual-in_err-unapprove_domain_units.result c.from_residual-in_err-unapprove_domain_units.ensures.1 c.in_err-unapprove_domain_units.ensures.disk)

pub returns-in_ok-unapprove_domain_units-clause-disk : goal.returns-in_ok-unapprove_domain_units-clause-disk
returns-in_ok-unapprove_domain_units-clause-disk g c =
    blames_behind (state g.S.Store c.args.tx.now.conn.now) (state g.S.Store c.unapprove_domain_units.new.tx.conn.now) (state g.S.Store c.unapprove_tallies.new.tx.conn.now) (λ _. ⊥) (λ _. ⊥) c.unapprove_tallies.result (survives_both g.S.Store c.args.tx.now.conn.now c.put_policy_of.new.tx.conn.now c.unapprove_domain_units.new.tx.conn.now c.in_ok-put_policy_of.ensures.put.survives c.in_ok-unapprove_domain_units.ensures.unapproved.survives) c.unapprove_tallies.ensures.unapproved.survives
    (c.unapprove_tallies.ensures.disk)
