use Rattle.sqlite.specs.Held.{state}
use Rattle.sql_schema.specs.Layouts.{by_domain}
use Rattle.sql_schema.proofs.Sequences.{reads_both, read_mapped, steady_read, fails_after}
use Rattle.sql_laws.proofs.DiskErrors.{told_on}
use Rattle.sql_statements.proofs.ReadsBlame.{blames_after}
use Rattle.sql_adoption.proofs.look_ups.shared_rows.Goals as goal

pub returns-in_err-team-clause-found : goal.returns-in_err-team-clause-found
returns-in_err-team-clause-found g c =
    let old = state g.S.Store c.args.tx.now.conn.now in
    let first = state g.S.Store c.all_domains.new.tx.conn.now in
    let second = state g.S.Store c.all_members.new.tx.conn.now in
    let one = c.in_ok-domains.ensures.found in
    fails_after old first second _ _ _ _ _ _ c.from_residual-in_err-team.ensures.0 one (c.in_err-team.ensures.found by_domain (steady_read old first _ _ one))

pub returns-in_err-policy-clause-found : goal.returns-in_err-policy-clause-found
returns-in_err-policy-clause-found g c =
    let old = state g.S.Store c.args.tx.now.conn.now in
    let first = state g.S.Store c.all_domains.new.tx.conn.now in
    let second = state g.S.Store c.all_members.new.tx.conn.now in
    let third = state g.S.Store c.find_policy.new.tx.conn.now in
    let one = c.in_ok-domains.ensures.found in
    let two = reads_both old first second _ _ _ _ one (c.in_ok-team.ensures.found by_domain (steady_read old first _ _ one)) in
    fails_after old second third _ _ _ _ _ _ c.from_residual-in_err-policy.ensures.0 two (c.in_err-policy.ensures.found by_domain (steady_read old second _ _ two))

pub returns-clause-found : goal.returns-clause-found
returns-clause-found g c =
    let old = state g.S.Store c.args.tx.now.conn.now in
    let first = state g.S.Store c.all_domains.new.tx.conn.now in
    let second = state g.S.Store c.all_members.new.tx.conn.now in
    let third = state g.S.Store c.find_policy.new.tx.conn.now in
    let one = c.in_ok-domains.ensures.found in
    let two = reads_both old first second _ _ _ _ one (c.in_ok-team.ensures.found by_domain (steady_read old first _ _ one)) in
    let three = reads_both old second third _ _ _ _ two (c.in_ok-policy.ensures.found by_domain (steady_read old second _ _ two)) in
    read_mapped old third _ _ _ _ (λ db it. record { domains = it.0.0; team = it.0.1; policy = it.1 }) three

pub returns-in_err-domains-clause-disk : goal.returns-in_err-domains-clause-disk
returns-in_err-domains-clause-disk g c =
    let old = state g.S.Store c.args.tx.now.conn.now in
    let first = state g.S.Store c.all_domains.new.tx.conn.now in
    told_on old first first _ c.from_residual.result c.from_residual.ensures.1 c.in_err-domains.ensures.disk

pub returns-in_err-team-clause-disk : goal.returns-in_err-team-clause-disk
returns-in_err-team-clause-disk g c =
    let old = state g.S.Store c.args.tx.now.conn.now in
    let first = state g.S.Store c.all_domains.new.tx.conn.now in
    let second = state g.S.Store c.all_members.new.tx.conn.now in
    let one = c.in_ok-domains.ensures.found in
    blames_after old first second _ _ c.from_residual-in_err-team.result _ _ c.from_residual-in_err-team.ensures.1 one (c.in_err-team.ensures.found by_domain (steady_read old first _ _ one)) c.in_err-team.ensures.disk

pub returns-in_err-policy-clause-disk : goal.returns-in_err-policy-clause-disk
returns-in_err-policy-clause-disk g c =
    let old = state g.S.Store c.args.tx.now.conn.now in
    let first = state g.S.Store c.all_domains.new.tx.conn.now in
    let second = state g.S.Store c.all_members.new.tx.conn.now in
    let third = state g.S.Store c.find_policy.new.tx.conn.now in
    let one = c.in_ok-domains.ensures.found in
    let two = reads_both old first second _ _ _ _ one (c.in_ok-team.ensures.found by_domain (steady_read old first _ _ one)) in
    blames_after old second third _ _ c.from_residual-in_err-policy.result _ _ c.from_residual-in_err-policy.ensures.1 two (c.in_err-policy.ensures.found by_domain (steady_read old second _ _ two)) c.in_err-policy.ensures.disk
