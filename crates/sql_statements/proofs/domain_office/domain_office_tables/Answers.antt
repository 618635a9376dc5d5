use Rattle.sqlite.specs.Held.{state}
use Rattle.sql_schema.specs.Layouts.{by_domain}
use Rattle.sql_schema.proofs.Sequences.{reads_both, read_mapped, steady_read, fails_after}
use Rattle.sql_laws.proofs.DiskErrors.{told_on}
use Rattle.sql_schema.proofs.Unread.{unread_told}
use Rattle.sql_statements.proofs.ReadsBlame.{blames_after}
use Rattle.sql_statements.proofs.ReadsUnread.{unread_after}
use Rattle.sql_statements.proofs.domain_office.domain_office_tables.Goals as goal

pub returns-in_err-team-clause-found : goal.returns-in_err-team-clause-found
returns-in_err-team-clause-found g c =
    let old = state g.S.Store c.args.tx.now.conn.now in
    let first = state g.S.Store c.find_policy.new.tx.conn.now in
    let one = c.in_ok-policy.ensures.found by_domain c.requires.steady in
    let second = state g.S.Store c.all_members.new.tx.conn.now in
    fails_after old first second _ _ _ _ _ _ c.from_residual-in_err-team.ensures.0 one (c.in_err-team.ensures.found by_domain (steady_read old first _ _ one))

pub all_domain_entries-requires : goal.all_domain_entries-requires
all_domain_entries-requires g c =
    let old = state g.S.Store c.args.tx.now.conn.now in
    let first = state g.S.Store c.find_policy.new.tx.conn.now in
    let one = c.in_ok-policy.ensures.found by_domain c.requires.steady in
    let second = state g.S.Store c.all_members.new.tx.conn.now in
    record { steady = steady_read first second _ _ (c.in_ok-team.ensures.found by_domain (steady_read old first _ _ one)) }

pub returns-in_err-template-clause-found : goal.returns-in_err-template-clause-found
returns-in_err-template-clause-found g c =
    let old = state g.S.Store c.args.tx.now.conn.now in
    let first = state g.S.Store c.find_policy.new.tx.conn.now in
    let one = c.in_ok-policy.ensures.found by_domain c.requires.steady in
    let second = state g.S.Store c.all_members.new.tx.conn.now in
    let third = state g.S.Store c.all_domain_entries.new.tx.conn.now in
    let two = reads_both old first second _ _ _ _ one (c.in_ok-team.ensures.found by_domain (steady_read old first _ _ one)) in
    fails_after old second third _ _ _ _ _ _ c.from_residual-in_err-template.ensures.0 two c.in_err-template.ensures.found

pub returns-in_err-languages-clause-found : goal.returns-in_err-languages-clause-found
returns-in_err-languages-clause-found g c =
    let old = state g.S.Store c.args.tx.now.conn.now in
    let first = state g.S.Store c.find_policy.new.tx.conn.now in
    let one = c.in_ok-policy.ensures.found by_domain c.requires.steady in
    let second = state g.S.Store c.all_members.new.tx.conn.now in
    let third = state g.S.Store c.all_domain_entries.new.tx.conn.now in
    let fourth = state g.S.Store c.all_domain_languages.new.tx.conn.now in
    let two = reads_both old first second _ _ _ _ one (c.in_ok-team.ensures.found by_domain (steady_read old first _ _ one)) in
    let three = reads_both old second third _ _ _ _ two c.in_ok-template.ensures.found in
    fails_after old third fourth _ _ _ _ _ _ c.from_residual-in_err-languages.ensures.0 three c.in_err-languages.ensures.found

pub returns-clause-found : goal.returns-clause-found
returns-clause-found g c =
    let old = state g.S.Store c.args.tx.now.conn.now in
    let first = state g.S.Store c.find_policy.new.tx.conn.now in
    let one = c.in_ok-policy.ensures.found by_domain c.requires.steady in
    let second = state g.S.Store c.all_members.new.tx.conn.now in
    let third = state g.S.Store c.all_domain_entries.new.tx.conn.now in
    let fourth = state g.S.Store c.all_domain_languages.new.tx.conn.now in
    let two = reads_both old first second _ _ _ _ one (c.in_ok-team.ensures.found by_domain (steady_read old first _ _ one)) in
    let three = reads_both old second third _ _ _ _ two c.in_ok-template.ensures.found in
    let four = reads_both old third fourth _ _ _ _ three c.in_ok-languages.ensures.found in
    read_mapped old fourth _ _ _ _ (λ db it. record { team = record { all = it.0.0.1.all; in_order = it.0.0.1.in_order }; policy = it.0.0.0; template = it.0.1; languages = it.1 }) four

pub returns-in_err-policy-clause-disk : goal.returns-in_err-policy-clause-disk
returns-in_err-policy-clause-disk g c =
    let old = state g.S.Store c.args.tx.now.conn.now in
    let first = state g.S.Store c.find_policy.new.tx.conn.now in
    told_on old first first _ c.from_residual.result c.from_residual.ensures.1 c.in_err-policy.ensures.disk

pub returns-in_err-team-clause-disk : goal.returns-in_err-team-clause-disk
returns-in_err-team-clause-disk g c =
    let old = state g.S.Store c.args.tx.now.conn.now in
    let first = state g.S.Store c.find_policy.new.tx.conn.now in
    let second = state g.S.Store c.all_members.new.tx.conn.now in
    let one = c.in_ok-policy.ensures.found by_domain c.requires.steady in
    blames_after old first second _ _ c.from_residual-in_err-team.result _ _ c.from_residual-in_err-team.ensures.1 one (c.in_err-team.ensures.found by_domain (steady_read old first _ _ one)) c.in_err-team.ensures.disk

pub returns-in_err-template-clause-disk : goal.returns-in_err-template-clause-disk
returns-in_err-template-clause-disk g c =
    let old = state g.S.Store c.args.tx.now.conn.now in
    let first = state g.S.Store c.find_policy.new.tx.conn.now in
    let second = state g.S.Store c.all_members.new.tx.conn.now in
    let third = state g.S.Store c.all_domain_entries.new.tx.conn.now in
    let one = c.in_ok-policy.ensures.found by_domain c.requires.steady in
    let two = reads_both old first second _ _ _ _ one (c.in_ok-team.ensures.found by_domain (steady_read old first _ _ one)) in
    blames_after old second third _ _ c.from_residual-in_err-template.result _ _ c.from_residual-in_err-template.ensures.1 two c.in_err-template.ensures.found c.in_err-template.ensures.disk

pub returns-in_err-languages-clause-disk : goal.returns-in_err-languages-clause-disk
returns-in_err-languages-clause-disk g c =
    let old = state g.S.Store c.args.tx.now.conn.now in
    let first = state g.S.Store c.find_policy.new.tx.conn.now in
    let second = state g.S.Store c.all_members.new.tx.conn.now in
    let third = state g.S.Store c.all_domain_entries.new.tx.conn.now in
    let fourth = state g.S.Store c.all_domain_languages.new.tx.conn.now in
    let one = c.in_ok-policy.ensures.found by_domain c.requires.steady in
    let two = reads_both old first second _ _ _ _ one (c.in_ok-team.ensures.found by_domain (steady_read old first _ _ one)) in
    let three = reads_both old second third _ _ _ _ two c.in_ok-template.ensures.found in
    blames_after old third fourth _ _ c.from_residual-in_err-languages.result _ _ c.from_residual-in_err-languages.ensures.1 three c.in_err-languages.ensures.found c.in_err-languages.ensures.disk

pub returns-in_err-policy-clause-errors : goal.returns-in_err-policy-clause-errors
returns-in_err-policy-clause-errors g c =
    let old = state g.S.Store c.args.tx.now.conn.now in
    let first = state g.S.Store c.find_policy.new.tx.conn.now in
    unread_told old first _ c.from_residual.result c.from_residual.ensures.1 (c.in_err-policy.ensures.errors by_domain c.requires.steady)

pub returns-in_err-team-clause-errors : goal.returns-in_err-team-clause-errors
returns-in_err-team-clause-errors g c =
    let old = state g.S.Store c.args.tx.now.conn.now in
    let first = state g.S.Store c.find_policy.new.tx.conn.now in
    let second = state g.S.Store c.all_members.new.tx.conn.now in
    let one = c.in_ok-policy.ensures.found by_domain c.requires.steady in
    unread_after old first second _ _ c.from_residual-in_err-team.result _ _ c.from_residual-in_err-team.ensures.1 one (c.in_err-team.ensures.found by_domain (steady_read old first _ _ one)) (c.in_err-team.ensures.errors by_domain (steady_read old first _ _ one))

pub returns-in_err-template-clause-errors : goal.returns-in_err-template-clause-errors
returns-in_err-template-clause-errors g c =
    let old = state g.S.Store c.args.tx.now.conn.now in
    let first = state g.S.Store c.find_policy.new.tx.conn.now in
    let second = state g.S.Store c.all_members.new.tx.conn.now in
    let third = state g.S.Store c.all_domain_entries.new.tx.conn.now in
    let one = c.in_ok-policy.ensures.found by_domain c.requires.steady in
    let two = reads_both old first second _ _ _ _ one (c.in_ok-team.ensures.found by_domain (steady_read old first _ _ one)) in
    unread_after old second third _ _ c.from_residual-in_err-template.result _ _ c.from_residual-in_err-template.ensures.1 two c.in_err-template.ensures.found c.in_err-template.ensures.errors

pub returns-in_err-languages-clause-errors : goal.returns-in_err-languages-clause-errors
returns-in_err-languages-clause-errors g c =
    let old = state g.S.Store c.args.tx.now.conn.now in
    let first = state g.S.Store c.find_policy.new.tx.conn.now in
    let second = state g.S.Store c.all_members.new.tx.conn.now in
    let third = state g.S.Store c.all_domain_entries.new.tx.conn.now in
    let fourth = state g.S.Store c.all_domain_languages.new.tx.conn.now in
    let one = c.in_ok-policy.ensures.found by_domain c.requires.steady in
    let two = reads_both old first second _ _ _ _ one (c.in_ok-team.ensures.found by_domain (steady_read old first _ _ one)) in
    let three = reads_both old second third _ _ _ _ two c.in_ok-template.ensures.found in
    unread_after old third fourth _ _ c.from_residual-in_err-languages.result _ _ c.from_residual-in_err-languages.ensures.1 three c.in_err-languages.ensures.found c.in_err-languages.ensures.errors
