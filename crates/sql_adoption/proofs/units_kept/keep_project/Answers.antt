use Rattle.std.proofs.Common.{Ok, true, false, sym, ◌∙◌}
use Rattle.std.proofs.lemmas.Bool.{false≢true}
use Rattle.std.proofs.lemmas.Result.{IfErr-weaker}
use Rattle.sqlite.specs.Held.{state}
use Rattle.office_maps.specs.OfficeIn.{lent_project}
use Rattle.sql_schema.specs.Layouts.{by_domain}
use Rattle.sql_adoption.specs.FramesKept.{CountsLangs, KeepsDomain, StandsDomain, TestsLangs, TestsProject}
use Rattle.sql_adoption.specs.declared.faults.OpenFault.{OpenFault}
use Rattle.sql_adoption.specs.declared.faults.OpenFault.TheVariants.{Foreign}
use Rattle.sql_adoption.specs.declared.faults.Mismatch.TheVariants.{BrokenRules}
use Rattle.sql_layouts.proofs.Looked.{looked_failed, looked_in_vain, looked_weaker}
use Rattle.sql_adoption.proofs.LanguagesTold.{either_less, project_told}
use Rattle.sql_adoption.proofs.LooksBehind.{not_looked}
use Rattle.sql_adoption.proofs.OpensBlame.{memory_opens}
use Rattle.sql_adoption.proofs.units_kept.keep_project.Goals as goal

pub returns-clause-found : goal.returns-clause-found
returns-clause-found g c =
    let project = lent_project c.args.project.now in
    let domain = c.args.domain.now in
    let langs = c.args.langs.now in
    let old = c.args.counted.now.items in
    let new = c.keep_languages.new.counted.items in
    looked_weaker (state g.S.Store c.args.connection.now) (state g.S.Store c.keep_languages.new.connection) c.keep_languages.result (λ db _. TestsLangs db project domain langs × CountsLangs db project domain langs old new)
    (λ db _. TestsProject db project domain × CountsLangs db project domain langs old new)
    (λ db u it. (project_told project domain langs db c.requires.all (c.in_ok-keeps_bare_rules.ensures.0 c.if-not-branch.false) it.0, it.1)) c.keep_languages.ensures.found

pub returns-clause-refused : goal.returns-clause-refused
returns-clause-refused g c =
    let project = lent_project c.args.project.now in
    let domain = c.args.domain.now in
    let db = (state g.S.Store c.args.connection.now).now in
    IfErr-weaker c.keep_languages.result _ _
    (λ fault refused clean. either_less (λ (stands : StandsDomain db project domain). stands) (λ (keeps : KeepsDomain db project domain). keeps.each) fault (refused clean)) c.keep_languages.ensures.refused

pub returns-then-not-branch-clause-found : goal.returns-then-not-branch-clause-found
returns-then-not-branch-clause-found g c =
    let project = lent_project c.args.project.now in
    let s = state g.S.Store c.args.connection.now in
    let items = c.args.counted.now.items in
    looked_in_vain s s {E = OpenFault} (Ok (tt {0})) (Foreign BrokenRules) (λ db _. Unit {0}) (λ db _. TestsProject db project c.args.domain.now × CountsLangs db project c.args.domain.now c.args.langs.now items items)
    (not_looked by_domain s (tt {0}) (λ db _. Unit {0}) c.requires.autocommit c.requires.idle c.requires.is_open (λ clean. tt {0}))

pub returns-then-not-branch-clause-refused : goal.returns-then-not-branch-clause-refused
returns-then-not-branch-clause-refused g c = λ clean keeps. false≢true (sym c.if-not-branch.true ∙ c.in_ok-keeps_bare_rules.ensures.1 keeps.bare)

pub returns-in_err-keeps_bare_rules-clause-found : goal.returns-in_err-keeps_bare_rules-clause-found
returns-in_err-keeps_bare_rules-clause-found g c =
    let project = lent_project c.args.project.now in
    let s = state g.S.Store c.args.connection.now in
    let items = c.args.counted.now.items in
    looked_failed s s {E = OpenFault} (Ok (tt {0})) c.from_residual.result (λ db _. Unit {0}) (λ db _. TestsProject db project c.args.domain.now × CountsLangs db project c.args.domain.now c.args.langs.now items items) c.from_residual.ensures.0
    (not_looked by_domain s (tt {0}) (λ db _. Unit {0}) c.requires.autocommit c.requires.idle c.requires.is_open (λ clean. tt {0}))

pub returns-in_err-keeps_bare_rules-clause-disk : goal.returns-in_err-keeps_bare_rules-clause-disk
returns-in_err-keeps_bare_rules-clause-disk g c = memory_opens (state g.S.Store c.args.connection.now) (state g.S.Store c.args.connection.now) c.from_residual.result c.from_residual.ensures.1

pub returns-then-not-branch-clause-disk : goal.returns-then-not-branch-clause-disk
returns-then-not-branch-clause-disk g c = λ clean same. absurd cc
