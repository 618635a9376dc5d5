use Rattle.std.proofs.Common.{Ok, Err}
use Rattle.std.proofs.lemmas.Result.{err_from_is_err_and}
use Rattle.sqlite.specs.Held.{state}
use Rattle.po_text.specs.Texts.{Text}
use Rattle.office_maps.specs.OfficeIn.{lent_project}
use Rattle.sql_adoption.specs.FramesKept.{CountsLangs, KeepsLang, RefusesEither, StandsDomain, TestsLangs}
use Rattle.sql_adoption.specs.declared.faults.OpenFault.{OpenFault}
use Rattle.sql_layouts.proofs.Looked.{both_looked, idle_still, looked_failed}
use Rattle.sql_adoption.proofs.LanguagesTold.{all_langs, either_less, LangsSoFar, no_lang_yet, one_lang_more, OneLang}
use Rattle.sql_adoption.proofs.LooksBehind.{refused_behind}
use Rattle.sql_adoption.proofs.OpensBlame.{fault_opens, opens_behind}
use Rattle.sql_adoption.proofs.units_kept.keep_languages.Goals as goal

pub loop-lang-init : goal.loop-lang-init
loop-lang-init g c = no_lang_yet (lent_project c.args.project.now) c.args.domain.now c.args.langs.now (state g.S.Store c.args.connection.now) c.args.counted.now.items c.requires.autocommit c.requires.idle c.requires.is_open

pub loop-lang-preserved : goal.loop-lang-preserved
loop-lang-preserved g c =
    one_lang_more (lent_project c.args.project.now) c.args.domain.now c.args.langs.now (state g.S.Store c.args.connection.now) (state g.S.Store c.loop-lang.connection) (state g.S.Store c.keep_if_there.new.connection)
    c.in_ok-keep_if_there.field-0 c.loop-lang.lang-index c.lang-item.result c.args.counted.now.items c.loop-lang.counted.items c.keep_if_there.new.counted.items c.loop-lang-test.true c.lang-item.is c.loop-lang.invariant
    c.in_ok-keep_if_there.ensures.found

pub keep_if_there-requires-clause-idle : goal.keep_if_there-requires-clause-idle
keep_if_there-requires-clause-idle g c = idle_still (state g.S.Store c.args.connection.now) (state g.S.Store c.loop-lang.connection) {E = OpenFault} (Ok tt) _ c.requires.idle c.loop-lang.invariant

pub keep_if_there-requires-clause-is_open : goal.keep_if_there-requires-clause-is_open
keep_if_there-requires-clause-is_open g c = c.loop-lang.invariant.is_open

pub returns-clause-found : goal.returns-clause-found
returns-clause-found g c =
    all_langs (lent_project c.args.project.now) c.args.domain.now c.args.langs.now (state g.S.Store c.args.connection.now) (state g.S.Store c.loop-lang.connection) _ c.loop-lang.lang-index c.args.counted.now.items c.loop-lang.counted.items
    c.loop-lang-test.false c.loop-lang.invariant

pub returns-in_err-keep_if_there-clause-found : goal.returns-in_err-keep_if_there-clause-found
returns-in_err-keep_if_there-clause-found g c =
    let project = lent_project c.args.project.now in
    let domain = c.args.domain.now in
    let langs = c.args.langs.now in
    let a = state g.S.Store c.args.connection.now in
    let new = c.keep_if_there.new.counted.items in
    looked_failed a (state g.S.Store c.keep_if_there.new.connection) (Err c.in_err-keep_if_there.field-0.0) c.from_residual.result _ (λ db _. TestsLangs db project domain langs × CountsLangs db project domain langs c.args.counted.now.items new)
    c.from_residual.ensures.0
    (both_looked a (state g.S.Store c.loop-lang.connection) (state g.S.Store c.keep_if_there.new.connection) {E = OpenFault} tt (Err c.in_err-keep_if_there.field-0.0)
    (LangsSoFar project domain langs c.loop-lang.lang-index c.args.counted.now.items c.loop-lang.counted.items) (λ db _. OneLang project domain langs c.lang-item.result c.loop-lang.counted.items new db) c.loop-lang.invariant
    c.in_err-keep_if_there.ensures.found)

pub returns-in_err-keep_if_there-clause-refused : goal.returns-in_err-keep_if_there-clause-refused
returns-in_err-keep_if_there-clause-refused g c =
    let p = err_from_is_err_and c.from_residual.result c.from_residual.ensures.1 in
    let project = lent_project c.args.project.now in
    let domain = c.args.domain.now in
    let langs = c.args.langs.now in
    let lang = c.lang-item.result in
    let a = state g.S.Store c.args.connection.now in
    rw (p.1, p.2) (refused_behind a (state g.S.Store c.loop-lang.connection) (state g.S.Store c.keep_if_there.new.connection) tt (Err c.in_err-keep_if_there.field-0.0)
    (LangsSoFar project domain langs c.loop-lang.lang-index c.args.counted.now.items c.loop-lang.counted.items) (λ db _. OneLang project domain langs lang c.loop-lang.counted.items c.keep_if_there.new.counted.items db) c.loop-lang.invariant
    c.in_err-keep_if_there.ensures.found (λ db fault. RefusesEither (StandsDomain db project domain) (KeepsLang db project domain lang) fault)
    (λ db fault. RefusesEither (StandsDomain db project domain) ((l : Text) → KeepsLang db project domain l) fault)
    (λ early fault far. either_less (λ (stands : StandsDomain a.now project domain). stands) (λ (keeps : (l : Text) → KeepsLang a.now project domain l). keeps lang) fault) c.in_err-keep_if_there.ensures.refused)

pub returns-in_err-keep_if_there-clause-disk : goal.returns-in_err-keep_if_there-clause-disk
returns-in_err-keep_if_there-clause-disk g c =
    let b = state g.S.Store c.loop-lang.connection in
    let d = state g.S.Store c.keep_if_there.new.connection in
    opens_behind (state g.S.Store c.args.connection.now) b d _ _ c.from_residual.result c.loop-lang.invariant.survives c.in_err-keep_if_there.ensures.found.survives
    (fault_opens b d _ c.from_residual.result c.from_residual.ensures.1 c.in_err-keep_if_there.ensures.disk)
