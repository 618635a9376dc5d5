use Rattle.std.proofs.Common.{Some, refl, sym, subst, Option}
use Rattle.std.specs.Prelude.{IsSome}
use Rattle.std.specs.FinMap as maps
use Rattle.std.proofs.lemmas.Result.{IfErr-weaker}
use Rattle.sqlite.specs.Held.{state}
use Rattle.po_text.specs.declared.entry.Entry.{Entry}
use Rattle.office_maps.specs.OfficeIn.{lent_project}
use Rattle.rule_tests.proofs.PlaceTests.{header_there, no_header, rule_of}
use Rattle.sql_schema.specs.Layouts.{by_domain}
use Rattle.sql_adoption.specs.FigureRows.{CountsOneMore}
use Rattle.sql_adoption.specs.FramesKept.{AreLanguageRows, KeepsLang, StandsDomain, TestsLang, walked_of}
use Rattle.sql_adoption.specs.LanguagesKept.{walked_tally}
use Rattle.sql_layouts.proofs.Looked.{looked_weaker}
use Rattle.sql_adoption.proofs.LanguagesTold.{either_less, lang_missing, lang_there}
use Rattle.sql_adoption.proofs.LooksBehind.{not_looked}
use Rattle.sql_adoption.proofs.units_kept.keep_if_there.Goals as goal

pub keep_language-requires-clause-rule : goal.keep_language-requires-clause-rule
keep_language-requires-clause-rule g c =
    rule_of c.args.project.now c.args.lang.now c.in-Some.language.now (header_there c.args.project.now c.args.lang.now c.in-Some.language.now c.in-Some.ensures)

pub returns-in-Some-clause-found : goal.returns-in-Some-clause-found
returns-in-Some-clause-found g c =
    let project = lent_project c.args.project.now in
    let domain = c.args.domain.now in
    let lang = c.args.lang.now in
    let old = c.args.counted.now.items in
    let new = c.keep_language.new.counted.items in
    let header = header_there c.args.project.now lang c.in-Some.language.now c.in-Some.ensures in
    looked_weaker (state g.S.Store c.args.connection.now) (state g.S.Store c.keep_language.new.connection) c.keep_language.result
    (λ db _. AreLanguageRows db project domain lang × CountsOneMore (Some (walked_tally db project.template domain lang)) (domain, lang) old new)
    (λ db _. TestsLang db project domain lang × CountsOneMore (walked_of db project domain lang) (domain, lang) old new)
    (λ db u it. (λ headed. it.0, lang_there db project domain lang c.in-Some.language.now.header old new header it.1)) c.keep_language.ensures.found

pub returns-in-Some-clause-refused : goal.returns-in-Some-clause-refused
returns-in-Some-clause-refused g c =
    let project = lent_project c.args.project.now in
    let domain = c.args.domain.now in
    let lang = c.args.lang.now in
    let db = (state g.S.Store c.args.connection.now).now in
    let header = header_there c.args.project.now lang c.in-Some.language.now c.in-Some.ensures in
    let headed : IsSome (maps.get project.headers lang) = subst (λ (o : Option Entry). IsSome o) (sym header) refl in
    IfErr-weaker c.keep_language.result _ _
    (λ fault refused clean. either_less (λ (stands : StandsDomain db project domain). stands lang headed) (λ (keeps : KeepsLang db project domain lang). keeps headed) fault (refused clean)) c.keep_language.ensures.refused

pub returns-in-None-clause-found : goal.returns-in-None-clause-found
returns-in-None-clause-found g c =
    let project = lent_project c.args.project.now in
    let domain = c.args.domain.now in
    let lang = c.args.lang.now in
    let s = state g.S.Store c.args.connection.now in
    let items = c.args.counted.now.items in
    not_looked by_domain s _ (λ db _. TestsLang db project domain lang × CountsOneMore (walked_of db project domain lang) (domain, lang) items items) c.requires.autocommit c.requires.idle c.requires.is_open
    (λ clean. lang_missing s.now project domain lang items (no_header c.args.project.now lang c.in-None.ensures))
