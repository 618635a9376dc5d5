use Rattle.std.proofs.Common.{◌≡◌, List, sym, subst, rules}
use Rattle.std.proofs.lemmas.Result.{IfErr-weaker}
use Rattle.sqlite.specs.Held.{state}
use Rattle.po_text.specs.Texts.{Text}
use Rattle.units.specs.Office.{project_in}
use Rattle.units.specs.Project.{Project}
use Rattle.office_maps.specs.OfficeIn.{lent_project, office_in}
use Rattle.rule_tests.specs.Given.{AreAll}
use Rattle.sql_schema.specs.Layouts.{by_domain}
use Rattle.sql_adoption.specs.FramesKept.{CountsLangs, KeepsDomain, KeepsThere, StandsDomain, StandsThere, TestsDomain, TestsProject}
use Rattle.sql_layouts.proofs.Looked.{looked_weaker}
use Rattle.sql_adoption.proofs.LanguagesTold.{either_less, missing_tested}
use Rattle.sql_adoption.proofs.LooksBehind.{not_looked}
use Rattle.sql_adoption.proofs.units_kept.keep_domain.Goals as goal

pub keep_project-requires-clause-all : goal.keep_project-requires-clause-all
keep_project-requires-clause-all g c =
    let office = office_in c.args.frame.now.maps in
    let domain = c.args.domain.now in
    let same : c.as_slice-langs.result.now ≡ c.args.frame.now.langs.items = search rules in
    subst (λ (p : Project). AreAll p.headers c.as_slice-langs.result.now) (sym c.in-Some.ensures.its) (subst (λ (langs : List Text). AreAll (project_in office domain).headers langs) (sym same) (c.requires.holds.langs domain))

pub returns-in-Some-clause-found : goal.returns-in-Some-clause-found
returns-in-Some-clause-found g c =
    let office = office_in c.args.frame.now.maps in
    let domain = c.args.domain.now in
    let old = c.args.counted.now.items in
    let new = c.keep_project.new.counted.items in
    let same : c.as_slice-langs.result.now ≡ c.args.frame.now.langs.items = search rules in
    looked_weaker (state g.S.Store c.args.connection.now) (state g.S.Store c.keep_project.new.connection) c.keep_project.result
    (λ db _. TestsProject db (lent_project c.in-Some.project) domain × CountsLangs db (lent_project c.in-Some.project) domain c.as_slice-langs.result.now old new)
    (λ db _. TestsDomain db office domain × CountsLangs db (project_in office domain) domain c.args.frame.now.langs.items old new)
    (λ db u it. (
      λ there. subst (λ (p : Project). TestsProject db p domain) c.in-Some.ensures.its it.0,
      subst (λ (p : Project). CountsLangs db p domain c.args.frame.now.langs.items old new) c.in-Some.ensures.its
          (subst (λ (langs : List Text). CountsLangs db (lent_project c.in-Some.project) domain langs old new) same it.1),
    )) c.keep_project.ensures.found

pub returns-in-Some-clause-refused : goal.returns-in-Some-clause-refused
returns-in-Some-clause-refused g c =
    let office = office_in c.args.frame.now.maps in
    let domain = c.args.domain.now in
    let db = (state g.S.Store c.args.connection.now).now in
    IfErr-weaker c.keep_project.result _ _
    (λ fault refused clean. either_less (λ (stands : StandsThere db office domain). subst (λ (p : Project). StandsDomain db p domain) (sym c.in-Some.ensures.its) (stands c.in-Some.ensures.there))
    (λ (keeps : KeepsThere db office domain). subst (λ (p : Project). KeepsDomain db p domain) (sym c.in-Some.ensures.its) (keeps c.in-Some.ensures.there)) fault (refused clean)) c.keep_project.ensures.refused

pub returns-in-None-clause-found : goal.returns-in-None-clause-found
returns-in-None-clause-found g c =
    let office = office_in c.args.frame.now.maps in
    let domain = c.args.domain.now in
    let s = state g.S.Store c.args.connection.now in
    let items = c.args.counted.now.items in
    let langs = c.args.frame.now.langs.items in
    not_looked by_domain s _ (λ db _. TestsDomain db office domain × CountsLangs db (project_in office domain) domain langs items items) c.requires.autocommit c.requires.idle c.requires.is_open
    (λ clean. missing_tested office s.now domain langs items c.in-None.ensures.none)
