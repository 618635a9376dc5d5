use Rattle.std.specs.Prelude.{⊤}
use Rattle.std.proofs.Common.{◌≡◌, [], ◌∷◌, Some, None, option_map, Ok, refl, sym, ap, ◌∙◌, rules}
use Rattle.std.specs.FinMap as maps
use Rattle.std.specs.Option.{option_copied}
use Rattle.sqlite.specs.Held.{state}
use Rattle.units.specs.Office.{same_domain, project_in}
use Rattle.units.specs.Project.{Project, units_of}
use Rattle.office_specification.specs.declared.values.Language.{Language}
use Rattle.office_maps.specs.OfficeIn.{lent_project, office_in}
use Rattle.sql_decoding.specs.declared.faults.Failure.{Failure}
use Rattle.sql_schema.specs.SeenRows.{AreSameByName}
use Rattle.sql_changes.specs.Commits.{PutsLanguage}
use Rattle.sql_changes.specs.OnDomains.{MakesIf, OnDomain}
use Rattle.sql_changes.proofs.DomainWrites.{seen, on_domain_then, on_domain_as, spares_last, tally_on_domains, nothing_on_domain}
use Rattle.sql_figures.specs.Figures.{FiguresStay}
use Rattle.sql_figures.proofs.FigureSteps.{stay_both}
use Rattle.sql_commits.specs.Figures.{PutsTally}
use Rattle.sql_commits.proofs.WritesInTurn.{nothing_put, write_then, write_as, write_fails}
use Rattle.sql_conversion.specs.Conversion.{WritesKept, WritesWhole, WritesThere, FollowsLanguagesIn}
use Rattle.sql_conversion.proofs.LanguagesFound.{found_there, writes_found, writes_none}
use Rattle.sql_conversion.proofs.LanguagesCounted.{language_counted, none_counted_of}
use Rattle.sql_decoding.proofs.DiskFailures.{fails_behind, failure_told, mild_told}
use Rattle.sql_laws.proofs.Transactions.{survives_both}
use Rattle.sql_conversion.proofs.writing.write_language_of.Goals as goal

-- its row, its units and their tally
pub returns-in_ok-tally-in-Some-clause-put : goal.returns-in_ok-tally-in-Some-clause-put
returns-in_ok-tally-in-Some-clause-put g c =
    let old = state g.S.Store c.args.tx.now.conn.now in
    let domain = c.args.domain.now in
    let mid = state g.S.Store c.put_language_of.new.tx.conn.now in
    let next = state g.S.Store c.write_units_of.new.tx.conn.now in
    let new = state g.S.Store c.put_tally_of.new.tx.conn.now in
    let project = lent_project c.args.project.now in
    let lang = c.args.lang.now in
    let header = c.in-Some.language.now.header in
    let units = units_of project lang in
    let Row = PutsLanguage lang header in
    let Units = WritesKept lang units in
    let Whole = WritesWhole lang header units in
    let written = write_then old mid next {F = Failure} c.in_ok-put_language_of-in-Some.field-0 (Ok c.in_ok-write_units_of-in-Some.field-0) (OnDomain domain Row) (OnDomain domain Units) (OnDomain domain Whole)
    (on_domain_then domain Row Units Whole (λ first second. ((seen domain mid.now, first, second), c.language_fits.ensures))) c.in_ok-put_language_of-in-Some.ensures.put c.in_ok-write_units_of-in-Some.ensures.put in
    let whole = write_then old next new c.in_ok-write_units_of-in-Some.field-0 c.put_tally_of.result (OnDomain domain Whole) (PutsTally domain lang c.in_ok-tally-in-Some.tally) (OnDomain domain Whole)
    (λ whole tallied. spares_last (λ rows. ⊤) (λ d. MakesIf (same_domain d domain) Whole AreSameByName) whole (tally_on_domains tallied)) written c.put_tally_of.ensures.put in
    write_as old new c.put_tally_of.result (OnDomain domain Whole) (OnDomain domain (WritesThere project lang))
    (on_domain_as domain Whole (WritesThere project lang) (writes_found c.args.project.now lang c.in-Some.language.now c.get.result c.get.ensures (ap option_copied c.in-Some.is) (seen domain old.now) (seen domain new.now))) whole

-- it counts its units
pub returns-in_ok-tally-in-Some-clause-figures : goal.returns-in_ok-tally-in-Some-clause-figures
returns-in_ok-tally-in-Some-clause-figures g c =
    let old = state g.S.Store c.args.tx.now.conn.now in
    let domain = c.args.domain.now in
    let mid = state g.S.Store c.put_language_of.new.tx.conn.now in
    let next = state g.S.Store c.write_units_of.new.tx.conn.now in
    let new = state g.S.Store c.put_tally_of.new.tx.conn.now in
    let office = office_in c.args.maps.now in
    let lang = c.args.lang.now in
    let header = c.in-Some.language.now.header in
    let tally = c.in_ok-tally-in-Some.tally in
    let there : maps.get (project_in office domain).headers lang ≡ Some header =
    ap (λ (p : Project). maps.get p.headers lang) (sym c.requires.lent) ∙ found_there c.args.project.now lang c.get.result c.get.ensures
    ∙ ap (option_map (λ (language : Language). language.header)) (ap option_copied c.in-Some.is) in
    let written = write_then old mid next {F = Failure} c.in_ok-put_language_of-in-Some.field-0 (Ok c.in_ok-write_units_of-in-Some.field-0) FiguresStay FiguresStay FiguresStay stay_both
    c.in_ok-put_language_of-in-Some.ensures.figures c.in_ok-write_units_of-in-Some.ensures.figures in
    write_then old next new c.in_ok-write_units_of-in-Some.field-0 c.put_tally_of.result FiguresStay (PutsTally domain lang tally) (FollowsLanguagesIn domain office (lang ∷ []))
    (language_counted domain office lang header tally old.now next.now new.now there c.in_ok-tally-in-Some.ensures.tally) written c.put_tally_of.ensures.put

-- where nothing could be counted
pub returns-in_err-tally-in-Some-clause-put : goal.returns-in_err-tally-in-Some-clause-put
returns-in_err-tally-in-Some-clause-put g c =
    let old = state g.S.Store c.args.tx.now.conn.now in
    let domain = c.args.domain.now in
    let mid = state g.S.Store c.put_language_of.new.tx.conn.now in
    let next = state g.S.Store c.write_units_of.new.tx.conn.now in
    let project = lent_project c.args.project.now in
    let lang = c.args.lang.now in
    write_fails old mid next {F = Failure} c.in_ok-put_language_of-in-Some.field-0 (Ok c.in_ok-write_units_of-in-Some.field-0) c.from_residual-in_err-tally-in-Some.result (OnDomain domain (PutsLanguage lang c.in-Some.language.now.header))
    (OnDomain domain (WritesKept lang (units_of project lang))) (OnDomain domain (WritesThere project lang)) (search rules) c.in_ok-put_language_of-in-Some.ensures.put c.in_ok-write_units_of-in-Some.ensures.put

pub returns-in_err-tally-in-Some-clause-figures : goal.returns-in_err-tally-in-Some-clause-figures
returns-in_err-tally-in-Some-clause-figures g c =
    let old = state g.S.Store c.args.tx.now.conn.now in
    let domain = c.args.domain.now in
    let mid = state g.S.Store c.put_language_of.new.tx.conn.now in
    let next = state g.S.Store c.write_units_of.new.tx.conn.now in
    write_fails old mid next {F = Failure} c.in_ok-put_language_of-in-Some.field-0 (Ok c.in_ok-write_units_of-in-Some.field-0) c.from_residual-in_err-tally-in-Some.result FiguresStay FiguresStay
    (FollowsLanguagesIn domain (office_in c.args.maps.now) (c.args.lang.now ∷ [])) (search rules) c.in_ok-put_language_of-in-Some.ensures.figures c.in_ok-write_units_of-in-Some.ensures.figures

-- one that isn't there
pub returns-in-None-clause-put : goal.returns-in-None-clause-put
returns-in-None-clause-put g c =
    let old = state g.S.Store c.args.tx.now.conn.now in
    let domain = c.args.domain.now in
    let There = WritesThere (lent_project c.args.project.now) c.args.lang.now in
    nothing_put old {E = Failure} _ (OnDomain domain There) c.requires.steady c.requires.open
    (nothing_on_domain domain There old.now (writes_none c.args.project.now c.args.lang.now None c.in-None.ensures refl (seen domain old.now)))

pub returns-in-None-clause-figures : goal.returns-in-None-clause-figures
returns-in-None-clause-figures g c =
    let old = state g.S.Store c.args.tx.now.conn.now in
    let domain = c.args.domain.now in
    let office = office_in c.args.maps.now in
    let lang = c.args.lang.now in
    let missing : maps.get (project_in office domain).headers lang ≡ None =
    ap (λ (p : Project). maps.get p.headers lang) (sym c.requires.lent) ∙ found_there c.args.project.now lang None c.in-None.ensures in
    nothing_put old {E = Failure} _ (FollowsLanguagesIn domain office (lang ∷ [])) c.requires.steady c.requires.open (none_counted_of domain office lang old.now missing)

pub returns-in_err-put_language_of-in-Some-clause-disk : goal.returns-in_err-put_language_of-in-Some-clause-disk
returns-in_err-put_language_of-in-Some-clause-disk g c = failure_told (state g.S.Store c.args.tx.now.conn.now) (state g.S.Store c.put_language_of.new.tx.conn.now) _ c.from_residual.result c.from_residual.ensures.1 c.in_err-put_language_of-in-Some.ensures.disk

pub returns-in_err-write_units_of-in-Some-clause-disk : goal.returns-in_err-write_units_of-in-Some-clause-disk
returns-in_err-write_units_of-in-Some-clause-disk g c =
    let mid = state g.S.Store c.put_language_of.new.tx.conn.now in
    let next = state g.S.Store c.write_units_of.new.tx.conn.now in
    fails_behind (state g.S.Store c.args.tx.now.conn.now) mid next (λ _. ⊥) (λ _. ⊥) c.from_residual-in_err-write_units_of-in-Some.result c.in_ok-put_language_of-in-Some.ensures.put.survives c.in_err-write_units_of-in-Some.ensures.put.survives
    (failure_told mid next _ c.from_residual-in_err-write_units_of-in-Some.result c.from_residual-in_err-write_units_of-in-Some.ensures.1 c.in_err-write_units_of-in-Some.ensures.disk)

pub returns-in_err-tally-in-Some-clause-disk : goal.returns-in_err-tally-in-Some-clause-disk
returns-in_err-tally-in-Some-clause-disk g c = mild_told (state g.S.Store c.args.tx.now.conn.now) (state g.S.Store c.write_units_of.new.tx.conn.now) _ c.from_residual-in_err-tally-in-Some.result c.from_residual-in_err-tally-in-Some.ensures.1 c.in_err-tally-in-Some.ensures.disk

pub returns-in_ok-tally-in-Some-clause-disk : goal.returns-in_ok-tally-in-Some-clause-disk
returns-in_ok-tally-in-Some-clause-disk g c =
    let both = survives_both g.S.Store c.args.tx.now.conn.now c.put_language_of.new.tx.conn.now c.write_units_of.new.tx.conn.now c.in_ok-put_language_of-in-Some.ensures.put.survives c.in_ok-write_units_of-in-Some.ensures.put.survives in
    fails_behind (state g.S.Store c.args.tx.now.conn.now) (state g.S.Store c.write_units_of.new.tx.conn.now) (state g.S.Store c.put_tally_of.new.tx.conn.now) (λ _. ⊥) (λ _. ⊥) c.put_tally_of.result both c.put_tally_of.ensures.put.survives c.put_tally_of.ensures.disk
