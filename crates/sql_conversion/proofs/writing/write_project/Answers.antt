use Rattle.std.proofs.Common.{◌≡◌, subst, rules}
use Rattle.sqlite.specs.Held.{state}
use Rattle.office_maps.specs.OfficeIn.{lent_project, office_in}
use Rattle.sql_changes.specs.Commits.{PutsEntries}
use Rattle.sql_changes.specs.OnDomains.{OnDomain}
use Rattle.sql_changes.proofs.DomainWrites.{seen, on_domain_then, on_domain_as}
use Rattle.sql_figures.specs.Figures.{FiguresStay}
use Rattle.sql_commits.proofs.WritesInTurn.{write_then}
use Rattle.sql_conversion.specs.Conversion.{WritesEntries, WritesLanguages, WritesProject, FollowsLanguagesIn}
use Rattle.sql_conversion.proofs.LanguagesCounted.{counted_behind}
use Rattle.sql_decoding.proofs.DiskFailures.{fails_behind, failure_told}
use Rattle.sql_conversion.proofs.writing.write_project.Goals as goal

-- its template, and its languages
pub returns-clause-put : goal.returns-clause-put
returns-clause-put g c =
    let old = state g.S.Store c.args.tx.now.conn.now in
    let domain = c.args.domain.now in
    let mid = state g.S.Store c.put_entries.new.tx.conn.now in
    let new = state g.S.Store c.write_languages.new.tx.conn.now in
    let project = lent_project c.args.project.now in
    let langs = c.args.langs.now in
    let all : c.entries-entries.result.now ≡ project.template = search rules in
    let Puts = PutsEntries 0 c.entries-entries.result.now in
    let Entries = WritesEntries project.template in
    let Languages = WritesLanguages project langs in
    write_then old mid new c.in_ok-put_entries.field-0 c.write_languages.result (OnDomain domain Puts) (OnDomain domain Languages) (OnDomain domain (WritesProject project langs))
    (λ puts. on_domain_then domain Entries Languages (WritesProject project langs) (λ entries languages. (seen domain mid.now, entries, languages)) (on_domain_as domain Puts Entries (λ put. subst (λ es. WritesEntries es (seen domain old.now) (seen domain mid.now)) all (put, c.entries_fit.ensures)) puts)) c.in_ok-put_entries.ensures.put c.write_languages.ensures.put

-- entries count nothing
pub returns-clause-figures : goal.returns-clause-figures
returns-clause-figures g c =
    let old = state g.S.Store c.args.tx.now.conn.now in
    let domain = c.args.domain.now in
    let mid = state g.S.Store c.put_entries.new.tx.conn.now in
    let new = state g.S.Store c.write_languages.new.tx.conn.now in
    let office = office_in c.args.maps.now in
    let langs = c.args.langs.now in
    write_then old mid new c.in_ok-put_entries.field-0 c.write_languages.result FiguresStay (FollowsLanguagesIn domain office langs) (FollowsLanguagesIn domain office langs)
    (counted_behind domain office langs old.now mid.now new.now) c.in_ok-put_entries.ensures.figures c.write_languages.ensures.figures

pub returns-in_err-put_entries-clause-disk : goal.returns-in_err-put_entries-clause-disk
returns-in_err-put_entries-clause-disk g c = failure_told (state g.S.Store c.args.tx.now.conn.now) (state g.S.Store c.put_entries.new.tx.conn.now) _ c.from_residual.result c.from_residual.ensures.1 c.in_err-put_entries.ensures.disk

pub returns-clause-disk : goal.returns-clause-disk
returns-clause-disk g c =
    fails_behind (state g.S.Store c.args.tx.now.conn.now) (state g.S.Store c.put_entries.new.tx.conn.now) (state g.S.Store c.write_languages.new.tx.conn.now) (λ _. ⊥) (λ _. ⊥) c.write_languages.result c.in_ok-put_entries.ensures.put.survives c.write_languages.ensures.put.survives
    c.write_languages.ensures.disk
