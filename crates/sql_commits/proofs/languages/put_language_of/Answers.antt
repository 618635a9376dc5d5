use Rattle.std.proofs.Common.{◌≡◌, true, rules, codes}
use Rattle.sqlite.specs.Held.{state}
use Rattle.po_text.specs.Strings.{is_forms}
use Rattle.sql_columns.specs.Written.{ArePrevious}
use Rattle.sql_schema.specs.Inside.{HoldsValues, PutsIn}
use Rattle.sql_schema.specs.Keys.{first_text}
use Rattle.sql_changes.specs.Commits.{language_cells}
use Rattle.sql_changes.specs.OnDomains.{OnDomain}
use Rattle.sql_commits.specs.Rows.{PutsLanguageOf}
use Rattle.sql_commits.proofs.PlannedWrites.{leaves_with_both, language_told, language_row_told}
use Rattle.sql_commits.proofs.WritesInTurn.{write_mapped, write_ready}
use Rattle.sql_figures.specs.Figures.{FiguresStay}
use Rattle.sql_figures.proofs.FigureSteps.{put_beside, language_beside}
use Rattle.sql_decoding.proofs.DiskFailures.{mapped_told, memory_told}
use Rattle.sql_commits.proofs.languages.put_language_of.Goals as goal

pub returns-clause-put : goal.returns-clause-put
returns-clause-put g c =
    let old = state g.S.Store c.args.tx.now.conn.now in
    let new = state g.S.Store c.put_domain_language.new.tx.conn.now in
    let lang = c.args.lang.now in
    let header = c.args.header.now in
    let Puts = PutsIn (codes "language") first_text (HoldsValues (language_cells lang header)) in
    let domain = c.args.domain.now in
    let told = language_told domain c.as_str.result.now lang c.as_str-2.result.now c.as_str-3.result.now c.rule_text.result.now header old.now new.now (search rules) (search rules) (search rules) (search rules) in
    leaves_with_both old new c.map_err.result domain Puts (is_forms header.forms ≡ true) (ArePrevious header.previous) c.language_fits.ensures.forms c.language_fits.ensures.previous
    (write_mapped old new c.put_domain_language.result c.map_err.result _ _ (OnDomain domain Puts) c.map_err.ensures.cases (λ it. told it.0 it.1) (write_ready old new c.put_domain_language.result _ c.requires.steady c.put_domain_language.ensures.put))

-- languages are beside the figures
pub returns-clause-figures : goal.returns-clause-figures
returns-clause-figures g c =
    write_mapped (state g.S.Store c.args.tx.now.conn.now) (state g.S.Store c.put_domain_language.new.tx.conn.now) c.put_domain_language.result c.map_err.result _ _ FiguresStay c.map_err.ensures.cases (put_beside language_beside)
    c.put_domain_language.ensures.put

pub returns-clause-row : goal.returns-clause-row
returns-clause-row g c =
    let old = state g.S.Store c.args.tx.now.conn.now in
    let new = state g.S.Store c.put_domain_language.new.tx.conn.now in
    let domain = c.args.domain.now in
    let lang = c.args.lang.now in
    let header = c.args.header.now in
    write_mapped old new c.put_domain_language.result c.map_err.result _ _ (PutsLanguageOf domain lang header) c.map_err.ensures.cases
    (language_row_told domain c.as_str.result.now lang c.as_str-2.result.now c.as_str-3.result.now c.rule_text.result.now header old.now new.now (search rules) (search rules) (search rules) (search rules))
    c.put_domain_language.ensures.put

pub returns-in_err-column-clause-disk : goal.returns-in_err-column-clause-disk
returns-in_err-column-clause-disk g c =
    memory_told (state g.S.Store c.args.tx.now.conn.now) (state g.S.Store c.args.tx.now.conn.now) c.from_residual.result c.from_residual.ensures.1

pub returns-clause-disk : goal.returns-clause-disk
returns-clause-disk g c =
    mapped_told (state g.S.Store c.args.tx.now.conn.now) (state g.S.Store c.put_domain_language.new.tx.conn.now) c.put_domain_language.result c.map_err.result _ (λ e f t. t) c.map_err.ensures.cases c.put_domain_language.ensures.disk
