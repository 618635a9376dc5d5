use Rattle.std.proofs.Common.{rules, codes}
use Rattle.sqlite.specs.Held.{state}
use Rattle.sql_schema.specs.Keys.{text_at, has_text}
use Rattle.sql_meaning.specs.RowChanges.{TakesIn}
use Rattle.sql_changes.specs.OnDomains.{OnDomain}
use Rattle.sql_commits.proofs.EntriesShown.{taken_told}
use Rattle.sql_commits.proofs.PlannedWrites.{leaves_rows}
use Rattle.sql_commits.proofs.WritesInTurn.{write_mapped, write_ready}
use Rattle.sql_figures.specs.Figures.{FiguresStay}
use Rattle.sql_figures.proofs.FigureSteps.{taken_beside, entry_beside}
use Rattle.sql_decoding.proofs.DiskFailures.{mapped_told, mild_told, needed_is}
use Rattle.sql_commits.proofs.changed_entries.take_shown.Goals as goal

pub returns-clause-taken : goal.returns-clause-taken
returns-clause-taken g c =
    let old = state g.S.Store c.args.tx.now.conn.now in
    let new = state g.S.Store c.take_domain_entry.new.tx.conn.now in
    let domain = c.args.domain.now in
    let row = c.args.row.now in
    let Takes = TakesIn (codes "template") (has_text 2 (text_at 4 row)) in
    leaves_rows old new c.map_err.result domain Takes
    (write_mapped old new c.take_domain_entry.result c.map_err.result _ _ (OnDomain domain Takes) c.map_err.ensures.cases
    (λ it. taken_told domain c.as_str.result.now c.as_str-2.result.now _ row old.now new.now (search rules) (search rules) (needed_is _ c.text_in.result c.in_ok-key.key c.in_ok-key.ensures.value c.text_in.ensures.shown) it.0 it.1)
    (write_ready old new c.take_domain_entry.result _ c.requires.steady c.take_domain_entry.ensures.taken))

-- the template is beside the figures
pub returns-clause-figures : goal.returns-clause-figures
returns-clause-figures g c =
    write_mapped (state g.S.Store c.args.tx.now.conn.now) (state g.S.Store c.take_domain_entry.new.tx.conn.now) c.take_domain_entry.result c.map_err.result _ _ FiguresStay c.map_err.ensures.cases (taken_beside entry_beside)
    c.take_domain_entry.ensures.taken

pub returns-in_err-key-clause-disk : goal.returns-in_err-key-clause-disk
returns-in_err-key-clause-disk g c =
    mild_told (state g.S.Store c.args.tx.now.conn.now) (state g.S.Store c.args.tx.now.conn.now) _ c.from_residual.result c.from_residual.ensures.1 c.in_err-key.ensures.told

pub returns-clause-disk : goal.returns-clause-disk
returns-clause-disk g c =
    mapped_told (state g.S.Store c.args.tx.now.conn.now) (state g.S.Store c.take_domain_entry.new.tx.conn.now) c.take_domain_entry.result c.map_err.result _ (λ e f t. t) c.map_err.ensures.cases c.take_domain_entry.ensures.disk
