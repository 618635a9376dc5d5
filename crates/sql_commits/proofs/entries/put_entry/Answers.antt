use Rattle.std.proofs.Common.{◌≡◌, rules, arith, w64, codes}
use Rattle.std.proofs.lemmas.Int.{to_z_pos}
use Rattle.sqlite.specs.Held.{state}
use Rattle.units.specs.KeyTexts.{HasStrings}
use Rattle.units.specs.Units.{key_of}
use Rattle.sql_schema.specs.Inside.{PutsIn}
use Rattle.sql_schema.specs.Keys.{row_number}
use Rattle.sql_changes.specs.Commits.{entry_row}
use Rattle.sql_changes.specs.OnDomains.{OnDomain}
use Rattle.sql_commits.specs.Rows.{PutsEntryOf}
use Rattle.sql_commits.proofs.PlannedWrites.{leaves_with, entry_told, entry_row_told}
use Rattle.sql_commits.proofs.WritesInTurn.{write_mapped, write_ready}
use Rattle.sql_figures.specs.Figures.{FiguresStay}
use Rattle.sql_figures.proofs.FigureSteps.{put_beside, entry_beside}
use Rattle.sql_decoding.proofs.DiskFailures.{mapped_told, memory_told}
use Rattle.sql_commits.proofs.entries.put_entry.Goals as goal

pub returns-clause-put : goal.returns-clause-put
returns-clause-put g c =
    let old = state g.S.Store c.args.tx.now.conn.now in
    let new = state g.S.Store c.put_domain_entry.new.tx.conn.now in
    let entry = c.args.entry.now in
    let place = c.args.place in
    let Puts = PutsIn (codes "template") row_number (λ row. row ≡ entry_row place entry) in
    let domain = c.args.domain.now in
    let told = entry_told domain c.as_str.result.now place _ c.as_str-2.result.now c.as_str-3.result.now c.as_str-4.result.now c.as_str-5.result.now _ entry old.now new.now (search rules)
    (to_z_pos w64 place (omega (arith, c.requires.fits))) (search rules) (search rules) (search rules) (search rules) (search rules) in
    leaves_with old new c.map_err.result domain Puts (HasStrings (key_of entry)) c.entry_key_fits.ensures.strings
    (write_mapped old new c.put_domain_entry.result c.map_err.result _ _ (OnDomain domain Puts) c.map_err.ensures.cases (λ it. told it.0 it.1) (write_ready old new c.put_domain_entry.result _ c.requires.steady c.put_domain_entry.ensures.put))

-- the template is beside the figures
pub returns-clause-figures : goal.returns-clause-figures
returns-clause-figures g c =
    write_mapped (state g.S.Store c.args.tx.now.conn.now) (state g.S.Store c.put_domain_entry.new.tx.conn.now) c.put_domain_entry.result c.map_err.result _ _ FiguresStay c.map_err.ensures.cases (put_beside entry_beside)
    c.put_domain_entry.ensures.put

pub returns-clause-row : goal.returns-clause-row
returns-clause-row g c =
    let old = state g.S.Store c.args.tx.now.conn.now in
    let new = state g.S.Store c.put_domain_entry.new.tx.conn.now in
    let entry = c.args.entry.now in
    let place = c.args.place in
    let domain = c.args.domain.now in
    write_mapped old new c.put_domain_entry.result c.map_err.result _ _ (PutsEntryOf domain place entry) c.map_err.ensures.cases
    (entry_row_told domain c.as_str.result.now place _ c.as_str-2.result.now c.as_str-3.result.now c.as_str-4.result.now c.as_str-5.result.now _ entry old.now new.now (search rules)
    (to_z_pos w64 place (omega (arith, c.requires.fits))) (search rules) (search rules) (search rules) (search rules) (search rules))
    c.put_domain_entry.ensures.put

pub returns-in_err-columns-clause-disk : goal.returns-in_err-columns-clause-disk
returns-in_err-columns-clause-disk g c =
    memory_told (state g.S.Store c.args.tx.now.conn.now) (state g.S.Store c.args.tx.now.conn.now) c.from_residual.result c.from_residual.ensures.1

pub returns-clause-disk : goal.returns-clause-disk
returns-clause-disk g c =
    mapped_told (state g.S.Store c.args.tx.now.conn.now) (state g.S.Store c.put_domain_entry.new.tx.conn.now) c.put_domain_entry.result c.map_err.result _ (λ e f t. t) c.map_err.ensures.cases c.put_domain_entry.ensures.disk
