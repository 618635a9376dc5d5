use Rattle.std.proofs.Common.{rules, refl}
use Rattle.sqlite.specs.Held.{state}
use Rattle.sql_changes.specs.OnDomains.{OnDomain}
use Rattle.sql_changes.specs.UnitWrites.{PutsUnitRow}
use Rattle.sql_changes.proofs.DomainWrites.{unit_on_domain}
use Rattle.sql_commits.specs.Rows.{PutsUnitOf}
use Rattle.sql_commits.proofs.PlannedWrites.{unit_told}
use Rattle.sql_commits.proofs.WritesInTurn.{write_mapped, write_over}
use Rattle.sql_figures.specs.Figures.{FiguresStay}
use Rattle.sql_figures.proofs.FigureSteps.{put_beside, unit_beside}
use Rattle.sql_decoding.proofs.DiskFailures.{mapped_told}
use Rattle.sql_commits.proofs.unit_writes.put_row.Goals as goal

pub returns-clause-put : goal.returns-clause-put
returns-clause-put g c =
    let old = state g.S.Store c.args.tx.now.conn.now in
    let new = state g.S.Store c.put_domain_unit.new.tx.conn.now in
    let domain = c.args.domain.now in
    let lang = c.args.lang.now in
    let unit = c.args.unit.now in
    let Puts = PutsUnitOf domain lang unit in
    let put = write_mapped old new c.put_domain_unit.result c.map_err.result _ _ Puts c.map_err.ensures.cases
    (unit_told domain lang c.as_str.result.now _ c.as_str-2.result.now _ _ _ c.as_str-3.result.now c.as_str-4.result.now unit old.now new.now
    (search rules) (search rules) (search rules) (search rules) (search rules) (search rules) (search rules) (search rules))
    c.put_domain_unit.ensures.put in
    write_over old new c.map_err.result Puts (OnDomain domain (PutsUnitRow lang unit)) c.requires.steady (λ ready after made. unit_on_domain ready (λ id. refl) made) put

-- units' rows are beside the figures
pub returns-clause-figures : goal.returns-clause-figures
returns-clause-figures g c =
    write_mapped (state g.S.Store c.args.tx.now.conn.now) (state g.S.Store c.put_domain_unit.new.tx.conn.now) c.put_domain_unit.result c.map_err.result _ _ FiguresStay c.map_err.ensures.cases (put_beside unit_beside)
    c.put_domain_unit.ensures.put

pub returns-clause-row : goal.returns-clause-row
returns-clause-row g c =
    let old = state g.S.Store c.args.tx.now.conn.now in
    let new = state g.S.Store c.put_domain_unit.new.tx.conn.now in
    let domain = c.args.domain.now in
    let lang = c.args.lang.now in
    let unit = c.args.unit.now in
    write_mapped old new c.put_domain_unit.result c.map_err.result _ _ (PutsUnitOf domain lang unit) c.map_err.ensures.cases
    (unit_told domain lang c.as_str.result.now _ c.as_str-2.result.now _ _ _ c.as_str-3.result.now c.as_str-4.result.now unit old.now new.now
    (search rules) (search rules) (search rules) (search rules) (search rules) (search rules) (search rules) (search rules))
    c.put_domain_unit.ensures.put

pub returns-clause-disk : goal.returns-clause-disk
returns-clause-disk g c =
    mapped_told (state g.S.Store c.args.tx.now.conn.now) (state g.S.Store c.put_domain_unit.new.tx.conn.now) c.put_domain_unit.result c.map_err.result _ (λ e f t. t) c.map_err.ensures.cases c.put_domain_unit.ensures.disk
