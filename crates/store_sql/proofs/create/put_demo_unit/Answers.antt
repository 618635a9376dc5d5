use Rattle.std.proofs.Common.{subst}
use Rattle.sqlite.specs.Held.{state}
use Rattle.po_text.specs.Texts.{Text}
use Rattle.units.specs.declared.unit.Unit.{Unit}
use Rattle.sql_schema.specs.Inside.{IsInsideOf}
use Rattle.sql_schema.specs.Layouts.{by_domain}
use Rattle.sql_commits.specs.Rows.{PutsUnitOf}
use Rattle.sql_decoding.proofs.DiskFailures.{memory_told}
use Rattle.store_sql.proofs.create.put_demo_unit.Goals as goal

pub returns-clause-put : goal.returns-clause-put
returns-clause-put g c =
    subst (λ (x : Text × (Text × Unit)). IsInsideOf by_domain (state g.S.Store c.args.tx.now.conn.now) (state g.S.Store c.write_row.new.tx.conn.now) c.write_row.result (PutsUnitOf x.0 x.1.0 x.1.1))
    (λ i. (c.main_domain.ensures i, (c.demo_lang.ensures i, c.in_ok-unit.ensures i))) c.write_row.ensures.row

pub returns-in_err-unit-clause-disk : goal.returns-in_err-unit-clause-disk
returns-in_err-unit-clause-disk g c = memory_told (state g.S.Store c.args.tx.now.conn.now) (state g.S.Store c.args.tx.now.conn.now) c.from_residual.result c.from_residual.ensures.1
