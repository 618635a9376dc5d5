use Rattle.std.proofs.Common.{subst}
use Rattle.sqlite.specs.Held.{state}
use Rattle.po_text.specs.Texts.{Text}
use Rattle.office_specification.specs.declared.tally.Tally.{Tally}
use Rattle.sql_schema.specs.Inside.{IsInsideOf}
use Rattle.sql_schema.specs.Layouts.{by_domain}
use Rattle.sql_commits.specs.Figures.{PutsTally}
use Rattle.sql_decoding.proofs.DiskFailures.{memory_told}
use Rattle.store_sql.proofs.create.put_demo_tally.Goals as goal

pub returns-clause-put : goal.returns-clause-put
returns-clause-put g c =
    subst (λ (x : Text × (Text × Tally)). IsInsideOf by_domain (state g.S.Store c.args.tx.now.conn.now) (state g.S.Store c.put_tally_of.new.tx.conn.now) c.put_tally_of.result (PutsTally x.0 x.1.0 x.1.1))
    (λ i. (c.main_domain.ensures i, (c.demo_lang.ensures i, c.in_ok-tally.ensures i))) c.put_tally_of.ensures.put

pub returns-in_err-tally-clause-disk : goal.returns-in_err-tally-clause-disk
returns-in_err-tally-clause-disk g c = memory_told (state g.S.Store c.args.tx.now.conn.now) (state g.S.Store c.args.tx.now.conn.now) c.from_residual.result c.from_residual.ensures.1
