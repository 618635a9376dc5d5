use Rattle.std.proofs.Common.{subst}
use Rattle.sqlite.specs.Held.{state}
use Rattle.po_text.specs.Texts.{Text}
use Rattle.po_text.specs.declared.entry.Entry.{Entry}
use Rattle.sql_schema.specs.Inside.{IsInsideOf}
use Rattle.sql_schema.specs.Layouts.{by_domain}
use Rattle.sql_commits.specs.Rows.{PutsEntryOf}
use Rattle.sql_decoding.proofs.DiskFailures.{memory_told}
use Rattle.store_sql.proofs.create.put_demo_entry.Goals as goal

pub returns-clause-put : goal.returns-clause-put
returns-clause-put g c =
    subst (λ (x : Text × Entry). IsInsideOf by_domain (state g.S.Store c.args.tx.now.conn.now) (state g.S.Store c.put_entry.new.tx.conn.now) c.put_entry.result (PutsEntryOf x.0 0 x.1))
    (λ i. (c.main_domain.ensures i, c.in_ok-entry.ensures i)) c.put_entry.ensures.row

pub returns-in_err-entry-clause-disk : goal.returns-in_err-entry-clause-disk
returns-in_err-entry-clause-disk g c = memory_told (state g.S.Store c.args.tx.now.conn.now) (state g.S.Store c.args.tx.now.conn.now) c.from_residual.result c.from_residual.ensures.1
