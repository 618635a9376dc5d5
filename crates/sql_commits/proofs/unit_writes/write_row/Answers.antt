use Rattle.std.proofs.Common.{◌≡◌, subst, rules}
use Rattle.sqlite.specs.Held.{state}
use Rattle.po_text.specs.Texts.{Text}
use Rattle.sql_schema.specs.Inside.{IsInsideOf}
use Rattle.sql_schema.specs.Layouts.{by_domain}
use Rattle.sql_changes.specs.OnDomains.{OnDomain}
use Rattle.sql_changes.specs.UnitWrites.{PutsUnitRow}
use Rattle.sql_commits.specs.Rows.{PutsUnitOf}
use Rattle.sql_decoding.proofs.DiskFailures.{memory_told}
use Rattle.sql_commits.proofs.unit_writes.write_row.Goals as goal

-- by the texts of the domain and the language
pub returns-clause-put : goal.returns-clause-put
returns-clause-put g c =
    let old = state g.S.Store c.args.tx.now.conn.now in
    let new = state g.S.Store c.put_row.new.tx.conn.now in
    let is_domain : c.as_str.result.now ≡ c.args.domain.now = search rules in
    let is_lang : c.as_str-2.result.now ≡ c.args.lang.now = search rules in
    subst (λ (x : Text × Text). IsInsideOf by_domain old new c.put_row.result (OnDomain x.0 (PutsUnitRow x.1 c.args.unit.now))) (λ i. (is_domain i, is_lang i)) c.put_row.ensures.put

pub returns-clause-row : goal.returns-clause-row
returns-clause-row g c =
    let old = state g.S.Store c.args.tx.now.conn.now in
    let new = state g.S.Store c.put_row.new.tx.conn.now in
    let is_domain : c.as_str.result.now ≡ c.args.domain.now = search rules in
    let is_lang : c.as_str-2.result.now ≡ c.args.lang.now = search rules in
    subst (λ (x : Text × Text). IsInsideOf by_domain old new c.put_row.result (PutsUnitOf x.0 x.1 c.args.unit.now)) (λ i. (is_domain i, is_lang i)) c.put_row.ensures.row

pub returns-in_err-columns-clause-disk : goal.returns-in_err-columns-clause-disk
returns-in_err-columns-clause-disk g c =
    memory_told (state g.S.Store c.args.tx.now.conn.now) (state g.S.Store c.args.tx.now.conn.now) c.from_residual.result c.from_residual.ensures.1
