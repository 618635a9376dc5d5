use Rattle.std.proofs.Common.{◌≡◌, rules, subst, ℕ, Err}
use Rattle.sqlite.specs.Held.{state}
use Rattle.units.specs.Office.{main}
use Rattle.sql_schema.specs.Inside.{IsInsideOf}
use Rattle.sql_schema.specs.Layouts.{by_domain}
use Rattle.sql_schema.proofs.Sequences.{writes_both, steady_write}
use Rattle.sql_meaning.specs.Beginnings.{PutsDomain, MakesMainTables}
use Rattle.sql_commits.proofs.WritesInTurn.{write_mapped}
use Rattle.sql_decoding.proofs.DiskFailures.{error_told, fails_behind, mapped_told}
use Rattle.sql_schema.proofs.Losses.{blames_of_lost}
use Rattle.store_sql.proofs.create.make_main_tables.Goals as goal

pub put_domain-requires : goal.put_domain-requires
put_domain-requires g c = record { steady = steady_write (state g.S.Store c.args.tx.now.conn.now) (state g.S.Store c.make_tables_by_domain.new.tx.conn.now) _ _ c.in_ok-make_tables_by_domain.ensures.made }

pub returns-clause-made : goal.returns-clause-made
returns-clause-made g c =
    let old = state g.S.Store c.args.tx.now.conn.now in
    let mid = state g.S.Store c.make_tables_by_domain.new.tx.conn.now in
    let new = state g.S.Store c.put_domain.new.tx.conn.now in
    let named : c.as_str.result.now ≡ main = search rules in
    let put = subst (λ name. IsInsideOf by_domain mid new c.put_domain.result (PutsDomain name)) named c.put_domain.ensures.put in
    write_mapped old new c.put_domain.result c.map_err.result _ _ MakesMainTables c.map_err.ensures.cases (λ made. made) (writes_both old mid new _ _ _ _ c.in_ok-make_tables_by_domain.ensures.made put)

pub returns-in_err-make_tables_by_domain-clause-disk : goal.returns-in_err-make_tables_by_domain-clause-disk
returns-in_err-make_tables_by_domain-clause-disk g c =
    let mid = state g.S.Store c.make_tables_by_domain.new.tx.conn.now in
    error_told (state g.S.Store c.args.tx.now.conn.now) mid _ c.from_residual.result c.from_residual.ensures.1 (blames_of_lost {A = ℕ} (state g.S.Store c.args.tx.now.conn.now) mid (Err c.in_err-make_tables_by_domain.field-0.0) c.in_err-make_tables_by_domain.ensures.errors)

pub returns-clause-disk : goal.returns-clause-disk
returns-clause-disk g c =
    let mid = state g.S.Store c.make_tables_by_domain.new.tx.conn.now in
    let new = state g.S.Store c.put_domain.new.tx.conn.now in
    fails_behind (state g.S.Store c.args.tx.now.conn.now) mid new (λ _. ⊥) (λ _. ⊥) c.map_err.result c.in_ok-make_tables_by_domain.ensures.made.survives c.put_domain.ensures.put.survives
    (mapped_told mid new c.put_domain.result c.map_err.result _ (λ e f t. t) c.map_err.ensures.cases c.put_domain.ensures.disk)
