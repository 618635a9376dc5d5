use Rattle.std.proofs.Common.{Ok, Err, inl, ◌+◌, refl, ◌∙◌}
use Rattle.sqlite.specs.Held.{state}
use Rattle.sql_schema.proofs.TablesSoFar.{text_at}
use Rattle.sql_schema.proofs.MoreTables.{domain_texts, one_more, one_lost, counted, all_made, one_failed}
use Rattle.sql_schema.proofs.Losses.{lost_told}
use Rattle.sql_schema.proofs.new_tables.make_domain_tables.Goals as goal

pub loop-text-init : goal.loop-text-init
loop-text-init g c = (refl, λ figures steady. inl (refl, refl), record { same = refl })

pub returns-in_err-execute-clause-made : goal.returns-in_err-execute-clause-made
returns-in_err-execute-clause-made g c =
    let old = c.args.tx.now.conn.now in
    let mid = c.loop-text.tx.conn.now in
    let new = c.execute.new.self.conn.now in
    let k = c.loop-text.text-index in
    let figures = c.requires.steady.0 in
    let steady = c.requires.steady.1 in
    let failed = one_more figures g.S.Store old mid new steady k c.loop-text-test.true _ (Err c.in_err-execute.field-0.0) (c.loop-text.invariant.1 figures steady) c.in_err-execute.ensures.runs
    c.in_err-execute.ensures.survives (text_at domain_texts _ c.loop-text.invariant.2 k _ c.loop-text-test.true) in
    one_failed figures g.S.Store old new steady c.in_err-execute.field-0.0 c.from_residual.result _ c.from_residual.ensures.0 failed

pub returns-in_err-execute-clause-errors : goal.returns-in_err-execute-clause-errors
returns-in_err-execute-clause-errors g c =
    let old = c.args.tx.now.conn.now in
    let mid = c.loop-text.tx.conn.now in
    let new = c.execute.new.self.conn.now in
    let k = c.loop-text.text-index in
    let figures = c.requires.steady.0 in
    let steady = c.requires.steady.1 in
    let e = c.in_err-execute.field-0.0 in
    lost_told (state g.S.Store old) (state g.S.Store new) e c.from_residual.result c.from_residual.ensures.1
    (one_lost figures g.S.Store old mid new steady k c.loop-text-test.true _ e (c.loop-text.invariant.1 figures steady) c.in_err-execute.ensures.runs c.in_err-execute.ensures.survives
    (text_at domain_texts _ c.loop-text.invariant.2 k _ c.loop-text-test.true))

pub loop-text-preserved : goal.loop-text-preserved
loop-text-preserved g c =
    let old = c.args.tx.now.conn.now in
    let mid = c.loop-text.tx.conn.now in
    let new = c.execute.new.self.conn.now in
    let k = c.loop-text.text-index in
    let count = c.in_ok-execute.field-0 in (
      c.in_ok-execute.ensures.same_reference ∙ c.loop-text.invariant.0,
      λ figures steady. counted figures g.S.Store old new count (k + 1)
          (one_more figures g.S.Store old mid new steady k c.loop-text-test.true _ (Ok count) (c.loop-text.invariant.1 figures steady) c.in_ok-execute.ensures.runs c.in_ok-execute.ensures.survives
          (text_at domain_texts _ c.loop-text.invariant.2 k _ c.loop-text-test.true)),
      c.loop-text.invariant.2,
    )

pub returns-clause-made : goal.returns-clause-made
returns-clause-made g c =
    all_made c.requires.steady.0 g.S.Store c.args.tx.now.conn.now c.loop-text.tx.conn.now c.requires.steady.1 tt c.loop-text.text-index c.loop-text-test.false
    (c.loop-text.invariant.1 c.requires.steady.0 c.requires.steady.1)
