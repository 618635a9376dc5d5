use Rattle.std.proofs.Common.{get_or, refl, ◌∙◌, arith}
use Rattle.sqlite.specs.Held.{state}
use Rattle.sql_schema.specs.Schema.{record_table}
use Rattle.sql_schema.proofs.Unread.{unread_told, unread_behind}
use Rattle.sql_layouts.proofs.RowidQueries.{asks_at, as_many, nothing_looked, this_apart, this_not, this_unread, all_apart}
use Rattle.sql_layouts.proofs.rowids.are_apart.Goals as goal

pub loop-query-init : goal.loop-query-init
loop-query-init g c = (refl, λ form tables over asks. nothing_looked form tables (state g.S.Store c.args.tx.now.conn.now) over)

pub loop-query-preserved : goal.loop-query-preserved
loop-query-preserved g c =
    let i = c.loop-query.query-index in
    let a = state g.S.Store c.args.tx.now.conn.now in
    let b = state g.S.Store c.loop-query.tx.conn.now in
    let d = state g.S.Store c.is_apart.new.tx.conn.now in (
      c.is_apart.ensures.same_reference ∙ c.loop-query.invariant.0,
      λ form tables over asks.
          let so_far = c.loop-query.invariant.1 form tables over asks in
          this_apart form tables a b d i (omega (arith, as_many form _ tables asks, c.loop-query-test.true)) so_far
          c.in_ok-is_apart.field-0 c.if-not-branch.false
          (c.in_ok-is_apart.ensures.found form (get_or tables i record_table) so_far.over (asks_at form _ tables i asks c.loop-query-test.true)),
    )

pub returns-in_err-is_apart-clause-found : goal.returns-in_err-is_apart-clause-found
returns-in_err-is_apart-clause-found g c =
    let i = c.loop-query.query-index in
    λ form tables over asks some.
    let so_far = c.loop-query.invariant.1 form tables over asks in
    this_unread form tables (state g.S.Store c.args.tx.now.conn.now) (state g.S.Store c.loop-query.tx.conn.now) (state g.S.Store c.is_apart.new.tx.conn.now) i
    (omega (arith, as_many form _ tables asks, c.loop-query-test.true)) so_far _ c.from_residual.result _ c.from_residual.ensures.0
    (c.in_err-is_apart.ensures.found form (get_or tables i record_table) so_far.over (asks_at form _ tables i asks c.loop-query-test.true))

pub returns-then-not-branch-clause-found : goal.returns-then-not-branch-clause-found
returns-then-not-branch-clause-found g c =
    let i = c.loop-query.query-index in
    λ form tables over asks some.
    let so_far = c.loop-query.invariant.1 form tables over asks in
    this_not form tables (state g.S.Store c.args.tx.now.conn.now) (state g.S.Store c.loop-query.tx.conn.now) (state g.S.Store c.is_apart.new.tx.conn.now) i
    (omega (arith, as_many form _ tables asks, c.loop-query-test.true)) so_far c.in_ok-is_apart.field-0 c.if-not-branch.true
    (c.in_ok-is_apart.ensures.found form (get_or tables i record_table) so_far.over (asks_at form _ tables i asks c.loop-query-test.true))

pub returns-clause-found : goal.returns-clause-found
returns-clause-found g c =
    λ form tables over asks some.
    all_apart form tables (state g.S.Store c.args.tx.now.conn.now) (state g.S.Store c.loop-query.tx.conn.now) c.loop-query.query-index
    (omega (arith, as_many form _ tables asks, c.loop-query-test.false)) some (c.loop-query.invariant.1 form tables over asks)

pub returns-in_err-is_apart-clause-errors : goal.returns-in_err-is_apart-clause-errors
returns-in_err-is_apart-clause-errors g c =
    let i = c.loop-query.query-index in
    let a = state g.S.Store c.args.tx.now.conn.now in
    let b = state g.S.Store c.loop-query.tx.conn.now in
    let d = state g.S.Store c.is_apart.new.tx.conn.now in
    let e = c.in_err-is_apart.field-0.0 in
    λ form tables over asks.
    let so_far = c.loop-query.invariant.1 form tables over asks in
    let here = asks_at form _ tables i asks c.loop-query-test.true in
    let look = c.in_err-is_apart.ensures.found form (get_or tables i record_table) so_far.over here in
    unread_told a d e c.from_residual.result c.from_residual.ensures.1
    (λ clean. unread_behind a b d e (λ _. ⊥) (λ _. ⊥) so_far.survives look.survives clean (c.in_err-is_apart.ensures.errors form (get_or tables i record_table) so_far.over here clean))
