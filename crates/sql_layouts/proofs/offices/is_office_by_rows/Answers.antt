use Rattle.std.proofs.Common.{◌≡◌, rules, subst}
use Rattle.sqlite.specs.Held.{state}
use Rattle.sql_schema.specs.Errors.{RefusesNoRead}
use Rattle.sql_schema.proofs.Unread.{undone_unread, stopped_unread}
use Rattle.sql_layouts.specs.Tables.{form_told}
use Rattle.sql_layouts.proofs.WholeTest.{idle_of}
use Rattle.sql_layouts.proofs.offices.is_office_by_rows.Goals as goal

pub returns-clause-tested : goal.returns-clause-tested
returns-clause-tested g c = record {
  answer = search rules;
  ready = λ clean told. idle_of (form_told c.args.form) (state g.S.Store c.args.connection.now) (state g.S.Store c.connection-2-1.given.0) (search rules) c.requires.live (search rules);
  same = search rules;
  undone = search rules;
  is_open = search rules;
  ended = search rules;
  survives = search rules;
}

pub returns-in_err-holds-clause-errors : goal.returns-in_err-holds-clause-errors
returns-in_err-holds-clause-errors g c =
    undone_unread g.S.Store c.args.connection.now c.transaction-tx.result.conn.now c.holds_office.new.tx.conn.now c.connection-1.given.0 c.transaction-tx.ensures.begun c.in_err-holds.field-0.0 c.from_residual.result c.from_residual.ensures.1
    (λ _. ⊥) (λ _. ⊥) (search rules) c.in_err-holds.ensures.errors

pub returns-in_err-commit-clause-errors : goal.returns-in_err-commit-clause-errors
returns-in_err-commit-clause-errors g c =
    let old = c.args.connection.now in
    let mid = c.holds_office.new.tx.conn.now in
    let same : c.commit.new.self.0 ≡ c.connection-2-1.given.0 = search rules in
    subst (λ h. RefusesNoRead (state g.S.Store old) (state g.S.Store h) c.from_residual-in_err-commit.result) same
    (stopped_unread g.S.Store old c.transaction-tx.result.conn.now mid c.commit.new.self.0 c.transaction-tx.ensures.begun c.in_err-commit.field-0.0 c.from_residual-in_err-commit.result c.from_residual-in_err-commit.ensures.1
    (λ _. ⊥) (λ db. db ≡ (state g.S.Store mid).now.trees) c.in_err-commit.ensures.survives c.in_ok-holds.ensures.found.survives (λ clean. (c.in_ok-holds.ensures.found.stays clean).inside) c.in_err-commit.ensures.err)
