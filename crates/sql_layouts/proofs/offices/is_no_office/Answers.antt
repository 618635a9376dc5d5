use Rattle.std.proofs.Common.{◌≡◌, IsTrue, refl, sym, rules, subst}
use Rattle.sqlite.specs.Held.{state}
use Rattle.sql_schema.specs.Errors.{RefusesNoRead}
use Rattle.sql_schema.proofs.Unread.{stopped_unread, nothing_done}
use Rattle.sql_layouts.proofs.offices.is_no_office.Goals as goal

pub returns-clause-tested : goal.returns-clause-tested
returns-clause-tested g c = record {
  answer = λ clean holds. c.requires.other holds.0 holds.1.schema;
  ready = λ clean. tt;
  same = search rules;
  undone = λ clean is_open. tt;
  is_open = search rules;
  ended = search rules;
  survives = search rules;
}

pub returns-in_err-commit-clause-errors : goal.returns-in_err-commit-clause-errors
returns-in_err-commit-clause-errors g c =
    let old = c.args.connection.now in
    let begun = c.transaction-tx.result.conn.now in
    let same : c.commit.new.self.0 ≡ c.connection-1.given.0 = search rules in
    subst (λ h. RefusesNoRead (state g.S.Store old) (state g.S.Store h) c.from_residual.result) same
    (stopped_unread g.S.Store old begun begun c.commit.new.self.0 c.transaction-tx.ensures.begun c.in_err-commit.field-0.0 c.from_residual.result c.from_residual.ensures.1
    (λ _. ⊥) (λ db. db ≡ (state g.S.Store begun).now.trees) c.in_err-commit.ensures.survives (nothing_done (state g.S.Store begun))
    (λ clean. subst (λ h. IsTrue (state g.S.Store h).in_transaction) (sym c.transaction-tx.ensures.begun) refl) c.in_err-commit.ensures.err)
