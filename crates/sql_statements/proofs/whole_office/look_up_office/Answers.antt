use Rattle.std.proofs.Common.{◌≡◌, Result, Ok, Err, subst, rules}
use Rattle.std.specs.Result.{IsErr}
use Rattle.sqlite.specs.Effect.{Database}
use Rattle.sqlite.specs.Held.{state}
use Rattle.sqlite.specs.State.{State}
use Rattle.sqlite.specs.declared.error.Error.{Error}
use Rattle.sql_laws.specs.DiskErrors.{BlamesTruly}
use Rattle.sql_schema.specs.Errors.{RefusesNoRead}
use Rattle.sql_schema.specs.Inside.{IsReadOf}
use Rattle.sql_schema.specs.Layouts.{for_main}
use Rattle.sql_schema.specs.Whole.{IsLookUp}
use Rattle.sql_schema.proofs.Whole.{stops_looking}
use Rattle.sql_schema.proofs.Unread.{undone_unread, stopped_unread}
use Rattle.sql_statements.specs.WholeOffice.{ShowsWholeOffice}
use Rattle.sql_statements.proofs.LookedUp.{answers, fails_to_answer, steady_begun}
use Rattle.sql_statements.proofs.ReadsBlame.{undone_blames, stopped_blames}
use Rattle.sql_statements.proofs.whole_office.look_up_office.Goals as goal

-- an error answers nothing, whichever it is
of_error : {A : Type 0} {IsAnswer : Database → A → Type 0} (old last : State) (r : Result A Error) → IsErr r → ((e : Error) → IsLookUp {A = A} old last (Err e) IsAnswer) → IsLookUp old last r IsAnswer
of_error old last (Ok x) is stops = absurd (let none = is in cc)
of_error old last (Err e) is stops = stops e

pub returns-in_err-rows-clause-found : goal.returns-in_err-rows-clause-found
returns-in_err-rows-clause-found g c figures idle =
    let old = c.args.connection.now in
    let mid = c.all_tables.new.tx.conn.now in
    let within = subst (λ h. IsReadOf {E = Error} (for_main figures) (state g.S.Store h) (state g.S.Store mid) (Err c.in_err-rows.field-0.0) ShowsWholeOffice) c.transaction-tx.ensures.begun
    (c.in_err-rows.ensures.found figures (steady_begun g.S.Store old c.transaction-tx.result.conn.now c.transaction-tx.ensures.begun idle)) in
    of_error (state g.S.Store old) (state g.S.Store c.connection-1.given.0) c.from_residual.result c.from_residual.ensures.0
    (λ e. stops_looking g.S.Store old mid c.connection-1.given.0 idle within.kept within.survives e (search rules) (search rules) (search rules) ShowsWholeOffice)

pub returns-in_err-commit-clause-found : goal.returns-in_err-commit-clause-found
returns-in_err-commit-clause-found g c figures idle =
    let old = c.args.connection.now in
    let same : c.commit.new.self.0 ≡ c.connection-2-1.given.0 = search rules in
    subst (λ h. IsLookUp (state g.S.Store old) (state g.S.Store h) c.from_residual-in_err-commit.result ShowsWholeOffice) same
    (fails_to_answer g.S.Store old c.transaction-tx.result.conn.now c.all_tables.new.tx.conn.now c.commit.new.self.0 c.transaction-tx.ensures.begun idle c.in_err-commit.ensures.ended c.in_ok-rows.rows
    ShowsWholeOffice (c.in_ok-rows.ensures.found figures (steady_begun g.S.Store old c.transaction-tx.result.conn.now c.transaction-tx.ensures.begun idle))
    c.in_err-commit.ensures.survives c.from_residual-in_err-commit.result c.from_residual-in_err-commit.ensures.0 c.in_err-commit.field-0.0 c.in_err-commit.ensures.err)

pub returns-clause-found : goal.returns-clause-found
returns-clause-found g c figures idle =
    let old = c.args.connection.now in
    let same : c.commit.new.self.0 ≡ c.connection-2-1.given.0 = search rules in
    subst (λ h. IsLookUp {E = Error} (state g.S.Store old) (state g.S.Store h) (Ok c.in_ok-rows.rows) ShowsWholeOffice) same
    (answers g.S.Store old c.transaction-tx.result.conn.now c.all_tables.new.tx.conn.now c.commit.new.self.0 c.transaction-tx.ensures.begun idle c.in_ok-commit.ensures.ended c.in_ok-rows.rows
    ShowsWholeOffice (c.in_ok-rows.ensures.found figures (steady_begun g.S.Store old c.transaction-tx.result.conn.now c.transaction-tx.ensures.begun idle))
    c.in_ok-commit.ensures.survives (λ clean. (c.in_ok-commit.ensures.ok clean).1))

pub returns-in_err-rows-clause-disk : goal.returns-in_err-rows-clause-disk
returns-in_err-rows-clause-disk g c figures idle =
    let old = c.args.connection.now in
    let begun = c.transaction-tx.result.conn.now in
    undone_blames g.S.Store old begun c.all_tables.new.tx.conn.now c.connection-1.given.0 c.transaction-tx.ensures.begun (λ _. ⊥)
    c.in_err-rows.field-0.0 c.from_residual.result c.from_residual.ensures.1 (c.in_err-rows.ensures.disk figures (steady_begun g.S.Store old begun c.transaction-tx.ensures.begun idle)) (search rules)

pub returns-in_err-commit-clause-disk : goal.returns-in_err-commit-clause-disk
returns-in_err-commit-clause-disk g c figures idle =
    let old = c.args.connection.now in
    let begun = c.transaction-tx.result.conn.now in
    let mid = c.all_tables.new.tx.conn.now in
    let read = c.in_ok-rows.ensures.found figures (steady_begun g.S.Store old begun c.transaction-tx.ensures.begun idle) in
    let same : c.commit.new.self.0 ≡ c.connection-2-1.given.0 = search rules in
    subst (λ h. BlamesTruly (state g.S.Store old) (state g.S.Store h) c.from_residual-in_err-commit.result) same
    (stopped_blames g.S.Store old begun mid c.commit.new.self.0 c.transaction-tx.ensures.begun (λ _. ⊥) (λ db. db ≡ (state g.S.Store mid).now.trees)
    read.survives c.in_err-commit.ensures.survives c.in_err-commit.field-0.0 c.from_residual-in_err-commit.result c.from_residual-in_err-commit.ensures.1 c.in_err-commit.ensures.err)

pub returns-in_err-rows-clause-errors : goal.returns-in_err-rows-clause-errors
returns-in_err-rows-clause-errors g c figures idle =
    let old = c.args.connection.now in
    let begun = c.transaction-tx.result.conn.now in
    undone_unread g.S.Store old begun c.all_tables.new.tx.conn.now c.connection-1.given.0 c.transaction-tx.ensures.begun c.in_err-rows.field-0.0 c.from_residual.result c.from_residual.ensures.1
    (λ _. ⊥) (λ _. ⊥) (search rules) (c.in_err-rows.ensures.errors figures (steady_begun g.S.Store old begun c.transaction-tx.ensures.begun idle))

pub returns-in_err-commit-clause-errors : goal.returns-in_err-commit-clause-errors
returns-in_err-commit-clause-errors g c figures idle =
    let old = c.args.connection.now in
    let begun = c.transaction-tx.result.conn.now in
    let mid = c.all_tables.new.tx.conn.now in
    let read = c.in_ok-rows.ensures.found figures (steady_begun g.S.Store old begun c.transaction-tx.ensures.begun idle) in
    let same : c.commit.new.self.0 ≡ c.connection-2-1.given.0 = search rules in
    subst (λ h. RefusesNoRead (state g.S.Store old) (state g.S.Store h) c.from_residual-in_err-commit.result) same
    (stopped_unread g.S.Store old begun mid c.commit.new.self.0 c.transaction-tx.ensures.begun c.in_err-commit.field-0.0 c.from_residual-in_err-commit.result c.from_residual-in_err-commit.ensures.1
    (λ _. ⊥) (λ db. db ≡ (state g.S.Store mid).now.trees) c.in_err-commit.ensures.survives read.survives (λ clean. (read.stays clean).inside) c.in_err-commit.ensures.err)
