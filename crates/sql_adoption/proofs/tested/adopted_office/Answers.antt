use Rattle.std.proofs.Common.{Option, Ok, subst, ℕ, Err, arith}
use Rattle.sqlite.specs.Held.{state}
use Rattle.sql_layouts.specs.Looks.{IsTested}
use Rattle.sql_layouts.specs.declared.office_tables.Form.{Form}
use Rattle.sql_adoption.proofs.AsItWas.{adopted_refused, is_adopted_in, tested_idle}
use Rattle.sql_adoption.proofs.OpensBlame.{opens_behind, statement_opens}
use Rattle.sql_schema.proofs.Unread.{blames_of_unread}
use Rattle.sql_adoption.proofs.tested.adopted_office.Goals as goal

pub returns-in-Some-clause-refused : goal.returns-in-Some-clause-refused
returns-in-Some-clause-refused g c =
    let old = state g.S.Store c.args.connection.now in
    let mid = state g.S.Store c.office_form.new.connection in
    let tested = subst (λ (found : Option Form). IsTested old mid (Ok found)) c.in-Some.is c.in_ok-form.ensures.tested in
    adopted_refused c.in-Some.form old mid tested (state g.S.Store c.tested_tables.new.connection) c.tested_tables.result c.tested_tables.ensures.adopted c.tested_tables.ensures.refused

pub returns-in-Some-clause-adopted : goal.returns-in-Some-clause-adopted
returns-in-Some-clause-adopted g c =
    let old = state g.S.Store c.args.connection.now in
    let mid = state g.S.Store c.office_form.new.connection in
    let tested = subst (λ (found : Option Form). IsTested old mid (Ok found)) c.in-Some.is c.in_ok-form.ensures.tested in
    is_adopted_in c.in-Some.form mid (state g.S.Store c.tested_tables.new.connection) c.tested_tables.result (tested_idle c.in-Some.form old mid tested) c.tested_tables.ensures.form c.tested_tables.ensures.adopted

pub returns-in_err-form-clause-disk : goal.returns-in_err-form-clause-disk
returns-in_err-form-clause-disk g c = statement_opens (state g.S.Store c.args.connection.now) (state g.S.Store c.office_form.new.connection) _ c.from_residual.result c.from_residual.ensures.1
    (blames_of_unread {A = ℕ} (state g.S.Store c.args.connection.now) (state g.S.Store c.office_form.new.connection) (Err c.in_err-form.field-0.0) c.in_err-form.ensures.errors)

pub returns-in-Some-clause-disk : goal.returns-in-Some-clause-disk
returns-in-Some-clause-disk g c =
    opens_behind (state g.S.Store c.args.connection.now) (state g.S.Store c.office_form.new.connection) (state g.S.Store c.tested_tables.new.connection) _ _ c.tested_tables.result c.in_ok-form.ensures.tested.survives c.tested_tables.ensures.adopted.survives c.tested_tables.ensures.disk

pub returns-in-None-clause-disk : goal.returns-in-None-clause-disk
returns-in-None-clause-disk g c = λ clean same. absurd cc

pub returns-in-Some-clause-counts : goal.returns-in-Some-clause-counts
returns-in-Some-clause-counts g c = omega (arith, c.in_ok-form.ensures.tested.survives.counts, c.tested_tables.ensures.adopted.survives.counts)
