use Rattle.std.proofs.Common.{IfErr, OnOk}
use Rattle.sqlite.specs.Held.{state}
use Rattle.sqlite.specs.State.{HasCleanDisk}
use Rattle.sqlite.specs.declared.error.Error.{Error}
use Rattle.sql_schema.specs.Layouts.{Form, for_main}
use Rattle.sql_schema.specs.Whole.{IsIdleOver, IsLookUp}
use Rattle.sql_statements.specs.WholeOffice.{ShowsWholeOffice}
use Rattle.sql_adoption.specs.Reading.{IsReadOf, ShowsForm, RefusesRows, RefusesOf, OpensTruly}
use Rattle.sql_layouts.specs.Tables.{form_told}
use Rattle.sql_layouts.proofs.Looked.{looked_on, looked_failed, looked_ready}
use Rattle.sql_schema.proofs.Layouts.{of_main}
use Rattle.sql_adoption.proofs.Read.{main_read, main_refused, all_refused}
use Rattle.sql_adoption.proofs.OpensBlame.{never_opens, statement_opens}
use Rattle.sql_adoption.proofs.office_read.read_main.Goals as goal

pub returns-in_err-rows-clause-found : goal.returns-in_err-rows-clause-found
returns-in_err-rows-clause-found g c =
    let old = state g.S.Store c.args.connection.now in
    let new = state g.S.Store c.look_up_office.new.connection in
    of_main (λ (form : Form). IsIdleOver form old → IsLookUp old new c.from_residual.result (IsReadOf form)) (form_told c.args.form) c.requires.main
    (λ figures idle. looked_failed old new _ c.from_residual.result ShowsWholeOffice (IsReadOf (for_main figures)) c.from_residual.ensures.0 (c.in_err-rows.ensures.found figures idle)) c.requires.idle

pub returns-clause-found : goal.returns-clause-found
returns-clause-found g c =
    let old = state g.S.Store c.args.connection.now in
    let new = state g.S.Store c.look_up_office.new.connection in
    let rows = c.in_ok-rows.rows in
    let read = c.office_of_main-read.result in
    of_main (λ (form : Form). IsIdleOver form old → OnOk read (ShowsForm form rows.office.policy) → IsLookUp old new read (IsReadOf form)) (form_told c.args.form) c.requires.main
    (λ figures idle told. looked_on old new {E = Error} rows read ShowsWholeOffice (IsReadOf (for_main figures)) (c.in_ok-rows.ensures.found figures idle)
    (λ early is_open shows. main_read figures old.now (idle.ready early is_open) rows shows read c.office_of_main-read.ensures.read told)) c.requires.idle c.office_of_main-read.ensures.told

pub returns-clause-refused : goal.returns-clause-refused
returns-clause-refused g c =
    let old = state g.S.Store c.args.connection.now in
    let new = state g.S.Store c.look_up_office.new.connection in
    let rows = c.in_ok-rows.rows in
    let read = c.office_of_main-read.result in
    of_main (λ (form : Form). IsIdleOver form old → IfErr read (RefusesRows form rows) → IfErr read (λ fault. HasCleanDisk new → RefusesOf form old.now fault)) (form_told c.args.form) c.requires.main
    (λ figures idle refused. let found = c.in_ok-rows.ensures.found figures idle in
    all_refused (for_main figures) rows old.now read
    (λ clean. main_refused figures old.now (looked_ready old new {E = Error} rows ShowsWholeOffice idle found clean) rows (found.answer clean)) refused) c.requires.idle c.office_of_main-read.ensures.refused

pub returns-in_err-rows-clause-disk : goal.returns-in_err-rows-clause-disk
returns-in_err-rows-clause-disk g c =
    let old = state g.S.Store c.args.connection.now in
    let new = state g.S.Store c.look_up_office.new.connection in
    of_main (λ (form : Form). IsIdleOver form old → OpensTruly old new c.from_residual.result) (form_told c.args.form) c.requires.main
    (λ figures idle. statement_opens old new _ c.from_residual.result c.from_residual.ensures.1 (c.in_err-rows.ensures.disk figures idle)) c.requires.idle

pub returns-clause-disk : goal.returns-clause-disk
returns-clause-disk g c = never_opens (state g.S.Store c.args.connection.now) (state g.S.Store c.look_up_office.new.connection) c.office_of_main-read.result c.office_of_main-read.ensures.disk
