use Rattle.sqlite.specs.Held.{state}
use Rattle.sql_adoption.proofs.Kept.{read_idle, office_adopted, office_form, office_refused}
use Rattle.sql_adoption.proofs.OpensBlame.{fault_opens, opens_behind, passed_opens}
use Rattle.sql_adoption.proofs.tested.tested_main.Goals as goal

pub returns-clause-adopted : goal.returns-clause-adopted
returns-clause-adopted g c =
    let mid = state g.S.Store c.read_main.new.connection in
    office_adopted c.args.form (state g.S.Store c.args.connection.now) mid (state g.S.Store c.keep_rows-kept.new.connection) c.in_ok-read.read c.in_ok-read.ensures.holds c.in_ok-read.ensures.found
    c.keep_rows-kept.result c.where_kept.result
    c.keep_rows-kept.ensures.found c.where_kept.ensures

pub returns-clause-refused : goal.returns-clause-refused
returns-clause-refused g c =
    let mid = state g.S.Store c.read_main.new.connection in
    office_refused c.args.form (state g.S.Store c.args.connection.now) mid (state g.S.Store c.keep_rows-kept.new.connection) c.in_ok-read.read c.in_ok-read.ensures.holds c.in_ok-read.ensures.found
    c.keep_rows-kept.result c.where_kept.result c.keep_rows-kept.ensures.found c.keep_rows-kept.ensures.refused c.where_kept.ensures

pub keep_rows-kept-requires-clause-idle : goal.keep_rows-kept-requires-clause-idle
keep_rows-kept-requires-clause-idle g c = read_idle c.args.form (state g.S.Store c.args.connection.now) (state g.S.Store c.read_main.new.connection) c.in_ok-read.read c.requires.idle c.in_ok-read.ensures.found

pub keep_rows-kept-requires-clause-is_open : goal.keep_rows-kept-requires-clause-is_open
keep_rows-kept-requires-clause-is_open g c = c.in_ok-read.ensures.found.is_open

pub returns-clause-form : goal.returns-clause-form
returns-clause-form g c =
    office_form c.args.form (state g.S.Store c.args.connection.now) (state g.S.Store c.read_main.new.connection) (state g.S.Store c.keep_rows-kept.new.connection) c.in_ok-read.read c.in_ok-read.ensures.holds c.in_ok-read.ensures.found
    c.keep_rows-kept.result c.where_kept.result c.where_kept.ensures

pub returns-in_err-read-clause-disk : goal.returns-in_err-read-clause-disk
returns-in_err-read-clause-disk g c = fault_opens (state g.S.Store c.args.connection.now) (state g.S.Store c.read_main.new.connection) _ c.from_residual.result c.from_residual.ensures.1 c.in_err-read.ensures.disk

pub returns-clause-disk : goal.returns-clause-disk
returns-clause-disk g c =
    let mid = state g.S.Store c.read_main.new.connection in
    let new = state g.S.Store c.keep_rows-kept.new.connection in
    opens_behind (state g.S.Store c.args.connection.now) mid new _ _ c.where_kept.result c.in_ok-read.ensures.found.survives c.keep_rows-kept.ensures.found.survives
    (passed_opens mid new c.keep_rows-kept.result c.where_kept.result _ c.where_kept.ensures c.keep_rows-kept.ensures.disk)
