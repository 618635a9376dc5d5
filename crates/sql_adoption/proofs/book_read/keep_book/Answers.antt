use Rattle.std.proofs.lemmas.Result.{IfErr-weaker, err_from_is_err_and}
use Rattle.sqlite.specs.Held.{state}
use Rattle.office_maps.specs.OfficeIn.{office_in}
use Rattle.sql_meaning.specs.Meaning.{book_in}
use Rattle.sql_adoption.specs.declared.faults.OpenFault.{OpenFault}
use Rattle.sql_adoption.specs.Reading.{AreStatusesIn, KeepsBook, RefusesKept}
use Rattle.sql_layouts.proofs.Looked.{looked_on, if_err_under}
use Rattle.sql_adoption.proofs.Kept.{book_is_kept, book_refused, rules_refused}
use Rattle.sql_adoption.proofs.book_read.keep_book.Goals as goal
use Rattle.sql_schema.specs.Layouts.{rows_named}
use Rattle.sql_adoption.proofs.OpensBlame.{fault_opens, never_opens}

pub returns-clause-found : goal.returns-clause-found
returns-clause-found g c =
    let old = state g.S.Store c.args.connection.now in
    let office = office_in c.args.read.now.maps in
    looked_on old (state g.S.Store c.read_statuses.new.connection) {E = OpenFault} c.in_ok-statuses.statuses c.keep_rules.result AreStatusesIn (λ db _. KeepsBook office db) c.in_ok-statuses.ensures.found
    (λ early is_open are. book_is_kept c.keep_rules.result office old.now are.stand are.numbered are.contents (c.keep_rules.ensures.kept (book_in (rows_named old.now)) are.statuses_are))

pub returns-clause-refused : goal.returns-clause-refused
returns-clause-refused g c =
    let old = state g.S.Store c.args.connection.now in
    let office = office_in c.args.read.now.maps in
    if_err_under _ c.keep_rules.result (λ clean. IfErr-weaker c.keep_rules.result _ (RefusesKept office old.now) (rules_refused office old.now)
    (c.keep_rules.ensures.refused (book_in (rows_named old.now)) (c.in_ok-statuses.ensures.found.answer clean).statuses_are))

pub returns-in_err-statuses-clause-refused : goal.returns-in_err-statuses-clause-refused
returns-in_err-statuses-clause-refused g c =
    let p = err_from_is_err_and c.from_residual.result c.from_residual.ensures.1 in
    rw (p.1, p.2) (λ clean. book_refused (office_in c.args.read.now.maps) (state g.S.Store c.args.connection.now).now c.in_err-statuses.field-0.0 (c.in_err-statuses.ensures.refused clean))

pub returns-in_err-statuses-clause-disk : goal.returns-in_err-statuses-clause-disk
returns-in_err-statuses-clause-disk g c = fault_opens (state g.S.Store c.args.connection.now) (state g.S.Store c.read_statuses.new.connection) _ c.from_residual.result c.from_residual.ensures.1 c.in_err-statuses.ensures.disk

pub returns-clause-disk : goal.returns-clause-disk
returns-clause-disk g c = never_opens (state g.S.Store c.args.connection.now) (state g.S.Store c.read_statuses.new.connection) c.keep_rules.result c.keep_rules.ensures.disk
