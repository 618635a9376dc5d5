use Rattle.std.proofs.Common.{Ok, true, false}
use Rattle.std.proofs.lemmas.Result.{IfErr-weaker, err_from_is_err_and}
use Rattle.sqlite.specs.Held.{state}
use Rattle.sqlite.specs.Effect.{Database}
use Rattle.office_maps.specs.OfficeIn.{office_in}
use Rattle.sql_schema.specs.Layouts.{for_main}
use Rattle.sql_adoption.specs.Reading.{IsReadOf}
use Rattle.sql_layouts.specs.Tables.{form_told}
use Rattle.sql_adoption.proofs.Kept.{kept_refused, book_alone_kept, kept_anyway, figures_anyway, rows_are_kept, rows_refused}
use Rattle.sql_adoption.proofs.OpensBlame.{fault_opens, opens_behind}
use Rattle.sql_adoption.proofs.tested.keep_rows.Goals as goal

pub keep_book-requires-clause-idle : goal.keep_book-requires-clause-idle
keep_book-requires-clause-idle g c = (form_told c.args.form, c.requires.idle)

pub returns-in-ForMain-clause-found : goal.returns-in-ForMain-clause-found
returns-in-ForMain-clause-found g c =
    rw c.in-ForMain.is (book_alone_kept (office_in c.args.read.now.maps) (λ db. IsReadOf (for_main false) db c.args.read.now) (state g.S.Store c.args.connection.now) (state g.S.Store c.keep_book.new.connection) c.keep_book.result
    c.keep_book.ensures.found)

pub returns-in-ForMain-clause-refused : goal.returns-in-ForMain-clause-refused
returns-in-ForMain-clause-refused g c =
    rw c.in-ForMain.is (IfErr-weaker c.keep_book.result _ _ (λ fault refused clean given. kept_refused (for_main false) (office_in c.args.read.now.maps) (state g.S.Store c.args.connection.now).now fault (refused clean)) c.keep_book.ensures.refused)

pub returns-in_ok-keep_book-in-WithFigures-clause-found : goal.returns-in_ok-keep_book-in-WithFigures-clause-found
returns-in_ok-keep_book-in-WithFigures-clause-found g c =
    let old = state g.S.Store c.args.connection.now in
    let mid = state g.S.Store c.keep_book-in-WithFigures.new.connection in
    let office = office_in c.args.read.now.maps in
    let Given : Database → Type 0 = λ db. IsReadOf (for_main true) db c.args.read.now in
    let new = state g.S.Store c.keep_main_figures.new.connection in
    rw c.in-WithFigures.is (rows_are_kept (for_main true) _ office Given old mid new c.keep_main_figures.result
    (kept_anyway office Given old mid (Ok _) c.in_ok-keep_book-in-WithFigures.ensures.found) (figures_anyway (for_main true) office Given mid new c.keep_main_figures.result c.keep_main_figures.ensures.found))

pub returns-in_ok-keep_book-in-WithFigures-clause-refused : goal.returns-in_ok-keep_book-in-WithFigures-clause-refused
returns-in_ok-keep_book-in-WithFigures-clause-refused g c =
    let old = state g.S.Store c.args.connection.now in
    let mid = state g.S.Store c.keep_book-in-WithFigures.new.connection in
    let office = office_in c.args.read.now.maps in
    let Given : Database → Type 0 = λ db. IsReadOf (for_main true) db c.args.read.now in
    let new = state g.S.Store c.keep_main_figures.new.connection in
    rw c.in-WithFigures.is (rows_refused (for_main true) _ office Given old mid new c.keep_main_figures.result
    (kept_anyway office Given old mid (Ok _) c.in_ok-keep_book-in-WithFigures.ensures.found) (figures_anyway (for_main true) office Given mid new c.keep_main_figures.result c.keep_main_figures.ensures.found)
    (IfErr-weaker c.keep_main_figures.result _ _ (λ fault refused clean given. refused clean) c.keep_main_figures.ensures.refused))

pub returns-in_err-keep_book-in-WithFigures-clause-refused : goal.returns-in_err-keep_book-in-WithFigures-clause-refused
returns-in_err-keep_book-in-WithFigures-clause-refused g c =
    let p = err_from_is_err_and c.from_residual.result c.from_residual.ensures.1 in
    rw (c.in-WithFigures.is, p.1, p.2) (λ clean given. kept_refused (for_main true) (office_in c.args.read.now.maps) (state g.S.Store c.args.connection.now).now c.in_err-keep_book-in-WithFigures.field-0.0
    (c.in_err-keep_book-in-WithFigures.ensures.refused clean))

pub unreachable-requires : goal.unreachable-requires
unreachable-requires g c = rw c.in-ByDomain.is at c.requires.main

pub returns-in_err-keep_book-in-WithFigures-clause-disk : goal.returns-in_err-keep_book-in-WithFigures-clause-disk
returns-in_err-keep_book-in-WithFigures-clause-disk g c = fault_opens (state g.S.Store c.args.connection.now) (state g.S.Store c.keep_book-in-WithFigures.new.connection) _ c.from_residual.result c.from_residual.ensures.1 c.in_err-keep_book-in-WithFigures.ensures.disk

pub returns-in_ok-keep_book-in-WithFigures-clause-disk : goal.returns-in_ok-keep_book-in-WithFigures-clause-disk
returns-in_ok-keep_book-in-WithFigures-clause-disk g c =
    opens_behind (state g.S.Store c.args.connection.now) (state g.S.Store c.keep_book-in-WithFigures.new.connection) (state g.S.Store c.keep_main_figures.new.connection) _ _ c.keep_main_figures.result c.in_ok-keep_book-in-WithFigures.ensures.found.survives c.keep_main_figures.ensures.found.survives
    c.keep_main_figures.ensures.disk
