use Rattle.std.proofs.Common.{rules, ◌≡◌, Some, None, option_map, sym, ap, ◌∙◌}
use Rattle.std.specs.FinMap as maps
use Rattle.sqlite.specs.Held.{state}
use Rattle.sqlite.specs.declared.error.Error.{Error}
use Rattle.request_book.specs.Book.{row_of}
use Rattle.sql_statements.specs.Answers.{ShowsRecord}
use Rattle.sql_meaning.specs.Meaning.{book_in}
use Rattle.sql_exports.proofs.Results.{look_up_mapped}
use Rattle.store_sql.proofs.RecordsRead.{reads_record}
use Rattle.sql_decoding.proofs.DiskFailures.{error_told, memory_told, mild_told, needed_is}
use Rattle.store_sql.proofs.records.read_record.Goals as goal
use Rattle.sql_schema.specs.Layouts.{rows_named}

pub returns-in_ok-record-in-Some-clause-found : goal.returns-in_ok-record-in-Some-clause-found
returns-in_ok-record-in-Some-clause-found g c =
    look_up_mapped (state g.S.Store c.args.connection.now) (state g.S.Store c.look_up-found.new.connection) {E = Error} (Some c.in-Some.row) (Some c.in_ok-record-in-Some.field-0)
    (ShowsRecord c.as_str.result.now) (λ db r. r ≡ option_map (row_of c.args.number) (maps.get (book_in (rows_named db)) c.args.number)) (search rules)
    (λ clean is_open shown. ap Some (needed_is _ c.record_in.result c.in_ok-record-in-Some.field-0 c.in_ok-record-in-Some.ensures.value c.record_in.ensures.shown) ∙ sym (ap (option_map (row_of c.args.number))
    (reads_record (state g.S.Store c.args.connection.now) c.args.number c.as_str.result.now (Some c.in-Some.row) c.requires.keeps (search rules) (search rules) clean is_open shown)))

pub returns-in-None-clause-found : goal.returns-in-None-clause-found
returns-in-None-clause-found g c =
    look_up_mapped (state g.S.Store c.args.connection.now) (state g.S.Store c.look_up-found.new.connection) {E = Error} None None
    (ShowsRecord c.as_str.result.now) (λ db r. r ≡ option_map (row_of c.args.number) (maps.get (book_in (rows_named db)) c.args.number)) (search rules)
    (λ clean is_open shown. sym (ap (option_map (row_of c.args.number))
    (reads_record (state g.S.Store c.args.connection.now) c.args.number c.as_str.result.now None c.requires.keeps (search rules) (search rules) clean is_open shown)))

pub returns-in_err-column-clause-disk : goal.returns-in_err-column-clause-disk
returns-in_err-column-clause-disk g c = memory_told (state g.S.Store c.args.connection.now) (state g.S.Store c.args.connection.now) c.from_residual.result c.from_residual.ensures.1

pub returns-in_err-row-clause-disk : goal.returns-in_err-row-clause-disk
returns-in_err-row-clause-disk g c = error_told (state g.S.Store c.args.connection.now) (state g.S.Store c.look_up-found.new.connection) _ c.from_residual-in_err-row.result c.from_residual-in_err-row.ensures.1 c.in_err-row.ensures.disk

pub returns-in_err-record-in-Some-clause-disk : goal.returns-in_err-record-in-Some-clause-disk
returns-in_err-record-in-Some-clause-disk g c = mild_told (state g.S.Store c.args.connection.now) (state g.S.Store c.look_up-found.new.connection) _ c.from_residual-in_err-record-in-Some.result c.from_residual-in_err-record-in-Some.ensures.1 c.in_err-record-in-Some.ensures.told
