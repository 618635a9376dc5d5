use Rattle.std.proofs.Common.{rules, ◌≡◌, Some, None, ap, ◌∙◌}
use Rattle.std.specs.FinMap as maps
use Rattle.sqlite.specs.Held.{state}
use Rattle.sqlite.specs.declared.error.Error.{Error}
use Rattle.sql_statements.specs.DomainAnswers.{ShowsDomainLanguage}
use Rattle.sql_meaning.specs.Meaning.{headers_in}
use Rattle.sql_decoding.proofs.DiskFailures.{error_told, mild_told, needed_is}
use Rattle.sql_exports.proofs.HeaderRead.{header_read}
use Rattle.sql_exports.proofs.Results.{look_up_mapped}
use Rattle.sql_exports.proofs.header.look_up_header.Goals as goal
use Rattle.sql_schema.specs.Layouts.{rows_named}
use Rattle.sql_schema.specs.SeenRows.{seen_in}

pub returns-in_ok-header-in-Some-clause-found : goal.returns-in_ok-header-in-Some-clause-found
returns-in_ok-header-in-Some-clause-found g c =
    let old = state g.S.Store c.args.connection.now in
    look_up_mapped old (state g.S.Store c.look_up_language.new.connection) {E = Error} (Some c.in-Some.row) (Some c.in_ok-header-in-Some.field-0)
    (ShowsDomainLanguage c.args.domain.now c.args.lang.now) (λ db header. header ≡ maps.get (headers_in (seen_in c.args.domain.now (rows_named db))) c.args.lang.now) (search rules)
    (λ clean is_open shown. ap Some (needed_is _ c.header_in.result c.in_ok-header-in-Some.field-0 c.in_ok-header-in-Some.ensures.value c.header_in.ensures.shown)
    ∙ header_read c.args.domain.now old.now (c.requires.idle.ready clean is_open) c.args.lang.now (Some c.in-Some.row) shown)

pub returns-in-None-clause-found : goal.returns-in-None-clause-found
returns-in-None-clause-found g c =
    let old = state g.S.Store c.args.connection.now in
    look_up_mapped old (state g.S.Store c.look_up_language.new.connection) {E = Error} None None
    (ShowsDomainLanguage c.args.domain.now c.args.lang.now) (λ db header. header ≡ maps.get (headers_in (seen_in c.args.domain.now (rows_named db))) c.args.lang.now) (search rules)
    (λ clean is_open shown. header_read c.args.domain.now old.now (c.requires.idle.ready clean is_open) c.args.lang.now None shown)

pub returns-in_err-row-clause-disk : goal.returns-in_err-row-clause-disk
returns-in_err-row-clause-disk g c =
    error_told (state g.S.Store c.args.connection.now) (state g.S.Store c.look_up_language.new.connection) _ c.from_residual.result c.from_residual.ensures.1 c.in_err-row.ensures.disk

pub returns-in_err-header-in-Some-clause-disk : goal.returns-in_err-header-in-Some-clause-disk
returns-in_err-header-in-Some-clause-disk g c =
    mild_told (state g.S.Store c.args.connection.now) (state g.S.Store c.look_up_language.new.connection) _ c.from_residual-in_err-header-in-Some.result c.from_residual-in_err-header-in-Some.ensures.1 c.in_err-header-in-Some.ensures.told
