use Rattle.std.proofs.Common.{rules, ◌≡◌}
use Rattle.sqlite.specs.Held.{state}
use Rattle.sqlite.specs.declared.error.Error.{Error}
use Rattle.units.specs.Office.{project_in}
use Rattle.office_specification.specs.UnitAccess.{context_of}
use Rattle.sql_statements.specs.DomainUnitRows.{ShowsDomainContextRows}
use Rattle.sql_meaning.specs.Domains.{office_of_rows}
use Rattle.sql_decoding.specs.ShownContexts.{IsShownContext}
use Rattle.sql_exports.proofs.Results.{look_up_answered}
use Rattle.store_sql.proofs.ContextsRead.{reads_context}
use Rattle.sql_decoding.proofs.DiskFailures.{error_told, memory_told, needed_shown, never_told}
use Rattle.store_sql.proofs.act_contexts.read_context_anew.Goals as goal
use Rattle.sql_schema.specs.Layouts.{rows_named}

pub returns-clause-found : goal.returns-clause-found
returns-clause-found g c =
    let old = state g.S.Store c.args.connection.now in
    look_up_answered old (state g.S.Store c.look_up.new.connection) {E = Error} c.in_ok-rows.rows _
    (ShowsDomainContextRows c.as_str.result.now c.as_str-2.result.now c.as_str-3.result.now c.as_str-4.result.now) (IsShownContext c.args.key.now c.in_ok-rows.rows)
    (λ db r. r ≡ context_of (project_in (office_of_rows (rows_named db)) c.args.domain.now) c.args.lang.now c.args.key.now c.args.name.now) c.in_ok-rows.ensures.found (needed_shown _ c.context_in.result c.needed-found.result c.needed-found.ensures.value c.context_in.ensures.shown)
    (λ clean is_open shows found shown. reads_context old c.args.domain.now c.args.lang.now c.args.key.now c.args.name.now c.as_str.result.now c.as_str-2.result.now c.as_str-3.result.now c.as_str-4.result.now
    c.in_ok-rows.rows found c.requires.keeps c.key_fits.ensures.strings c.as_str.ensures.value c.as_str-2.ensures.value (search rules) c.as_str-4.ensures.value clean is_open shown shows)

pub returns-in_err-text-clause-disk : goal.returns-in_err-text-clause-disk
returns-in_err-text-clause-disk g c = memory_told (state g.S.Store c.args.connection.now) (state g.S.Store c.args.connection.now) c.from_residual.result c.from_residual.ensures.1

pub returns-in_err-rows-clause-disk : goal.returns-in_err-rows-clause-disk
returns-in_err-rows-clause-disk g c = error_told (state g.S.Store c.args.connection.now) (state g.S.Store c.look_up.new.connection) _ c.from_residual-in_err-rows.result c.from_residual-in_err-rows.ensures.1 c.in_err-rows.ensures.disk

pub returns-clause-disk : goal.returns-clause-disk
returns-clause-disk g c = never_told (state g.S.Store c.args.connection.now) (state g.S.Store c.look_up.new.connection) c.needed-found.result c.needed-found.ensures.told
