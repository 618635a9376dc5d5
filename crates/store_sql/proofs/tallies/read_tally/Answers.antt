use Rattle.std.proofs.Common.{rules, ◌≡◌, Some, None, sym, ap, ◌∙◌}
use Rattle.sqlite.specs.Held.{state}
use Rattle.sqlite.specs.declared.error.Error.{Error}
use Rattle.units.specs.Office.{project_in}
use Rattle.office_specification.specs.Tally.{counts_of}
use Rattle.sql_statements.specs.DomainAnswers.{ShowsTally}
use Rattle.sql_schema.specs.Layouts.{rows_named}
use Rattle.sql_meaning.specs.Domains.{office_of_rows}
use Rattle.sql_exports.proofs.Results.{look_up_mapped}
use Rattle.store_sql.proofs.TalliesRead.{reads_tally}
use Rattle.sql_decoding.proofs.DiskFailures.{error_told, mild_told, needed_is}
use Rattle.store_sql.proofs.tallies.read_tally.Goals as goal

pub returns-in_ok-tally-in-Some-clause-found : goal.returns-in_ok-tally-in-Some-clause-found
returns-in_ok-tally-in-Some-clause-found g c =
    let old = state g.S.Store c.args.connection.now in
    look_up_mapped old (state g.S.Store c.look_up.new.connection) {E = Error} (Some c.in-Some.row) (Some c.in_ok-tally-in-Some.field-0)
    (ShowsTally c.as_str.result.now c.as_str-2.result.now)
    (λ db counts. counts ≡ counts_of (project_in (office_of_rows (rows_named db)) c.args.domain.now) c.args.lang.now) (search rules)
    (λ clean is_open shows. ap Some (needed_is _ c.tally_in.result c.in_ok-tally-in-Some.field-0 c.in_ok-tally-in-Some.ensures.value c.tally_in.ensures.shown)
    ∙ sym (reads_tally old c.args.domain.now c.args.lang.now c.as_str.result.now c.as_str-2.result.now (Some c.in-Some.row) c.requires.keeps c.as_str.ensures.value c.as_str-2.ensures.value clean is_open shows))

pub returns-in-None-clause-found : goal.returns-in-None-clause-found
returns-in-None-clause-found g c =
    let old = state g.S.Store c.args.connection.now in
    look_up_mapped old (state g.S.Store c.look_up.new.connection) {E = Error} None None
    (ShowsTally c.as_str.result.now c.as_str-2.result.now)
    (λ db counts. counts ≡ counts_of (project_in (office_of_rows (rows_named db)) c.args.domain.now) c.args.lang.now) (search rules)
    (λ clean is_open shows.
    sym (reads_tally old c.args.domain.now c.args.lang.now c.as_str.result.now c.as_str-2.result.now None c.requires.keeps c.as_str.ensures.value c.as_str-2.ensures.value clean is_open shows))

pub returns-in_err-found-clause-disk : goal.returns-in_err-found-clause-disk
returns-in_err-found-clause-disk g c = error_told (state g.S.Store c.args.connection.now) (state g.S.Store c.look_up.new.connection) _ c.from_residual.result c.from_residual.ensures.1 c.in_err-found.ensures.disk

pub returns-in_err-tally-in-Some-clause-disk : goal.returns-in_err-tally-in-Some-clause-disk
returns-in_err-tally-in-Some-clause-disk g c = mild_told (state g.S.Store c.args.connection.now) (state g.S.Store c.look_up.new.connection) _ c.from_residual-in_err-tally-in-Some.result c.from_residual-in_err-tally-in-Some.ensures.1 c.in_err-tally-in-Some.ensures.told
