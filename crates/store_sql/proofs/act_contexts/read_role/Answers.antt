use Rattle.std.proofs.Common.{◌≡◌}
use Rattle.sqlite.specs.Held.{state}
use Rattle.sqlite.specs.declared.error.Error.{Error}
use Rattle.units.specs.Project.{role_in}
use Rattle.sql_statements.specs.Answers.{ShowsMember}
use Rattle.sql_meaning.specs.Domains.{office_of_rows}
use Rattle.sql_decoding.specs.ShownContexts.{shown_role}
use Rattle.sql_exports.proofs.Results.{look_up_answered}
use Rattle.store_sql.proofs.ContextsRead.{reads_role}
use Rattle.sql_decoding.proofs.DiskFailures.{error_told, needed_shown, never_told}
use Rattle.store_sql.proofs.act_contexts.read_role.Goals as goal
use Rattle.sql_schema.specs.Layouts.{rows_named}

pub returns-clause-found : goal.returns-clause-found
returns-clause-found g c =
    let old = state g.S.Store c.args.connection.now in
    look_up_answered old (state g.S.Store c.look_up.new.connection) {E = Error} c.in_ok-row.row _
    (ShowsMember c.as_str.result.now) (λ role. role ≡ shown_role c.in_ok-row.row)
    (λ db role. role ≡ role_in (office_of_rows (rows_named db)).team c.args.name.now) c.in_ok-row.ensures.found (needed_shown _ c.role_in.result c.needed-role.result c.needed-role.ensures.value c.role_in.ensures.shown)
    (λ clean is_open shows role shown. reads_role old c.args.name.now c.as_str.result.now c.in_ok-row.row role c.requires.keeps c.as_str.ensures.value clean is_open shown shows)

pub returns-in_err-row-clause-disk : goal.returns-in_err-row-clause-disk
returns-in_err-row-clause-disk g c = error_told (state g.S.Store c.args.connection.now) (state g.S.Store c.look_up.new.connection) _ c.from_residual.result c.from_residual.ensures.1 c.in_err-row.ensures.disk

pub returns-clause-disk : goal.returns-clause-disk
returns-clause-disk g c = never_told (state g.S.Store c.args.connection.now) (state g.S.Store c.look_up.new.connection) c.needed-role.result c.needed-role.ensures.told
