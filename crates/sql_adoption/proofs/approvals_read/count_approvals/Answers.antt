use Rattle.std.proofs.Common.{◌≡◌, subst, Vec, Global}
use Rattle.sqlite.specs.Effect.{Database}
use Rattle.sqlite.specs.Held.{state}
use Rattle.sqlite.specs.Order.{Row}
use Rattle.sqlite.specs.declared.error.Error.{Error}
use Rattle.office_specification.specs.Approvals.{approvals_in}
use Rattle.office_specification.specs.declared.approvals.Approvals.{Approvals}
use Rattle.sql_schema.specs.Layouts.{rows_named}
use Rattle.sql_statements.specs.ApprovalCounts.{ShowsApprovals}
use Rattle.sql_meaning.specs.Domains.{office_of_rows}
use Rattle.sql_layouts.proofs.Looked.{if_ok, looked_on}
use Rattle.sql_decoding.proofs.DiskFailures.{error_told, needed_shown, never_told}
use Rattle.sql_adoption.specs.ApprovalsRead.{AreToldBy}
use Rattle.sql_adoption.proofs.ApprovalsRead.{approvals_are}
use Rattle.sql_adoption.proofs.approvals_read.count_approvals.Goals as goal

-- what is looked for
abbrev Shows : Database → Vec Row Global → Type 0
Shows db rows = ShowsApprovals db rows.items

pub returns-clause-found : goal.returns-clause-found
returns-clause-found g c =
    let old = state g.S.Store c.args.connection.now in
    let new = state g.S.Store c.look_up_approvals.new.connection in
    let rows = c.in_ok-rows.rows in
    let Told : Approvals → Type 0 = AreToldBy c.as_slice.result.now in
    looked_on old new {E = Error} rows c.needed.result Shows (λ db approvals. approvals ≡ approvals_in (office_of_rows (rows_named db))) c.in_ok-rows.ensures.found
    (λ early is_open shows. if_ok {A = Told} c.needed.result (λ approvals told. approvals_are old.now (c.requires.idle.ready early is_open) rows.items approvals shows (subst (λ l. AreToldBy l approvals) c.as_slice.ensures.value told))
    (needed_shown Told c.approvals_told.result c.needed.result c.needed.ensures.value c.approvals_told.ensures))

pub returns-in_err-rows-clause-disk : goal.returns-in_err-rows-clause-disk
returns-in_err-rows-clause-disk g c = error_told (state g.S.Store c.args.connection.now) (state g.S.Store c.look_up_approvals.new.connection) _ c.from_residual.result c.from_residual.ensures.1 c.in_err-rows.ensures.disk

pub returns-clause-disk : goal.returns-clause-disk
returns-clause-disk g c = never_told (state g.S.Store c.args.connection.now) (state g.S.Store c.look_up_approvals.new.connection) c.needed.result c.needed.ensures.told
