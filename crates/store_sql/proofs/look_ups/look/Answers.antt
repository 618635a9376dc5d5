use Rattle.std.specs.Prelude.{⊤}
use Rattle.sqlite.specs.Held.{state}
use Rattle.sqlite.specs.declared.error.Error.{Error}
use Rattle.sql_statements.specs.Answers.{ShowsPolicy}
use Rattle.sql_decoding.specs.declared.faults.Failure.{Failure}
use Rattle.sql_decoding.proofs.DiskFailures.{error_told}
use Rattle.sql_exports.proofs.Results.{look_up_mapped}
use Rattle.store_sql.proofs.look_ups.look.Goals as goal

pub returns-clause-looked : goal.returns-clause-looked
returns-clause-looked g c =
    look_up_mapped (state g.S.Store c.args.connection.now) (state g.S.Store c.look_up.new.connection) {E = Error} {F = Failure} c.in_ok-policy.policy (tt {0}) ShowsPolicy (λ _ _. ⊤)
    c.in_ok-policy.ensures.found (λ clean is_open shown. tt)

pub returns-in_err-policy-clause-disk : goal.returns-in_err-policy-clause-disk
returns-in_err-policy-clause-disk g c = error_told (state g.S.Store c.args.connection.now) (state g.S.Store c.look_up.new.connection) _ c.from_residual.result c.from_residual.ensures.1 c.in_err-policy.ensures.disk
