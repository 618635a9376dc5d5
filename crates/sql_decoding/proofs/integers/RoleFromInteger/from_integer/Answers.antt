use Rattle.std.proofs.Common.{ap, of_z, rules, Some, sym, to_z, w64, ◌≡◌, ◌∙◌}
use Rattle.std.proofs.lemmas.Result.{IfOk-weaker}
use Rattle.sql_decoding.specs.RowTests.{is_role}
use Rattle.sql_decoding.proofs.ColumnsTested.{ok_tells, err_tells, role_shown, role_stands, role_falls}
use Rattle.sql_decoding.proofs.integers.RoleFromInteger.from_integer.Goals as goal

pub returns-clause-shown : goal.returns-clause-shown
returns-clause-shown c =
    let n = c.args.number in
    let same : to_z w64 (of_z w64 n) ≡ n = search rules in
    IfOk-weaker c.role_from.result _ _ (λ v is at row holds. role_shown n at row holds v (is ∙ ap Some same)) c.role_from.ensures.ok

pub returns-clause-stands : goal.returns-clause-stands
returns-clause-stands c =
    let n = c.args.number in
    let same : to_z w64 (of_z w64 n) ≡ n = search rules in
    ok_tells c.role_from.result _ (λ v is. role_stands n v (is ∙ ap Some same)) c.role_from.ensures.ok

pub returns-clause-falls : goal.returns-clause-falls
returns-clause-falls c =
    let n = c.args.number in
    let same : to_z w64 (of_z w64 n) ≡ n = search rules in
    err_tells c.role_from.result (is_role n) (λ never. role_falls n (λ v is. never v (c.role_from.ensures.back v (is ∙ ap Some (sym same)))))
