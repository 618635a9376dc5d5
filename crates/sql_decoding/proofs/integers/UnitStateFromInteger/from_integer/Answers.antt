use Rattle.std.proofs.Common.{of_z, rules, sym, to_z, w64, ◌≡◌, ◌∙◌}
use Rattle.std.proofs.lemmas.Result.{IfOk-weaker}
use Rattle.sql_decoding.specs.RowTests.{is_state}
use Rattle.sql_decoding.proofs.ColumnsTested.{ok_tells, err_tells, state_shown, state_stands, state_falls}
use Rattle.sql_decoding.proofs.integers.UnitStateFromInteger.from_integer.Goals as goal

pub returns-clause-shown : goal.returns-clause-shown
returns-clause-shown c =
    let n = c.args.number in
    let same : to_z w64 (of_z w64 n) ≡ n = search rules in
    IfOk-weaker c.state_from.result _ _ (λ v is at row holds. state_shown n at row holds v (sym same ∙ is)) c.state_from.ensures.ok

pub returns-clause-stands : goal.returns-clause-stands
returns-clause-stands c =
    let n = c.args.number in
    let same : to_z w64 (of_z w64 n) ≡ n = search rules in
    ok_tells c.state_from.result _ (λ v is. state_stands n v (sym same ∙ is)) c.state_from.ensures.ok

pub returns-clause-falls : goal.returns-clause-falls
returns-clause-falls c =
    let n = c.args.number in
    let same : to_z w64 (of_z w64 n) ≡ n = search rules in
    err_tells c.state_from.result (is_state n) (λ never. state_falls n (λ v is. never v (c.state_from.ensures.back v (same ∙ is))))
