use Rattle.std.proofs.Common.{of_z, rules, sym, to_z, w64, ◌≡◌, ◌∙◌}
use Rattle.std.proofs.lemmas.Result.{IfOk-weaker}
use Rattle.sql_decoding.specs.RowTests.{is_vote}
use Rattle.sql_decoding.proofs.ColumnsTested.{ok_tells, err_tells, vote_shown, vote_stands, vote_falls}
use Rattle.sql_decoding.proofs.integers.VoteValueFromInteger.from_integer.Goals as goal

pub returns-clause-shown : goal.returns-clause-shown
returns-clause-shown c =
    let n = c.args.number in
    let same : to_z w64 (of_z w64 n) ≡ n = search rules in
    IfOk-weaker c.vote_from.result _ _ (λ v is at row holds. vote_shown n at row holds v (sym same ∙ is)) c.vote_from.ensures.ok

pub returns-clause-stands : goal.returns-clause-stands
returns-clause-stands c =
    let n = c.args.number in
    let same : to_z w64 (of_z w64 n) ≡ n = search rules in
    ok_tells c.vote_from.result _ (λ v is. vote_stands n v (sym same ∙ is)) c.vote_from.ensures.ok

pub returns-clause-falls : goal.returns-clause-falls
returns-clause-falls c =
    let n = c.args.number in
    let same : to_z w64 (of_z w64 n) ≡ n = search rules in
    err_tells c.vote_from.result (is_vote n) (λ never. vote_falls n (λ v is. never v (c.vote_from.ensures.back v (same ∙ is))))
