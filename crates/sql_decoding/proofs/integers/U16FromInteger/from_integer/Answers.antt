use Rattle.std.proofs.Common.{arith, of_z, rules, sym, to_z, w64, ◌∙◌, ◌≡◌}
use Rattle.std.specs.Prelude.{nat_lt}
use Rattle.std.proofs.lemmas.Bool.{lt-ltb, ltb-true}
use Rattle.sql_decoding.proofs.ColumnsTested.{err_says, natural_shown, natural_stands, natural_falls}
use Rattle.sql_decoding.proofs.integers.U16FromInteger.from_integer.Goals as goal

pub returns-clause-shown : goal.returns-clause-shown
returns-clause-shown c =
    let n = c.args.number in
    let same : to_z w64 (of_z w64 n) ≡ n = search rules in
    λ at row holds. natural_shown n at row holds c.in_ok-status.status (sym same ∙ c.in_ok-status.ensures.ok)

pub returns-clause-stands : goal.returns-clause-stands
returns-clause-stands c =
    let n = c.args.number in
    let same : to_z w64 (of_z w64 n) ≡ n = search rules in
    natural_stands (λ k. nat_lt k 65536) n c.in_ok-status.status (lt-ltb c.in_ok-status.status 65536 (omega arith)) (sym same ∙ c.in_ok-status.ensures.ok)

pub returns-in_err-status-clause-falls : goal.returns-in_err-status-clause-falls
returns-in_err-status-clause-falls c =
    let n = c.args.number in
    let same : to_z w64 (of_z w64 n) ≡ n = search rules in
    err_says c.from_residual.result _ (λ fault. natural_falls (λ k. nat_lt k 65536) n (λ k fits is. absurd (let h = c.in_err-status.ensures.back k (ltb-true k 65536 fits) (same ∙ is) in cc)))
