use Rattle.std.proofs.Common.{of_z, rules, sym, to_z, w64, ◌≡◌, ◌∙◌}
use Rattle.std.proofs.lemmas.Result.{IfOk-weaker}
use Rattle.units.specs.Limits.{is_revision}
use Rattle.sql_decoding.specs.RowTests.{natural_passes}
use Rattle.sql_decoding.proofs.ColumnsTested.{both_tell, err_tells, natural_shown, natural_stands, natural_falls}
use Rattle.sql_decoding.proofs.integers.RevisionFromInteger.from_integer.Goals as goal

pub returns-clause-shown : goal.returns-clause-shown
returns-clause-shown c =
    let n = c.args.number in
    let same : to_z w64 (of_z w64 n) ≡ n = search rules in
    IfOk-weaker c.revision_from.result _ _ (λ v is at row holds. natural_shown n at row holds v (sym same ∙ is)) c.revision_from.ensures.ok

pub returns-clause-stands : goal.returns-clause-stands
returns-clause-stands c =
    let n = c.args.number in
    let same : to_z w64 (of_z w64 n) ≡ n = search rules in
    both_tell c.revision_from.result _ _ (λ v is fits. natural_stands is_revision n v fits (sym same ∙ is)) c.revision_from.ensures.ok c.revision_from.ensures.fits

pub returns-clause-falls : goal.returns-clause-falls
returns-clause-falls c =
    let n = c.args.number in
    let same : to_z w64 (of_z w64 n) ≡ n = search rules in
    err_tells c.revision_from.result (natural_passes is_revision n) (λ never. natural_falls is_revision n (λ v fits is. never v (c.revision_from.ensures.back v fits (same ∙ is))))
