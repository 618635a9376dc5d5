use Rattle.std.proofs.Common.{◌≡◌, sym, ◌∙◌}
use Rattle.sqlite_schema.specs.Code.{terms_in}
use Rattle.sql_layouts.proofs.table_checks.has_checks.Goals as goal

pub returns : goal.returns
returns c =
    let same : terms_in c.as_slice.result.now c.as_slice-2.result.now ≡ c.args.terms.now = (λ i. terms_in (c.as_slice.ensures i) (c.as_slice-2.ensures i)) ∙ c.terms.view_is in
    (λ e. sym same ∙ c.are_checks.ensures.0 e, λ all. c.are_checks.ensures.1 (same ∙ all))
