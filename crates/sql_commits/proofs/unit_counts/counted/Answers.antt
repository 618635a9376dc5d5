use Rattle.std.proofs.Common.{[], ◌∷◌, ap, ◌∙◌}
use Rattle.office_specification.specs.Counting.{plus}
use Rattle.office_specification.specs.Tally.{counts_in}
use Rattle.office_specification.proofs.tallies.Countings.{none_and}
use Rattle.sql_commits.proofs.unit_counts.counted.Goals as goal

pub returns : goal.returns
returns c template is =
    let one = counts_in template (c.args.unit.now ∷ []) in
    c.in_ok-add.ensures template (c.as_ref.ensures.value ∙ is) ∙ (ap (λ t. plus t one) c.none-tally.ensures ∙ none_and one)
