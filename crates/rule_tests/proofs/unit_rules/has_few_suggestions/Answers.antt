use Rattle.std.proofs.Common.{ap, ◌∙◌, leb, length, List}
use Rattle.std.specs.FinMap as maps
use Rattle.std.specs.List.{list_all}
use Rattle.std.specs.Prelude.{nat_le}
use Rattle.units.specs.Limits.{suggestion_limit, vote_limit}
use Rattle.units.specs.declared.unit.Suggestion.{Suggestion}
use Rattle.rule_tests.proofs.UnitTests.{few_told}
use Rattle.rule_tests.proofs.unit_rules.has_few_suggestions.Goals as goal

pub returns : goal.returns
returns c =
    few_told c.args.unit.now c.hold_all.result (leb (length c.as_slice-suggestions.result.now) suggestion_limit) c.have_few_votes.result c.hold_all.ensures
    (ap (λ (xs : List Suggestion). leb (length xs) suggestion_limit) c.as_slice-suggestions.ensures)
    (c.have_few_votes.ensures ∙ ap (list_all (λ (s : Suggestion). nat_le (maps.len s.votes) vote_limit)) c.as_slice-suggestions.ensures)
