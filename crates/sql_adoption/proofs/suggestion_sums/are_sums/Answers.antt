use Rattle.std.proofs.Common.{rules, ◌≡◌, ◌∙◌}
use Rattle.sql_layouts.proofs.Looked.{if_ok}
use Rattle.sql_adoption.proofs.SumsTold.{sums_same}
use Rattle.sql_adoption.proofs.suggestion_sums.are_sums.Goals as goal

pub returns-clause-told : goal.returns-clause-told
returns-clause-told c =
    let rows = c.args.rows.now in
    let votes : c.as_slice.result.now ≡ rows.votes.items = search rules in
    let sums : c.as_slice-2.result.now ≡ rows.sums.items = search rules in
    let numbers : c.as_slice-3.result.now ≡ rows.suggestions.items = search rules in
    if_ok c.have_their_sums.result (λ have told. told ∙ sums_same c.in_ok-votes.votes c.in_ok-sums.sums rows c.as_slice.result.now c.as_slice-2.result.now c.as_slice-3.result.now votes sums numbers
    c.in_ok-votes.ensures.shown c.in_ok-sums.ensures) c.have_their_sums.ensures.told
