use Rattle.std.proofs.Common.{◌≡◌, List, subst}
use Rattle.std.specs.Prelude.{IfOk}
use Rattle.units.specs.declared.unit.Suggestion.{Suggestion}
use Rattle.office_maps.proofs.unit_parts.voted_on.Goals as goal

pub returns : goal.returns
returns c =
    subst (λ (suggestions : List Suggestion). IfOk c.with_suggestions.result (λ u. u ≡ record c.args.unit.now { suggestions = suggestions })) c.in_ok-suggestions.ensures c.with_suggestions.ensures
