-- A unit keeps the rules of one exactly where it does without its suggestions, and these do beside it.
use Rattle.std.proofs.Common.{◌≡◌, length, refl, arith}
use Rattle.std.specs.FinMap as maps
use Rattle.std.proofs.lemmas.List.Elements.{All-nil}
use Rattle.plural_expr.specs.Values.{Rule}
use Rattle.units.specs.Limits.{vote_limit}
use Rattle.std.specs.Prelude.{◌≤◌}
use Rattle.units.specs.Projects.{IsUnit}
use Rattle.units.specs.Units.{forms_needed}
use Rattle.units.specs.declared.unit.Suggestion.{Suggestion}
use Rattle.units.specs.declared.unit.Unit.{Unit}
use Rattle.rule_tests.specs.Bare.{bare, SuggestionsKeep}

pub unit_whole : (rule : Rule) (unit : Unit) → IsUnit rule (bare unit) → SuggestionsKeep rule unit unit.suggestions → IsUnit rule unit
unit_whole rule unit alone keep = record {
  current = λ current. ((alone.current current).0, keep.formed current);
  put_away = λ obsolete. let it = alone.put_away obsolete in (keep.none obsolete, it.1, it.2, it.3);
  named = alone.named;
  previous = alone.previous;
  revised = alone.revised;
  commented = alone.commented;
  suggested = keep.few;
  voted = keep.voted;
}

pub unit_bare : (rule : Rule) (unit : Unit) → IsUnit rule unit → IsUnit rule (bare unit)
unit_bare rule unit rules = record {
  current = λ current. ((rules.current current).0, All-nil (λ (s : Suggestion). length s.forms ≡ forms_needed rule unit.plural));
  put_away = λ obsolete. let it = rules.put_away obsolete in (refl, it.1, it.2, it.3);
  named = rules.named;
  previous = rules.previous;
  revised = rules.revised;
  commented = rules.commented;
  suggested = omega arith;
  voted = All-nil (λ (s : Suggestion). maps.len s.votes ≤ vote_limit);
}

pub unit_suggestions : (rule : Rule) (unit : Unit) → IsUnit rule unit → SuggestionsKeep rule unit unit.suggestions
unit_suggestions rule unit rules = record {
  formed = λ current. (rules.current current).1;
  none = λ obsolete. (rules.put_away obsolete).0;
  few = rules.suggested;
  voted = rules.voted;
}
