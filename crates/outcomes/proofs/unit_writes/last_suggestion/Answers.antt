use Rattle.std.proofs.Common.{◌≡◌, ◌++◌, [], ◌∷◌, List, Option, Some, None, true, length, length-append, refl, sym, ap, ◌∙◌, arith}
use Rattle.std.specs.Prelude.{is_some}
use Rattle.std.specs.Option.{option_to_list}
use Rattle.units.specs.declared.unit.Suggestion.{Suggestion}
use Rattle.outcomes.proofs.unit_writes.last_suggestion.Goals as goal

-- the last of a list, or the first suggestion where the list is empty
abbrev last_from : Suggestion → List Suggestion → Suggestion
last_from s [] = s
last_from s (t ∷ all) = last_from t all

last_from-end : (first : Suggestion) (before : List Suggestion) (s : Suggestion) → last_from first (before ++ s ∷ []) ≡ s
last_from-end first [] s = refl
last_from-end first (t ∷ before) s = last_from-end t before s

last_is : (before rest : List Suggestion) (s : Suggestion) (last : Option Suggestion) → before ++ s ∷ [] ≡ rest ++ option_to_list last → is_some last ≡ true → last ≡ Some s
last_is before rest s None all some = cc
last_is before rest s (Some t) all some = ap Some (sym (last_from-end s rest t) ∙ ap (last_from s) (sym all) ∙ last_from-end s before s)

pub returns : goal.returns
returns c before s is =
    let all : before ++ s ∷ [] ≡ c.into_vec-suggestions.result.items = sym is ∙ sym c.into_vec-suggestions.ensures in
    let count : length (before ++ s ∷ []) ≡ length c.into_vec-suggestions.result.items = ap length all in
    last_is before c.pop.new.self.items s c.pop.result (all ∙ c.pop.ensures.items)
    (c.pop.ensures.variant.1 (omega (arith, count, length-append before (s ∷ []), c.into_vec-suggestions.result.ok)))
