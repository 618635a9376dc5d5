-- What is read of a unit's suggestions is what a decision over them takes.
use Rattle.std.proofs.Common.{◌≡◌, List, [], map, Option, Some, None, IfSome, option_map}
use Rattle.std.specs.Prelude.{option_and_then}
use Rattle.std.specs.Option.{option_map_or}
use Rattle.std.specs.FinMap as maps
use Rattle.po_text.specs.Texts.{Text}
use Rattle.po_text.specs.declared.entry.Entry.{Entry}
use Rattle.units.specs.Project.{Project, entry_of, role_of, view_of}
use Rattle.units.specs.Rules.{rule_at}
use Rattle.units.specs.Units.{suggestion_of}
use Rattle.units.specs.declared.unit.Key.{Key}
use Rattle.units.specs.declared.unit.Suggestion.{Suggestion}
use Rattle.units.specs.declared.unit.Unit.{Unit}
use Rattle.units.specs.declared.unit.UnitView.{UnitView}
use Rattle.review.specs.Parts.{without_votes}
use Rattle.office_specification.specs.declared.values.ActContext.{ActContext}
use Rattle.office_specification.specs.UnitAccess.{context_of, suggestions_at, suggestion_at}
use Rattle.office_specification.specs.UnitOutcomes.{context_view}

module _ (project : Project) (lang : Text) (key : Key) (caller : Text) where
  abbrev seen : Unit → UnitView
  seen unit = record { unit = unit; source = entry_of project.template key }

  abbrev found : Entry → ActContext
  found header = record { rule = rule_at project lang; policy = project.policy; role = role_of project caller; view = view_of project (lang, key) }

  pub suggestions_found : (all : List Suggestion) → all ≡ suggestions_at project lang key → IfSome (context_view (context_of project lang key caller)) (λ view. all ≡ map without_votes view.unit.suggestions)
  suggestions_found all is = by (maps.get project.headers lang)
    where
      at : (o : Option Unit) → all ≡ option_map_or (λ unit. map without_votes unit.suggestions) o [] → IfSome (option_map seen o) (λ view. all ≡ map without_votes view.unit.suggestions)
      at None e = tt
      at (Some unit) e = e

      by : (o : Option Entry) → IfSome (context_view (option_map found o)) (λ view. all ≡ map without_votes view.unit.suggestions)
      by None = tt
      by (Some header) = at (maps.get project.units (lang, key)) is

  pub suggestion_found : (number : Text) (one : Option Suggestion) → one ≡ suggestion_at project lang key number → IfSome (context_view (context_of project lang key caller)) (λ view. one ≡ suggestion_of number view.unit)
  suggestion_found number one is = by (maps.get project.headers lang)
    where
      at : (o : Option Unit) → one ≡ option_and_then (suggestion_of number) o → IfSome (option_map seen o) (λ view. one ≡ suggestion_of number view.unit)
      at None e = tt
      at (Some unit) e = e

      by : (o : Option Entry) → IfSome (context_view (option_map found o)) (λ view. one ≡ suggestion_of number view.unit)
      by None = tt
      by (Some header) = at (maps.get project.units (lang, key)) is
