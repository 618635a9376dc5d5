-- What is asked of a project's frame, and of the units that walks show, is asked alike of one that has other units in its map.
use Rattle.std.proofs.Common.{◌≡◌, refl, subst}
use Rattle.std.specs.FinMap as maps
use Rattle.sqlite.specs.Effect.{Database}
use Rattle.sqlite.specs.Order.{Row}
use Rattle.po_text.specs.Texts.{Text}
use Rattle.units.specs.Project.{Project, Place, place_cmp}
use Rattle.units.specs.Projects.{IsUnit}
use Rattle.units.specs.Rules.{rule_at}
use Rattle.units.specs.declared.unit.Unit.{Unit}
use Rattle.rule_tests.specs.Parts.{IsBareProject, IsFrame, IsPlaced}
use Rattle.sql_schema.specs.Layouts.{rows_named}
use Rattle.sql_statements.specs.WalkedRows.{suggestion_beside}
use Rattle.sql_adoption.specs.FramesKept.{KeepsDomain}
use Rattle.sql_adoption.specs.LanguagesKept.{IsLanguageKept}
use Rattle.sql_adoption.specs.WalkedUnits.{IsKeptUnit, IsKeptSuggestion}

module _ (project : Project) (units : maps.FinMap place_cmp Unit) where
  abbrev other : Project
  other = record project { units = units }

  same_rule : (lang : Text) → rule_at project lang ≡ rule_at other lang
  unfolding rule_at
  same_rule lang = refl

  pub frame_too : IsFrame project → IsFrame other
  frame_too it = record { team = it.team; accepting = it.accepting; template_valid = it.template_valid; template_plain = it.template_plain; few_languages = it.few_languages }

  pub bare_too : IsBareProject project → IsBareProject other
  bare_too it = record { frame = frame_too it.frame; headed = λ lang header is. it.headed lang header is }

  placed_too : (place : Place) (unit : Unit) → IsPlaced project place unit → IsPlaced other place unit
  placed_too place unit it = record {
    stands = record { key = it.stands.key; exact = it.stands.exact; reviewed = it.stands.reviewed };
    language = it.language;
    rules = subst (λ rule. IsUnit rule unit) (same_rule place.0) it.rules;
  }

  unit_too : (row : Row) → IsKeptUnit project row → IsKeptUnit other row
  unit_too row it = record { placed = placed_too _ _ it.placed; fits = it.fits; few = it.few; none = it.none }

  module _ (db : Database) (domain : Text) where
    language_too : (lang : Text) → IsLanguageKept db project domain lang → IsLanguageKept db other domain lang
    language_too lang it = record { units = λ u there passes. unit_too _ (it.units u there passes); suggestions = λ s there passes. subst (λ rule. IsKeptSuggestion rule (suggestion_beside (rows_named db) s)) (same_rule lang) (it.suggestions s there passes); few = it.few; as_many = it.as_many }

    pub domain_too : KeepsDomain db project domain → KeepsDomain db other domain
    domain_too it = record { bare = bare_too it.bare; each = λ lang headed. language_too lang (it.each lang headed) }
