-- The tests of a language's rows, one after the other, tell whether they keep the rules.
use Rattle.std.proofs.Common.{◌≡◌, ◌≤◌, Bool, true, false, length, refl, sym, subst}
use Rattle.sqlite.specs.Effect.{Database}
use Rattle.plural_expr.specs.Values.{Rule}
use Rattle.po_text.specs.Texts.{Text}
use Rattle.units.specs.Project.{Project}
use Rattle.units.specs.Rules.{rule_at}
use Rattle.sql_schema.specs.Layouts.{rows_named}
use Rattle.sql_statements.specs.WalkedRows.{suggestion_beside}
use Rattle.sql_adoption.specs.FramesKept.{AreLanguageRows}
use Rattle.sql_adoption.specs.LanguagesKept.{AreUnitsTold, IsLanguageKept, SuggestionsAreFormed, SuggestionsStand}
use Rattle.sql_adoption.specs.WalkedUnits.{IsKeptSuggestion}
use Rattle.sql_adoption.specs.declared.unit_sinks.Told.{Told}

module _ (db : Database) (project : Project) (domain lang : Text) where
  module _ (rule : Rule) (its : rule_at project lang ≡ rule) where
    pub are_formed : IsLanguageKept db project domain lang → SuggestionsAreFormed db rule domain lang
    are_formed keep s there passes = subst (λ (r : Rule). IsKeptSuggestion r (suggestion_beside (rows_named db) s)) its (keep.suggestions s there passes)

    pub language_kept : (told : Told) → AreUnitsTold db project domain lang told → told.kept ≡ true → length project.template ≤ told.current → SuggestionsStand db domain lang → SuggestionsAreFormed db rule domain lang
        → AreLanguageRows db project domain lang
    language_kept told units kept enough stand formed = record {
      stand = record { units = units.stand; suggestions = stand };
      keep = record {
        units = (units.kept kept).keep.each;
        suggestions = λ s there passes. subst (λ (r : Rule). IsKeptSuggestion r (suggestion_beside (rows_named db) s)) (sym its) (formed s there passes);
        few = (units.kept kept).keep.few;
        as_many = subst (λ n. length project.template ≤ n) (units.kept kept).current enough;
      };
    }

  -- units that don't keep the rules, or are too few
  pub not_whole : (told : Told) → AreUnitsTold db project domain lang told → ¬ ((told.kept ≡ true) × (length project.template ≤ told.current)) → ¬ IsLanguageKept db project domain lang
  not_whole told units whole keep = by told.kept refl
    where
      by : (kept : Bool) → told.kept ≡ kept → ⊥
      by true is = whole (is, subst (λ n. length project.template ≤ n) (sym (units.kept is).current) keep.as_many)
      by false is = units.broken is (record { each = keep.units; few = keep.few })
