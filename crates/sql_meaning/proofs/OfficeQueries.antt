-- What the queries find among the rows of an office, by the names of their tables.
use Rattle.std.proofs.Common.{◌≡◌, List, [], ◌∷◌, map, filter, length, Option, Some, option_map, codes}
use Rattle.sqlite.specs.Order.{Row}
use Rattle.std.specs.List.Sorted.{IsPermutation}
use Rattle.sql_laws.specs.RowMaps.{IsFound}
use Rattle.po_text.specs.Texts.{Text}
use Rattle.units.specs.KeyTexts.{HasStrings}
use Rattle.units.specs.Units.{key_text}
use Rattle.units.specs.Project.{entry_of}
use Rattle.units.specs.declared.unit.Key.{Key}
use Rattle.sql_schema.specs.Inside.{IsInOrder}
use Rattle.sql_schema.specs.Keys.{second_text, has_text, is_on_unit, columns}
use Rattle.sql_statements.specs.Answers.{ShowsPolicyIn}
use Rattle.sql_meaning.specs.Meaning.{policy_in, template_in, suggestions_in, votes_in}
use Rattle.sql_meaning.specs.Shown.{shown_policy, shown_entry, shown_suggestion, shown_votes}
use Rattle.sql_meaning.proofs.UniqueKeys.{one_place_each}
use Rattle.sql_meaning.proofs.ShownPolicy.{finds_policy}
use Rattle.sql_meaning.proofs.ShownEntries.{finds_entry}
use Rattle.sql_meaning.proofs.ShownSuggestions.{finds_suggestions}
use Rattle.sql_meaning.proofs.ShownVotes.{finds_votes}
use Rattle.sql_meaning.proofs.PlacesShown.{places_counted}
use Rattle.sql_schema.specs.Layouts.{NamedRows}
use Rattle.sql_meaning.specs.RowKeys.{AreOfficeRows}

module _ (tables : NamedRows) (office : AreOfficeRows tables) where
  pub policy_found : (shown : Row) → ShowsPolicyIn tables (Some shown) → policy_in tables ≡ shown_policy shown
  policy_found shown = finds_policy tables shown office.keyed.one_policy

  pub entry_found : (key : Key) (found : Option Row) → HasStrings key → IsFound second_text (columns (3 ∷ 4 ∷ 5 ∷ 6 ∷ [])) (tables (codes "template")) (key_text key) found
      → entry_of (template_in tables) key ≡ option_map (shown_entry key) found
  entry_found key found valid = finds_entry tables key valid office.keyed.one_entry office.keyed.one_key found

  pub suggestions_found : (lang key : Text) (rows : List Row) → IsPermutation (map (columns (1 ∷ 4 ∷ 5 ∷ 6 ∷ [])) (filter (is_on_unit lang key) (tables (codes "suggestion")))) rows → IsInOrder 1 rows
      → suggestions_in tables lang key ≡ map (shown_suggestion tables) rows
  suggestions_found lang key rows listed up =
      finds_suggestions tables lang key rows office.suggestions_once office.typed.suggestion_places (one_place_each tables office.keyed.suggested lang key) listed up

  pub places_found : (lang key : Text) (rows : List Row) → IsPermutation (map (columns (4 ∷ [])) (filter (is_on_unit lang key) (tables (codes "suggestion")))) rows → IsInOrder 0 rows
      → length (suggestions_in tables lang key) ≡ length rows
  places_found lang key rows listed up =
      places_counted tables lang key rows office.suggestions_once office.typed.suggestion_places (one_place_each tables office.keyed.suggested lang key) listed up

  pub votes_found : (number : Text) (rows : List Row) → IsPermutation (map (columns (2 ∷ 3 ∷ [])) (filter (has_text 1 number) (tables (codes "vote")))) rows → votes_in tables number ≡ shown_votes rows
  votes_found number rows = finds_votes tables number rows office.keyed.suggested.one_vote
