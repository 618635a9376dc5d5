-- The units that the rows stand for, with their suggestions and the votes on these: what reads of the whole tables show of them.
use Rattle.std.proofs.Common.{◌≡◌, List, [], ◌∷◌, map, filter, refl, sym, ap, ◌∙◌, codes}
use Rattle.std.proofs.lemmas.Bool.{and_parts}
use Rattle.std.specs.FinMap as maps
use Rattle.sqlite.specs.declared.types.Value.TheVariants.{Text as Words}
use Rattle.sqlite.specs.Order.{Row, column}
use Rattle.sqlite_trees.proofs.ListLemmas.{map-map}
use Rattle.sqlite_rules.specs.Lists.{Has}
use Rattle.sqlite_rules.proofs.ListLemmas.{has_filtered}
use Rattle.sql_laws.specs.RowMaps.{OneEach}
use Rattle.sql_laws.proofs.RowMaps.{texts_are_one}
use Rattle.sql_laws.proofs.RemovedRows.{from_mapped, has_permuted}
use Rattle.po_text.specs.Texts.{Text}
use Rattle.units.specs.Project.{place_cmp}
use Rattle.units.specs.Orders.{place_total, place_IsAntisymmetric}
use Rattle.sql_schema.specs.Keys.{text_at, has_text, columns}
use Rattle.sql_schema.specs.Inside.{IsInOrder}
use Rattle.sql_meaning.specs.Values.{texts_at, vote_at}
use Rattle.sql_meaning.specs.Meaning.{number_at, votes_in, suggestions_in, place_of_row, unit_of_row, units_in}
use Rattle.sql_meaning.specs.Shown.{shown_suggestion}
use Rattle.sql_meaning.proofs.OfficeQueries.{votes_found, suggestions_found}
use Rattle.sql_meaning.proofs.ShownMaps.{map_is, inserted_answers}
use Rattle.sql_meaning.proofs.Units.{by_place}
use Rattle.sql_statements.specs.declared.whole_office.UnitTables.{UnitTables}
use Rattle.sql_statements.specs.WholeOffice.{ShowsUnitTablesIn}
use Rattle.sql_meaning.specs.OfficeShown.{votes_shown, is_of_unit, suggestions_shown, place_shown, unit_shown, units_shown}
use Rattle.sql_meaning.proofs.WholeRows.{kept_listed, fold_mapped, kept_in_order, cut_in_order}
use Rattle.sql_schema.specs.Layouts.{NamedRows}
use Rattle.sql_meaning.specs.RowKeys.{AreOfficeRows}

module _ (tables : NamedRows) (office : AreOfficeRows tables) (rows : UnitTables) (shows : ShowsUnitTablesIn tables rows) where
  -- ---- the votes on a suggestion

  -- what a query by the number shows
  abbrev first_two : Row → Row
  first_two = columns (0 ∷ 1 ∷ [])

  whole_votes : (number : Text) → votes_in tables number ≡ votes_shown rows.votes.items number
  whole_votes number =
      votes_found tables office number (map first_two (filter (has_text 2 number) rows.votes.items))
      (kept_listed (columns (2 ∷ 3 ∷ 1 ∷ [])) first_two (has_text 2 number) (tables (codes "vote")) rows.votes.items shows.votes.all)
      ∙ fold_mapped (λ votes shown. maps.insert votes (text_at 0 shown) (vote_at 1 shown)) first_two maps.empty (filter (has_text 2 number) rows.votes.items)

  -- ---- the suggestions on a unit

  module _ (lang key : Text) where
    abbrev on_unit : List Row
    on_unit = filter (is_of_unit lang key) rows.suggestions.items

    -- what a query by language and key shows
    abbrev first_four : Row → Row
    first_four = columns (0 ∷ 1 ∷ 2 ∷ 3 ∷ [])

    abbrev shown : Row → Row
    shown = columns (1 ∷ 4 ∷ 5 ∷ 6 ∷ 2 ∷ 3 ∷ [])

    -- each of them holds the unit's language and key
    of_unit : (r : Row) → Has on_unit r → (column r 4 ≡ Words lang) × (column r 5 ≡ Words key)
    of_unit r there =
        let was = has_filtered (is_of_unit lang key) rows.suggestions.items r there in
        let texts = and_parts (has_text 4 lang r) (has_text 5 key r) was.1 in
        let from = from_mapped shown (tables (codes "suggestion")) r (has_permuted (map shown (tables (codes "suggestion"))) rows.suggestions.items r shows.suggestions.all was.0) in
        let is_lang : text_at 4 r ≡ lang = texts_are_one (text_at 4 r) lang texts.0 in
        let is_key : text_at 5 r ≡ key = texts_are_one (text_at 5 r) key texts.1 in
        let at_lang : column r 4 ≡ Words (text_at 4 r) = rw from.2 (office.typed.suggestion_langs from.0 from.1) in
        let at_key : column r 5 ≡ Words (text_at 5 r) = rw from.2 (office.typed.suggestion_keys from.0 from.1) in
        (at_lang ∙ ap Words is_lang, at_key ∙ ap Words is_key)

    in_order : IsInOrder 1 (map first_four on_unit)
    in_order = cut_in_order first_four 1 on_unit (λ r. refl) (kept_in_order 4 5 1 (Words lang) (Words key) (is_of_unit lang key) rows.suggestions.items of_unit shows.suggestions.in_order)

    pointwise : map (λ row. shown_suggestion tables (first_four row)) on_unit ≡ suggestions_shown rows lang key
    pointwise = λ i. map (λ row. record { number = number_at 0 row; suggester = text_at 2 row; forms = texts_at 3 row; votes = whole_votes (text_at 0 row) i }) on_unit

    whole_suggestions : suggestions_in tables lang key ≡ suggestions_shown rows lang key
    whole_suggestions =
        suggestions_found tables office lang key (map first_four on_unit)
        (kept_listed shown first_four (is_of_unit lang key) (tables (codes "suggestion")) rows.suggestions.items shows.suggestions.all) in_order
        ∙ map-map (shown_suggestion tables) first_four on_unit ∙ pointwise

  -- ---- all units

  one_place : OneEach place_of_row (tables (codes "unit"))
  one_place r s in_r in_s e = office.keyed.one_unit r s in_r in_s (by_place.back r s tt tt e)

  unit_is : (r : Row) → unit_of_row tables r ≡ unit_shown rows (columns (3 ∷ 4 ∷ 5 ∷ 6 ∷ 7 ∷ 8 ∷ 9 ∷ 1 ∷ 2 ∷ []) r)
  unit_is r = λ i. record (unit_of_row tables r) { suggestions = whole_suggestions (text_at 1 r) (text_at 2 r) i }

  pub whole_units : units_in tables ≡ units_shown rows
  whole_units =
      map_is place_cmp place_total place_IsAntisymmetric place_of_row (unit_of_row tables) (columns (3 ∷ 4 ∷ 5 ∷ 6 ∷ 7 ∷ 8 ∷ 9 ∷ 1 ∷ 2 ∷ [])) place_shown (unit_shown rows)
      (tables (codes "unit")) rows.units.items (λ r there. refl) (λ r there. sym (unit_is r)) shows.units.all (units_shown rows) one_place
      (inserted_answers place_cmp place_total place_IsAntisymmetric place_shown (unit_shown rows) rows.units.items)
