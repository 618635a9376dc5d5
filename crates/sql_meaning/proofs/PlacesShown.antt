-- How many suggestions the rows of `suggestion` stand for on a unit: as many as a query shows places.
use Rattle.std.proofs.Common.{◌≡◌, [], ◌∷◌, List, map, filter, length, Some, unwrap_or, refl, sym, ap, subst, ◌∙◌, codes}
use Rattle.std.proofs.lemmas.List.{length-map}
use Rattle.std.specs.Ordering.{int_cmp, int_eq}
use Rattle.std.specs.Cmp.{int_cmp_total, eq_by_cmp_equiv}
use Rattle.std.specs.List.{IsDistinct}
use Rattle.std.specs.List.Sorted.{IsPermutation}
use Rattle.std.proofs.lemmas.List.Sorted.{IsPermutation-map}
use Rattle.std.proofs.lemmas.Map.Keys.{IsDistinct-IsPermutation}
use Rattle.std.specs.FinMap as maps
use Rattle.std.specs.FinMap.{int_cmp-IsAntisymmetric}
use Rattle.sqlite.specs.Order.{Row}
use Rattle.sqlite_trees.proofs.ListLemmas.{map-map, ascending-filter}
use Rattle.sqlite_rules.specs.Lists.{Has}
use Rattle.sqlite_rules.proofs.ListLemmas.{has_filtered}
use Rattle.sql_laws.specs.RowMaps.{OneEach, map_of}
use Rattle.sql_laws.specs.ApartRows.{AreOnce}
use Rattle.sql_laws.proofs.RemovedRows.{from_mapped, has_permuted}
use Rattle.sql_laws.proofs.RowMaps.{get-is}
use Rattle.po_text.specs.Texts.{Text}
use Rattle.units.specs.declared.unit.Suggestion.{Suggestion}
use Rattle.sql_schema.specs.Keys.{is_on_unit, columns}
use Rattle.sql_schema.specs.Inside.{IsInOrder}
use Rattle.sql_meaning.specs.Values.{integer_at}
use Rattle.sql_meaning.specs.Meaning.{suggestion_of_row, suggestions_in}
use Rattle.sql_meaning.proofs.ShownMaps.{map_is}
use Rattle.sql_meaning.proofs.ShownSuggestions.{each_once}
use Rattle.sql_meaning.proofs.RowsInOrder.{in_order, in_order_answers, values_in_order}
use Rattle.sql_schema.specs.Layouts.{NamedRows}
use Rattle.sql_meaning.specs.RowKeys.{HoldsIntegers}

module _ (tables : NamedRows) (lang key : Text) (rows : List Row) (table : AreOnce (tables (codes "suggestion"))) (ints : HoldsIntegers 4 (tables (codes "suggestion")))
    (one : OneEach (integer_at 4) (filter (is_on_unit lang key) (tables (codes "suggestion"))))
    (listed : IsPermutation (map (columns (4 ∷ [])) (filter (is_on_unit lang key) (tables (codes "suggestion")))) rows) where
  abbrev all : List Row
  all = filter (is_on_unit lang key) (tables (codes "suggestion"))

  abbrev shown : Row → Row
  shown = columns (4 ∷ [])

  abbrev by_place : maps.FinMap int_cmp Suggestion
  by_place = map_of int_cmp (integer_at 4) (suggestion_of_row tables) all

  -- a row shows the place of the suggestion that stands there
  abbrev item : Row → Suggestion
  item row = unwrap_or (maps.get by_place (integer_at 0 row)) (record { number = []; suggester = []; forms = []; votes = maps.empty })

  item_is : (r : Row) → Has all r → item (shown r) ≡ suggestion_of_row tables r
  item_is r there =
      ap (λ o. unwrap_or o (record { number = []; suggester = []; forms = []; votes = maps.empty }))
      (get-is int_cmp int_cmp_total int_cmp-IsAntisymmetric (integer_at 4) (suggestion_of_row tables) all (integer_at 4 r) (Some (suggestion_of_row tables r)) one (r, there, refl, refl))

  shown_ints : HoldsIntegers 0 rows
  shown_ints row there =
      let from = from_mapped shown all row (has_permuted (map shown all) rows row listed there) in
      rw from.2 (ints from.0 (has_filtered (is_on_unit lang key) (tables (codes "suggestion")) from.0 from.1).0)

  shown_once : IsDistinct int_eq (map (integer_at 0) rows)
  shown_once = IsDistinct-IsPermutation int_eq (eq_by_cmp_equiv int_cmp_total).symm (map (integer_at 0) (map shown all)) (map (integer_at 0) rows)
      (IsPermutation-map (integer_at 0) (map shown all) rows listed)
      (subst (IsDistinct int_eq) (sym (map-map (integer_at 0) shown all)) (each_once 4 all (ascending-filter _ (is_on_unit lang key) (tables (codes "suggestion")) table) one))

  pub places_counted : IsInOrder 0 rows → length (suggestions_in tables lang key) ≡ length rows
  places_counted up =
      ap (λ (m : maps.FinMap int_cmp Suggestion). length (maps.values m)) (map_is int_cmp int_cmp_total int_cmp-IsAntisymmetric (integer_at 4) (suggestion_of_row tables) shown (integer_at 0) item all rows
      (λ r there. refl) item_is listed (in_order 0 item rows up shown_ints shown_once) one (in_order_answers 0 item rows up shown_ints shown_once))
      ∙ ap length (values_in_order 0 item rows up shown_ints shown_once) ∙ length-map rows item
