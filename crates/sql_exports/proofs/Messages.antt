-- The messages that the query shows are the template's entries in order, each with its unit.
use Rattle.std.proofs.Common.{◌≡◌, ◌+◌, List, [], ◌∷◌, ◌++◌, map, length, Some, inl, inr, refl, sym, ap, subst, ◌∙◌, arith, codes}
use Rattle.std.specs.declared.cmp.Ordering.{Ordering}
use Rattle.std.specs.Ordering.{is_lt}
use Rattle.std.specs.Option.{option_map_or}
use Rattle.std.specs.List.Sorted.{IsPermutation, IsSorted}
use Rattle.std.proofs.lemmas.List.{length-map, get_or-map}
use Rattle.std.proofs.lemmas.List.Sorted.{IsPermutation-map}
use Rattle.std.specs.FinMap as maps
use Rattle.sqlite.specs.Order.{Row}
use Rattle.sqlite_trees.proofs.ListLemmas.{map-map}
use Rattle.sqlite_rules.specs.Lists.{Has}
use Rattle.sql_laws.specs.RowMaps.{OneEach}
use Rattle.sql_laws.proofs.RowMaps.{get-is}
use Rattle.sql_laws.proofs.RemovedRows.{from_mapped, has_permuted}
use Rattle.po_text.specs.declared.entry.Entry.{Entry}
use Rattle.po_text.specs.Texts.{Text}
use Rattle.units.specs.Units.{key_of}
use Rattle.units.specs.Project.{Place, place_cmp}
use Rattle.units.specs.Orders.{place_total, place_IsAntisymmetric}
use Rattle.office_specification.specs.ExportedEntries.{translated}
use Rattle.sql_schema.specs.Keys.{second_text, columns, text_at}
use Rattle.sql_meaning.specs.Meaning.{template_in, units_in, unit_of_row, place_of_row, key_at}
use Rattle.sql_meaning.specs.Shown.{shown_entry}
use Rattle.sql_meaning.proofs.Units.{by_place}
use Rattle.sql_statements.specs.Tables.{by_columns, ShowsTemplateIn}
use Rattle.sql_meaning.proofs.OfficeTables.{whole_template}
use Rattle.sql_columns.specs.Readings.{key_parts}
use Rattle.sql_statements.specs.Queries.{AreUnits, ShowsMessagesIn, entry_places, unit_places}
use Rattle.sql_decoding.specs.ShownEntries.{message_shown}
use Rattle.sql_schema.specs.Layouts.{NamedRows}
use Rattle.sql_meaning.specs.RowKeys.{AreOfficeRows}

mapped_alike : {A B : Type 0} (f g : A → B) (xs : List A) → ((x : A) → Has xs x → f x ≡ g x) → map f xs ≡ map g xs
mapped_alike f g [] same = refl
mapped_alike f g (x ∷ xs) same = rw (same x (inl refl)) (ap (λ ys. g x ∷ ys) (mapped_alike f g xs (λ y there. same y (inr there))))

-- rows in an order stay in it where they are cut so that the order is the same
mapped_sorted : (f : Row → Row) (by : Row → Row → Ordering) (rows : List Row) → ((r s : Row) → by (f r) (f s) ≡ by r s) → IsSorted by rows → IsSorted by (map f rows)
mapped_sorted f by rows alike sorted k d low high =
    let long : length (map f rows) ≡ length rows = length-map rows f in
    rw (get_or-map f rows (k + 1) d d (omega arith), get_or-map f rows k d d (omega arith)) (ap is_lt (alike _ _) ∙ sorted k d low (omega arith))

module _ (tables : NamedRows) (office : AreOfficeRows tables) (lang : Text) (unit_of : Row → Row) (are : AreUnits lang tables unit_of) (rows : List Row) (shows : ShowsMessagesIn unit_of tables rows) where
  abbrev entries : List Row
  entries = tables (codes "template")

  abbrev shown_of : Row → Row
  shown_of row = columns entry_places row ++ columns unit_places (unit_of row)

  -- the template's part of a row
  abbrev cut : Row → Row
  cut = columns (0 ∷ 1 ∷ 2 ∷ 3 ∷ 4 ∷ 5 ∷ [])

  shows_template : ShowsTemplateIn tables (map cut rows)
  shows_template = record {
    all = subst (λ l. IsPermutation l (map cut rows)) (map-map cut shown_of entries) (IsPermutation-map cut (map shown_of entries) rows shows.all);
    in_order = mapped_sorted cut (by_columns (5 ∷ [])) rows (λ r s. refl) shows.in_order;
  }

  one_each : OneEach place_of_row (tables (codes "unit"))
  one_each r s in_r in_s e = office.keyed.one_unit r s in_r in_s (by_place.back r s tt tt e)

  unit_there : (row : Row) → Has (tables (codes "unit")) row → maps.get (units_in tables) (place_of_row row) ≡ Some (unit_of_row tables row)
  unit_there row there =
      get-is place_cmp place_total place_IsAntisymmetric place_of_row (unit_of_row tables) (tables (codes "unit")) (place_of_row row) (Some (unit_of_row tables row)) one_each (row, there, refl, refl)

  abbrev with_unit : Entry → Entry
  with_unit entry = option_map_or (translated entry) (maps.get (units_in tables) (lang, key_of entry)) entry

  of_row : (row : Row) → Has entries row → message_shown (shown_of row) ≡ with_unit (shown_entry (key_at 4 (cut (shown_of row))) (cut (shown_of row)))
  of_row row there =
      let keyed = are.keyed row there in
      let first : text_at 1 (unit_of row) ≡ lang = cc in
      let second : text_at 2 (unit_of row) ≡ second_text row = cc in
      let place : place_of_row (unit_of row) ≡ (lang, key_at 2 row) = λ i. (first i, key_parts (second i)) in
      let found : maps.get (units_in tables) (lang, key_at 2 row) ≡ Some (unit_of_row tables (unit_of row)) =
      subst (λ (p : Place). maps.get (units_in tables) p ≡ Some (unit_of_row tables (unit_of row))) place (unit_there (unit_of row) (are.there row there)) in
      sym (ap (λ found. option_map_or (translated (shown_entry (key_at 4 (cut (shown_of row))) (cut (shown_of row)))) found (shown_entry (key_at 4 (cut (shown_of row))) (cut (shown_of row)))) found)

  of_shown : (r : Row) → Has rows r → message_shown r ≡ with_unit (shown_entry (key_at 4 (cut r)) (cut r))
  of_shown r there =
      let from = from_mapped shown_of entries r (has_permuted (map shown_of entries) rows r shows.all there) in
      subst (λ x. message_shown x ≡ with_unit (shown_entry (key_at 4 (cut x)) (cut x))) (sym from.2) (of_row from.0 from.1)

  pub messages_are : map message_shown rows ≡ map (λ entry. option_map_or (translated entry) (maps.get (units_in tables) (lang, key_of entry)) entry) (template_in tables)
  messages_are =
      mapped_alike message_shown (λ r. with_unit (shown_entry (key_at 4 (cut r)) (cut r))) rows of_shown
      ∙ sym (map-map with_unit (λ r. shown_entry (key_at 4 (cut r)) (cut r)) rows)
      ∙ ap (map with_unit) (sym (map-map (λ r. shown_entry (key_at 4 r) r) cut rows))
      ∙ ap (map with_unit) (sym (whole_template tables office (map cut rows) shows_template))
