-- What becomes of the units where one row is put, or all stay, and the suggestions on one unit change: that unit is at its place, and every other as it was.
use Rattle.std.proofs.Common.{◌≡◌, inl, inr, List, [], ◌∷◌, Some, sym, ap, subst, ◌∙◌, codes}
use Rattle.std.specs.FinMap as maps
use Rattle.sqlite.specs.Order.{Row}
use Rattle.sqlite_rules.specs.Lists.{Has}
use Rattle.sql_laws.specs.RowMaps.{OneEach, IsFound, IsPut, map_of}
use Rattle.sql_laws.proofs.RowMaps.{get-found}
use Rattle.po_text.specs.Texts.{Text}
use Rattle.units.specs.KeyTexts.{HasStrings}
use Rattle.units.specs.Orders.{place_total, place_IsAntisymmetric}
use Rattle.units.specs.Project.{Place, place_cmp}
use Rattle.units.specs.Units.{key_text}
use Rattle.units.specs.declared.unit.Key.{Key}
use Rattle.units.specs.declared.unit.Suggestion.{Suggestion}
use Rattle.units.specs.declared.unit.Unit.{Unit}
use Rattle.sql_columns.specs.Written.{ArePrevious}
use Rattle.sql_columns.proofs.Keys.{parts_of_text, text_of_parts}
use Rattle.sql_schema.specs.Inside.{HoldsValues}
use Rattle.sql_schema.specs.Keys.{text_at, first_texts}
use Rattle.sql_schema.specs.Layouts.{NamedRows}
use Rattle.sql_meaning.specs.Cells.{unit_cells}
use Rattle.sql_meaning.specs.Meaning.{place_of_row, unit_of_row, units_in, suggestions_in}
use Rattle.sql_meaning.proofs.MapEntries.{map_of-put_agreeing, map_of-changed}
use Rattle.sql_meaning.proofs.Units.{by_place}
use Rattle.sql_meaning.proofs.UnitValues.{unit_read_back}

-- ---- a row is put

module _ (old new : NamedRows) (lang : Text) (unit : Unit) (row : Row) (strings : HasStrings unit.key) (previous : ArePrevious unit.previous) (one : OneEach first_texts (old (codes "unit")))
    (holds : HoldsValues (unit_cells lang unit) row) (put : IsPut first_texts (old (codes "unit")) (new (codes "unit")) row) (own : suggestions_in new lang (key_text unit.key) ≡ unit.suggestions)
    (others : (l k : Text) → ((l ≡ lang) × (k ≡ key_text unit.key) → ⊥) → suggestions_in new l k ≡ suggestions_in old l k) where
  placed_row : unit_of_row new row ≡ unit
  placed_row = unit_read_back new lang unit row holds strings previous own

  place_is : place_of_row row ≡ (lang, unit.key)
  place_is = ap place_of_row holds.1 ∙ (λ i. (lang, parts_of_text unit.key strings i))

  at_place : IsPut place_of_row (old (codes "unit")) (new (codes "unit")) row
  at_place = record {
    only = λ x there. elim (put.only x there) [ inl is ↦ inl is | inr was ↦ inr (was.0, λ e. was.1 (by_place.back x row tt tt e)) ];
    here = put.here;
    kept = λ x there differ. put.kept x there (λ e. differ (by_place.forth x row tt tt e));
  }

  others_placed : (x : Row) → Has (old (codes "unit")) x → (place_of_row x ≡ place_of_row row → ⊥) → unit_of_row new x ≡ unit_of_row old x
  others_placed x there differ =
      let same = others (text_at 1 x) (text_at 2 x) (λ is.
      let texts : first_texts x ≡ lang ∷ key_text unit.key ∷ [] = λ i. is.0 i ∷ is.1 i ∷ [] in
      differ (by_place.forth x row tt tt (texts ∙ sym (ap first_texts holds.1)))) in
      λ i. record (unit_of_row new x) { suggestions = same i }

  pub unit_placed : units_in new ≡ maps.insert (units_in old) (lang, unit.key) unit
  unit_placed =
      map_of-put_agreeing place_cmp place_total place_IsAntisymmetric place_of_row (unit_of_row old) (unit_of_row new) (old (codes "unit")) (new (codes "unit")) row
      (λ r s in_r in_s e. one r s in_r in_s (by_place.back r s tt tt e)) at_place others_placed
      ∙ (λ i. maps.insert (units_in old) (place_is i) (placed_row i))

-- ---- all rows stay

module _ (old : NamedRows) (lang : Text) (key : Key) (unit : Unit) (stands : maps.get (units_in old) (lang, key) ≡ Some unit) where
  found : IsFound place_of_row (unit_of_row old) (old (codes "unit")) (lang, key) (Some unit)
  found = subst (IsFound place_of_row (unit_of_row old) (old (codes "unit")) (lang, key)) stands (get-found place_cmp place_total place_IsAntisymmetric place_of_row (unit_of_row old) (old (codes "unit")) (lang, key))

  -- its row
  abbrev row : Row
  row = found.0

  of_lang : text_at 1 row ≡ lang
  of_lang = ap (λ (p : Place). p.0) found.2

  of_key : text_at 2 row ≡ key_text key
  of_key = sym (text_of_parts (text_at 2 row)) ∙ ap (λ (p : Place). key_text p.1) found.2

  -- the suggestions of a unit that stands there are those of its rows
  pub suggestions_stand : suggestions_in old lang (key_text key) ≡ unit.suggestions
  suggestions_stand = (λ i. suggestions_in old (sym of_lang i) (sym of_key i)) ∙ ap (λ (u : Unit). u.suggestions) found.3

  module _ (new : NamedRows) (one : OneEach first_texts (old (codes "unit"))) (rows : new (codes "unit") ≡ old (codes "unit")) (ss : List Suggestion) (own : suggestions_in new lang (key_text key) ≡ ss)
      (others : (l k : Text) → ((l ≡ lang) × (k ≡ key_text key) → ⊥) → suggestions_in new l k ≡ suggestions_in old l k) where
    row_is : unit_of_row new row ≡ record unit { suggestions = ss }
    row_is =
        let its : suggestions_in new (text_at 1 row) (text_at 2 row) ≡ ss = (λ i. suggestions_in new (of_lang i) (of_key i)) ∙ own in
        (λ i. record (unit_of_row new row) { suggestions = its i }) ∙ ap (λ (u : Unit). record u { suggestions = ss }) found.3

    others_agree : (x : Row) → Has (old (codes "unit")) x → (place_of_row x ≡ place_of_row row → ⊥) → unit_of_row new x ≡ unit_of_row old x
    others_agree x there differ =
        let same = others (text_at 1 x) (text_at 2 x) (λ is.
        let texts : first_texts x ≡ first_texts row = λ i. (is.0 ∙ sym of_lang) i ∷ (is.1 ∙ sym of_key) i ∷ [] in
        differ (by_place.forth x row tt tt texts)) in
        λ i. record (unit_of_row new x) { suggestions = same i }

    pub unit_suggested : units_in new ≡ maps.insert (units_in old) (lang, key) (record unit { suggestions = ss })
    unit_suggested =
        ap (λ (listed : List Row). map_of place_cmp place_of_row (unit_of_row new) listed) rows
        ∙ map_of-changed place_cmp place_total place_IsAntisymmetric place_of_row (unit_of_row old) (unit_of_row new) (old (codes "unit")) row
        (λ r s in_r in_s e. one r s in_r in_s (by_place.back r s tt tt e)) found.1 others_agree
        ∙ (λ i. maps.insert (units_in old) (found.2 i) (row_is i))
