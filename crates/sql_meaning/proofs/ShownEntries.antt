-- The template that the rows stand for: what a query by key finds of it.
use Rattle.std.proofs.Common.{◌≡◌, List, [], ◌∷◌, Bool, true, Option, Some, None, option_map, sym, ap, subst, ◌∙◌, codes}
use Rattle.std.specs.Ordering.{int_cmp, eq_by_cmp}
use Rattle.std.specs.Cmp.{int_cmp_total, Equal-is, eq_by_cmp_equiv}
use Rattle.std.specs.FinMap.{int_cmp-IsAntisymmetric}
use Rattle.sqlite.specs.Order.{Row}
use Rattle.sqlite_rules.specs.Lists.{Has}
use Rattle.sql_laws.specs.RowMaps.{OneEach, IsFound}
use Rattle.po_text.specs.declared.entry.Entry.{Entry}
use Rattle.units.specs.KeyTexts.{HasStrings}
use Rattle.units.specs.Units.{key_text, key_cmp, key_of}
use Rattle.units.specs.Project.{entry_of, Place}
use Rattle.units.specs.Orders.{key_total, place_IsAntisymmetric}
use Rattle.units.specs.declared.unit.Key.{Key}
use Rattle.sql_columns.specs.Readings.{key_parts}
use Rattle.sql_columns.proofs.Keys.{parts_of_text, text_of_parts}
use Rattle.sql_schema.specs.Keys.{second_text, columns}
use Rattle.sql_meaning.specs.Values.{integer_at}
use Rattle.sql_meaning.specs.Meaning.{key_at, entry_of_row, template_in}
use Rattle.sql_meaning.specs.Shown.{shown_entry}
use Rattle.sql_meaning.proofs.MapValues.{one_found, none_found, value_of_row, row_has_value}
use Rattle.sql_schema.specs.Layouts.{NamedRows}

-- only equal keys tie
same_keys : (a b : Key) → eq_by_cmp key_cmp a b ≡ true → a ≡ b
same_keys a b tied = ap (λ (p : Place). p.1) (place_IsAntisymmetric ([], a) ([], b) ((Equal-is (key_cmp a b)).0 tied))

module _ (tables : NamedRows) (key : Key) (valid : HasStrings key) (placed : OneEach (integer_at 0) (tables (codes "template"))) (one : OneEach second_text (tables (codes "template"))) where
  abbrev rows : List Row
  rows = tables (codes "template")

  abbrev test : Entry → Bool
  test entry = eq_by_cmp key_cmp key (key_of entry)

  -- an entry has the key just where its row has the key's text
  text_is : (r : Row) → test (entry_of_row r) ≡ true → second_text r ≡ key_text key
  text_is r passes = sym (text_of_parts (second_text r)) ∙ ap key_text (sym (same_keys key (key_at 2 r) passes))

  key_is : (r : Row) → second_text r ≡ key_text key → key_at 2 r ≡ key
  key_is r is = ap key_parts is ∙ parts_of_text key valid

  passes : (r : Row) → second_text r ≡ key_text key → test (entry_of_row r) ≡ true
  passes r is = subst (λ k. eq_by_cmp key_cmp key k ≡ true) (sym (key_is r is)) ((eq_by_cmp_equiv key_total).refl key)

  of_row : (entry : Entry) → Has (template_in tables) entry → (r : Row) × Has rows r × (entry ≡ entry_of_row r)
  of_row entry there = value_of_row int_cmp int_cmp_total (integer_at 0) entry_of_row rows entry there

  read : (r : Row) → second_text r ≡ key_text key → entry_of_row r ≡ shown_entry key (columns (3 ∷ 4 ∷ 5 ∷ 6 ∷ []) r)
  read r is = let parts = key_is r is in λ i. record (entry_of_row r) { ctx = (parts i).ctx; id = (parts i).id }

  pub finds_entry : (found : Option Row) → IsFound second_text (columns (3 ∷ 4 ∷ 5 ∷ 6 ∷ [])) (tables (codes "template")) (key_text key) found
      → entry_of (template_in tables) key ≡ option_map (shown_entry key) found
  finds_entry (Some shown) it =
      one_found test (template_in tables) (entry_of_row it.0) (row_has_value int_cmp int_cmp_total (integer_at 0) entry_of_row int_cmp-IsAntisymmetric rows it.0 placed it.1)
      (passes it.0 it.2) (λ entry there h.
      let from = of_row entry there in
      from.2 ∙ ap entry_of_row (one from.0 it.0 from.1 it.1 (text_is from.0 (subst (λ e. test e ≡ true) from.2 h) ∙ sym it.2)))
      ∙ ap (λ (e : Entry). Some e) (read it.0 it.2 ∙ ap (shown_entry key) it.3)
  finds_entry None it = none_found test (template_in tables) (λ entry there h.
      let from = of_row entry there in
      it from.0 from.1 (text_is from.0 (subst (λ e. test e ≡ true) from.2 h)))
