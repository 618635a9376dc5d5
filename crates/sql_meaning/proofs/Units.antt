-- The units that the rows of `unit`, `suggestion` and `vote` stand for: what a query by language and key finds of them.
use Rattle.std.proofs.Common.{◌≡◌, ℕ, List, [], ◌∷◌, Option, option_map, sym, ap, ◌∙◌, codes}
use Rattle.std.specs.Prelude.{⊤}
use Rattle.std.specs.FinMap as maps
use Rattle.sqlite.specs.Order.{Row}
use Rattle.sql_laws.specs.RowMaps.{OneEach, IsFound}
use Rattle.po_text.specs.Texts.{Text}
use Rattle.units.specs.KeyTexts.{HasStrings}
use Rattle.units.specs.Units.{key_text}
use Rattle.units.specs.Orders.{place_total, place_IsAntisymmetric}
use Rattle.units.specs.Project.{Place, place_cmp}
use Rattle.units.specs.declared.unit.Key.{Key}
use Rattle.sql_columns.specs.Readings.{key_parts}
use Rattle.sql_columns.proofs.Keys.{parts_of_text, text_of_parts}
use Rattle.sql_schema.specs.Keys.{text_at, first_texts, columns}
use Rattle.sql_meaning.specs.Shown.{shown_unit}
use Rattle.sql_meaning.specs.Meaning.{place_of_row, unit_of_row, units_in, suggestions_in, key_at}
use Rattle.sql_meaning.proofs.Lookups.{AreOneKey, IsKeyOf, finds}
use Rattle.sql_schema.specs.Layouts.{NamedRows}

abbrev Any : Row → Type 0
Any row = ⊤

pub by_place : AreOneKey first_texts place_of_row Any
by_place = record {
  forth = λ r s reads_r reads_s e.
      let lang : text_at 1 r ≡ text_at 1 s = cc in
      let key : text_at 2 r ≡ text_at 2 s = cc in
      λ i. (lang i, key_parts (key i));
  back = λ r s reads_r reads_s e.
      let lang : text_at 1 r ≡ text_at 1 s = ap (λ (p : Place). p.0) e in
      let key : text_at 2 r ≡ text_at 2 s = sym (text_of_parts (text_at 2 r)) ∙ ap (λ (p : Place). key_text p.1) e ∙ text_of_parts (text_at 2 s) in
      λ i. lang i ∷ key i ∷ [];
}

place_asked : (lang : Text) (key : Key) → HasStrings key → IsKeyOf first_texts place_of_row Any (lang ∷ key_text key ∷ []) (lang, key)
place_asked lang key valid = record {
  forth = λ r reads is.
      let of_lang : text_at 1 r ≡ lang = cc in
      let of_key : text_at 2 r ≡ key_text key = cc in
      let parts : key_at 2 r ≡ key = ap key_parts of_key ∙ parts_of_text key valid in
      λ i. (of_lang i, parts i);
  back = λ r reads is.
      let of_lang : text_at 1 r ≡ lang = ap (λ (p : Place). p.0) is in
      let of_key : text_at 2 r ≡ key_text key = sym (text_of_parts (text_at 2 r)) ∙ ap (λ (p : Place). key_text p.1) is in
      λ i. of_lang i ∷ of_key i ∷ [];
}

-- what the query by language and key shows of a row
abbrev pub unit_places : List ℕ
unit_places = 3 ∷ 4 ∷ 5 ∷ 6 ∷ 7 ∷ 8 ∷ 9 ∷ []

pub finds_unit : (tables : NamedRows) (lang : Text) (key : Key) (found : Option Row) → OneEach first_texts (tables (codes "unit")) → HasStrings key
    → IsFound first_texts (columns unit_places) (tables (codes "unit")) (lang ∷ key_text key ∷ []) found
    → maps.get (units_in tables) (lang, key) ≡ option_map (shown_unit key (suggestions_in tables lang (key_text key))) found
finds_unit tables lang key found one valid it =
    finds first_texts place_of_row Any place_cmp place_total place_IsAntisymmetric (unit_of_row tables) (tables (codes "unit")) (lang ∷ key_text key ∷ []) (lang, key) (columns unit_places)
    (shown_unit key (suggestions_in tables lang (key_text key))) found (λ r there. tt) one by_place (place_asked lang key valid) read it
  where
    read : (r : Row) → first_texts r ≡ lang ∷ key_text key ∷ [] → unit_of_row tables r ≡ shown_unit key (suggestions_in tables lang (key_text key)) (columns unit_places r)
    read r is =
        let of_lang : text_at 1 r ≡ lang = cc in
        let of_key : text_at 2 r ≡ key_text key = cc in
        let parts : key_at 2 r ≡ key = ap key_parts of_key ∙ parts_of_text key valid in
        λ i. record (unit_of_row tables r) { key = parts i; suggestions = suggestions_in tables (of_lang i) (of_key i) }
