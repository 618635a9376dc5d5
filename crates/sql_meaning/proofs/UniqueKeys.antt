-- Suggestions on one unit with one place are one, and so are votes of one voter on one suggestion.
use Rattle.std.proofs.Common.{◌≡◌, Bool, List, [], ◌∷◌, codes, filter, sym, ap, ◌∙◌}
use Rattle.std.proofs.lemmas.Bool.{and_parts}
use Rattle.sqlite.specs.declared.types.Value.TheVariants.{Int}
use Rattle.sqlite.specs.Effect.{Database, IsDatabase}
use Rattle.sqlite.specs.Order.{Row}
use Rattle.sqlite_rules.proofs.ListLemmas.{has_filtered}
use Rattle.sql_laws.specs.RowMaps.{OneEach}
use Rattle.sql_laws.proofs.RowMaps.{texts_are_one}
use Rattle.po_text.specs.Texts.{Text}
use Rattle.sql_schema.specs.Keys.{text_at, first_texts, has_text, is_on_unit}
use Rattle.sql_meaning.specs.Values.{integer_of, integer_at}
use Rattle.sql_schema.specs.Layouts.{for_main, HasLayoutOf, rows_named, NamedRows}
use Rattle.sql_schema.proofs.TableRows.{suggestion_places}
use Rattle.sql_meaning.specs.RowKeys.{HoldsIntegers, AreKeyed}

module _ {figures : Bool} (db : Database) (has : HasLayoutOf (for_main figures) db) (sound : IsDatabase db) where
  -- each suggestion has its place
  pub has_places : HoldsIntegers 4 (rows_named db (codes "suggestion"))
  has_places row there =
      let it = suggestion_places db has sound row there in
      it ∙ ap Int (sym (ap integer_of it))

module _ (tables : NamedRows) (keyed : AreKeyed tables) where
  pub one_place_each : (lang key : Text) → OneEach (integer_at 4) (filter (is_on_unit lang key) (tables (codes "suggestion")))
  one_place_each lang key r s in_r in_s e =
      let of_r = has_filtered (is_on_unit lang key) (tables (codes "suggestion")) r in_r in
      let of_s = has_filtered (is_on_unit lang key) (tables (codes "suggestion")) s in_s in
      let unit_r = and_parts _ _ of_r.1 in
      let unit_s = and_parts _ _ of_s.1 in
      let langs : text_at 2 r ≡ text_at 2 s = texts_are_one (text_at 2 r) lang unit_r.0 ∙ sym (texts_are_one (text_at 2 s) lang unit_s.0) in
      let keys : text_at 3 r ≡ text_at 3 s = texts_are_one (text_at 3 r) key unit_r.1 ∙ sym (texts_are_one (text_at 3 s) key unit_s.1) in
      keyed.one_place r s of_r.0 of_s.0 langs keys e

-- a voter has one vote on a suggestion
pub one_voter : (rows : List Row) (number : Text) → OneEach first_texts rows → OneEach (text_at 2) (filter (has_text 1 number) rows)
one_voter rows number one r s in_r in_s e =
    let of_r = has_filtered (has_text 1 number) rows r in_r in
    let of_s = has_filtered (has_text 1 number) rows s in_s in
    let numbers : text_at 1 r ≡ text_at 1 s = texts_are_one (text_at 1 r) number of_r.1 ∙ sym (texts_are_one (text_at 1 s) number of_s.1) in
    one r s of_r.0 of_s.0 (λ i. numbers i ∷ e i ∷ [])
