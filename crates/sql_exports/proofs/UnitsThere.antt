-- In a language that is there each entry of the template has its unit, by the rules of an office.
use Rattle.std.proofs.Common.{◌≡◌, List, [], ◌∷◌, ◌&&◌, Bool, true, false, cond, Some, find, unwrap_or, inl, inr, refl, sym, ap, subst, ◌∙◌, codes}
use Rattle.std.specs.Prelude.{IsSome}
use Rattle.std.specs.Ordering.{int_cmp, eq_by_cmp}
use Rattle.std.specs.Cmp.{int_cmp_total, eq_by_cmp_equiv}
use Rattle.std.specs.FinMap as maps
use Rattle.std.specs.FinMap.{int_cmp-IsAntisymmetric}
use Rattle.std.proofs.lemmas.Bool.{and_parts, and_from}
use Rattle.sqlite.specs.declared.types.Value.TheVariants.{Null, Text as Words}
use Rattle.sqlite.specs.Order.{Row}
use Rattle.sqlite_rules.specs.Lists.{Has}
use Rattle.sql_laws.specs.RowMaps.{IsFound}
use Rattle.sql_laws.proofs.RowMaps.{get-found, texts_are_one, text_ties_itself}
use Rattle.po_text.specs.declared.entry.Entry.{Entry}
use Rattle.po_text.specs.Texts.{Text}
use Rattle.units.specs.Units.{key_cmp, key_of}
use Rattle.units.specs.Project.{place_cmp, entry_of}
use Rattle.units.specs.Projects.{IsProject}
use Rattle.units.specs.Orders.{key_total, place_total, place_IsAntisymmetric}
use Rattle.sql_schema.specs.Keys.{first_texts, second_text, has_text, text_at}
use Rattle.sql_meaning.specs.Values.{integer_at}
use Rattle.sql_meaning.specs.Meaning.{project_of_rows, headers_in, template_in, unit_of_row, place_of_row, entry_of_row, key_at}
use Rattle.sql_meaning.proofs.MapValues.{row_has_value}
use Rattle.sql_meaning.proofs.Units.{by_place}
use Rattle.sql_statements.specs.Queries.{AreUnits}
use Rattle.sql_schema.specs.Layouts.{NamedRows}
use Rattle.sql_meaning.specs.RowKeys.{AreOfficeRows}

-- the first that passes passes, and is one of them
found : {X : Type 0} (test : X → Bool) (xs : List X) (x : X) → Has xs x → test x ≡ true → (y : X) × (find test xs ≡ Some y) × Has xs y × (test y ≡ true)
found test [] x there passes = absurd there
found test (z ∷ xs) x there passes = by (test z) refl (found test xs x)
  where
    by : (b : Bool) → test z ≡ b → (Has xs x → test x ≡ true → (y : _) × (find test xs ≡ Some y) × Has xs y × (test y ≡ true)) → (y : _) × (find test (z ∷ xs) ≡ Some y) × Has (z ∷ xs) y × (test y ≡ true)
    by true e later = (z, ap (λ b. cond b (Some z) (find test xs)) e, inl refl, e)
    by false e later = elim there [
      | inl same ↦ absurd (let no : true ≡ false = sym passes ∙ ap test same ∙ e in cc)
      | inr behind ↦ let it = later behind passes in (it.0, ap (λ b. cond b (Some z) (find test xs)) e ∙ it.1, inr it.2, it.3)
    ]

module _ (tables : NamedRows) (office : AreOfficeRows tables) (rules : IsProject (project_of_rows tables)) (lang : Text) (there : IsSome (maps.get (headers_in tables) lang)) where
  abbrev is_its : Row → Row → Bool
  is_its row unit = has_text 1 lang unit && has_text 2 (second_text row) unit

  -- the unit of a row of the template
  abbrev pub unit_at : Row → Row
  unit_at row = unwrap_or (find (is_its row) (tables (codes "unit"))) []

  entry_there : (row : Row) → Has (tables (codes "template")) row → (entry : Entry) × (entry_of (template_in tables) (key_at 2 row) ≡ Some entry)
  entry_there row in_row =
      let in_values = row_has_value int_cmp int_cmp_total (integer_at 0) entry_of_row int_cmp-IsAntisymmetric (tables (codes "template")) row
      office.keyed.one_entry in_row in
      let it = found (λ entry. eq_by_cmp key_cmp (key_at 2 row) (key_of entry)) (template_in tables) (entry_of_row row) in_values ((eq_by_cmp_equiv key_total).refl (key_at 2 row)) in
      (it.0, it.1)

  row_there : (row : Row) → Has (tables (codes "template")) row → (unit : Row) × Has (tables (codes "unit")) unit × (first_texts unit ≡ lang ∷ second_text row ∷ [])
  row_there row in_row =
      let entry = entry_there row in_row in
      let unit = rules.complete lang (key_at 2 row) entry.0 there entry.1 in
      let is = subst (IsFound place_of_row (unit_of_row tables) (tables (codes "unit")) (lang, key_at 2 row)) unit.1
      (get-found place_cmp place_total place_IsAntisymmetric place_of_row (unit_of_row tables) (tables (codes "unit")) (lang, key_at 2 row)) in
      (is.0, is.1, by_place.back is.0 (Null ∷ Words lang ∷ Words (second_text row) ∷ []) tt tt is.2)

  its : (row : Row) → Has (tables (codes "template")) row → (unit : Row) × (unit_at row ≡ unit) × Has (tables (codes "unit")) unit × (first_texts unit ≡ lang ∷ second_text row ∷ [])
  its row in_row =
      let at = row_there row in_row in
      let first : text_at 1 at.0 ≡ lang = cc in
      let second : text_at 2 at.0 ≡ second_text row = cc in
      let on_lang : has_text 1 lang at.0 ≡ true = rw first (text_ties_itself lang) in
      let on_key : has_text 2 (second_text row) at.0 ≡ true = rw second (text_ties_itself (second_text row)) in
      let it = found (is_its row) (tables (codes "unit")) at.0 at.1 (and_from _ _ on_lang on_key) in
      let both = and_parts (has_text 1 lang it.0) (has_text 2 (second_text row) it.0) it.3 in
      let one : text_at 1 it.0 ≡ lang = texts_are_one (text_at 1 it.0) lang both.0 in
      let two : text_at 2 it.0 ≡ second_text row = texts_are_one (text_at 2 it.0) (second_text row) both.1 in
      (it.0, ap (λ o. unwrap_or o []) it.1, it.2, ap (λ t. t ∷ text_at 2 it.0 ∷ []) one ∙ ap (λ t. lang ∷ t ∷ []) two)

  pub units_there : AreUnits lang tables unit_at
  units_there = record {
    there = λ row in_row. let it = its row in_row in subst (Has (tables (codes "unit"))) (sym it.1) it.2;
    keyed = λ row in_row. let it = its row in_row in ap first_texts it.1 ∙ it.3;
  }
