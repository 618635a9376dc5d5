-- What the schema asks of suggestions and votes: suggestions of one unit at one place are one, and each vote is on a suggestion.
use Rattle.std.proofs.Common.{◌≡◌, Bool, [], ◌∷◌, codes, sym, ap, ◌∙◌, refl}
use Rattle.std.proofs.lemmas.Bool.{and_parts}
use Rattle.sqlite.specs.Order.{Row, column}
use Rattle.sqlite.specs.Effect.{Database}
use Rattle.sqlite_value.specs.Keys.{plain}
use Rattle.sqlite_schema.specs.Rules.{agree}
use Rattle.sqlite_rules.specs.Edit.{id_in}
use Rattle.sqlite_rules.specs.Lists.{Has}
use Rattle.sqlite_rules.proofs.ListLemmas.{some_has}
use Rattle.sql_laws.proofs.Comparisons.{agree-texts}
use Rattle.sql_laws.proofs.RowMaps.{texts_are_one}
use Rattle.sql_schema.specs.Keys.{text_at, first_text}
use Rattle.sql_schema.specs.Inside.{AreOfficeTablesOf}
use Rattle.sql_schema.proofs.TableRows.{suggestion_numbers, vote_numbers, suggestion_places, one_place}
use Rattle.sql_meaning.specs.Values.{integer_of, integer_at}
use Rattle.sql_schema.specs.Layouts.{for_main, rows_named}
use Rattle.sql_schema.proofs.Parents.{vote_on_suggestion}

module _ {figures : Bool} (db : Database) (ready : AreOfficeTablesOf (for_main figures) db) where
  place_is : (row : Row) → Has (rows_named db (codes "suggestion")) row → id_in (column row 4) ≡ integer_at 4 row
  place_is row there = sym (ap integer_of (suggestion_places db ready.schema ready.sound row there))

  pub one_at_place : (r s : Row) → Has (rows_named db (codes "suggestion")) r → Has (rows_named db (codes "suggestion")) s → text_at 2 r ≡ text_at 2 s → text_at 3 r ≡ text_at 3 s
      → integer_at 4 r ≡ integer_at 4 s → r ≡ s
  one_at_place r s in_r in_s lang key place =
      one_place db ready.schema ready.sound (ready.tables (codes "suggestion") refl) r s in_r in_s lang key (place_is r in_r ∙ place ∙ sym (place_is s in_s))

  -- ---- votes

  pub has_suggestion : (v : Row) → Has (rows_named db (codes "vote")) v → (s : Row) × Has (rows_named db (codes "suggestion")) s × (first_text v ≡ first_text s)
  has_suggestion v there =
      let number = vote_numbers db ready.schema ready.sound v there in
      let it = some_has (λ parent. agree plain (1 ∷ []) parent (1 ∷ []) v) (rows_named db (codes "suggestion")) (vote_on_suggestion db ready.schema ready.sound v there) in
      let agreed = agree-texts it.0 v 1 1 (first_text it.0) (first_text v) (suggestion_numbers db ready.schema ready.sound it.0 it.1) number in
      (it.0, it.1, sym (texts_are_one (first_text it.0) (first_text v) (and_parts _ _ (sym agreed ∙ it.2)).0))
