-- The rows of an office's tables are as a schema asks of rows by their names.
use Rattle.std.proofs.Common.{◌≡◌, ℕ, ℤ, pos, [], ◌∷◌, codes, Bool, true, false, not, Some, refl, sym, ap, ◌∙◌}
use Rattle.std.proofs.lemmas.Bool.{and_parts}
use Rattle.std.specs.Ordering.{is_ge, is_le, int_cmp}
use Rattle.sqlite.specs.declared.types.Value.TheVariants.{Int, Text as Words}
use Rattle.sqlite.specs.Order.{Row, column, value_cmp}
use Rattle.sqlite.specs.Effect.{Database}
use Rattle.sqlite.specs.Ops.{binary}
use Rattle.sqlite.specs.Term.{eval}
use Rattle.sqlite_sql.specs.Ops.{is_false, from_truth}
use Rattle.sqlite_sql.specs.declared.ops.BinaryOp.TheVariants as by
use Rattle.sqlite_value.specs.Keys.{plain, first_key}
use Rattle.sqlite_value.proofs.OrderLemmas.{value_cmp-Int}
use Rattle.sqlite_schema.specs.Rules.{agree}
use Rattle.sqlite_schema.specs.declared.schema.Constraint.TheVariants.{Check}
use Rattle.sqlite_rules.specs.Edit.{id_in}
use Rattle.sqlite_rules.specs.Lists.{Has}
use Rattle.sqlite_rules.proofs.ListLemmas.{some_has}
use Rattle.sql_laws.proofs.Comparisons.{texts_compared}
use Rattle.sql_laws.proofs.RowMaps.{texts_are_one}
use Rattle.po_text.specs.Texts.{Text}
use Rattle.sql_schema.specs.Inside.{AreOfficeTablesOf}
use Rattle.sql_schema.specs.Keys.{text_at, row_number}
use Rattle.sql_schema.specs.Layouts.{for_main, rows_named}
use Rattle.sql_schema.specs.Schema.{is_between, unit_table}
use Rattle.sql_schema.proofs.Layouts.{unit_placed}
use Rattle.sql_schema.proofs.Parents.{suggestion_on_unit}
use Rattle.sql_schema.proofs.TableRows.{one_record, one_member, one_entry, one_language, one_unit, one_suggestion, one_vote, unit_langs, unit_keys, suggestion_langs, suggestion_keys}
use Rattle.sql_schema.proofs.TextKeys.{holds_int, passes_rule}
use Rattle.sql_meaning.specs.RowKeys.{AreKeyed, AreKeyedRows, AreTypedRows, AreOfficeRows}
use Rattle.sql_meaning.specs.Values.{integer_of, integer_at}
use Rattle.sql_meaning.proofs.Rowids.{integer_is, one_rowid}
use Rattle.sql_meaning.proofs.StoredKeys.{one_at_place, has_suggestion}
use Rattle.sql_meaning.proofs.UniqueKeys.{has_places}

-- two columns of each row, as a key compares them
agreed_texts : (u s : Row) (a b p q : Text) → column u 1 ≡ Words a → column s 2 ≡ Words b → column u 2 ≡ Words p → column s 3 ≡ Words q
    → agree plain (1 ∷ 2 ∷ []) u (2 ∷ 3 ∷ []) s ≡ true → (a ≡ b) × (p ≡ q)
unfolding first_key
agreed_texts u s a b p q u1 s2 u2 s3 agreed =
    let here = rw (u1, s2, u2, s3, texts_compared a b, texts_compared p q) at agreed in
    let parts = and_parts _ _ here in
    (texts_are_one a b parts.0, texts_are_one p q (and_parts _ _ parts.1).0)

-- a column that holds an integer holds its own
pub whole : (place : ℕ) (row : Row) → column row place ≡ Int (id_in (column row place)) → column row place ≡ Int (integer_at place row)
whole place row is = is ∙ ap Int (sym (ap integer_of is))

-- neither part of a conjunction that isn't false is false
pub second_holds : (a b : Bool) → not (is_false (binary by.And (from_truth (Some a)) (from_truth (Some b)))) ≡ true → b ≡ true
unfolding binary
second_holds a true h = refl
second_holds true false h = absurd cc
second_holds false false h = absurd cc

-- what a test of a column between two integers says of the second
at_most : (row : Row) (n : ℤ) → column row 5 ≡ Int n → not (is_false (eval (is_between 5 (pos 0) (pos 3)) ([] ∷ row ∷ []))) ≡ true → is_le (int_cmp n (pos 3)) ≡ true
unfolding binary lib.Ieee.is_nan lib.Ieee.lt
at_most row n is h = ap is_le (sym (value_cmp-Int n (pos 3))) ∙ second_holds (is_ge (value_cmp (Int n) (Int (pos 0)))) (is_le (value_cmp (Int n) (Int (pos 3)))) (rw is at h)

module _ {figures : Bool} (db : Database) (ready : AreOfficeTablesOf (for_main figures) db) where
  has_unit : (s : Row) → Has (rows_named db (codes "suggestion")) s → (u : Row) × Has (rows_named db (codes "unit")) u × (text_at 1 u ≡ text_at 2 s) × (text_at 2 u ≡ text_at 3 s)
  has_unit s there =
      let lang = suggestion_langs db ready.schema ready.sound s there in
      let key = suggestion_keys db ready.schema ready.sound s there in
      let it = some_has (λ parent. agree plain (1 ∷ 2 ∷ []) parent (2 ∷ 3 ∷ []) s) (rows_named db (codes "unit")) (suggestion_on_unit db ready.schema ready.sound s there) in
      let same = agreed_texts it.0 s (text_at 1 it.0) (text_at 2 s) (text_at 2 it.0) (text_at 3 s) (unit_langs db ready.schema ready.sound it.0 it.1) lang
      (unit_keys db ready.schema ready.sound it.0 it.1) key it.2 in
      (it.0, it.1, same.0, same.1)

  suggested : AreKeyed (rows_named db)
  suggested = record {
    one_number = one_suggestion db ready.schema ready.sound (ready.tables (codes "suggestion") refl);
    one_place = one_at_place db ready;
    one_vote = one_vote db ready.schema ready.sound (ready.tables (codes "vote") refl);
    has_suggestion = has_suggestion db ready;
  }

  keyed : AreKeyedRows (rows_named db)
  keyed = record {
    one_record = one_record db ready.schema ready.sound (ready.tables (codes "record") refl);
    one_member = one_member db ready.schema ready.sound (ready.tables (codes "team") refl);
    one_policy = one_rowid (rows_named db (codes "policy")) (ready.tables (codes "policy") refl);
    one_entry = one_rowid (rows_named db (codes "template")) (ready.tables (codes "template") refl);
    one_key = one_entry db ready.schema ready.sound (ready.tables (codes "template") refl);
    one_language = one_language db ready.schema ready.sound (ready.tables (codes "language") refl);
    one_unit = one_unit db ready.schema ready.sound (ready.tables (codes "unit") refl);
    suggested = suggested;
  }

  states : (row : Row) → Has (rows_named db (codes "unit")) row → column row 5 ≡ Int (integer_at 5 row)
  states row there = whole 5 row (holds_int unit_table unit_placed 4 (codes "state") refl db ready.schema ready.sound row there refl)

  typed : AreTypedRows (rows_named db)
  typed = record {
    policy_numbers = λ row there. integer_is (row_number row) ((ready.tables (codes "policy") refl).ints row there);
    entry_places = λ row there. integer_is (row_number row) ((ready.tables (codes "template") refl).ints row there);
    unit_states = states;
    unit_revisions = λ row there. whole 7 row (holds_int unit_table unit_placed 6 (codes "revision") refl db ready.schema ready.sound row there refl);
    last_state = λ row there. at_most row (integer_at 5 row) (states row there) (and_parts _ _ (passes_rule unit_table unit_placed Check db ready.schema ready.sound row there)).0;
    suggestion_langs = suggestion_langs db ready.schema ready.sound;
    suggestion_keys = suggestion_keys db ready.schema ready.sound;
    suggestion_places = has_places db ready.schema ready.sound;
  }

  pub office_rows : AreOfficeRows (rows_named db)
  office_rows = record {
    keyed = keyed;
    typed = typed;
    has_unit = has_unit;
    entries_once = (ready.tables (codes "template") refl).once;
    suggestions_once = (ready.tables (codes "suggestion") refl).once;
  }
