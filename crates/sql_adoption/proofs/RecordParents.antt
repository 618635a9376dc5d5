-- What a foreign key of the tables by domains says: each suggestion's number is a record's.
use Rattle.std.proofs.Common.{◌≡◌, [], ◌∷◌, codes, true, false, Some, refl, sym, subst}
use Rattle.std.proofs.lemmas.Bool.{and_parts}
use Rattle.std.specs.List.{list_any}
use Rattle.sqlite.specs.Order.{Row, column}
use Rattle.sqlite.specs.declared.types.Value.TheVariants.{Text as Words}
use Rattle.sqlite.specs.Effect.{Database, IsDatabase}
use Rattle.sqlite.specs.Schema.{Schema}
use Rattle.sqlite_value.specs.Keys.{plain, joined, first_key}
use Rattle.sqlite_tied.specs.Compute.{everything}
use Rattle.sqlite_schema.specs.declared.schema.Action.TheVariants.{NoAction}
use Rattle.sqlite_schema.specs.declared.schema.Constraint.TheVariants.{ForeignKey}
use Rattle.sqlite_schema.specs.declared.schema.Reference.{Reference}
use Rattle.sqlite_schema.specs.Names.{same_name}
use Rattle.sqlite_schema.specs.Rules.{agree, is_held, has_parent, parent_key, passes}
use Rattle.sqlite_rules.specs.Lists.{Has}
use Rattle.sqlite_rules.proofs.ListLemmas.{some_has}
use Rattle.sql_laws.proofs.Comparisons.{texts_compared}
use Rattle.sql_laws.proofs.RowMaps.{texts_are_one}
use Rattle.po_text.specs.Texts.{Text}
use Rattle.sql_schema.proofs.TextKeys.{holds_text, passes_rule}
use Rattle.sql_schema.proofs.TableRows.{record_numbers}
use Rattle.sql_schema.specs.Keys.{text_at, first_text}
use Rattle.sql_schema.specs.Layouts.{by_domain, Layout, made_last, from_first, from_second, schema_of, HasLayoutOf, placed, rows_named}
use Rattle.sql_schema.proofs.Layouts.{record_placed, d_suggestion_placed, rows_placed}
use Rattle.sql_schema.specs.Schema.{record_table, d_suggestion_table}

-- the reference of suggestions to records
abbrev on_record : Reference
on_record = record { columns = 1 ∷ []; parent = codes "record"; parent_columns = codes "number" ∷ []; on_delete = NoAction; on_update = NoAction; is_deferred = false }

-- the key that it refers to
is_parent : (layout : Layout by_domain) → parent_key (schema_of layout).tables on_record ≡ Some ((placed layout record_table).tree, 1 ∷ [], plain)
unfolding same_name joined everything
is_parent made_last = refl
is_parent from_first = refl
is_parent from_second = refl

agreed : (r s : Row) (a b : Text) → column r 1 ≡ Words a → column s 1 ≡ Words b → agree plain (1 ∷ []) r (1 ∷ []) s ≡ true → a ≡ b
unfolding first_key
agreed r s a b of_r of_s e =
    let here = rw (of_r, of_s, texts_compared a b) at e in
    texts_are_one a b (and_parts _ _ here).0

module _ (db : Database) (has : HasLayoutOf by_domain db) (sound : IsDatabase db) where
  abbrev layout : Layout by_domain
  layout = has.0

  abbrev schema : Schema
  schema = schema_of layout

  number_of : (s : Row) → Has (rows_named db (codes "d_suggestion")) s → column s 1 ≡ Words (text_at 1 s)
  number_of s there = holds_text d_suggestion_table d_suggestion_placed 0 (codes "number") refl db has sound s there refl

  of_record : (s : Row) → column s 1 ≡ Words (text_at 1 s) → has_parent schema.tables db.trees s on_record ≡ true
      → list_any (λ parent. agree plain (1 ∷ []) parent (1 ∷ []) s) (db.trees (placed layout record_table).tree) ≡ true
  of_record s number e =
      let here : is_held db.trees (1 ∷ []) s (parent_key schema.tables on_record) ≡ true = rw number at e in
      subst (λ o. is_held db.trees (1 ∷ []) s o ≡ true) (is_parent layout) here

  some_record : (s : Row) → Has (rows_named db (codes "d_suggestion")) s → list_any (λ parent. agree plain (1 ∷ []) parent (1 ∷ []) s) (rows_named db (codes "record")) ≡ true
  some_record s there =
      let passed = subst (λ z. passes ForeignKey z db.trees (placed layout d_suggestion_table) s ≡ true) has.1 (passes_rule d_suggestion_table d_suggestion_placed ForeignKey db has sound s there) in
      subst (λ rows. list_any (λ parent. agree plain (1 ∷ []) parent (1 ∷ []) s) rows ≡ true) (sym (rows_placed layout record_table (record_placed layout) db has.1))
      (of_record s (number_of s there) (and_parts _ _ passed).0)

  -- a record has the suggestion's number
  pub d_suggestion_recorded : (s : Row) → Has (rows_named db (codes "d_suggestion")) s → (r : Row) × Has (rows_named db (codes "record")) r × (first_text r ≡ first_text s)
  d_suggestion_recorded s there =
      let it = some_has (λ parent. agree plain (1 ∷ []) parent (1 ∷ []) s) (rows_named db (codes "record")) (some_record s there) in
      (it.0, it.1, agreed it.0 s (first_text it.0) (first_text s) (record_numbers db has sound it.0 it.1) (number_of s there) it.2)
