-- What a foreign key of the tables by domains says: each sum is a suggestion's.
use Rattle.std.proofs.Common.{◌≡◌, [], ◌∷◌, codes, true, false, Some, refl, sym, subst}
use Rattle.std.proofs.lemmas.Bool.{and_parts}
use Rattle.std.specs.List.{list_any}
use Rattle.sqlite.specs.Order.{Row, column}
use Rattle.sqlite.specs.declared.types.Value.TheVariants.{Text as Words}
use Rattle.sqlite.specs.Effect.{Database, IsDatabase}
use Rattle.sqlite.specs.Schema.{Schema}
use Rattle.sqlite_value.specs.Keys.{plain, joined, first_key}
use Rattle.sqlite_tied.specs.Compute.{everything}
use Rattle.sqlite_schema.specs.declared.schema.Action.TheVariants.{Cascade, NoAction}
use Rattle.sqlite_schema.specs.declared.schema.Constraint.TheVariants.{ForeignKey}
use Rattle.sqlite_schema.specs.declared.schema.Reference.{Reference}
use Rattle.sqlite_schema.specs.Names.{same_name}
use Rattle.sqlite_schema.specs.Rules.{agree, is_held, has_parent, parent_key, passes}
use Rattle.sqlite_rules.specs.Lists.{Has}
use Rattle.sqlite_rules.proofs.ListLemmas.{some_has}
use Rattle.sql_laws.proofs.Comparisons.{texts_compared}
use Rattle.sql_laws.proofs.RowMaps.{texts_are_one}
use Rattle.po_text.specs.Texts.{Text}
use Rattle.sql_schema.proofs.TextKeys.{passes_rule}
use Rattle.sql_schema.proofs.DomainRows.{d_suggestion_texts, d_vote_sum_texts}
use Rattle.sql_schema.specs.Keys.{text_at, first_text}
use Rattle.sql_schema.specs.Layouts.{by_domain, Layout, made_last, from_first, from_second, schema_of, HasLayoutOf, placed, rows_named}
use Rattle.sql_schema.proofs.Layouts.{d_suggestion_placed, d_vote_sum_placed, rows_placed}
use Rattle.sql_schema.specs.Schema.{d_suggestion_table, d_vote_sum_table}

-- the reference of sums to suggestions
abbrev on_suggestion : Reference
on_suggestion = record { columns = 1 ∷ []; parent = codes "d_suggestion"; parent_columns = codes "number" ∷ []; on_delete = Cascade; on_update = NoAction; is_deferred = false }

-- the key that it refers to
is_parent : (layout : Layout by_domain) → parent_key (schema_of layout).tables on_suggestion ≡ Some ((placed layout d_suggestion_table).tree, 1 ∷ [], plain)
unfolding same_name joined everything
is_parent made_last = refl
is_parent from_first = refl
is_parent from_second = refl

agreed : (r s : Row) (a b : Text) → column r 1 ≡ Words a → column s 1 ≡ Words b → agree plain (1 ∷ []) r (1 ∷ []) s ≡ true → a ≡ b
unfolding first_key
agreed r s a b of_r of_s e =
    let here = rw (of_r, of_s, texts_compared a b) at e in
    texts_are_one a b (and_parts _ _ here).0

module _ (db : Database) (has : HasLayoutOf by_domain db) (sound : IsDatabase db) where
  abbrev layout : Layout by_domain
  layout = has.0

  abbrev schema : Schema
  schema = schema_of layout

  of_suggestion : (r : Row) → column r 1 ≡ Words (text_at 1 r) → has_parent schema.tables db.trees r on_suggestion ≡ true
      → list_any (λ parent. agree plain (1 ∷ []) parent (1 ∷ []) r) (db.trees (placed layout d_suggestion_table).tree) ≡ true
  of_suggestion r number e =
      let here : is_held db.trees (1 ∷ []) r (parent_key schema.tables on_suggestion) ≡ true = rw number at e in
      subst (λ o. is_held db.trees (1 ∷ []) r o ≡ true) (is_parent layout) here

  some_suggestion : (r : Row) → Has (rows_named db (codes "d_vote_sum")) r → list_any (λ parent. agree plain (1 ∷ []) parent (1 ∷ []) r) (rows_named db (codes "d_suggestion")) ≡ true
  some_suggestion r there =
      let passed = subst (λ z. passes ForeignKey z db.trees (placed layout d_vote_sum_table) r ≡ true) has.1 (passes_rule d_vote_sum_table d_vote_sum_placed ForeignKey db has sound r there) in
      subst (λ rows. list_any (λ parent. agree plain (1 ∷ []) parent (1 ∷ []) r) rows ≡ true) (sym (rows_placed layout d_suggestion_table (d_suggestion_placed layout) db has.1))
      (of_suggestion r (d_vote_sum_texts.0 db has sound r there) (and_parts _ _ passed).0)

  -- a suggestion has the sum's number
  pub d_sum_on_suggestion : (r : Row) → Has (rows_named db (codes "d_vote_sum")) r → (s : Row) × Has (rows_named db (codes "d_suggestion")) s × (first_text s ≡ first_text r)
  d_sum_on_suggestion r there =
      let it = some_has (λ parent. agree plain (1 ∷ []) parent (1 ∷ []) r) (rows_named db (codes "d_suggestion")) (some_suggestion r there) in
      (it.0, it.1, agreed it.0 r (first_text it.0) (first_text r) (d_suggestion_texts.0 db has sound it.0 it.1) (d_vote_sum_texts.0 db has sound r there) it.2)
