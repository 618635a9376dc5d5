-- What the foreign keys of the tables by domains say: each suggestion is on a unit of its domain, and each vote on a suggestion.
use Rattle.std.proofs.Common.{◌≡◌, [], ◌∷◌, codes, true, false, Some, refl, sym, subst}
use Rattle.std.proofs.lemmas.Bool.{and_parts}
use Rattle.std.specs.List.{list_any}
use Rattle.sqlite.specs.Order.{Row, column}
use Rattle.sqlite.specs.declared.types.Value.TheVariants.{Text}
use Rattle.sqlite.specs.Effect.{Database, IsDatabase}
use Rattle.sqlite.specs.Schema.{Schema}
use Rattle.sqlite.specs.Table.{Table}
use Rattle.sqlite_value.specs.Keys.{plain, joined}
use Rattle.sqlite_tied.specs.Compute.{everything}
use Rattle.sqlite_schema.specs.declared.schema.Action.TheVariants.{Cascade, NoAction}
use Rattle.sqlite_schema.specs.declared.schema.Constraint.TheVariants.{ForeignKey}
use Rattle.sqlite_schema.specs.declared.schema.Reference.{Reference}
use Rattle.sqlite_schema.specs.Names.{same_name}
use Rattle.sqlite_schema.specs.Rules.{agree, is_held, has_parent, parent_key, passes}
use Rattle.sqlite_rules.specs.Lists.{Has}
use Rattle.sql_schema.proofs.TextKeys.{holds_text, passes_rule}
use Rattle.sql_schema.specs.Keys.{text_at}
use Rattle.sql_schema.specs.Layouts.{by_domain, Layout, made_last, from_first, from_second, schema_of, HasLayoutOf, placed, rows_named, IsPlaced}
use Rattle.sql_schema.proofs.Layouts.{d_unit_placed, d_suggestion_placed, d_vote_placed, rows_placed}
use Rattle.sql_schema.specs.Schema.{d_unit_table, d_suggestion_table, d_vote_table}

-- the references of suggestions to units, and of votes to suggestions
abbrev on_unit : Reference
on_unit = record {
  columns = 2 ∷ 3 ∷ 4 ∷ [];
  parent = codes "d_unit";
  parent_columns = codes "domain" ∷ codes "lang" ∷ codes "key" ∷ [];
  on_delete = Cascade;
  on_update = NoAction;
  is_deferred = false;
}

abbrev on_suggestion : Reference
on_suggestion = record { columns = 1 ∷ []; parent = codes "d_suggestion"; parent_columns = codes "number" ∷ []; on_delete = Cascade; on_update = NoAction; is_deferred = false }

-- the keys that these refer to
record AreParents (layout : Layout by_domain) : Type 0 where
  unit : parent_key (schema_of layout).tables on_unit ≡ Some ((placed layout d_unit_table).tree, 1 ∷ 2 ∷ 3 ∷ [], plain)
  number : parent_key (schema_of layout).tables on_suggestion ≡ Some ((placed layout d_suggestion_table).tree, 1 ∷ [], plain)

are_parents : (layout : Layout by_domain) → AreParents layout
unfolding same_name joined everything
are_parents made_last = record { unit = refl; number = refl }
are_parents from_first = record { unit = refl; number = refl }
are_parents from_second = record { unit = refl; number = refl }

module _ (db : Database) (has : HasLayoutOf by_domain db) (sound : IsDatabase db) where
  abbrev layout : Layout by_domain
  layout = has.0

  abbrev schema : Schema
  schema = schema_of layout

  passed : (table : Table) → ((layout : Layout by_domain) → IsPlaced layout table) → (row : Row) → Has (rows_named db table.name) row → passes ForeignKey schema db.trees (placed layout table) row ≡ true
  passed table is_placed row there =
      subst (λ z. passes ForeignKey z db.trees (placed layout table) row ≡ true) has.1 (passes_rule table is_placed ForeignKey db has sound row there)

  of_unit : (s : Row) → column s 2 ≡ Text (text_at 2 s) → column s 3 ≡ Text (text_at 3 s) → column s 4 ≡ Text (text_at 4 s) → has_parent schema.tables db.trees s on_unit ≡ true
      → list_any (λ parent. agree plain (1 ∷ 2 ∷ 3 ∷ []) parent (2 ∷ 3 ∷ 4 ∷ []) s) (db.trees (placed layout d_unit_table).tree) ≡ true
  of_unit s domain lang key e =
      let here : is_held db.trees (2 ∷ 3 ∷ 4 ∷ []) s (parent_key schema.tables on_unit) ≡ true = rw (domain, lang, key) at e in
      subst (λ o. is_held db.trees (2 ∷ 3 ∷ 4 ∷ []) s o ≡ true) (are_parents layout).unit here

  of_suggestion : (v : Row) → column v 1 ≡ Text (text_at 1 v) → has_parent schema.tables db.trees v on_suggestion ≡ true
      → list_any (λ parent. agree plain (1 ∷ []) parent (1 ∷ []) v) (db.trees (placed layout d_suggestion_table).tree) ≡ true
  of_suggestion v number e =
      let here : is_held db.trees (1 ∷ []) v (parent_key schema.tables on_suggestion) ≡ true = rw number at e in
      subst (λ o. is_held db.trees (1 ∷ []) v o ≡ true) (are_parents layout).number here

  -- a unit has the suggestion's domain, language and key
  pub d_suggestion_on_unit : (s : Row) → Has (rows_named db (codes "d_suggestion")) s
      → list_any (λ parent. agree plain (1 ∷ 2 ∷ 3 ∷ []) parent (2 ∷ 3 ∷ 4 ∷ []) s) (rows_named db (codes "d_unit")) ≡ true
  d_suggestion_on_unit s there =
      let domain = holds_text d_suggestion_table d_suggestion_placed 1 (codes "domain") refl db has sound s there refl in
      let lang = holds_text d_suggestion_table d_suggestion_placed 2 (codes "lang") refl db has sound s there refl in
      let key = holds_text d_suggestion_table d_suggestion_placed 3 (codes "key") refl db has sound s there refl in
      let held = of_unit s domain lang key (and_parts _ _ (and_parts _ _ (passed d_suggestion_table d_suggestion_placed s there)).1).0 in
      subst (λ rows. list_any (λ parent. agree plain (1 ∷ 2 ∷ 3 ∷ []) parent (2 ∷ 3 ∷ 4 ∷ []) s) rows ≡ true) (sym (rows_placed layout d_unit_table (d_unit_placed layout) db has.1)) held

  -- a suggestion has the vote's number
  pub d_vote_on_suggestion : (v : Row) → Has (rows_named db (codes "d_vote")) v → list_any (λ parent. agree plain (1 ∷ []) parent (1 ∷ []) v) (rows_named db (codes "d_suggestion")) ≡ true
  d_vote_on_suggestion v there =
      let number = holds_text d_vote_table d_vote_placed 0 (codes "number") refl db has sound v there refl in
      let held = of_suggestion v number (and_parts _ _ (passed d_vote_table d_vote_placed v there)).0 in
      subst (λ rows. list_any (λ parent. agree plain (1 ∷ []) parent (1 ∷ []) v) rows ≡ true) (sym (rows_placed layout d_suggestion_table (d_suggestion_placed layout) db has.1)) held
