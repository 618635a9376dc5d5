-- A row of a domain's unit is put: what the upsert of it does.
use Rattle.std.proofs.Common.{◌≡◌, ℕ, ℤ, List, [], ◌∷◌, ◌++◌, codes, true, Option, Some, refl, ap, ◌∙◌}
use Rattle.sqlite.specs.declared.types.Value.{Value}
use Rattle.sqlite.specs.declared.types.Value.TheVariants.{Null, Int, Text}
use Rattle.sqlite.specs.Order.{Row, column}
use Rattle.sqlite_value.specs.Keys.{plain, joined}
use Rattle.sqlite.specs.Cast.{cast, cast_row}
use Rattle.sqlite.specs.Kind.TheVariants as kind
use Rattle.sqlite.specs.Tree.{rowid}
use Rattle.sqlite.specs.Term.{Term, lit, col}
use Rattle.sqlite.specs.Effect.{Database, IsDatabase}
use Rattle.sqlite.specs.Rows.{shown}
use Rattle.sqlite.specs.Listing.{understood}
use Rattle.sqlite_tied.specs.Compute.{everything}
use Rattle.sqlite_schema.specs.Names.{same_name}
use Rattle.sqlite_schema.specs.Rules.{agree}
use Rattle.sqlite_rules.specs.Keys.{conflicts}
use Rattle.sqlite_rules.specs.Lists.{Has}
use Rattle.sql_laws.specs.PlainQueries.{shows}
use Rattle.sql_schema.specs.Keys.{text_at, first_three}
use Rattle.sql_schema.specs.Rows.{d_unit_row}
use Rattle.sql_schema.specs.Inside.{HoldsValues}
use Rattle.sql_schema.proofs.Insertions.{PutsOf, cast_int, cast_text_or_null}
use Rattle.sql_statements.proofs.Untouched.{none_refers, drop_false}
use Rattle.sql_statements.proofs.Upserts.{IsUpsert, puts_or_renews_values}
use Rattle.sql_schema.specs.Layouts.{by_domain, Layout, made_last, from_first, from_second, schema_of, HasLayoutOf, placed, rows_named}
use Rattle.sql_schema.proofs.Layouts.{d_unit_placed}
use Rattle.sql_schema.specs.Schema.{d_unit_table}
use Rattle.sql_schema.proofs.TextLists.{texts_of_row, agreed_texts}
use Rattle.sql_schema.proofs.DomainRows.{d_unit_texts, one_d_unit}

-- ---- the text

abbrev pub upsert_text : List ℕ
upsert_text = codes "INSERT INTO d_unit (domain, lang, key, plural, forms, state, obsolete, revision, comment, previous) VALUES (?1, ?2, ?3, ?4, ?5, ?6, ?7, ?8, ?9, ?10) ON CONFLICT (domain, lang, key) DO UPDATE SET plural = excluded.plural, forms = excluded.forms, state = excluded.state, obsolete = excluded.obsolete, revision = excluded.revision, comment = excluded.comment, previous = excluded.previous"

abbrev upsert_terms : List Term
upsert_terms = lit Null ∷ col 0 0 ∷ col 0 1 ∷ col 0 2 ∷ col 0 3 ∷ col 0 4 ∷ col 0 5 ∷ col 0 6 ∷ col 0 7 ∷ col 0 8 ∷ col 0 9 ∷ []

abbrev becomes : List Term
becomes = col 1 0 ∷ col 1 0 ∷ col 1 1 ∷ col 1 2 ∷ col 1 3 ∷ col 0 15 ∷ col 0 16 ∷ col 0 17 ∷ col 0 18 ∷ col 0 19 ∷ col 0 20 ∷ col 0 21 ∷ []

upsert_is : (layout : Layout by_domain) → IsUpsert layout upsert_text 11 10 d_unit_table upsert_terms (1 ∷ 2 ∷ 3 ∷ []) becomes
unfolding understood same_name joined everything
upsert_is made_last = record { is_placed = d_unit_placed made_last; uncounted = refl; is = refl; plain = (refl, refl); none = none_refers (schema_of made_last) (placed made_last d_unit_table).tree (λ olds news. refl) }
upsert_is from_first = record { is_placed = d_unit_placed from_first; uncounted = refl; is = refl; plain = (refl, refl); none = none_refers (schema_of from_first) (placed from_first d_unit_table).tree (λ olds news. refl) }
upsert_is from_second = record { is_placed = d_unit_placed from_second; uncounted = refl; is = refl; plain = (refl, refl); none = none_refers (schema_of from_second) (placed from_second d_unit_table).tree (λ olds news. refl) }

-- ---- the values

module _ (domain lang key : List ℕ) (plural : Option (List ℕ)) (forms : List ℕ) (state obsolete revision : ℤ) (comment previous : List ℕ) where
  abbrev pub values : Row
  values = d_unit_row domain lang key plural forms state obsolete revision comment previous

  pub cast_unit : (v : Value) → cast kind.Integer v ≡ v → cast_row d_unit_table (v ∷ values) ≡ v ∷ values
  cast_unit v h = rw (h, cast_int state, cast_int obsolete, cast_int revision, cast_text_or_null plural) refl

  conflict_is : (layout : Layout by_domain) (r : Row) (id : ℤ) → conflicts (Some (1 ∷ 2 ∷ 3 ∷ [])) (schema_of layout).indexes (placed layout d_unit_table) (Int id ∷ values) r ≡ true
      → agree plain (1 ∷ 2 ∷ 3 ∷ []) r (1 ∷ 2 ∷ 3 ∷ []) (Int id ∷ values) ≡ true
  conflict_is made_last r id h = drop_false (agree plain (1 ∷ 2 ∷ 3 ∷ []) r (1 ∷ 2 ∷ 3 ∷ []) (Int id ∷ values)) h
  conflict_is from_first r id h = drop_false (agree plain (1 ∷ 2 ∷ 3 ∷ []) r (1 ∷ 2 ∷ 3 ∷ []) (Int id ∷ values)) h
  conflict_is from_second r id h = drop_false (agree plain (1 ∷ 2 ∷ 3 ∷ []) r (1 ∷ 2 ∷ 3 ∷ []) (Int id ∷ values)) h

  -- a row that conflicts is of the same domain, language and key
  same_unit : (db : Database) (has : HasLayoutOf by_domain db) → IsDatabase db → (r : Row) → Has (rows_named db (codes "d_unit")) r → (id : ℤ)
      → conflicts (Some (1 ∷ 2 ∷ 3 ∷ [])) (schema_of has.0).indexes (placed has.0 d_unit_table) (Int id ∷ values) r ≡ true
      → (column r 1 ≡ Text domain) × (column r 2 ≡ Text lang) × (column r 3 ≡ Text key)
  same_unit db has sound r there id h =
      let hold = texts_of_row by_domain (codes "d_unit") (1 ∷ 2 ∷ 3 ∷ []) d_unit_texts db has sound r there in
      let same = agreed_texts (1 ∷ 2 ∷ 3 ∷ []) r (Int id ∷ values) hold (refl, (refl, (refl, tt))) (conflict_is has.0 r id h) in
      let first : text_at 1 r ≡ domain = cc in
      let second : text_at 2 r ≡ lang = cc in
      let third : text_at 3 r ≡ key = cc in
      (hold.0 ∙ ap Text first, hold.1.0 ∙ ap Text second, hold.1.1.0 ∙ ap Text third)

  keyed : (r : Row) → column r 1 ≡ Text domain → column r 2 ≡ Text lang → column r 3 ≡ Text key → first_three r ≡ first_three (rowid r ∷ values)
  keyed r first second third = rw (first, second, third) refl

  shows_it : (r : Row) (id : ℤ) → column r 1 ≡ Text domain → column r 2 ≡ Text lang → column r 3 ≡ Text key
      → shows (values ++ rowid r ∷ shown d_unit_table (Int id ∷ values)) becomes r ≡ rowid r ∷ rowid r ∷ values
  shows_it r id first second third = rw (first, second, third) refl

  pub puts_unit : PutsOf by_domain upsert_text values (codes "d_unit") first_three (HoldsValues values)
  puts_unit = puts_or_renews_values upsert_is values first_three refl (λ v rest. refl) cast_unit
      (λ db has sound r there id h. let same = same_unit db has sound r there id h in (keyed r same.0 same.1 same.2, shows_it r id same.0 same.1 same.2)) one_d_unit
