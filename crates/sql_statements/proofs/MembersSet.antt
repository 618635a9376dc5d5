-- A member of the team is set, new or not.
use Rattle.std.proofs.Common.{◌≡◌, ℕ, ℤ, List, [], ◌∷◌, ◌++◌, codes, true, Some, refl, sym, ap, ◌∙◌}
use Rattle.std.proofs.lemmas.Bool.{and_parts}
use Rattle.sqlite.specs.declared.types.Value.{Value}
use Rattle.sqlite.specs.declared.types.Value.TheVariants.{Null, Int, Text}
use Rattle.sqlite.specs.Order.{Row, column}
use Rattle.sqlite_value.specs.Keys.{plain, joined}
use Rattle.sqlite.specs.Cast.{cast, cast_row}
use Rattle.sqlite.specs.Kind.TheVariants as kind
use Rattle.sqlite.specs.Tree.{rowid}
use Rattle.sqlite.specs.Term.{Term, lit, col}
use Rattle.sqlite.specs.Effect.{Database, IsDatabase}
use Rattle.sqlite.specs.Rows.{shown}
use Rattle.sqlite.specs.Listing.{understood}
use Rattle.sqlite_tied.specs.Compute.{everything}
use Rattle.sqlite_schema.specs.Names.{same_name}
use Rattle.sqlite_schema.specs.Rules.{agree}
use Rattle.sqlite_rules.specs.Keys.{conflicts}
use Rattle.sqlite_rules.specs.Lists.{Has}
use Rattle.sql_laws.specs.PlainQueries.{shows}
use Rattle.sql_laws.proofs.Comparisons.{agree-texts}
use Rattle.sql_laws.proofs.RowMaps.{texts_are_one}
use Rattle.sql_schema.specs.Schema.{team_table}
use Rattle.sql_schema.specs.Keys.{first_text}
use Rattle.sql_schema.specs.Inside.{HoldsValues}
use Rattle.sql_schema.proofs.Insertions.{PutsOf, cast_int}
use Rattle.sql_schema.proofs.TableRows.{member_names, one_member}
use Rattle.sql_statements.proofs.Untouched.{none_refers, drop_false}
use Rattle.sql_statements.proofs.Upserts.{IsUpsert, puts_or_renews_values}
use Rattle.sql_schema.specs.Layouts.{Form, Layout, made_new, made_second, made_last, from_first, from_second, schema_of, HasLayoutOf, placed, rows_named}
use Rattle.sql_schema.proofs.Layouts.{team_placed}

-- ---- the text

abbrev pub upsert_text : List ℕ
upsert_text = codes "INSERT INTO team (name, role) VALUES (?1, ?2) ON CONFLICT (name) DO UPDATE SET role = excluded.role"

abbrev upsert_terms : List Term
upsert_terms = lit Null ∷ col 0 0 ∷ col 0 1 ∷ []

abbrev becomes : List Term
becomes = col 1 0 ∷ col 1 0 ∷ col 1 1 ∷ col 0 5 ∷ []

upsert_is : {form : Form} (layout : Layout form) → IsUpsert layout upsert_text 3 2 team_table upsert_terms (1 ∷ []) becomes
unfolding understood same_name joined everything
upsert_is made_new = record { is_placed = team_placed made_new; uncounted = refl; is = refl; plain = (refl, refl); none = none_refers (schema_of made_new) (placed made_new team_table).tree (λ olds news. refl) }
upsert_is made_second = record { is_placed = team_placed made_second; uncounted = refl; is = refl; plain = (refl, refl); none = none_refers (schema_of made_second) (placed made_second team_table).tree (λ olds news. refl) }
upsert_is made_last = record { is_placed = team_placed made_last; uncounted = refl; is = refl; plain = (refl, refl); none = none_refers (schema_of made_last) (placed made_last team_table).tree (λ olds news. refl) }
upsert_is from_first = record { is_placed = team_placed from_first; uncounted = refl; is = refl; plain = (refl, refl); none = none_refers (schema_of from_first) (placed from_first team_table).tree (λ olds news. refl) }
upsert_is from_second = record { is_placed = team_placed from_second; uncounted = refl; is = refl; plain = (refl, refl); none = none_refers (schema_of from_second) (placed from_second team_table).tree (λ olds news. refl) }

-- ---- the values

module _ (name : List ℕ) (role : ℤ) where
  abbrev pub values : Row
  values = Text name ∷ Int role ∷ []

  cast_member : (v : Value) → cast kind.Integer v ≡ v → cast_row team_table (v ∷ values) ≡ v ∷ values
  cast_member v h = rw (h, cast_int role) refl

  conflict_is : {form : Form} (layout : Layout form) (r : Row) (id : ℤ) → conflicts (Some (1 ∷ [])) (schema_of layout).indexes (placed layout team_table) (Int id ∷ values) r ≡ true
      → agree plain (1 ∷ []) r (1 ∷ []) (Int id ∷ values) ≡ true
  conflict_is made_new r id h = drop_false (agree plain (1 ∷ []) r (1 ∷ []) (Int id ∷ values)) h
  conflict_is made_second r id h = drop_false (agree plain (1 ∷ []) r (1 ∷ []) (Int id ∷ values)) h
  conflict_is made_last r id h = drop_false (agree plain (1 ∷ []) r (1 ∷ []) (Int id ∷ values)) h
  conflict_is from_first r id h = drop_false (agree plain (1 ∷ []) r (1 ∷ []) (Int id ∷ values)) h
  conflict_is from_second r id h = drop_false (agree plain (1 ∷ []) r (1 ∷ []) (Int id ∷ values)) h

  same_name_as : {form : Form} (db : Database) (has : HasLayoutOf form db) → IsDatabase db → (r : Row) → Has (rows_named db (codes "team")) r → (id : ℤ)
      → conflicts (Some (1 ∷ [])) (schema_of has.0).indexes (placed has.0 team_table) (Int id ∷ values) r ≡ true → column r 1 ≡ Text name
  same_name_as db has sound r there id h =
      let first = member_names db has sound r there in
      let agreed = conflict_is has.0 r id h in
      first ∙ ap Text (texts_are_one (first_text r) name (and_parts _ _ (sym (agree-texts r (Int id ∷ values) 1 1 (first_text r) name first refl) ∙ agreed)).0)

  keyed : (r : Row) → column r 1 ≡ Text name → first_text r ≡ first_text (rowid r ∷ values)
  keyed r first = rw first refl

  shows_it : (r : Row) (id : ℤ) → column r 1 ≡ Text name → shows (values ++ rowid r ∷ shown team_table (Int id ∷ values)) becomes r ≡ rowid r ∷ rowid r ∷ values
  shows_it r id first = rw first refl

  pub sets_member : {form : Form} → PutsOf form upsert_text values (codes "team") first_text (HoldsValues values)
  sets_member = puts_or_renews_values upsert_is values first_text refl (λ v rest. refl) cast_member
      (λ db has sound r there id h. let first = same_name_as db has sound r there id h in (keyed r first, shows_it r id first)) one_member
