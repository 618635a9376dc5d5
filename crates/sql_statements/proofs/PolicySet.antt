-- The row of the policy is set, where there is one or none.
use Rattle.std.proofs.Common.{◌≡◌, ℕ, ℤ, pos, List, [], ◌∷◌, ◌++◌, codes, true, ◌&&◌, Some, refl, sym, ap, subst, ◌∙◌}
use Rattle.std.proofs.lemmas.Bool.{and_parts}
use Rattle.std.specs.Ordering.{is_eq, int_cmp}
use Rattle.std.specs.Cmp.{Equal-is}
use Rattle.std.specs.FinMap.{int_cmp-IsAntisymmetric}
use Rattle.sqlite.specs.declared.types.Value.TheVariants.{Null, Int}
use Rattle.sqlite.specs.Order.{Row, value_cmp}
use Rattle.sqlite_value.proofs.OrderLemmas.{value_cmp-Int}
use Rattle.sqlite_value.specs.Keys.{plain, first_key, joined}
use Rattle.sqlite.specs.Cast.{cast_row}
use Rattle.sqlite.specs.Tree.{rowid}
use Rattle.sqlite.specs.Term.{Term, lit, col}
use Rattle.sqlite.specs.Rows.{shown}
use Rattle.sqlite.specs.Listing.{understood}
use Rattle.sqlite_tied.specs.Compute.{everything}
use Rattle.sqlite_schema.specs.Names.{same_name}
use Rattle.sqlite_schema.specs.Rules.{agree}
use Rattle.sqlite_trees.specs.View.{is_int}
use Rattle.sqlite_rules.specs.Edit.{with_rowid, id_in}
use Rattle.sqlite_rules.specs.declared.error.Rowids.TheVariants.{Chosen}
use Rattle.sqlite_rules.specs.Keys.{conflicts}
use Rattle.sqlite_rules.proofs.TableLemmas.{int_is}
use Rattle.sql_laws.specs.PlainQueries.{shows}
use Rattle.sql_laws.proofs.Comparisons.{ints_compared}
use Rattle.sql_schema.specs.Schema.{policy_table}
use Rattle.sql_schema.specs.Keys.{row_number}
use Rattle.sql_schema.proofs.RowNumbers.{one_row_number}
use Rattle.sql_schema.proofs.Insertions.{PutsOf, cast_null, cast_int}
use Rattle.sql_statements.proofs.Untouched.{none_refers, drop_false}
use Rattle.sql_statements.proofs.Upserts.{IsUpsert, IsPuttable, puts_or_renews}
use Rattle.sql_schema.specs.Layouts.{Form, Layout, made_new, made_second, made_last, from_first, from_second, schema_of, placed, rows_named}
use Rattle.sql_schema.proofs.Layouts.{policy_placed}

-- ---- the text

abbrev pub upsert_text : List ℕ
upsert_text = codes "INSERT INTO policy (one, schema, reviews, guests_suggest, voting, accept_at, placeholders, line_ends) VALUES (1, ?1, ?2, ?3, ?4, ?5, ?6, ?7) ON CONFLICT (one) DO UPDATE SET schema = excluded.schema, reviews = excluded.reviews, guests_suggest = excluded.guests_suggest, voting = excluded.voting, accept_at = excluded.accept_at, placeholders = excluded.placeholders, line_ends = excluded.line_ends"

abbrev upsert_terms : List Term
upsert_terms = lit (Int (pos 1)) ∷ lit Null ∷ col 0 0 ∷ col 0 1 ∷ col 0 2 ∷ col 0 3 ∷ col 0 4 ∷ col 0 5 ∷ col 0 6 ∷ []

abbrev becomes : List Term
becomes = col 1 0 ∷ col 1 0 ∷ lit Null ∷ col 0 10 ∷ col 0 11 ∷ col 0 12 ∷ col 0 13 ∷ col 0 14 ∷ col 0 15 ∷ col 0 16 ∷ []

upsert_is : {form : Form} (layout : Layout form) → IsUpsert layout upsert_text 9 7 policy_table upsert_terms (0 ∷ []) becomes
unfolding understood same_name joined everything
upsert_is made_new = record { is_placed = policy_placed made_new; uncounted = refl; is = refl; plain = (refl, refl); none = none_refers (schema_of made_new) (placed made_new policy_table).tree (λ olds news. refl) }
upsert_is made_second = record { is_placed = policy_placed made_second; uncounted = refl; is = refl; plain = (refl, refl); none = none_refers (schema_of made_second) (placed made_second policy_table).tree (λ olds news. refl) }
upsert_is made_last = record { is_placed = policy_placed made_last; uncounted = refl; is = refl; plain = (refl, refl); none = none_refers (schema_of made_last) (placed made_last policy_table).tree (λ olds news. refl) }
upsert_is from_first = record { is_placed = policy_placed from_first; uncounted = refl; is = refl; plain = (refl, refl); none = none_refers (schema_of from_first) (placed from_first policy_table).tree (λ olds news. refl) }
upsert_is from_second = record { is_placed = policy_placed from_second; uncounted = refl; is = refl; plain = (refl, refl); none = none_refers (schema_of from_second) (placed from_second policy_table).tree (λ olds news. refl) }

-- ---- the values

module _ (schema reviews guests_suggest voting accept_at placeholders line_ends : ℤ) where
  abbrev pub values : Row
  values = Int schema ∷ Int reviews ∷ Int guests_suggest ∷ Int voting ∷ Int accept_at ∷ Int placeholders ∷ Int line_ends ∷ []

  -- the rowid is 1, and the column of that name is null
  abbrev pub policy_row : Row
  policy_row = Int (pos 1) ∷ Null ∷ values

  cast_policy : cast_row policy_table policy_row ≡ policy_row
  cast_policy = rw (cast_int (pos 1), cast_null, cast_int schema, cast_int reviews, cast_int guests_suggest, cast_int voting, cast_int accept_at, cast_int placeholders, cast_int line_ends) refl

  agrees : (r : Row) → is_int (rowid r) ≡ true → agree plain (0 ∷ []) r (0 ∷ []) policy_row ≡ (is_eq (value_cmp (rowid r) (Int (pos 1))) && true)
  unfolding first_key
  agrees r whole = ap (λ b. b && true) (ints_compared (rowid r) (Int (pos 1)) whole refl)

  is_one : (n : ℤ) → is_eq (value_cmp (Int n) (Int (pos 1))) ≡ true → n ≡ pos 1
  is_one n e = int_cmp-IsAntisymmetric n (pos 1) ((Equal-is (int_cmp n (pos 1))).0 (ap is_eq (sym (value_cmp-Int n (pos 1))) ∙ e))

  conflict_is : {form : Form} (layout : Layout form) (r : Row) → conflicts (Some (0 ∷ [])) (schema_of layout).indexes (placed layout policy_table) policy_row r ≡ true
      → agree plain (0 ∷ []) r (0 ∷ []) policy_row ≡ true
  conflict_is made_new r h = drop_false (agree plain (0 ∷ []) r (0 ∷ []) policy_row) h
  conflict_is made_second r h = drop_false (agree plain (0 ∷ []) r (0 ∷ []) policy_row) h
  conflict_is made_last r h = drop_false (agree plain (0 ∷ []) r (0 ∷ []) policy_row) h
  conflict_is from_first r h = drop_false (agree plain (0 ∷ []) r (0 ∷ []) policy_row) h
  conflict_is from_second r h = drop_false (agree plain (0 ∷ []) r (0 ∷ []) policy_row) h

  same_rowid : {form : Form} (layout : Layout form) (r : Row) → is_int (rowid r) ≡ true → conflicts (Some (0 ∷ [])) (schema_of layout).indexes (placed layout policy_table) policy_row r ≡ true → rowid r ≡ Int (pos 1)
  same_rowid layout r whole h =
      let agreed = conflict_is layout r h in
      let tied = (and_parts _ _ (sym (agrees r whole) ∙ agreed)).0 in
      let is = int_is (rowid r) whole in
      is ∙ ap Int (is_one (id_in (rowid r)) (subst (λ v. is_eq (value_cmp v (Int (pos 1))) ≡ true) is tied))

  shows_it : (r : Row) → rowid r ≡ Int (pos 1) → shows (values ++ rowid r ∷ shown policy_table policy_row) becomes r ≡ rowid r ∷ policy_row
  shows_it r first = rw first refl

  is_puttable : {form : Form} → IsPuttable form 7 9 policy_table upsert_terms (0 ∷ []) becomes values policy_row row_number (λ row. row ≡ policy_row) (λ rows. policy_row) (λ r. policy_row)
  is_puttable = record {
    given = refl;
    follows = λ v rest. refl;
    new_is = λ rows. ap (with_rowid Chosen rows) cast_policy;
    new_cast = λ rows. cast_policy;
    new_fits = λ rows. refl;
    renewed_cast = λ r whole. cast_policy;
    renewed_fits = λ r whole. refl;
    meets = λ db has sound r there whole rows h. let first = same_rowid has.0 r whole h in (first, shows_it r first);
  }

  pub sets_policy : {form : Form} → PutsOf form upsert_text values (codes "policy") row_number (λ row. row ≡ policy_row)
  sets_policy = puts_or_renews upsert_is is_puttable (λ db has sound. one_row_number (rows_named db (codes "policy")))
