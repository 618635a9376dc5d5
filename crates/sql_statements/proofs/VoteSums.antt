-- The table of the sums of suggestions: what the upsert of one does, and a look at a sum.
use Rattle.std.proofs.Common.{◌≡◌, ℕ, ℤ, List, [], ◌∷◌, ◌++◌, codes, true, Some, refl, sym, ap, ◌∙◌}
use Rattle.std.proofs.lemmas.Bool.{and_parts}
use Rattle.sqlite.specs.declared.types.Value.{Value}
use Rattle.sqlite.specs.declared.types.Value.TheVariants.{Null, Int, Text}
use Rattle.sqlite.specs.Order.{Row, column}
use Rattle.sqlite_value.specs.Keys.{plain, joined}
use Rattle.sqlite.specs.Cast.{cast, cast_row}
use Rattle.sqlite.specs.Kind.TheVariants as kind
use Rattle.sqlite.specs.Tree.{rowid}
use Rattle.sqlite.specs.Term.{Term, lit, col}
use Rattle.sqlite.specs.Effect.{Database, IsDatabase}
use Rattle.sqlite.specs.Rows.{shown}
use Rattle.sqlite.specs.Listing.{understood}
use Rattle.sqlite_tied.specs.Compute.{everything}
use Rattle.sqlite_schema.specs.Names.{same_name}
use Rattle.sqlite_schema.specs.Rules.{agree}
use Rattle.sqlite_rules.specs.Keys.{conflicts}
use Rattle.sqlite_rules.specs.Lists.{Has}
use Rattle.sql_laws.specs.PlainQueries.{shows}
use Rattle.sql_laws.proofs.Comparisons.{agree-texts}
use Rattle.sql_laws.proofs.RowMaps.{texts_are_one}
use Rattle.sql_schema.specs.Keys.{first_text}
use Rattle.sql_schema.specs.Inside.{HoldsValues}
use Rattle.sql_schema.specs.Schema.{d_vote_sum_table}
use Rattle.sql_schema.specs.Layouts.{by_domain, Layout, made_last, from_first, from_second, schema_of, HasLayoutOf, placed, rows_named}
use Rattle.sql_schema.proofs.Layouts.{d_vote_sum_placed}
use Rattle.sql_schema.proofs.Insertions.{PutsOf, cast_int}
use Rattle.sql_schema.proofs.Queries.{IsQueryOf, ReadsLastOf, is_given, reads_by_text}
use Rattle.sql_schema.proofs.DomainRows.{d_vote_sum_texts, one_d_sum}
use Rattle.sql_statements.specs.DomainAnswers.{ShowsSum}
use Rattle.sql_statements.proofs.Untouched.{none_refers, drop_false}
use Rattle.sql_statements.proofs.Upserts.{IsUpsert, puts_or_renews_values}
use Rattle.sql_statements.proofs.ReadsUnread.{IsAcceptedBy, IsUnreadBy, unread_by}

-- ---- an upsert

abbrev pub upsert_text : List ℕ
upsert_text = codes "INSERT INTO d_vote_sum (number, sum) VALUES (?1, ?2) ON CONFLICT (number) DO UPDATE SET sum = excluded.sum"

abbrev becomes : List Term
becomes = col 1 0 ∷ col 1 0 ∷ col 1 1 ∷ col 0 5 ∷ []

upsert_is : (layout : Layout by_domain) → IsUpsert layout upsert_text 3 2 d_vote_sum_table (lit Null ∷ col 0 0 ∷ col 0 1 ∷ []) (1 ∷ []) becomes
unfolding understood same_name joined everything
upsert_is made_last = record { is_placed = d_vote_sum_placed made_last; uncounted = refl; is = refl; plain = (refl, refl); none = none_refers (schema_of made_last) (placed made_last d_vote_sum_table).tree (λ olds news. refl) }
upsert_is from_first = record { is_placed = d_vote_sum_placed from_first; uncounted = refl; is = refl; plain = (refl, refl); none = none_refers (schema_of from_first) (placed from_first d_vote_sum_table).tree (λ olds news. refl) }
upsert_is from_second = record { is_placed = d_vote_sum_placed from_second; uncounted = refl; is = refl; plain = (refl, refl); none = none_refers (schema_of from_second) (placed from_second d_vote_sum_table).tree (λ olds news. refl) }

module _ (number : List ℕ) (sum : ℤ) where
  abbrev pub values : Row
  values = Text number ∷ Int sum ∷ []

  cast_sum : (v : Value) → cast kind.Integer v ≡ v → cast_row d_vote_sum_table (v ∷ values) ≡ v ∷ values
  cast_sum v h = rw (h, cast_int sum) refl

  conflict_is : (layout : Layout by_domain) (r : Row) (id : ℤ) → conflicts (Some (1 ∷ [])) (schema_of layout).indexes (placed layout d_vote_sum_table) (Int id ∷ values) r ≡ true
      → agree plain (1 ∷ []) r (1 ∷ []) (Int id ∷ values) ≡ true
  conflict_is made_last r id h = drop_false (agree plain (1 ∷ []) r (1 ∷ []) (Int id ∷ values)) h
  conflict_is from_first r id h = drop_false (agree plain (1 ∷ []) r (1 ∷ []) (Int id ∷ values)) h
  conflict_is from_second r id h = drop_false (agree plain (1 ∷ []) r (1 ∷ []) (Int id ∷ values)) h

  -- a row that conflicts is of the same suggestion
  same_number : (db : Database) (has : HasLayoutOf by_domain db) → IsDatabase db → (r : Row) → Has (rows_named db (codes "d_vote_sum")) r → (id : ℤ)
      → conflicts (Some (1 ∷ [])) (schema_of has.0).indexes (placed has.0 d_vote_sum_table) (Int id ∷ values) r ≡ true → column r 1 ≡ Text number
  same_number db has sound r there id h =
      let first = d_vote_sum_texts.0 db has sound r there in
      let agreed = conflict_is has.0 r id h in
      first ∙ ap Text (texts_are_one (first_text r) number (and_parts _ _ (sym (agree-texts r (Int id ∷ values) 1 1 (first_text r) number first refl) ∙ agreed)).0)

  keyed : (r : Row) → column r 1 ≡ Text number → first_text r ≡ first_text (rowid r ∷ values)
  keyed r first = rw first refl

  shows_it : (r : Row) (id : ℤ) → column r 1 ≡ Text number → shows (values ++ rowid r ∷ shown d_vote_sum_table (Int id ∷ values)) becomes r ≡ rowid r ∷ rowid r ∷ values
  shows_it r id first = rw first refl

  pub puts_sum : PutsOf by_domain upsert_text values (codes "d_vote_sum") first_text (HoldsValues values)
  puts_sum = puts_or_renews_values upsert_is values first_text refl (λ v rest. refl) cast_sum
      (λ db has sound r there id h. let first = same_number db has sound r there id h in (keyed r first, shows_it r id first)) one_d_sum

-- ---- reads

abbrev find_text : List ℕ
find_text = codes "SELECT sum FROM d_vote_sum WHERE number = ?1"

find_is : IsQueryOf by_domain find_text d_vote_sum_table (is_given 1 0 ∷ []) (2 ∷ []) (codes "sum" ∷ [])
unfolding understood everything
find_is made_last = record { command = refl; own_tables = refl; plain = (refl, refl) }
find_is from_first = record { command = refl; own_tables = refl; plain = (refl, refl) }
find_is from_second = record { command = refl; own_tables = refl; plain = (refl, refl) }

find_accepted : (number : List ℕ) → IsAcceptedBy by_domain find_text (Text number ∷ [])
unfolding understood everything
find_accepted number made_last = refl
find_accepted number from_first = refl
find_accepted number from_second = refl

pub find_unread : (number : List ℕ) → IsUnreadBy by_domain find_text (Text number ∷ [])
find_unread number = unread_by find_text (Text number ∷ []) _ _ find_is (find_accepted number)

pub finds_sum : (number : List ℕ) → ReadsLastOf by_domain find_text (Text number ∷ []) (ShowsSum number)
finds_sum = reads_by_text find_text d_vote_sum_table d_vote_sum_placed 1 (2 ∷ []) _ find_is d_vote_sum_texts.0
