-- What the queries over the records in the order of their rowids answer.
use Rattle.std.proofs.Common.{◌≡◌, ℕ, ℤ, List, [], ◌∷◌, ◌++◌, true, false, Option, Some, None, map, filter, codes, refl, sym, ap, subst, ◌∙◌}
use Rattle.std.proofs.Math.Path.{fun_ext}
use Rattle.std.proofs.Math.Bool.{and-true}
use Rattle.std.specs.Ordering.{is_gt}
use Rattle.std.specs.List.Sorted.{IsPermutation}
use Rattle.sqlite.specs.Collation.TheVariants.{Binary}
use Rattle.sqlite.specs.declared.types.Value.{Value}
use Rattle.sqlite.specs.declared.types.Value.TheVariants.{Null, Int, Real, Text, Blob}
use Rattle.sqlite.specs.Order.{Row, column, value_cmp}
use Rattle.sqlite.specs.Ops.{binary}
use Rattle.sqlite.specs.Term.{Term, col, op2}
use Rattle.sqlite_sql.specs.Ops.{is_true}
use Rattle.sqlite_sql.specs.declared.ops.CompareOp.TheVariants as compare
use Rattle.sqlite_sql.specs.declared.ops.BinaryOp.TheVariants as by
use Rattle.sqlite.specs.Program.{overlay}
use Rattle.sqlite.specs.Query.{IsAnswer}
use Rattle.sqlite.specs.State.{State, Begins, Shown}
use Rattle.sqlite.specs.Listing.{understood}
use Rattle.sqlite.proofs.Callers.{IsPlain, reads_as, begins_as}
use Rattle.sqlite_tied.specs.Compute.{everything}
use Rattle.sqlite_trees.specs.View.{is_int}
use Rattle.sqlite_rules.specs.Lists.{Has}
use Rattle.sql_laws.specs.PlainQueries.{passes, shows}
use Rattle.sql_laws.specs.OrderedQueries.{ordered_query}
use Rattle.sql_laws.proofs.PlainQueries.{ordered_permuted}
use Rattle.sql_laws.proofs.OrderedQueries.{answers_in_order}
use Rattle.sql_laws.proofs.Comparisons.{truth_is}
use Rattle.sql_schema.specs.Layouts.{Form, for_main, by_domain, Layout, made_new, made_second, made_last, from_first, from_second, schema_of, placed, rows_named, is_own_table}
use Rattle.sql_schema.specs.Schema.{record_table}
use Rattle.sql_schema.specs.Keys.{first_text, columns}
use Rattle.sql_schema.specs.Inside.{IsReadyFor, ShowsKey}
use Rattle.sql_schema.proofs.Layouts.{record_placed}
use Rattle.sql_schema.proofs.OrderedQueries.{IsOrderedQueryOf}
use Rattle.sql_schema.proofs.Queries.{IsQueryOf, ReadsLastOf, is_given, reads_by_text, rows_read, shows_columns, filtered_same}
use Rattle.sql_schema.proofs.TableRows.{record_numbers}
use Rattle.sql_statements.specs.RecordsInOrder.{is_behind, ShowsBehind}
use Rattle.sql_statements.proofs.ReadsUnread.{IsAcceptedBy, IsUnreadBy, unread_by}

-- ---- the place of one

abbrev place_text : List ℕ
place_text = codes "SELECT rowid FROM record WHERE number = ?1"

place_is : {form : Form} → IsQueryOf form place_text record_table (is_given 1 0 ∷ []) (0 ∷ []) (codes "rowid" ∷ [])
unfolding understood everything
place_is made_new = record { command = refl; own_tables = refl; plain = (refl, refl) }
place_is made_second = record { command = refl; own_tables = refl; plain = (refl, refl) }
place_is made_last = record { command = refl; own_tables = refl; plain = (refl, refl) }
place_is from_first = record { command = refl; own_tables = refl; plain = (refl, refl) }
place_is from_second = record { command = refl; own_tables = refl; plain = (refl, refl) }

place_accepted : {form : Form} (number : List ℕ) → IsAcceptedBy form place_text (Text number ∷ [])
unfolding understood everything
place_accepted number made_new = refl
place_accepted number made_second = refl
place_accepted number made_last = refl
place_accepted number from_first = refl
place_accepted number from_second = refl

pub place_unread : {form : Form} (number : List ℕ) → IsUnreadBy form place_text (Text number ∷ [])
place_unread number = unread_by place_text (Text number ∷ []) _ _ place_is (place_accepted number)

pub finds_place : {form : Form} (number : List ℕ) → ReadsLastOf form place_text (Text number ∷ []) (ShowsKey (codes "record") first_text (columns (0 ∷ [])) number)
finds_place number = reads_by_text place_text record_table record_placed 1 (0 ∷ []) _ place_is record_numbers number

-- ---- those behind a place

abbrev places : List ℕ
places = 1 ∷ 3 ∷ 0 ∷ []

abbrev names : List (List ℕ)
names = codes "number" ∷ codes "status" ∷ codes "rowid" ∷ []

abbrev pub all_text : List ℕ
all_text = codes "SELECT number, status, rowid FROM record ORDER BY rowid"

abbrev pub behind_text : List ℕ
behind_text = codes "SELECT number, status, rowid FROM record WHERE rowid > ?1 ORDER BY rowid"

abbrev behind_terms : List Term
behind_terms = op2 (by.Compare compare.Gt Binary) (col 1 0) (col 0 0) ∷ []

all_is : {form : Form} → IsOrderedQueryOf form all_text record_table [] places 0 names
unfolding understood everything
all_is made_new = record { command = refl; own_tables = refl; plain = (refl, refl) }
all_is made_second = record { command = refl; own_tables = refl; plain = (refl, refl) }
all_is made_last = record { command = refl; own_tables = refl; plain = (refl, refl) }
all_is from_first = record { command = refl; own_tables = refl; plain = (refl, refl) }
all_is from_second = record { command = refl; own_tables = refl; plain = (refl, refl) }

all_accepted : {form : Form} → IsAcceptedBy form all_text []
unfolding understood everything
all_accepted made_new = refl
all_accepted made_second = refl
all_accepted made_last = refl
all_accepted from_first = refl
all_accepted from_second = refl

pub all_unread : {form : Form} → IsUnreadBy form all_text []
all_unread = unread_by all_text [] _ _ all_is all_accepted

behind_is : {form : Form} → IsOrderedQueryOf form behind_text record_table behind_terms places 0 names
unfolding understood everything
behind_is made_new = record { command = refl; own_tables = refl; plain = (refl, refl) }
behind_is made_second = record { command = refl; own_tables = refl; plain = (refl, refl) }
behind_is made_last = record { command = refl; own_tables = refl; plain = (refl, refl) }
behind_is from_first = record { command = refl; own_tables = refl; plain = (refl, refl) }
behind_is from_second = record { command = refl; own_tables = refl; plain = (refl, refl) }

behind_accepted : {form : Form} (place : ℤ) → IsAcceptedBy form behind_text (Int place ∷ [])
unfolding understood everything
behind_accepted place made_new = refl
behind_accepted place made_second = refl
behind_accepted place made_last = refl
behind_accepted place from_first = refl
behind_accepted place from_second = refl

pub behind_unread : {form : Form} (place : ℤ) → IsUnreadBy form behind_text (Int place ∷ [])
behind_unread place = unread_by behind_text (Int place ∷ []) _ _ behind_is (behind_accepted place)

-- how SQL finds that an integer is above another
above : (a : Value) (n : ℤ) → is_int a ≡ true → is_true (binary (by.Compare compare.Gt Binary) a (Int n)) ≡ is_gt (value_cmp a (Int n))
unfolding binary lib.Ieee.is_nan lib.Ieee.lt
above (Int m) n whole = truth_is (is_gt (value_cmp (Int m) (Int n)))
above Null n whole = absurd cc
above (Real x) n whole = absurd cc
above (Text x) n whole = absurd cc
above (Blob x) n whole = absurd cc

record_is_own : (form : Form) → is_own_table form (codes "record") ≡ true
record_is_own (for_main false) = refl
record_is_own (for_main true) = refl
record_is_own by_domain = refl

module _ {form : Form} (text : List ℕ) (terms : List Term) (means : IsOrderedQueryOf form text record_table terms places 0 names) (params : Row) (place : Option ℤ) (s : State) (ready : IsReadyFor form s)
    (tests : (row : Row) → Has (rows_named s.now (codes "record")) row → passes params terms row ≡ is_behind place row) where
  abbrev layout : Layout form
  layout = ready.schema.0

  abbrev tree : ℕ
  tree = (placed layout record_table).tree

  shown : (rows : List Row) → IsAnswer (ordered_query tree terms (map (col 1) places) (col 1 0)) (overlay s.now.trees []) params rows → ShowsBehind place s.now rows
  shown rows answer = record {
    all = subst (λ l. IsPermutation l rows)
        (ap (λ l. map (shows params (map (col 1) places)) (filter (passes params terms) l)) (rows_read layout record_table (record_placed layout) s.now ready.schema.1)
        ∙ ap (λ (f : Row → Row). map f (filter (passes params terms) (rows_named s.now (codes "record")))) (fun_ext (shows_columns params places))
        ∙ ap (map (columns places)) (filtered_same (passes params terms) (is_behind place) (rows_named s.now (codes "record")) tests))
        (ordered_permuted tree terms (map (col 1) places) _ (overlay s.now.trees []) params rows answer);
    in_order = answers_in_order tree 2 terms (map (col 1) places) (col 1 0) (overlay s.now.trees []) params rows (λ row. refl) answer;
  }

  whole : (rows : List Row) → Shown text params s s rows → ShowsBehind place s.now rows
  whole rows h = shown rows ((reads_as text params s s (schema_of layout) ready.schema.1 _ (means layout).command (means layout).plain (means layout).own_tables rows h).answer Null)

  begun : (rows : List Row) → Begins text params s rows → (tail : List Row) × ShowsBehind place s.now (rows ++ tail)
  begun rows h =
      let read = begins_as text params s s (schema_of layout) ready.schema.1 _ (means layout).command (means layout).plain (means layout).own_tables rows h in
      (read.1.0, shown (rows ++ read.1.0) (read.1.1 Null))

module _ {form : Form} (s : State) (ready : IsReadyFor form s) where
  pub all_plain : IsPlain (understood s.now.schema all_text)
  all_plain = subst (λ t. IsPlain (understood t all_text)) (sym ready.schema.1) (all_is ready.schema.0).plain

  pub all_whole : (rows : List Row) → Shown all_text [] s s rows → ShowsBehind None s.now rows
  all_whole = whole all_text [] all_is [] None s ready (λ row there. refl)

  pub all_begun : (rows : List Row) → Begins all_text [] s rows → (tail : List Row) × ShowsBehind None s.now (rows ++ tail)
  all_begun = begun all_text [] all_is [] None s ready (λ row there. refl)

  pub behind_plain : IsPlain (understood s.now.schema behind_text)
  behind_plain = subst (λ t. IsPlain (understood t behind_text)) (sym ready.schema.1) (behind_is ready.schema.0).plain

  module _ (place : ℤ) where
    behind_tests : (row : Row) → Has (rows_named s.now (codes "record")) row → passes (Int place ∷ []) behind_terms row ≡ is_behind (Some place) row
    behind_tests row there = and-true _ ∙ above (column row 0) place ((ready.tables (codes "record") (record_is_own form)).ints row there)

    pub behind_whole : (rows : List Row) → Shown behind_text (Int place ∷ []) s s rows → ShowsBehind (Some place) s.now rows
    behind_whole = whole behind_text behind_terms behind_is (Int place ∷ []) (Some place) s ready behind_tests

    pub behind_begun : (rows : List Row) → Begins behind_text (Int place ∷ []) s rows → (tail : List Row) × ShowsBehind (Some place) s.now (rows ++ tail)
    behind_begun = begun behind_text behind_terms behind_is (Int place ∷ []) (Some place) s ready behind_tests
