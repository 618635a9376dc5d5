-- What the walk over all sums shows of the votes on suggestions.
use Rattle.std.proofs.Common.{◌≡◌, inl, inr, ℕ, ℤ, pos, negsuc, List, [], ◌∷◌, ◌++◌, ◌&&◌, map, filter, length, codes, true, refl, sym, ap, subst, ◌∙◌}
use Rattle.std.specs.Prelude.{min}
use Rattle.std.specs.List.{list_all}
use Rattle.std.specs.List.Sorted.{IsPermutation}
use Rattle.std.specs.Ordering.{is_eq}
use Rattle.std.proofs.Math.Bool.{and-true}
use Rattle.sqlite.specs.Collation.TheVariants.{Binary}
use Rattle.sqlite.specs.declared.types.Value.{Value}
use Rattle.sqlite.specs.declared.types.Value.TheVariants.{Null, Int, Text}
use Rattle.sqlite.specs.Order.{Row, column}
use Rattle.sqlite.specs.Tree.{Trees}
use Rattle.sqlite.specs.Term.{Term, col, lit, op2}
use Rattle.sqlite.specs.Listing.{understood}
use Rattle.sqlite.specs.Ops.{binary}
use Rattle.sqlite.specs.Program.{overlay}
use Rattle.sqlite.specs.Query.{Query, IsAnswer, inner, end}
use Rattle.sqlite.specs.State.{State, Begins, Shown}
use Rattle.sqlite.proofs.Callers.{IsPlain, reads_as, begins_as}
use Rattle.sqlite_sql.specs.Ops.{is_true}
use Rattle.sqlite_sql.specs.Term.{Env, eval_all, holds}
use Rattle.sqlite_sql.specs.Query.{Join, matches_as, counted}
use Rattle.sqlite_sql.specs.declared.ops.CompareOp.TheVariants as compare
use Rattle.sqlite_sql.specs.declared.ops.BinaryOp.TheVariants as by
use Rattle.sqlite_tied.specs.Compute.{everything}
use Rattle.sqlite_value.proofs.OrderLemmas.{value_cmp-Int}
use Rattle.sqlite_rules.specs.Edit.{id_in}
use Rattle.sqlite_rules.specs.Lists.{Has}
use Rattle.sql_laws.proofs.Comparisons.{texts_compared, ints_compared}
use Rattle.sql_streams.specs.RowQueries.{row_query}
use Rattle.sql_streams.proofs.RowByRow.{row_by_row, in_its_order}
use Rattle.sql_streams.proofs.Subqueries.{counted_in}
use Rattle.sql_schema.specs.Inside.{IsReadyFor}
use Rattle.sql_schema.specs.Keys.{first_text, has_text}
use Rattle.sql_schema.specs.Layouts.{by_domain, Layout, NamedRows, made_last, from_first, from_second, schema_of, placed, rows_named}
use Rattle.sql_schema.specs.Schema.{d_vote_table, d_vote_sum_table}
use Rattle.sql_schema.proofs.DomainRows.{d_vote_texts, d_vote_sum_texts}
use Rattle.sql_schema.proofs.Layouts.{d_vote_placed, d_vote_sum_placed}
use Rattle.sql_schema.proofs.Queries.{Asks, filtered_same, rows_read}
use Rattle.sql_schema.proofs.TextKeys.{holds_int}
use Rattle.sql_statements.specs.SummedVotes.{is_integer, is_counted, votes_counted, most_counted, told, sum_counted, ShowsSummed}
use Rattle.sql_statements.specs.Tables.{by_columns}
use Rattle.sql_statements.proofs.ReadsUnread.{IsAcceptedBy, IsUnreadBy, unread_by}

abbrev pub sums_text : List ℕ
sums_text = codes "SELECT number, sum, (SELECT count(*) FROM d_vote WHERE d_vote.number = d_vote_sum.number AND value = 1) AS votes_for, (SELECT count(*) FROM d_vote WHERE d_vote.number = d_vote_sum.number AND value = -1) AS against FROM d_vote_sum ORDER BY number"

-- the vote in this slot has the sum's number
abbrev is_its : ℕ → Term
is_its slot = op2 (by.Compare compare.Eq Binary) (col slot 1) (col 1 1)

-- and this value
abbrev are_its : ℕ → ℤ → List Term
are_its slot value = is_its slot ∷ op2 (by.Compare compare.Eq Binary) (col slot 3) (lit (Int value)) ∷ []

abbrev shown_terms : List Term
shown_terms = col 1 1 ∷ col 1 2 ∷ col 2 0 ∷ col 3 0 ∷ []

abbrev beside : Layout by_domain → Join
beside layout =
    counted 9223372036854775807 (inner (placed layout d_vote_table).tree end) (are_its 2 (pos 1))
    (counted 9223372036854775807 (inner (placed layout d_vote_table).tree end) (are_its 3 (negsuc 0)) end)

abbrev sums_query : Layout by_domain → Query
sums_query layout = row_query (placed layout d_vote_sum_table).tree (beside layout) [] shown_terms (1 ∷ [])

sums_are : (layout : Layout by_domain) → Asks layout sums_text (sums_query layout) (codes "number" ∷ codes "sum" ∷ codes "votes_for" ∷ codes "against" ∷ [])
unfolding understood everything
sums_are made_last = record { command = refl; own_tables = refl; plain = (refl, refl) }
sums_are from_first = record { command = refl; own_tables = refl; plain = (refl, refl) }
sums_are from_second = record { command = refl; own_tables = refl; plain = (refl, refl) }

sums_accepted : IsAcceptedBy by_domain sums_text []
unfolding understood everything
sums_accepted made_last = refl
sums_accepted from_first = refl
sums_accepted from_second = refl

pub sums_unread : IsUnreadBy by_domain sums_text []
sums_unread = unread_by sums_text [] _ _ sums_are sums_accepted

-- ---- rows

all_kept : (rows : List Row) → filter (λ row. true) rows ≡ rows
all_kept [] = refl
all_kept (row ∷ rows) = ap (λ more. row ∷ more) (all_kept rows)

pub mapped_same : (f g : Row → Row) (rows : List Row) → ((row : Row) → Has rows row → f row ≡ g row) → map f rows ≡ map g rows
mapped_same f g [] same = refl
mapped_same f g (row ∷ rows) same = (λ i. same row (inl refl) i ∷ mapped_same f g rows (λ r there. same r (inr there)) i)

pub value_compared : (v : Value) (n : ℤ) → v ≡ Int (id_in v) → is_true (binary (by.Compare compare.Eq Binary) v (Int n)) ≡ is_integer n v
value_compared v n is = rw is (ints_compared (Int (id_in v)) (Int n) refl refl ∙ ap is_eq (value_cmp-Int (id_in v) n))

-- ---- over an office's tables

module _ (s : State) (ready : IsReadyFor by_domain s) where
  abbrev layout : Layout by_domain
  layout = ready.schema.0

  abbrev tables : NamedRows
  tables = rows_named s.now

  abbrev trees : Trees
  trees = overlay s.now.trees []

  abbrev votes : List Row
  votes = tables (codes "d_vote")

  abbrev sums : List Row
  sums = tables (codes "d_vote_sum")

  votes_read : trees (placed layout d_vote_table).tree ≡ votes
  votes_read = rows_read layout d_vote_table (d_vote_placed layout) s.now ready.schema.1

  sums_read : trees (placed layout d_vote_sum_table).tree ≡ sums
  sums_read = rows_read layout d_vote_sum_table (d_vote_sum_placed layout) s.now ready.schema.1

  -- what the subqueries bring, one after the other
  abbrev count_row : List Term → Env → Row
  count_row test env = Int (pos (min most_counted (length (matches_as Null trees test (inner (placed layout d_vote_table).tree end) env)))) ∷ []

  abbrev start : Row → Env
  start own = [] ∷ own ∷ []

  abbrev with_for : Row → Env
  with_for own = start own ++ count_row (are_its 2 (pos 1)) (start own) ∷ []

  abbrev whole : Row → Env
  whole own = with_for own ++ count_row (are_its 3 (negsuc 0)) (with_for own) ∷ []

  module _ (own : Row) (there : Has sums own) where
    abbrev number : List ℕ
    number = first_text own

    numbered : column own 1 ≡ Text number
    numbered = d_vote_sum_texts.0 s.now ready.schema ready.sound own there

    vote_value : (vote : Row) → Has votes vote → column vote 3 ≡ Int (id_in (column vote 3))
    vote_value vote listed = holds_int d_vote_table d_vote_placed 2 (codes "value") refl s.now ready.schema ready.sound vote listed refl

    -- a vote passes the tests of a subquery where it is counted
    tested : (vote : Row) → Has votes vote → (value : ℤ)
        → (is_true (binary (by.Compare compare.Eq Binary) (column vote 1) (column own 1)) && (is_true (binary (by.Compare compare.Eq Binary) (column vote 3) (Int value)) && true)) ≡ is_counted value number vote
    tested vote listed value =
        rw (value_compared (column vote 3) value (vote_value vote listed), d_vote_texts.0 s.now ready.schema ready.sound vote listed, numbered)
        (rw (texts_compared (first_text vote) number) (ap (λ b. has_text 1 number vote && b) (and-true _)))

    -- where these come before the votes, and the slot is the one behind them
    counts : (env : Env) (slot : ℕ) (value : ℤ) → ((vote : Row) → Has votes vote → list_all (holds (env ++ vote ∷ [])) (are_its slot value) ≡ is_counted value number vote)
        → column (count_row (are_its slot value) env) 0 ≡ told (votes_counted value number votes)
    counts env slot value passes =
        ap (λ n. Int (pos (min most_counted n)))
        (counted_in trees (placed layout d_vote_table).tree (are_its slot value) env
        ∙ ap (λ rows. length (filter (λ vote. list_all (holds (env ++ vote ∷ [])) (are_its slot value)) rows)) votes_read
        ∙ ap length (filtered_same (λ vote. list_all (holds (env ++ vote ∷ [])) (are_its slot value)) (is_counted value number) votes passes))

    shows_counted : eval_all shown_terms (whole own) ≡ sum_counted tables own
    shows_counted = (λ i.
        column own 1 ∷ column own 2 ∷ counts (start own) 2 (pos 1) (λ vote listed. tested vote listed (pos 1)) i
        ∷ counts (with_for own) 3 (negsuc 0) (λ vote listed. tested vote listed (negsuc 0)) i ∷ [])

  answered : (rows : List Row) → IsAnswer (sums_query layout) trees [] rows → ShowsSummed s.now rows
  answered rows answer = record {
    all = subst (λ l. IsPermutation l rows)
        (ap (map (λ own. eval_all shown_terms (whole own))) (all_kept (trees (placed layout d_vote_sum_table).tree) ∙ sums_read)
        ∙ mapped_same (λ own. eval_all shown_terms (whole own)) (sum_counted tables) sums shows_counted)
        (row_by_row (placed layout d_vote_sum_table).tree (beside layout) [] shown_terms (1 ∷ []) trees [] (λ row. true) whole (λ row there. refl) rows answer);
    in_order = in_its_order (placed layout d_vote_sum_table).tree (beside layout) [] shown_terms (1 ∷ []) trees [] (λ row. true) whole (λ row there. refl) rows answer
        (by_columns (0 ∷ [])) (λ r t at_r at_t. refl);
  }

  pub sums_plain : IsPlain (understood s.now.schema sums_text)
  sums_plain = subst (λ t. IsPlain (understood t sums_text)) (sym ready.schema.1) (sums_are layout).plain

  pub sums_shown : (rows : List Row) → Shown sums_text [] s s rows → ShowsSummed s.now rows
  sums_shown rows h = answered rows ((reads_as sums_text [] s s (schema_of layout) ready.schema.1 _ (sums_are layout).command (sums_are layout).plain (sums_are layout).own_tables rows h).answer Null)

  pub sums_begun : (rows : List Row) → Begins sums_text [] s rows → (tail : List Row) × ShowsSummed s.now (rows ++ tail)
  sums_begun rows h =
      let read = begins_as sums_text [] s s (schema_of layout) ready.schema.1 _ (sums_are layout).command (sums_are layout).plain (sums_are layout).own_tables rows h in
      (read.1.0, answered (rows ++ read.1.0) (read.1.1 Null))
