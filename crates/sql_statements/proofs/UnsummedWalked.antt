-- What the walk over the suggestions shows of whose votes no sum is kept.
use Rattle.std.proofs.Common.{◌≡◌, ℕ, pos, List, [], ◌∷◌, ◌++◌, map, filter, length, codes, refl, sym, ap, subst, ◌∙◌}
use Rattle.std.specs.Prelude.{min}
use Rattle.std.specs.List.{list_all}
use Rattle.std.specs.List.Sorted.{IsPermutation}
use Rattle.std.specs.Ordering.{is_eq}
use Rattle.std.proofs.Math.Bool.{and-true}
use Rattle.sqlite.specs.Collation.TheVariants.{Binary}
use Rattle.sqlite.specs.declared.types.Value.TheVariants.{Null, Int, Text}
use Rattle.sqlite.specs.Order.{Row, column, value_cmp}
use Rattle.sqlite.specs.Tree.{Trees}
use Rattle.sqlite.specs.Term.{Term, col, lit, op2}
use Rattle.sqlite.specs.Listing.{understood}
use Rattle.sqlite.specs.Program.{overlay}
use Rattle.sqlite.specs.Query.{Query, IsAnswer, inner, end}
use Rattle.sqlite.specs.State.{State, Begins, Shown}
use Rattle.sqlite.proofs.Callers.{IsPlain, reads_as, begins_as}
use Rattle.sqlite_sql.specs.Term.{Env, holds}
use Rattle.sqlite_sql.specs.Query.{Join, matches_as, counted}
use Rattle.sqlite_sql.specs.declared.ops.CompareOp.TheVariants as compare
use Rattle.sqlite_sql.specs.declared.ops.BinaryOp.TheVariants as by
use Rattle.sqlite_tied.specs.Compute.{everything}
use Rattle.sqlite_rules.specs.Lists.{Has}
use Rattle.sql_laws.proofs.Comparisons.{texts_compared, ints_compared}
use Rattle.sql_streams.specs.RowQueries.{row_query}
use Rattle.sql_streams.proofs.RowByRow.{row_by_row}
use Rattle.sql_streams.proofs.Subqueries.{counted_in}
use Rattle.sql_schema.specs.Inside.{IsReadyFor}
use Rattle.sql_schema.specs.Keys.{first_text, has_text, columns}
use Rattle.sql_schema.specs.Layouts.{by_domain, Layout, NamedRows, made_last, from_first, from_second, schema_of, placed, rows_named}
use Rattle.sql_schema.specs.Schema.{d_suggestion_table, d_vote_sum_table}
use Rattle.sql_schema.proofs.DomainRows.{d_suggestion_texts, d_vote_sum_texts}
use Rattle.sql_schema.proofs.Layouts.{d_suggestion_placed, d_vote_sum_placed}
use Rattle.sql_schema.proofs.Queries.{Asks, filtered_same, rows_read}
use Rattle.sql_statements.specs.SummedVotes.{most_counted}
use Rattle.sql_statements.specs.WalkedRows.{is_unsummed, ShowsUnsummed}
use Rattle.sql_statements.proofs.UnplacedWalked.{none_there}
use Rattle.sql_statements.proofs.ReadsUnread.{IsAcceptedBy, IsUnreadBy, unread_by}

abbrev pub unsummed_text : List ℕ
unsummed_text = codes "SELECT number FROM d_suggestion WHERE (SELECT count(*) FROM d_vote_sum WHERE d_vote_sum.number = d_suggestion.number) = 0 ORDER BY number"

-- the sum is the suggestion's
abbrev its : List Term
its = op2 (by.Compare compare.Eq Binary) (col 2 1) (col 1 1) ∷ []

abbrev is_none : List Term
is_none = op2 (by.Compare compare.Eq Binary) (col 2 0) (lit (Int (pos 0))) ∷ []

abbrev shown_terms : List Term
shown_terms = col 1 1 ∷ []

abbrev beside : Layout by_domain → Join
beside layout = counted 9223372036854775807 (inner (placed layout d_vote_sum_table).tree end) its end

abbrev unsummed_query : Layout by_domain → Query
unsummed_query layout = row_query (placed layout d_suggestion_table).tree (beside layout) is_none shown_terms (1 ∷ [])

unsummed_are : (layout : Layout by_domain) → Asks layout unsummed_text (unsummed_query layout) (codes "number" ∷ [])
unfolding understood everything
unsummed_are made_last = record { command = refl; own_tables = refl; plain = (refl, refl) }
unsummed_are from_first = record { command = refl; own_tables = refl; plain = (refl, refl) }
unsummed_are from_second = record { command = refl; own_tables = refl; plain = (refl, refl) }

unsummed_accepted : IsAcceptedBy by_domain unsummed_text []
unfolding understood everything
unsummed_accepted made_last = refl
unsummed_accepted from_first = refl
unsummed_accepted from_second = refl

pub unsummed_unread : IsUnreadBy by_domain unsummed_text []
unsummed_unread = unread_by unsummed_text [] _ _ unsummed_are unsummed_accepted

module _ (s : State) (ready : IsReadyFor by_domain s) where
  abbrev layout : Layout by_domain
  layout = ready.schema.0

  abbrev tables : NamedRows
  tables = rows_named s.now

  abbrev trees : Trees
  trees = overlay s.now.trees []

  abbrev suggestions : List Row
  suggestions = tables (codes "d_suggestion")

  abbrev sums : List Row
  sums = tables (codes "d_vote_sum")

  suggestions_read : trees (placed layout d_suggestion_table).tree ≡ suggestions
  suggestions_read = rows_read layout d_suggestion_table (d_suggestion_placed layout) s.now ready.schema.1

  sums_read : trees (placed layout d_vote_sum_table).tree ≡ sums
  sums_read = rows_read layout d_vote_sum_table (d_vote_sum_placed layout) s.now ready.schema.1

  abbrev count_row : Row → Row
  count_row x = Int (pos (min most_counted (length (matches_as Null trees its (inner (placed layout d_vote_sum_table).tree end) ([] ∷ x ∷ []))))) ∷ []

  abbrev whole : Row → Env
  whole x = [] ∷ x ∷ count_row x ∷ []

  module _ (x : Row) (there : Has suggestions x) where
    abbrev number : List ℕ
    number = first_text x

    numbered : column x 1 ≡ Text number
    numbered = d_suggestion_texts.0 s.now ready.schema ready.sound x there

    is_its : (row : Row) → Has sums row → list_all (holds ([] ∷ x ∷ row ∷ [])) its ≡ has_text 1 number row
    is_its row listed = rw (d_vote_sum_texts.0 s.now ready.schema ready.sound row listed, numbered) (rw (texts_compared (first_text row) number) (and-true _))

    own_counted : length (matches_as Null trees its (inner (placed layout d_vote_sum_table).tree end) ([] ∷ x ∷ [])) ≡ length (filter (has_text 1 number) sums)
    own_counted =
        counted_in trees (placed layout d_vote_sum_table).tree its ([] ∷ x ∷ [])
        ∙ ap (λ rows. length (filter (λ row. list_all (holds ([] ∷ x ∷ row ∷ [])) its) rows)) sums_read
        ∙ ap length (filtered_same (λ row. list_all (holds ([] ∷ x ∷ row ∷ [])) its) (has_text 1 number) sums is_its)

    is_left : list_all (holds (whole x)) is_none ≡ is_unsummed tables x
    is_left =
        and-true _
        ∙ ints_compared (Int (pos (min most_counted (length (matches_as Null trees its (inner (placed layout d_vote_sum_table).tree end) ([] ∷ x ∷ [])))))) (Int (pos 0)) refl refl
        ∙ ap (λ n. is_eq (value_cmp (Int (pos (min most_counted n))) (Int (pos 0)))) own_counted
        ∙ none_there (filter (has_text 1 number) sums)

  answered : (rows : List Row) → IsAnswer (unsummed_query layout) trees [] rows → ShowsUnsummed s.now rows
  answered rows answer =
      subst (λ l. IsPermutation (map (columns (1 ∷ [])) l) rows)
      (ap (filter (λ x. list_all (holds (whole x)) is_none)) suggestions_read ∙ filtered_same (λ x. list_all (holds (whole x)) is_none) (is_unsummed tables) suggestions is_left)
      (row_by_row (placed layout d_suggestion_table).tree (beside layout) is_none shown_terms (1 ∷ []) trees [] (λ x. list_all (holds (whole x)) is_none) whole (λ x there. refl) rows answer)

  pub unsummed_plain : IsPlain (understood s.now.schema unsummed_text)
  unsummed_plain = subst (λ t. IsPlain (understood t unsummed_text)) (sym ready.schema.1) (unsummed_are layout).plain

  pub unsummed_shown : (rows : List Row) → Shown unsummed_text [] s s rows → ShowsUnsummed s.now rows
  unsummed_shown rows h = answered rows ((reads_as unsummed_text [] s s (schema_of layout) ready.schema.1 _ (unsummed_are layout).command (unsummed_are layout).plain (unsummed_are layout).own_tables rows h).answer Null)

  pub unsummed_begun : (rows : List Row) → Begins unsummed_text [] s rows → (tail : List Row) × ShowsUnsummed s.now (rows ++ tail)
  unsummed_begun rows h =
      let read = begins_as unsummed_text [] s s (schema_of layout) ready.schema.1 _ (unsummed_are layout).command (unsummed_are layout).plain (unsummed_are layout).own_tables rows h in
      (read.1.0, answered (rows ++ read.1.0) (read.1.1 Null))
