-- The texts that read all rows of figures of tables without a column for a domain, and those that they are of.
use Rattle.std.proofs.Common.{◌≡◌, ℕ, List, [], ◌∷◌, map, filter, codes, true, refl, ap, subst, ◌∙◌}
use Rattle.std.specs.List.Sorted.{IsPermutation}
use Rattle.sqlite.specs.declared.types.Value.TheVariants.{Null, Text as Words}
use Rattle.sqlite.specs.Listing.{understood}
use Rattle.sqlite.specs.Order.{Row}
use Rattle.sqlite.specs.Program.{overlay}
use Rattle.sqlite.specs.State.{State, Shown}
use Rattle.sqlite.specs.Term.{Term, col, lit}
use Rattle.sqlite.proofs.Callers.{reads_as}
use Rattle.sqlite_tied.specs.Compute.{everything}
use Rattle.sql_laws.specs.PlainQueries.{plain_query, passes, shows}
use Rattle.sql_laws.proofs.PlainQueries.{answers_permuted}
use Rattle.units.specs.Office.{main}
use Rattle.sql_schema.specs.Inside.{IsReadyFor}
use Rattle.sql_schema.specs.Layouts.{for_main, Layout, made_second, schema_of, placed, rows_named}
use Rattle.sql_schema.specs.Schema.{suggestion_table, vote_table, vote_sum_table, tally_table}
use Rattle.sql_schema.proofs.Layouts.{suggestion_placed, vote_placed, vote_sum_placed, tally_placed}
use Rattle.sql_schema.proofs.Queries.{Asks, ReadsAllOf, queries_inside, rows_read}
use Rattle.sql_statements.proofs.TableQueries.{IsTableQueryOf, reads_table}
use Rattle.sql_figures.specs.Figures.{tally_of_main}
use Rattle.sql_figures.specs.KeptTallies.{tally_columns}
use Rattle.sql_schema.specs.Keys.{columns}
use Rattle.sql_adoption.specs.FigureRows.{ShowsMainTallies, ShowsMainNumbers, ShowsMainVotes, ShowsMainSums}

abbrev numbers_text : List ℕ
numbers_text = codes "SELECT number FROM suggestion ORDER BY number"

numbers_are : IsTableQueryOf (for_main true) numbers_text suggestion_table (1 ∷ []) (1 ∷ []) (codes "number" ∷ [])
unfolding understood everything
numbers_are made_second = record { command = refl; own_tables = refl; plain = (refl, refl) }

pub reads_main_numbers : ReadsAllOf (for_main true) numbers_text [] ShowsMainNumbers
reads_main_numbers = reads_table numbers_text suggestion_table suggestion_placed (1 ∷ []) (1 ∷ []) (0 ∷ []) _ numbers_are (λ tree r s. refl)

abbrev votes_text : List ℕ
votes_text = codes "SELECT voter, value, number FROM vote ORDER BY number, voter"

votes_are : IsTableQueryOf (for_main true) votes_text vote_table (2 ∷ 3 ∷ 1 ∷ []) (1 ∷ 2 ∷ []) (codes "voter" ∷ codes "value" ∷ codes "number" ∷ [])
unfolding understood everything
votes_are made_second = record { command = refl; own_tables = refl; plain = (refl, refl) }

pub reads_main_votes : ReadsAllOf (for_main true) votes_text [] ShowsMainVotes
reads_main_votes = reads_table votes_text vote_table vote_placed (2 ∷ 3 ∷ 1 ∷ []) (1 ∷ 2 ∷ []) (2 ∷ 0 ∷ []) _ votes_are (λ tree r s. refl)

abbrev sums_text : List ℕ
sums_text = codes "SELECT number, sum FROM vote_sum ORDER BY number"

sums_are : IsTableQueryOf (for_main true) sums_text vote_sum_table (1 ∷ 2 ∷ []) (1 ∷ []) (codes "number" ∷ codes "sum" ∷ [])
unfolding understood everything
sums_are made_second = record { command = refl; own_tables = refl; plain = (refl, refl) }

pub reads_main_sums : ReadsAllOf (for_main true) sums_text [] ShowsMainSums
reads_main_sums = reads_table sums_text vote_sum_table vote_sum_placed (1 ∷ 2 ∷ []) (1 ∷ []) (0 ∷ []) _ sums_are (λ tree r s. refl)

-- ---- the tallies, of `main`

abbrev tallies_text : List ℕ
tallies_text = codes "SELECT 'main' AS domain, lang, untranslated, needs_editing, translated, approved, read_only, suggestions, obsolete FROM tally"

abbrev tally_terms : List Term
tally_terms = lit (Words main) ∷ col 1 1 ∷ col 1 2 ∷ col 1 3 ∷ col 1 4 ∷ col 1 5 ∷ col 1 6 ∷ col 1 7 ∷ col 1 8 ∷ []

tallies_are : (layout : Layout (for_main true)) → Asks layout tallies_text (plain_query (placed layout tally_table).tree [] tally_terms)
    (codes "domain" ∷ codes "lang" ∷ codes "untranslated" ∷ codes "needs_editing" ∷ codes "translated" ∷ codes "approved" ∷ codes "read_only" ∷ codes "suggestions" ∷ codes "obsolete" ∷ [])
unfolding understood everything
tallies_are made_second = record { command = refl; own_tables = refl; plain = (refl, refl) }

-- each row is shown as it is seen by domains
all_shown : (rows : List Row) → map (shows [] tally_terms) (filter (passes [] []) rows) ≡ map (columns tally_columns) (map tally_of_main rows)
all_shown [] = refl
all_shown (row ∷ rows) = ap (λ (more : List Row). columns tally_columns (tally_of_main row) ∷ more) (all_shown rows)

shows_tallies : (old new : State) (rows : List Row) → IsReadyFor (for_main true) old → Shown tallies_text [] old new rows → ShowsMainTallies old.now rows
shows_tallies old new rows ready h =
    let layout = ready.schema.0 in
    let asks = tallies_are layout in
    let read = reads_as tallies_text [] old new (schema_of layout) ready.schema.1 _ asks.command asks.plain asks.own_tables rows h in
    let whole = answers_permuted (placed layout tally_table).tree [] tally_terms (overlay old.now.trees []) [] rows (read.answer Null) in
    subst (λ l. IsPermutation l rows)
    (ap (λ l. map (shows [] tally_terms) (filter (passes [] []) l)) (rows_read layout tally_table (tally_placed layout) old.now ready.schema.1) ∙ all_shown (rows_named old.now (codes "tally"))) whole

pub reads_main_tallies : ReadsAllOf (for_main true) tallies_text [] ShowsMainTallies
reads_main_tallies A rows_of old new r =
    queries_inside tallies_text [] old new (λ layout. (tallies_are layout).plain) rows_of (λ db a. ShowsMainTallies db (rows_of a)) (λ a ready h. shows_tallies old new (rows_of a) ready h) r
