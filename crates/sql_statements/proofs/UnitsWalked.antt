-- What the walk over a language's units shows: each with how many suggestions are on it.
use Rattle.std.proofs.Common.{◌≡◌, ℕ, pos, List, [], ◌∷◌, ◌++◌, ◌&&◌, map, filter, length, codes, refl, sym, ap, subst, ◌∙◌}
use Rattle.std.specs.Prelude.{min}
use Rattle.std.specs.List.{list_all}
use Rattle.std.specs.List.Sorted.{IsPermutation}
use Rattle.std.proofs.Math.Bool.{and-true}
use Rattle.sqlite.specs.Collation.TheVariants.{Binary}
use Rattle.sqlite.specs.declared.types.Value.TheVariants.{Text, Null, Int}
use Rattle.sqlite.specs.Order.{Row, column}
use Rattle.sqlite.specs.Tree.{Trees}
use Rattle.sqlite.specs.Term.{Term, col, op2}
use Rattle.sqlite.specs.Listing.{understood}
use Rattle.sqlite.specs.Program.{overlay}
use Rattle.sqlite.specs.Query.{Query, IsAnswer, inner, end}
use Rattle.sqlite.specs.State.{State, Begins, Shown}
use Rattle.sqlite.proofs.Callers.{IsPlain, reads_as, begins_as}
use Rattle.sqlite_sql.specs.Term.{Env, eval_all, holds}
use Rattle.sqlite_sql.specs.Query.{Join, matches_as, counted}
use Rattle.sqlite_sql.specs.declared.ops.CompareOp.TheVariants as compare
use Rattle.sqlite_sql.specs.declared.ops.BinaryOp.TheVariants as by
use Rattle.sqlite_tied.specs.Compute.{everything}
use Rattle.sqlite_rules.specs.Lists.{Has}
use Rattle.sqlite_rules.proofs.ListLemmas.{has_filtered}
use Rattle.sql_laws.proofs.Comparisons.{texts_compared}
use Rattle.sql_streams.specs.RowQueries.{row_query}
use Rattle.sql_streams.proofs.RowByRow.{row_by_row, in_its_order}
use Rattle.sql_streams.proofs.Subqueries.{counted_in}
use Rattle.sql_schema.specs.Inside.{IsReadyFor}
use Rattle.sql_schema.specs.Keys.{text_at, has_text}
use Rattle.sql_schema.specs.Layouts.{by_domain, Layout, NamedRows, made_last, from_first, from_second, schema_of, placed, rows_named}
use Rattle.sql_schema.specs.Schema.{d_suggestion_table, d_unit_table}
use Rattle.sql_schema.proofs.DomainRows.{d_suggestion_units, d_unit_texts}
use Rattle.sql_schema.proofs.Layouts.{d_suggestion_placed, d_unit_placed}
use Rattle.sql_schema.proofs.Queries.{Asks, filtered_same, is_given, rows_read}
use Rattle.sql_statements.specs.DomainCleared.{is_on_domain_unit}
use Rattle.sql_statements.specs.SummedVotes.{most_counted, told}
use Rattle.sql_statements.specs.Tables.{by_columns}
use Rattle.sql_statements.specs.WalkedRows.{suggestions_on, unit_counted, is_unit_of, ShowsUnitsOf}
use Rattle.sql_statements.proofs.DomainUnitReads.{given, of_language}
use Rattle.sql_statements.proofs.SumsWalked.{mapped_same}
use Rattle.sql_statements.proofs.ReadsUnread.{IsAcceptedBy, IsUnreadBy, unread_by}

abbrev pub units_text : List ℕ
units_text = codes "SELECT plural, forms, state, obsolete, revision, comment, previous, lang, key, (SELECT count(*) FROM d_suggestion WHERE d_suggestion.domain = d_unit.domain AND d_suggestion.lang = d_unit.lang AND d_suggestion.key = d_unit.key) AS suggestions FROM d_unit WHERE domain = ?1 AND lang = ?2 ORDER BY key"

abbrev same : ℕ → ℕ → Term
same a b = op2 (by.Compare compare.Eq Binary) (col 2 a) (col 1 b)

-- the suggestion is on the unit
abbrev on_it : List Term
on_it = same 2 1 ∷ same 3 2 ∷ same 4 3 ∷ []

abbrev of_it : List Term
of_it = is_given 1 0 ∷ is_given 2 1 ∷ []

abbrev shown_terms : List Term
shown_terms = col 1 4 ∷ col 1 5 ∷ col 1 6 ∷ col 1 7 ∷ col 1 8 ∷ col 1 9 ∷ col 1 10 ∷ col 1 2 ∷ col 1 3 ∷ col 2 0 ∷ []

abbrev beside : Layout by_domain → Join
beside layout = counted 9223372036854775807 (inner (placed layout d_suggestion_table).tree end) on_it end

abbrev units_query : Layout by_domain → Query
units_query layout = row_query (placed layout d_unit_table).tree (beside layout) of_it shown_terms (3 ∷ [])

units_are : (layout : Layout by_domain) → Asks layout units_text (units_query layout)
    (codes "plural" ∷ codes "forms" ∷ codes "state" ∷ codes "obsolete" ∷ codes "revision" ∷ codes "comment" ∷ codes "previous" ∷ codes "lang" ∷ codes "key" ∷ codes "suggestions" ∷ [])
unfolding understood everything
units_are made_last = record { command = refl; own_tables = refl; plain = (refl, refl) }
units_are from_first = record { command = refl; own_tables = refl; plain = (refl, refl) }
units_are from_second = record { command = refl; own_tables = refl; plain = (refl, refl) }

units_accepted : (domain lang : List ℕ) → IsAcceptedBy by_domain units_text (Text domain ∷ Text lang ∷ [])
unfolding understood everything
units_accepted domain lang made_last = refl
units_accepted domain lang from_first = refl
units_accepted domain lang from_second = refl

pub units_unread : (domain lang : List ℕ) → IsUnreadBy by_domain units_text (Text domain ∷ Text lang ∷ [])
units_unread domain lang = unread_by units_text (Text domain ∷ Text lang ∷ []) _ _ units_are (units_accepted domain lang)

module _ (domain lang : List ℕ) (s : State) (ready : IsReadyFor by_domain s) where
  abbrev params : Row
  params = given domain lang

  abbrev layout : Layout by_domain
  layout = ready.schema.0

  abbrev tables : NamedRows
  tables = rows_named s.now

  abbrev trees : Trees
  trees = overlay s.now.trees []

  abbrev units : List Row
  units = tables (codes "d_unit")

  abbrev suggestions : List Row
  suggestions = tables (codes "d_suggestion")

  units_read : trees (placed layout d_unit_table).tree ≡ units
  units_read = rows_read layout d_unit_table (d_unit_placed layout) s.now ready.schema.1

  suggestions_read : trees (placed layout d_suggestion_table).tree ≡ suggestions
  suggestions_read = rows_read layout d_suggestion_table (d_suggestion_placed layout) s.now ready.schema.1

  abbrev count_row : Row → Row
  count_row u = Int (pos (min most_counted (length (matches_as Null trees on_it (inner (placed layout d_suggestion_table).tree end) (params ∷ u ∷ []))))) ∷ []

  abbrev whole : Row → Env
  whole u = params ∷ u ∷ count_row u ∷ []

  abbrev passes_it : Row → Row → List Row
  passes_it u other = params ∷ u ∷ other ∷ []

  module _ (u : Row) (there : Has units u) where
    is_on : (other : Row) → Has suggestions other → list_all (holds (passes_it u other)) on_it ≡ is_on_domain_unit (text_at 1 u) (text_at 2 u) (text_at 3 u) other
    is_on other listed =
        rw (
          d_suggestion_units.0 s.now ready.schema ready.sound other listed,
          d_suggestion_units.1.0 s.now ready.schema ready.sound other listed,
          d_suggestion_units.1.1.0 s.now ready.schema ready.sound other listed,
          d_unit_texts.0 s.now ready.schema ready.sound u there,
          d_unit_texts.1.0 s.now ready.schema ready.sound u there,
          d_unit_texts.1.1.0 s.now ready.schema ready.sound u there,
        ) (rw (texts_compared (text_at 2 other) (text_at 1 u), texts_compared (text_at 3 other) (text_at 2 u), texts_compared (text_at 4 other) (text_at 3 u))
        (ap (λ b. has_text 2 (text_at 1 u) other && (has_text 3 (text_at 2 u) other && b)) (and-true _)))

    counts : column (count_row u) 0 ≡ told (suggestions_on tables u)
    counts =
        ap (λ n. Int (pos (min most_counted n)))
        (counted_in trees (placed layout d_suggestion_table).tree on_it (params ∷ u ∷ [])
        ∙ ap (λ rows. length (filter (λ other. list_all (holds (passes_it u other)) on_it) rows)) suggestions_read
        ∙ ap length (filtered_same (λ other. list_all (holds (passes_it u other)) on_it) (is_on_domain_unit (text_at 1 u) (text_at 2 u) (text_at 3 u)) suggestions is_on))

    shows_counted : eval_all shown_terms (whole u) ≡ unit_counted tables u
    shows_counted = (λ i.
        column u 4 ∷ column u 5 ∷ column u 6 ∷ column u 7 ∷ column u 8 ∷ column u 9 ∷ column u 10 ∷ column u 2 ∷ column u 3 ∷ counts i ∷ [])

  abbrev passing : List Row
  passing = filter (λ u. list_all (holds (whole u)) of_it) (trees (placed layout d_unit_table).tree)

  passing_is : passing ≡ filter (is_unit_of domain lang) units
  passing_is = ap (filter (λ u. list_all (holds (whole u)) of_it)) units_read
      ∙ filtered_same (λ u. list_all (holds (whole u)) of_it) (is_unit_of domain lang) units (of_language domain lang s.now ready.schema ready.sound ready.tables)

  answered : (rows : List Row) → IsAnswer (units_query layout) trees params rows → ShowsUnitsOf domain lang s.now rows
  answered rows answer = record {
    all = subst (λ l. IsPermutation l rows)
        (ap (map (λ u. eval_all shown_terms (whole u))) passing_is
        ∙ mapped_same (λ u. eval_all shown_terms (whole u)) (unit_counted tables) (filter (is_unit_of domain lang) units) (λ u listed. shows_counted u (has_filtered (is_unit_of domain lang) units u listed).0))
        (row_by_row (placed layout d_unit_table).tree (beside layout) of_it shown_terms (3 ∷ []) trees params (λ u. list_all (holds (whole u)) of_it) whole (λ u there. refl) rows answer);
    in_order = in_its_order (placed layout d_unit_table).tree (beside layout) of_it shown_terms (3 ∷ []) trees params (λ u. list_all (holds (whole u)) of_it) whole (λ u there. refl) rows answer
        (by_columns (8 ∷ [])) (λ r t at_r at_t. refl);
  }

  pub units_plain : IsPlain (understood s.now.schema units_text)
  units_plain = subst (λ t. IsPlain (understood t units_text)) (sym ready.schema.1) (units_are layout).plain

  pub units_shown : (rows : List Row) → Shown units_text params s s rows → ShowsUnitsOf domain lang s.now rows
  units_shown rows h = answered rows ((reads_as units_text params s s (schema_of layout) ready.schema.1 _ (units_are layout).command (units_are layout).plain (units_are layout).own_tables rows h).answer Null)

  pub units_begun : (rows : List Row) → Begins units_text params s rows → (tail : List Row) × ShowsUnitsOf domain lang s.now (rows ++ tail)
  units_begun rows h =
      let read = begins_as units_text params s s (schema_of layout) ready.schema.1 _ (units_are layout).command (units_are layout).plain (units_are layout).own_tables rows h in
      (read.1.0, answered (rows ++ read.1.0) (read.1.1 Null))
