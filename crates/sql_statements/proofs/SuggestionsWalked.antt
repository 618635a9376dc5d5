-- What the walk over the suggestions on a language's units shows: each with how many plurals its unit has.
use Rattle.std.proofs.Common.{◌≡◌, ℕ, pos, List, [], ◌∷◌, ◌++◌, ◌&&◌, Bool, true, false, map, filter, length, codes, refl, sym, ap, subst, ◌∙◌}
use Rattle.std.specs.Prelude.{min}
use Rattle.std.specs.List.{list_all}
use Rattle.std.specs.List.Sorted.{IsPermutation}
use Rattle.std.proofs.Math.Bool.{and-true}
use Rattle.sqlite.specs.Collation.TheVariants.{Binary}
use Rattle.sqlite.specs.declared.types.Value.{Value}
use Rattle.sqlite.specs.declared.types.Value.TheVariants.{Null, Int, Real, Blob, Text as Words}
use Rattle.sqlite.specs.Order.{Row, column}
use Rattle.sqlite.specs.Tree.{Trees}
use Rattle.sqlite.specs.Term.{Term, col, lit, op1, op2}
use Rattle.sqlite.specs.Listing.{understood}
use Rattle.sqlite.specs.Ops.{unary, binary}
use Rattle.sqlite.specs.Program.{overlay}
use Rattle.sqlite.specs.Query.{Query, IsAnswer, inner, end}
use Rattle.sqlite.specs.State.{State, Begins, Shown}
use Rattle.sqlite.proofs.Callers.{IsPlain, reads_as, begins_as}
use Rattle.sqlite_sql.specs.Ops.{is_true}
use Rattle.sqlite_sql.specs.Term.{Env, eval_all, holds}
use Rattle.sqlite_sql.specs.Query.{Join, matches_as, counted}
use Rattle.sqlite_sql.specs.declared.ops.CompareOp.TheVariants as compare
use Rattle.sqlite_sql.specs.declared.ops.BinaryOp.TheVariants as by
use Rattle.sqlite_sql.specs.declared.ops.UnaryOp.TheVariants as alone
use Rattle.sqlite_tied.specs.Compute.{everything}
use Rattle.sqlite_rules.specs.Lists.{Has}
use Rattle.sqlite_rules.proofs.ListLemmas.{has_filtered}
use Rattle.sql_laws.proofs.Comparisons.{texts_compared}
use Rattle.sql_streams.specs.RowQueries.{row_query}
use Rattle.sql_streams.proofs.RowByRow.{row_by_row, in_its_order}
use Rattle.sql_streams.proofs.Subqueries.{counted_in}
use Rattle.sql_schema.specs.Inside.{IsReadyFor}
use Rattle.sql_schema.specs.Keys.{text_at, has_text}
use Rattle.sql_schema.specs.Layouts.{by_domain, Layout, NamedRows, made_last, from_first, from_second, schema_of, placed, rows_named}
use Rattle.sql_schema.specs.Schema.{d_suggestion_table, d_unit_table}
use Rattle.sql_schema.proofs.DomainRows.{d_suggestion_units, d_unit_texts}
use Rattle.sql_schema.proofs.Layouts.{d_suggestion_placed, d_unit_placed}
use Rattle.sql_schema.proofs.Queries.{Asks, filtered_same, is_given, given_is, rows_read}
use Rattle.sql_statements.specs.SummedVotes.{most_counted, told}
use Rattle.sql_statements.specs.Tables.{by_columns}
use Rattle.sql_statements.specs.WalkedRows.{is_unit_under, is_textual, has_plural, plurals_under, suggestion_beside, is_suggestion_of, ShowsSuggestionsOf}
use Rattle.sql_statements.proofs.DomainUnitReads.{given}
use Rattle.sql_statements.proofs.SumsWalked.{mapped_same}
use Rattle.sql_statements.proofs.ReadsUnread.{IsAcceptedBy, IsUnreadBy, unread_by}

abbrev pub suggestions_text : List ℕ
suggestions_text = codes "SELECT number, place, suggester, forms, lang, key, (SELECT count(*) FROM d_unit WHERE d_unit.domain = d_suggestion.domain AND d_unit.lang = d_suggestion.lang AND d_unit.key = d_suggestion.key AND typeof(plural) = 'text') AS plurals FROM d_suggestion WHERE domain = ?1 AND lang = ?2 ORDER BY key, place"

abbrev same : ℕ → ℕ → Term
same a b = op2 (by.Compare compare.Eq Binary) (col 2 a) (col 1 b)

-- the unit's plural is a text
abbrev plural_there : Term
plural_there = op2 (by.Compare compare.Eq Binary) (op1 alone.TypeOf (col 2 4)) (lit (Words (codes "text")))

-- the unit is the suggestion's, and has a plural
abbrev under_it : List Term
under_it = same 1 2 ∷ same 2 3 ∷ same 3 4 ∷ plural_there ∷ []

abbrev of_it : List Term
of_it = is_given 2 0 ∷ is_given 3 1 ∷ []

abbrev shown_terms : List Term
shown_terms = col 1 1 ∷ col 1 5 ∷ col 1 6 ∷ col 1 7 ∷ col 1 3 ∷ col 1 4 ∷ col 2 0 ∷ []

abbrev beside : Layout by_domain → Join
beside layout = counted 9223372036854775807 (inner (placed layout d_unit_table).tree end) under_it end

abbrev suggestions_query : Layout by_domain → Query
suggestions_query layout = row_query (placed layout d_suggestion_table).tree (beside layout) of_it shown_terms (4 ∷ 5 ∷ [])

suggestions_are : (layout : Layout by_domain) → Asks layout suggestions_text (suggestions_query layout)
    (codes "number" ∷ codes "place" ∷ codes "suggester" ∷ codes "forms" ∷ codes "lang" ∷ codes "key" ∷ codes "plurals" ∷ [])
unfolding understood everything
suggestions_are made_last = record { command = refl; own_tables = refl; plain = (refl, refl) }
suggestions_are from_first = record { command = refl; own_tables = refl; plain = (refl, refl) }
suggestions_are from_second = record { command = refl; own_tables = refl; plain = (refl, refl) }

suggestions_accepted : (domain lang : List ℕ) → IsAcceptedBy by_domain suggestions_text (given domain lang)
unfolding understood everything
suggestions_accepted domain lang made_last = refl
suggestions_accepted domain lang from_first = refl
suggestions_accepted domain lang from_second = refl

pub suggestions_unread : (domain lang : List ℕ) → IsUnreadBy by_domain suggestions_text (given domain lang)
suggestions_unread domain lang = unread_by suggestions_text (given domain lang) _ _ suggestions_are (suggestions_accepted domain lang)

textual_told : (v : Value) → is_true (binary (by.Compare compare.Eq Binary) (unary alone.TypeOf v) (Words (codes "text"))) ≡ is_textual v
unfolding unary
textual_told Null = texts_compared (codes "null") (codes "text")
textual_told (Int n) = texts_compared (codes "integer") (codes "text")
textual_told (Real x) = texts_compared (codes "real") (codes "text")
textual_told (Words t) = texts_compared (codes "text") (codes "text")
textual_told (Blob b) = texts_compared (codes "blob") (codes "text")

four_tests : (a b c d : Bool) → (a && (b && (c && (d && true)))) ≡ ((a && (b && c)) && d)
four_tests true true true d = and-true d
four_tests true true false d = refl
four_tests true false c d = refl
four_tests false b c d = refl

module _ (domain lang : List ℕ) (s : State) (ready : IsReadyFor by_domain s) where
  abbrev params : Row
  params = given domain lang

  abbrev layout : Layout by_domain
  layout = ready.schema.0

  abbrev tables : NamedRows
  tables = rows_named s.now

  abbrev trees : Trees
  trees = overlay s.now.trees []

  abbrev units : List Row
  units = tables (codes "d_unit")

  abbrev suggestions : List Row
  suggestions = tables (codes "d_suggestion")

  units_read : trees (placed layout d_unit_table).tree ≡ units
  units_read = rows_read layout d_unit_table (d_unit_placed layout) s.now ready.schema.1

  suggestions_read : trees (placed layout d_suggestion_table).tree ≡ suggestions
  suggestions_read = rows_read layout d_suggestion_table (d_suggestion_placed layout) s.now ready.schema.1

  abbrev count_row : Row → Row
  count_row x = Int (pos (min most_counted (length (matches_as Null trees under_it (inner (placed layout d_unit_table).tree end) (params ∷ x ∷ []))))) ∷ []

  abbrev whole : Row → Env
  whole x = params ∷ x ∷ count_row x ∷ []

  module _ (x : Row) (there : Has suggestions x) where
    is_under : (u : Row) → Has units u → list_all (holds (params ∷ x ∷ u ∷ [])) under_it ≡ (is_unit_under x u && has_plural u)
    is_under u listed =
        rw (
          d_unit_texts.0 s.now ready.schema ready.sound u listed,
          d_unit_texts.1.0 s.now ready.schema ready.sound u listed,
          d_unit_texts.1.1.0 s.now ready.schema ready.sound u listed,
          d_suggestion_units.0 s.now ready.schema ready.sound x there,
          d_suggestion_units.1.0 s.now ready.schema ready.sound x there,
          d_suggestion_units.1.1.0 s.now ready.schema ready.sound x there,
        ) (rw (texts_compared (text_at 1 u) (text_at 2 x), texts_compared (text_at 2 u) (text_at 3 x), texts_compared (text_at 3 u) (text_at 4 x), textual_told (column u 4))
        (four_tests (has_text 1 (text_at 2 x) u) (has_text 2 (text_at 3 x) u) (has_text 3 (text_at 4 x) u) (has_plural u)))

    counts : column (count_row x) 0 ≡ told (plurals_under tables x)
    counts =
        ap (λ n. Int (pos (min most_counted n)))
        (counted_in trees (placed layout d_unit_table).tree under_it (params ∷ x ∷ [])
        ∙ ap (λ rows. length (filter (λ u. list_all (holds (params ∷ x ∷ u ∷ [])) under_it) rows)) units_read
        ∙ ap length (filtered_same (λ u. list_all (holds (params ∷ x ∷ u ∷ [])) under_it) (λ u. is_unit_under x u && has_plural u) units is_under))

    shows_beside : eval_all shown_terms (whole x) ≡ suggestion_beside tables x
    shows_beside = (λ i. column x 1 ∷ column x 5 ∷ column x 6 ∷ column x 7 ∷ column x 3 ∷ column x 4 ∷ counts i ∷ [])

    is_its : list_all (holds (whole x)) of_it ≡ is_suggestion_of domain lang x
    is_its =
        rw (given_is params x 2 0 domain (d_suggestion_units.0 s.now ready.schema ready.sound x there) refl, given_is params x 3 1 lang (d_suggestion_units.1.0 s.now ready.schema ready.sound x there) refl)
        (ap (λ b. has_text 2 domain x && b) (and-true _))

  abbrev passing : List Row
  passing = filter (λ x. list_all (holds (whole x)) of_it) (trees (placed layout d_suggestion_table).tree)

  passing_is : passing ≡ filter (is_suggestion_of domain lang) suggestions
  passing_is = ap (filter (λ x. list_all (holds (whole x)) of_it)) suggestions_read
      ∙ filtered_same (λ x. list_all (holds (whole x)) of_it) (is_suggestion_of domain lang) suggestions is_its

  answered : (rows : List Row) → IsAnswer (suggestions_query layout) trees params rows → ShowsSuggestionsOf domain lang s.now rows
  answered rows answer = record {
    all = subst (λ l. IsPermutation l rows)
        (ap (map (λ x. eval_all shown_terms (whole x))) passing_is
        ∙ mapped_same (λ x. eval_all shown_terms (whole x)) (suggestion_beside tables) (filter (is_suggestion_of domain lang) suggestions)
        (λ x listed. shows_beside x (has_filtered (is_suggestion_of domain lang) suggestions x listed).0))
        (row_by_row (placed layout d_suggestion_table).tree (beside layout) of_it shown_terms (4 ∷ 5 ∷ []) trees params (λ x. list_all (holds (whole x)) of_it) whole (λ x there. refl) rows answer);
    in_order = in_its_order (placed layout d_suggestion_table).tree (beside layout) of_it shown_terms (4 ∷ 5 ∷ []) trees params (λ x. list_all (holds (whole x)) of_it) whole (λ x there. refl) rows answer
        (by_columns (5 ∷ 1 ∷ [])) (λ r t at_r at_t. refl);
  }

  pub suggestions_plain : IsPlain (understood s.now.schema suggestions_text)
  suggestions_plain = subst (λ t. IsPlain (understood t suggestions_text)) (sym ready.schema.1) (suggestions_are layout).plain

  pub suggestions_shown : (rows : List Row) → Shown suggestions_text params s s rows → ShowsSuggestionsOf domain lang s.now rows
  suggestions_shown rows h =
      answered rows ((reads_as suggestions_text params s s (schema_of layout) ready.schema.1 _ (suggestions_are layout).command (suggestions_are layout).plain (suggestions_are layout).own_tables rows h).answer Null)

  pub suggestions_begun : (rows : List Row) → Begins suggestions_text params s rows → (tail : List Row) × ShowsSuggestionsOf domain lang s.now (rows ++ tail)
  suggestions_begun rows h =
      let read = begins_as suggestions_text params s s (schema_of layout) ready.schema.1 _ (suggestions_are layout).command (suggestions_are layout).plain (suggestions_are layout).own_tables rows h in
      (read.1.0, answered (rows ++ read.1.0) (read.1.1 Null))
