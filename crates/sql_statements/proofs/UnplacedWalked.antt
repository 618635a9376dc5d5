-- What the walk over the units shows whose languages aren't there.
use Rattle.std.proofs.Common.{◌≡◌, ◌<◌, ℕ, pos, List, [], ◌∷◌, ◌++◌, ◌&&◌, map, filter, length, codes, Bool, false, refl, sym, ap, subst, ◌∙◌, arith}
use Rattle.std.specs.Prelude.{min}
use Rattle.std.specs.List.{list_all}
use Rattle.std.specs.List.Sorted.{IsPermutation}
use Rattle.std.specs.declared.cmp.Ordering.TheVariants.{Greater}
use Rattle.std.specs.Ordering.{is_eq, int_cmp}
use Rattle.std.proofs.Math.Bool.{and-true}
use Rattle.std.proofs.lemmas.Bool.Decides.{nat_tests}
use Rattle.std.proofs.lemmas.Int.{ints}
use Rattle.sqlite.specs.Collation.TheVariants.{Binary}
use Rattle.sqlite.specs.declared.types.Value.TheVariants.{Null, Int}
use Rattle.sqlite.specs.Order.{Row, value_cmp}
use Rattle.sqlite.specs.Tree.{Trees}
use Rattle.sqlite.specs.Term.{Term, col, lit, op2}
use Rattle.sqlite.specs.Listing.{understood}
use Rattle.sqlite.specs.Program.{overlay}
use Rattle.sqlite.specs.Query.{Query, IsAnswer, inner, end}
use Rattle.sqlite.specs.State.{State, Begins, Shown}
use Rattle.sqlite.proofs.Callers.{IsPlain, reads_as, begins_as}
use Rattle.sqlite_sql.specs.Term.{Env, holds}
use Rattle.sqlite_sql.specs.Query.{Join, matches_as, counted}
use Rattle.sqlite_sql.specs.declared.ops.CompareOp.TheVariants as compare
use Rattle.sqlite_sql.specs.declared.ops.BinaryOp.TheVariants as by
use Rattle.sqlite_tied.specs.Compute.{everything}
use Rattle.sqlite_value.proofs.OrderLemmas.{value_cmp-Int}
use Rattle.sqlite_rules.specs.Lists.{Has}
use Rattle.sql_laws.proofs.Comparisons.{texts_compared, ints_compared}
use Rattle.sql_streams.specs.RowQueries.{row_query}
use Rattle.sql_streams.proofs.RowByRow.{row_by_row}
use Rattle.sql_streams.proofs.Subqueries.{counted_in}
use Rattle.sql_schema.specs.Inside.{IsReadyFor}
use Rattle.sql_schema.specs.Keys.{text_at, has_text, columns}
use Rattle.sql_schema.specs.Layouts.{by_domain, Layout, NamedRows, made_last, from_first, from_second, schema_of, placed, rows_named}
use Rattle.sql_schema.specs.Schema.{d_language_table, d_unit_table}
use Rattle.sql_schema.proofs.DomainRows.{d_language_texts, d_unit_texts}
use Rattle.sql_schema.proofs.Layouts.{d_language_placed, d_unit_placed}
use Rattle.sql_schema.proofs.Queries.{Asks, filtered_same, rows_read}
use Rattle.sql_statements.specs.SummedVotes.{most_counted}
use Rattle.sql_statements.specs.WalkedRows.{is_empty, is_unplaced, ShowsUnplaced}
use Rattle.sql_statements.proofs.ReadsUnread.{IsAcceptedBy, IsUnreadBy, unread_by}

abbrev pub unplaced_text : List ℕ
unplaced_text = codes "SELECT domain, lang FROM d_unit WHERE (SELECT count(*) FROM d_language WHERE d_language.domain = d_unit.domain AND d_language.lang = d_unit.lang) = 0 ORDER BY domain, lang, key"

abbrev same : ℕ → ℕ → Term
same a b = op2 (by.Compare compare.Eq Binary) (col 2 a) (col 1 b)

-- the language is the unit's
abbrev its : List Term
its = same 1 1 ∷ same 2 2 ∷ []

abbrev is_none : List Term
is_none = op2 (by.Compare compare.Eq Binary) (col 2 0) (lit (Int (pos 0))) ∷ []

abbrev shown_terms : List Term
shown_terms = col 1 1 ∷ col 1 2 ∷ []

abbrev beside : Layout by_domain → Join
beside layout = counted 9223372036854775807 (inner (placed layout d_language_table).tree end) its end

abbrev unplaced_query : Layout by_domain → Query
unplaced_query layout = row_query (placed layout d_unit_table).tree (beside layout) is_none shown_terms (1 ∷ 2 ∷ 3 ∷ [])

unplaced_are : (layout : Layout by_domain) → Asks layout unplaced_text (unplaced_query layout) (codes "domain" ∷ codes "lang" ∷ [])
unfolding understood everything
unplaced_are made_last = record { command = refl; own_tables = refl; plain = (refl, refl) }
unplaced_are from_first = record { command = refl; own_tables = refl; plain = (refl, refl) }
unplaced_are from_second = record { command = refl; own_tables = refl; plain = (refl, refl) }

unplaced_accepted : IsAcceptedBy by_domain unplaced_text []
unfolding understood everything
unplaced_accepted made_last = refl
unplaced_accepted from_first = refl
unplaced_accepted from_second = refl

pub unplaced_unread : IsUnreadBy by_domain unplaced_text []
unplaced_unread = unread_by unplaced_text [] _ _ unplaced_are unplaced_accepted

some_counted : (n : ℕ) → 0 < n → is_eq (value_cmp (Int (pos n)) (Int (pos 0))) ≡ false
some_counted n some = let above : int_cmp (pos n) (pos 0) ≡ Greater = grind (arith, ints, nat_tests) in ap is_eq (value_cmp-Int (pos n) (pos 0) ∙ above)

-- none is counted where there is none
pub none_there : (rows : List Row) → is_eq (value_cmp (Int (pos (min most_counted (length rows)))) (Int (pos 0))) ≡ is_empty rows
none_there [] = ap is_eq (value_cmp-Int (pos 0) (pos 0))
none_there (row ∷ rows) = some_counted (min most_counted (length (row ∷ rows))) (omega arith)

module _ (s : State) (ready : IsReadyFor by_domain s) where
  abbrev layout : Layout by_domain
  layout = ready.schema.0

  abbrev tables : NamedRows
  tables = rows_named s.now

  abbrev trees : Trees
  trees = overlay s.now.trees []

  abbrev units : List Row
  units = tables (codes "d_unit")

  abbrev languages : List Row
  languages = tables (codes "d_language")

  units_read : trees (placed layout d_unit_table).tree ≡ units
  units_read = rows_read layout d_unit_table (d_unit_placed layout) s.now ready.schema.1

  languages_read : trees (placed layout d_language_table).tree ≡ languages
  languages_read = rows_read layout d_language_table (d_language_placed layout) s.now ready.schema.1

  abbrev count_row : Row → Row
  count_row u = Int (pos (min most_counted (length (matches_as Null trees its (inner (placed layout d_language_table).tree end) ([] ∷ u ∷ []))))) ∷ []

  abbrev whole : Row → Env
  whole u = [] ∷ u ∷ count_row u ∷ []

  module _ (u : Row) (there : Has units u) where
    abbrev is_own : Row → Bool
    is_own l = has_text 1 (text_at 1 u) l && has_text 2 (text_at 2 u) l

    is_its : (l : Row) → Has languages l → list_all (holds ([] ∷ u ∷ l ∷ [])) its ≡ is_own l
    is_its l listed =
        rw (
          d_language_texts.0 s.now ready.schema ready.sound l listed,
          d_language_texts.1.0 s.now ready.schema ready.sound l listed,
          d_unit_texts.0 s.now ready.schema ready.sound u there,
          d_unit_texts.1.0 s.now ready.schema ready.sound u there,
        ) (rw (texts_compared (text_at 1 l) (text_at 1 u), texts_compared (text_at 2 l) (text_at 2 u)) (ap (λ b. has_text 1 (text_at 1 u) l && b) (and-true _)))

    own_counted : length (matches_as Null trees its (inner (placed layout d_language_table).tree end) ([] ∷ u ∷ [])) ≡ length (filter is_own languages)
    own_counted =
        counted_in trees (placed layout d_language_table).tree its ([] ∷ u ∷ [])
        ∙ ap (λ rows. length (filter (λ l. list_all (holds ([] ∷ u ∷ l ∷ [])) its) rows)) languages_read
        ∙ ap length (filtered_same (λ l. list_all (holds ([] ∷ u ∷ l ∷ [])) its) is_own languages is_its)

    is_left : list_all (holds (whole u)) is_none ≡ is_unplaced tables u
    is_left =
        and-true _
        ∙ ints_compared (Int (pos (min most_counted (length (matches_as Null trees its (inner (placed layout d_language_table).tree end) ([] ∷ u ∷ [])))))) (Int (pos 0)) refl refl
        ∙ ap (λ n. is_eq (value_cmp (Int (pos (min most_counted n))) (Int (pos 0)))) own_counted
        ∙ none_there (filter is_own languages)

  answered : (rows : List Row) → IsAnswer (unplaced_query layout) trees [] rows → ShowsUnplaced s.now rows
  answered rows answer =
      subst (λ l. IsPermutation (map (columns (1 ∷ 2 ∷ [])) l) rows)
      (ap (filter (λ u. list_all (holds (whole u)) is_none)) units_read ∙ filtered_same (λ u. list_all (holds (whole u)) is_none) (is_unplaced tables) units is_left)
      (row_by_row (placed layout d_unit_table).tree (beside layout) is_none shown_terms (1 ∷ 2 ∷ 3 ∷ []) trees [] (λ u. list_all (holds (whole u)) is_none) whole (λ u there. refl) rows answer)

  pub unplaced_plain : IsPlain (understood s.now.schema unplaced_text)
  unplaced_plain = subst (λ t. IsPlain (understood t unplaced_text)) (sym ready.schema.1) (unplaced_are layout).plain

  pub unplaced_shown : (rows : List Row) → Shown unplaced_text [] s s rows → ShowsUnplaced s.now rows
  unplaced_shown rows h = answered rows ((reads_as unplaced_text [] s s (schema_of layout) ready.schema.1 _ (unplaced_are layout).command (unplaced_are layout).plain (unplaced_are layout).own_tables rows h).answer Null)

  pub unplaced_begun : (rows : List Row) → Begins unplaced_text [] s rows → (tail : List Row) × ShowsUnplaced s.now (rows ++ tail)
  unplaced_begun rows h =
      let read = begins_as unplaced_text [] s s (schema_of layout) ready.schema.1 _ (unplaced_are layout).command (unplaced_are layout).plain (unplaced_are layout).own_tables rows h in
      (read.1.0, answered (rows ++ read.1.0) (read.1.1 Null))
