-- What the look at approved units shows.
use Rattle.std.proofs.Common.{◌≡◌, ℕ, ℤ, pos, Bool, List, [], ◌∷◌, ◌++◌, ◌&&◌, map, filter, length, codes, true, refl, ap, subst, ◌∙◌}
use Rattle.std.specs.Prelude.{min}
use Rattle.std.specs.List.{list_all}
use Rattle.std.specs.List.Sorted.{IsPermutation}
use Rattle.std.proofs.Math.Bool.{and-true}
use Rattle.sqlite.specs.Collation.TheVariants.{Binary}
use Rattle.sqlite.specs.declared.types.Value.TheVariants.{Null, Int, Text}
use Rattle.sqlite.specs.Order.{Row, column}
use Rattle.sqlite.specs.Tree.{Trees}
use Rattle.sqlite.specs.Term.{Term, col, lit, op2}
use Rattle.sqlite.specs.Listing.{understood}
use Rattle.sqlite.specs.Ops.{binary}
use Rattle.sqlite.specs.Program.{overlay}
use Rattle.sqlite.specs.Query.{Query, IsAnswer, inner, end}
use Rattle.sqlite.specs.State.{State, Shown}
use Rattle.sqlite.proofs.Callers.{reads_as}
use Rattle.sqlite_sql.specs.Ops.{is_true}
use Rattle.sqlite_sql.specs.Term.{Env, eval_all, holds}
use Rattle.sqlite_sql.specs.Query.{Join, matches_as, counted}
use Rattle.sqlite_sql.specs.declared.ops.CompareOp.TheVariants as compare
use Rattle.sqlite_sql.specs.declared.ops.BinaryOp.TheVariants as by
use Rattle.sqlite_tied.specs.Compute.{everything}
use Rattle.sqlite_rules.specs.Edit.{id_in}
use Rattle.sqlite_rules.specs.Lists.{Has}
use Rattle.sql_laws.proofs.Comparisons.{texts_compared}
use Rattle.sql_streams.specs.RowQueries.{row_query}
use Rattle.sql_streams.proofs.RowByRow.{row_by_row}
use Rattle.sql_streams.proofs.Subqueries.{counted_in}
use Rattle.sql_schema.specs.Inside.{IsReadyFor}
use Rattle.sql_schema.specs.Keys.{first_text, has_text}
use Rattle.sql_schema.specs.Layouts.{by_domain, Layout, NamedRows, made_last, from_first, from_second, schema_of, placed, rows_named}
use Rattle.sql_schema.specs.Schema.{domain_table, d_unit_table}
use Rattle.sql_schema.proofs.DomainRows.{domain_names, d_unit_texts}
use Rattle.sql_schema.proofs.Layouts.{domain_placed, d_unit_placed}
use Rattle.sql_schema.proofs.Queries.{Asks, ReadsAllOf, queries_inside, filtered_same, rows_read}
use Rattle.sql_schema.proofs.TextKeys.{holds_int}
use Rattle.sql_statements.specs.ApprovalCounts.{is_approved_row, is_last_row, rows_counted, approvals_counted, ShowsApprovals}
use Rattle.sql_statements.specs.SummedVotes.{is_integer, most_counted, told}
use Rattle.sql_statements.proofs.SumsWalked.{mapped_same, value_compared}
use Rattle.sql_statements.proofs.ReadsUnread.{IsAcceptedBy, IsUnreadBy, unread_by}

abbrev pub approvals_text : List ℕ
approvals_text = codes "SELECT (SELECT count(*) FROM d_unit WHERE d_unit.domain = domain.name AND state = 3) AS approved, (SELECT count(*) FROM d_unit WHERE d_unit.domain = domain.name AND state = 3 AND revision = 9000000000000000) AS at_last FROM domain"

-- the unit in this slot is of the domain, and approved
abbrev is_its : ℕ → Term
is_its slot = op2 (by.Compare compare.Eq Binary) (col slot 1) (col 1 1)

abbrev has_number : ℕ → ℕ → ℤ → Term
has_number slot place value = op2 (by.Compare compare.Eq Binary) (col slot place) (lit (Int value))

abbrev are_approved : List Term
are_approved = is_its 2 ∷ has_number 2 6 (pos 3) ∷ []

abbrev are_last : List Term
are_last = is_its 3 ∷ has_number 3 6 (pos 3) ∷ has_number 3 8 (pos 9000000000000000) ∷ []

abbrev shown_terms : List Term
shown_terms = col 2 0 ∷ col 3 0 ∷ []

abbrev beside : Layout by_domain → Join
beside layout = counted 9223372036854775807 (inner (placed layout d_unit_table).tree end) are_approved (counted 9223372036854775807 (inner (placed layout d_unit_table).tree end) are_last end)

abbrev approvals_query : Layout by_domain → Query
approvals_query layout = row_query (placed layout domain_table).tree (beside layout) [] shown_terms []

approvals_are : (layout : Layout by_domain) → Asks layout approvals_text (approvals_query layout) (codes "approved" ∷ codes "at_last" ∷ [])
unfolding understood everything
approvals_are made_last = record { command = refl; own_tables = refl; plain = (refl, refl) }
approvals_are from_first = record { command = refl; own_tables = refl; plain = (refl, refl) }
approvals_are from_second = record { command = refl; own_tables = refl; plain = (refl, refl) }

approvals_accepted : IsAcceptedBy by_domain approvals_text []
unfolding understood everything
approvals_accepted made_last = refl
approvals_accepted from_first = refl
approvals_accepted from_second = refl

pub approvals_unread : IsUnreadBy by_domain approvals_text []
approvals_unread = unread_by approvals_text [] _ _ approvals_are approvals_accepted

all_kept : (rows : List Row) → filter (λ row. true) rows ≡ rows
all_kept [] = refl
all_kept (row ∷ rows) = ap (λ more. row ∷ more) (all_kept rows)

module _ (s : State) (ready : IsReadyFor by_domain s) where
  abbrev layout : Layout by_domain
  layout = ready.schema.0

  abbrev tables : NamedRows
  tables = rows_named s.now

  abbrev trees : Trees
  trees = overlay s.now.trees []

  abbrev domains : List Row
  domains = tables (codes "domain")

  abbrev units : List Row
  units = tables (codes "d_unit")

  domains_read : trees (placed layout domain_table).tree ≡ domains
  domains_read = rows_read layout domain_table (domain_placed layout) s.now ready.schema.1

  units_read : trees (placed layout d_unit_table).tree ≡ units
  units_read = rows_read layout d_unit_table (d_unit_placed layout) s.now ready.schema.1

  abbrev count_row : List Term → Env → Row
  count_row test env = Int (pos (min most_counted (length (matches_as Null trees test (inner (placed layout d_unit_table).tree end) env)))) ∷ []

  abbrev begun : Row → Env
  begun domain = [] ∷ domain ∷ []

  abbrev with_approved : Row → Env
  with_approved domain = begun domain ++ count_row are_approved (begun domain) ∷ []

  abbrev whole : Row → Env
  whole domain = with_approved domain ++ count_row are_last (with_approved domain) ∷ []

  state_is : (unit : Row) → Has units unit → column unit 6 ≡ Int (id_in (column unit 6))
  state_is unit listed = holds_int d_unit_table d_unit_placed 5 (codes "state") refl s.now ready.schema ready.sound unit listed refl

  revision_is : (unit : Row) → Has units unit → column unit 8 ≡ Int (id_in (column unit 8))
  revision_is unit listed = holds_int d_unit_table d_unit_placed 7 (codes "revision") refl s.now ready.schema ready.sound unit listed refl

  module _ (domain : Row) (there : Has domains domain) where
    abbrev name : List ℕ
    name = first_text domain

    named : column domain 1 ≡ Text name
    named = domain_names.0 s.now ready.schema ready.sound domain there

    approved_tested : (unit : Row) → Has units unit
        → (is_true (binary (by.Compare compare.Eq Binary) (column unit 1) (column domain 1)) && (is_true (binary (by.Compare compare.Eq Binary) (column unit 6) (Int (pos 3))) && true)) ≡ is_approved_row name unit
    approved_tested unit listed =
        rw (value_compared (column unit 6) (pos 3) (state_is unit listed), d_unit_texts.0 s.now ready.schema ready.sound unit listed, named)
        (rw (texts_compared (first_text unit) name) (ap (λ b. has_text 1 name unit && b) (and-true _)))

    last_tested : (unit : Row) → Has units unit
        → (is_true (binary (by.Compare compare.Eq Binary) (column unit 1) (column domain 1))
        && (is_true (binary (by.Compare compare.Eq Binary) (column unit 6) (Int (pos 3))) && (is_true (binary (by.Compare compare.Eq Binary) (column unit 8) (Int (pos 9000000000000000))) && true))) ≡ is_last_row name unit
    last_tested unit listed =
        rw (value_compared (column unit 8) (pos 9000000000000000) (revision_is unit listed), value_compared (column unit 6) (pos 3) (state_is unit listed), d_unit_texts.0 s.now ready.schema ready.sound unit listed, named)
        (rw (texts_compared (first_text unit) name) (ap (λ b. has_text 1 name unit && (is_integer (pos 3) (column unit 6) && b)) (and-true _)))

    counts : (env : Env) (terms : List Term) (test : Row → Bool) → ((unit : Row) → Has units unit → list_all (holds (env ++ unit ∷ [])) terms ≡ test unit)
        → column (count_row terms env) 0 ≡ told (rows_counted test tables)
    counts env terms test passes =
        ap (λ n. Int (pos (min most_counted n)))
        (counted_in trees (placed layout d_unit_table).tree terms env
        ∙ ap (λ rows. length (filter (λ unit. list_all (holds (env ++ unit ∷ [])) terms) rows)) units_read
        ∙ ap length (filtered_same (λ unit. list_all (holds (env ++ unit ∷ [])) terms) test units passes))

    shows_counted : eval_all shown_terms (whole domain) ≡ approvals_counted tables domain
    shows_counted = (λ i.
        counts (begun domain) are_approved (is_approved_row name) (λ unit listed. approved_tested unit listed) i
        ∷ counts (with_approved domain) are_last (is_last_row name) (λ unit listed. last_tested unit listed) i ∷ [])

  answered : (rows : List Row) → IsAnswer (approvals_query layout) trees [] rows → ShowsApprovals s.now rows
  answered rows answer =
      subst (λ l. IsPermutation l rows)
      (ap (map (λ domain. eval_all shown_terms (whole domain))) (all_kept (trees (placed layout domain_table).tree) ∙ domains_read)
      ∙ mapped_same (λ domain. eval_all shown_terms (whole domain)) (approvals_counted tables) domains shows_counted)
      (row_by_row (placed layout domain_table).tree (beside layout) [] shown_terms [] trees [] (λ row. true) whole (λ row there. refl) rows answer)

shows_approvals : (old new : State) (rows : List Row) → IsReadyFor by_domain old → Shown approvals_text [] old new rows → ShowsApprovals old.now rows
shows_approvals old new rows ready h =
    let asks = approvals_are ready.schema.0 in
    answered old ready rows ((reads_as approvals_text [] old new (schema_of ready.schema.0) ready.schema.1 _ asks.command asks.plain asks.own_tables rows h).answer Null)

pub reads_approvals : ReadsAllOf by_domain approvals_text [] ShowsApprovals
reads_approvals A rows_of old new r =
    queries_inside approvals_text [] old new (λ layout. (approvals_are layout).plain) rows_of (λ db a. ShowsApprovals db (rows_of a)) (λ a ready h. shows_approvals old new (rows_of a) ready h) r
