-- What a query over one table answers inside a transaction, where its rows come by some of the columns that it shows.
use Rattle.std.proofs.Common.{◌≡◌, ℕ, ◌+◌, ◌<◌, List, [], ◌∷◌, ◌++◌, map, filter, length, get_or, Bool, false, refl, sym, ap, subst, ◌∙◌, arith}
use Rattle.std.proofs.Math.Path.{fun_ext}
use Rattle.std.specs.declared.cmp.Ordering.{Ordering}
use Rattle.std.specs.Ordering.{is_lt}
use Rattle.std.specs.List.Sorted.{IsPermutation, IsSorted}
use Rattle.std.proofs.lemmas.List.{length-map, get_or-map, get_or_default}
use Rattle.sqlite.specs.Collation.TheVariants.{Binary}
use Rattle.sqlite.specs.declared.types.Value.TheVariants.{Null}
use Rattle.sqlite.specs.Order.{Row}
use Rattle.sqlite.specs.Term.{Term, col}
use Rattle.sqlite.specs.Program.{overlay}
use Rattle.sqlite.specs.Query.{Query, IsAnswer, Output, output, output_cmp}
use Rattle.sqlite.specs.Tree.{Trees}
use Rattle.sqlite.specs.State.{State, Begins, Shown}
use Rattle.sqlite.specs.Listing.{understood}
use Rattle.sqlite.proofs.Callers.{IsPlain, reads_as, begins_as}
use Rattle.sqlite_rules.specs.Lists.{Has}
use Rattle.sqlite_rules.proofs.ListLemmas.{has_at}
use Rattle.sql_laws.specs.PlainQueries.{plain_query, passes}
use Rattle.sql_laws.proofs.PlainQueries.{outputs_are, ordered_permuted}
use Rattle.sql_laws.proofs.RemovedRows.{from_mapped, has_permuted}
use Rattle.sqlite.specs.Table.{Table}
use Rattle.sql_schema.specs.Keys.{columns}
use Rattle.sql_schema.specs.Inside.{IsReadyFor}
use Rattle.sql_schema.proofs.Queries.{Asks, ReadsAllOf, AreTestsOf, queries_inside, filtered_same, rows_read, shows_columns}
use Rattle.sql_statements.specs.Tables.{by_columns, ShowsTable, ShowsPart}
use Rattle.sql_schema.specs.Layouts.{Form, Layout, schema_of, placed, rows_named, IsPlaced}

-- these columns of a table's rows that pass the tests, upwards by some of them, one after the other
abbrev pub part_query : ℕ → List Term → List ℕ → List ℕ → Query
part_query tree terms places by =
    record (plain_query tree terms (map (col 1) places)) { order = map (λ place. (col 1 place, record { collation = Binary; descending = false })) by }

abbrev pub IsPartQueryOf : Form → List ℕ → Table → List Term → List ℕ → List ℕ → List (List ℕ) → Type 0
IsPartQueryOf form text table terms places by names = (layout : Layout form) → Asks layout text (part_query (placed layout table).tree terms places by) names

-- of all its rows
abbrev pub table_query : ℕ → List ℕ → List ℕ → Query
table_query tree = part_query tree []

abbrev pub IsTableQueryOf : Form → List ℕ → Table → List ℕ → List ℕ → List (List ℕ) → Type 0
IsTableQueryOf form text table places by names = (layout : Layout form) → Asks layout text (table_query (placed layout table).tree places by) names

-- what is in the order of outputs is in an order of what they show, where the two compare alike
shown_sorted : (outputs : List Output) (compare : Output → Output → Ordering) (by : Row → Row → Ordering)
    → ((o p : Output) → Has outputs o → Has outputs p → compare o p ≡ by o.1 p.1) → IsSorted compare outputs
    → IsSorted by (map (λ (o : Output). o.1) outputs)
shown_sorted outputs compare by alike sorted k d low high =
    let pad : Output = ([], d) in
    let long : length (map (λ (o : Output). o.1) outputs) ≡ length outputs = length-map outputs (λ (o : Output). o.1) in
    let first = there k (omega arith) in
    let second = there (k + 1) (omega arith) in
    rw (get_or-map (λ (o : Output). o.1) outputs (k + 1) pad d (omega arith), get_or-map (λ (o : Output). o.1) outputs k pad d (omega arith))
    (ap is_lt (sym (alike _ _ second first)) ∙ sorted k pad low (omega arith))
  where
    there : (i : ℕ) → i < length outputs → Has outputs (get_or outputs i ([], d))
    there i below = has_at outputs i _ below (get_or_default outputs i _ _ below)

all_pass : (rows : List Row) → filter (passes [] []) rows ≡ rows
all_pass [] = refl
all_pass (row ∷ rows) = ap (λ more. row ∷ more) (all_pass rows)

-- the answer of such a query on a tree
module _ (tree : ℕ) (terms : List Term) (places by order : List ℕ) (params : Row)
    (alike : (r s : Row) → output_cmp (part_query tree terms places by) (output (part_query tree terms places by) (params ∷ r ∷ [])) (output (part_query tree terms places by) (params ∷ s ∷ []))
    ≡ by_columns order (columns places r) (columns places s)) where
  abbrev query : Query
  query = part_query tree terms places by

  abbrev of_row : Row → Output
  of_row row = output query (params ∷ row ∷ [])

  module _ (db : Trees) (rows : List Row) (answer : IsAnswer query db params rows) where
    from_row : (o : Output) → Has answer.ordered o → (row : Row) × (o ≡ of_row row)
    from_row o there =
        let kept = subst (λ l. Has l o) (outputs_are tree terms (map (col 1) places) _ db params rows answer) (has_permuted answer.kept answer.ordered o answer.same there) in
        let env = from_mapped (output query) _ o kept in
        let row = from_mapped (λ r. params ∷ r ∷ []) (filter (passes params terms) (db tree)) env.0 env.1 in
        (row.0, env.2 ∙ ap (output query) row.2)

    compare_alike : (o p : Output) → Has answer.ordered o → Has answer.ordered p → output_cmp query o p ≡ by_columns order o.1 p.1
    compare_alike o p at_o at_p =
        let r = from_row o at_o in
        let s = from_row p at_p in
        rw (r.1, s.1) (alike r.0 s.0 ∙ (λ i. by_columns order (sym (shows_columns params places r.0) i) (sym (shows_columns params places s.0) i)))

    in_order : IsSorted (by_columns order) rows
    in_order = subst (IsSorted (by_columns order)) (sym answer.shown) (shown_sorted answer.ordered (output_cmp query) (by_columns order) compare_alike answer.sorted)

    all_shown : IsPermutation (map (columns places) (filter (passes params terms) (db tree))) rows
    all_shown =
        subst (λ l. IsPermutation l rows) (ap (λ (f : Row → Row). map f (filter (passes params terms) (db tree))) (fun_ext (shows_columns params places)))
        (ordered_permuted tree terms (map (col 1) places) _ db params rows answer)

-- the rows that pass a test
module _ {form : Form} (text : List ℕ) (table : Table) (is_placed : (layout : Layout form) → IsPlaced layout table) (terms : List Term) (places by order : List ℕ) (names : List (List ℕ))
    (means : IsPartQueryOf form text table terms places by names) (params : Row) (test : Row → Bool) (tests : AreTestsOf form table.name params terms test)
    (alike : (tree : ℕ) (r s : Row) → output_cmp (part_query tree terms places by) (output (part_query tree terms places by) (params ∷ r ∷ [])) (output (part_query tree terms places by) (params ∷ s ∷ []))
    ≡ by_columns order (columns places r) (columns places s)) where
  shows_part : (old new : State) (rows : List Row) → IsReadyFor form old → Shown text params old new rows → ShowsPart table.name test places order old.now rows
  shows_part old new rows ready h =
      let layout = ready.schema.0 in
      let tree = (placed layout table).tree in
      let asks = means layout in
      let read = reads_as text params old new (schema_of layout) ready.schema.1 _ asks.command asks.plain asks.own_tables rows h in
      let answer = read.answer Null in
      let passing = ap (λ l. map (columns places) (filter (passes params terms) l)) (rows_read layout table (is_placed layout) old.now ready.schema.1)
      ∙ ap (map (columns places)) (filtered_same (passes params terms) test (rows_named old.now table.name) (tests old.now ready.schema ready.sound ready.tables)) in
      record {
        all = subst (λ l. IsPermutation l rows) passing (all_shown tree terms places by order params (alike tree) (overlay old.now.trees []) rows answer);
        in_order = in_order tree terms places by order params (alike tree) (overlay old.now.trees []) rows answer;
      }

  pub reads_part : ReadsAllOf form text params (ShowsPart table.name test places order)
  reads_part A rows_of old new r =
      queries_inside text params old new (λ layout. (means layout).plain) rows_of (λ db a. ShowsPart table.name test places order db (rows_of a)) (λ a ready h. shows_part old new (rows_of a) ready h) r

-- all of them
module _ {form : Form} (text : List ℕ) (table : Table) (is_placed : (layout : Layout form) → IsPlaced layout table) (places by order : List ℕ) (names : List (List ℕ)) (means : IsTableQueryOf form text table places by names)
    (alike : (tree : ℕ) (r s : Row) → output_cmp (table_query tree places by) (output (table_query tree places by) ([] ∷ r ∷ [])) (output (table_query tree places by) ([] ∷ s ∷ []))
    ≡ by_columns order (columns places r) (columns places s)) where
  answer_shows : (s : State) (ready : IsReadyFor form s) (rows : List Row) → IsAnswer (table_query (placed ready.schema.0 table).tree places by) (overlay s.now.trees []) [] rows
      → ShowsTable table.name places order s.now rows
  answer_shows s ready rows answer =
      let layout = ready.schema.0 in
      let tree = (placed layout table).tree in
      record {
        all = subst (λ l. IsPermutation (map (columns places) l) rows) (all_pass (overlay s.now.trees [] tree) ∙ rows_read layout table (is_placed layout) s.now ready.schema.1)
            (all_shown tree [] places by order [] (alike tree) (overlay s.now.trees []) rows answer);
        in_order = in_order tree [] places by order [] (alike tree) (overlay s.now.trees []) rows answer;
      }

  shows_table : (old new : State) (rows : List Row) → IsReadyFor form old → Shown text [] old new rows → ShowsTable table.name places order old.now rows
  shows_table old new rows ready h =
      let asks = means ready.schema.0 in
      answer_shows old ready rows ((reads_as text [] old new (schema_of ready.schema.0) ready.schema.1 _ asks.command asks.plain asks.own_tables rows h).answer Null)

  -- of a walk
  pub table_shown : (s : State) → IsReadyFor form s → (rows : List Row) → Shown text [] s s rows → ShowsTable table.name places order s.now rows
  table_shown s ready rows h = shows_table s s rows ready h

  -- what rows that begin an answer are a part of
  pub table_begun : (s : State) → IsReadyFor form s → (rows : List Row) → Begins text [] s rows → (tail : List Row) × ShowsTable table.name places order s.now (rows ++ tail)
  table_begun s ready rows h =
      let asks = means ready.schema.0 in
      let read = begins_as text [] s s (schema_of ready.schema.0) ready.schema.1 _ asks.command asks.plain asks.own_tables rows h in
      (read.1.0, answer_shows s ready (rows ++ read.1.0) (read.1.1 Null))

  pub table_plain : (s : State) → IsReadyFor form s → IsPlain (understood s.now.schema text)
  table_plain s ready = subst (λ t. IsPlain (understood t text)) (sym ready.schema.1) (means ready.schema.0).plain

  pub reads_table : ReadsAllOf form text [] (ShowsTable table.name places order)
  reads_table A rows_of old new r =
      queries_inside text [] old new (λ layout. (means layout).plain) rows_of (λ db a. ShowsTable table.name places order db (rows_of a)) (λ a ready h. shows_table old new (rows_of a) ready h) r
