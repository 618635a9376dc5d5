-- What a query over one table answers, where its rows come by a column that it shows.
use Rattle.std.proofs.Common.{◌≡◌, ℕ, ◌+◌, ◌<◌, List, [], ◌∷◌, map, filter, length, get_or, sym, ap, subst, ◌∙◌, arith}
use Rattle.std.specs.Ordering.{is_lt}
use Rattle.std.specs.List.Sorted.{IsSortedByKey}
use Rattle.std.proofs.lemmas.List.{length-map, get_or-map, get_or_default}
use Rattle.sqlite.specs.Order.{Row, column, value_cmp}
use Rattle.sqlite_value.proofs.OrderLemmas.{then-Equal}
use Rattle.sqlite.specs.Tree.{Trees}
use Rattle.sqlite.specs.Term.{Term}
use Rattle.sqlite_sql.specs.Term.{eval}
use Rattle.sqlite.specs.Query.{IsAnswer, Output, output}
use Rattle.sqlite_rules.specs.Lists.{Has}
use Rattle.sqlite_rules.proofs.ListLemmas.{has_at}
use Rattle.sql_laws.specs.PlainQueries.{passes, shows}
use Rattle.sql_laws.specs.OrderedQueries.{ordered_query}
use Rattle.sql_laws.proofs.PlainQueries.{outputs_are}
use Rattle.sql_laws.proofs.RemovedRows.{from_mapped, has_permuted}

-- what is put in order by its first part is so by its second, where the two have the same value
second_sorted : (outputs : List Output) (place : ℕ) → ((o : Output) → Has outputs o → column o.0 0 ≡ column o.1 place)
    → IsSortedByKey (λ (o : Output). column o.0 0) value_cmp outputs → IsSortedByKey (λ row. column row place) value_cmp (map (λ (o : Output). o.1) outputs)
second_sorted outputs place same sorted k d low high =
    let pad : Output = ([], d) in
    let long : length (map (λ (o : Output). o.1) outputs) ≡ length outputs = length-map outputs (λ (o : Output). o.1) in
    rw (at (k + 1) (omega arith), at k (omega arith)) (sorted k pad low (omega arith))
  where
    at : (i : ℕ) → i < length outputs → column (get_or (map (λ (o : Output). o.1) outputs) i d) place ≡ column (get_or outputs i ([], d)).0 0
    at i below =
        ap (λ row. column row place) (get_or-map (λ (o : Output). o.1) outputs i ([], d) d below)
        ∙ sym (same (get_or outputs i ([], d)) (has_at outputs i _ below (get_or_default outputs i _ _ below)))

module _ (tree place : ℕ) (terms project : List Term) (by : Term) (db : Trees) (params : Row) (rows : List Row)
    (shown : (row : Row) → eval by (params ∷ row ∷ []) ≡ column (shows params project row) place)
    (a : IsAnswer (ordered_query tree terms project by) db params rows) where
  sorts_by_shown : (o : Output) → Has a.ordered o → column o.0 0 ≡ column o.1 place
  sorts_by_shown o there =
      let kept = subst (λ l. Has l o) (outputs_are tree terms project _ db params rows a) (has_permuted a.kept a.ordered o a.same there) in
      let env = from_mapped (output (ordered_query tree terms project by)) _ o kept in
      let row = from_mapped (λ r. params ∷ r ∷ []) (filter (passes params terms) (db tree)) env.0 env.1 in
      rw (env.2, row.2) (shown row.0)

  pub answers_in_order : IsSortedByKey (λ row. column row place) value_cmp rows
  answers_in_order =
      subst (IsSortedByKey (λ row. column row place) value_cmp) (sym a.shown)
      (second_sorted a.ordered place sorts_by_shown (λ k d low high. ap is_lt (sym (then-Equal _)) ∙ a.sorted k d low high))
