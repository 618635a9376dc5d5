-- What a query over two tables answers, where each row of the first that passes a test goes with one row of the second, and no other row
-- with any: as many rows as pass the test.
use Rattle.std.proofs.Common.{◌≡◌, ℕ, List, [], ◌∷◌, map, filter, Bool, true, false, cond, refl, ap, ◌∙◌}
use Rattle.std.specs.declared.cmp.Ordering.{Ordering}
use Rattle.std.specs.List.Sorted.{IsPermutation, IsSorted}
use Rattle.sqlite.specs.declared.types.Value.TheVariants.{Null}
use Rattle.sqlite.specs.Order.{Row}
use Rattle.sqlite.specs.Tree.{Trees}
use Rattle.sqlite.specs.Term.{Term}
use Rattle.sqlite_sql.specs.Term.{Env}
use Rattle.sqlite_sql.specs.Query.{matches_as}
use Rattle.sqlite.specs.Query.{Query, IsAnswer, inner, end, output, output_cmp}
use Rattle.sqlite_rules.specs.Lists.{Has}
use Rattle.sql_streams.specs.Joins.{joined_query, pass, show}
use Rattle.sql_streams.proofs.RowByRow.{picked, row_by_row, in_its_order}

module _ (first second : ℕ) (terms project : List Term) (by : List ℕ) (db : Trees) (params : Row) (test : Row → Bool) (partner : Row → Row)
    (one : (row : Row) → Has (db first) row → filter (pass params terms row) (db second) ≡ cond (test row) (partner row ∷ []) [])
    (rows : List Row) (answer : IsAnswer (joined_query first second terms project by) db params rows) where
  abbrev query : Query
  query = joined_query first second terms project by

  abbrev pair : Row → Env
  pair row = params ∷ row ∷ partner row ∷ []

  paired : (row : Row) (b : Bool) → map (λ other. params ∷ row ∷ other ∷ []) (cond b (partner row ∷ []) []) ≡ cond b (pair row ∷ []) []
  paired row true = refl
  paired row false = refl

  one_pair : (row : Row) → Has (db first) row → matches_as Null db terms (inner second end) (params ∷ row ∷ []) ≡ cond (test row) (pair row ∷ []) []
  one_pair row there = picked (pass params terms row) (λ other. params ∷ row ∷ other ∷ []) (db second) ∙ ap (map (λ other. params ∷ row ∷ other ∷ [])) (one row there) ∙ paired row (test row)

  pub joined_permuted : IsPermutation (map (λ row. show params project row (partner row)) (filter test (db first))) rows
  joined_permuted = row_by_row first (inner second end) terms project by db params test pair one_pair rows answer

  pub joined_in_order : (order : Row → Row → Ordering)
      → ((r s : Row) → Has (filter test (db first)) r → Has (filter test (db first)) s
      → output_cmp query (output query (pair r)) (output query (pair s)) ≡ order (show params project r (partner r)) (show params project s (partner s)))
      → IsSorted order rows
  joined_in_order = in_its_order first (inner second end) terms project by db params test pair one_pair rows answer
