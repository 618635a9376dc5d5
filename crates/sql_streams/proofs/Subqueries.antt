-- What subqueries over one table bring for a row: how many rows pass their tests, and a column of the first that does.
use Rattle.std.proofs.Common.{◌≡◌, ℕ, List, [], ◌∷◌, ◌++◌, map, filter, fold, length, Option, Some, refl, ap, ◌∙◌}
use Rattle.std.specs.Prelude.{slice_index_or}
use Rattle.std.specs.List.{list_all}
use Rattle.std.proofs.lemmas.List.{length-map}
use Rattle.sqlite.specs.declared.types.Value.TheVariants.{Null}
use Rattle.sqlite.specs.Order.{Row, column}
use Rattle.sqlite.specs.Tree.{Trees}
use Rattle.sqlite.specs.Term.{Term, col}
use Rattle.sqlite.specs.Query.{inner, end}
use Rattle.sqlite_sql.specs.Term.{Env, holds}
use Rattle.sqlite_sql.specs.Query.{matches_as, sort_cmp, lesser, least, shown_by}
use Rattle.sql_streams.specs.RowQueries.{first_column}
use Rattle.sql_streams.proofs.RowByRow.{picked}

-- with no order the first match is the least
first_least : (f : Row → Env) (best : Env) (rows : List Row) → fold (lesser (sort_cmp [])) (Some best) (map f rows) ≡ Some best
first_least f best [] = refl
first_least f best (row ∷ rows) = first_least f best rows

module _ (db : Trees) (table : ℕ) (test : List Term) (env : Env) where
  -- the rows that pass beside what came before
  abbrev pub passing : List Row
  passing = filter (λ other. list_all (holds (env ++ other ∷ [])) test) (db table)

  matched : matches_as Null db test (inner table end) env ≡ map (λ other. env ++ other ∷ []) passing
  matched = picked (λ other. list_all (holds (env ++ other ∷ [])) test) (λ other. env ++ other ∷ []) (db table)

  pub counted_in : length (matches_as Null db test (inner table end) env) ≡ length passing
  counted_in = ap length matched ∙ length-map passing (λ other. env ++ other ∷ [])

  -- the slot is the one behind what came before
  module _ (slot place : ℕ) (at_slot : (row : Row) → slice_index_or (env ++ row ∷ []) slot [] ≡ row) where
    first_told : (rows : List Row) → column (shown_by (col slot place ∷ []) (least (sort_cmp []) (map (λ other. env ++ other ∷ []) rows))) 0 ≡ first_column place rows
    first_told [] = refl
    first_told (row ∷ rows) =
        ap (λ (o : Option Env). column (shown_by (col slot place ∷ []) o) 0) (first_least (λ other. env ++ other ∷ []) (env ++ row ∷ []) rows) ∙ ap (λ (r : Row). column r place) (at_slot row)

    pub first_in : column (shown_by (col slot place ∷ []) (least (sort_cmp []) (matches_as Null db test (inner table end) env))) 0 ≡ first_column place passing
    first_in = ap (λ (envs : List Env). column (shown_by (col slot place ∷ []) (least (sort_cmp []) envs)) 0) matched ∙ first_told passing
