-- What a query over one table answers: what it shows of the rows that pass.
use Rattle.std.proofs.Common.{◌≡◌, ℕ, List, [], ◌∷◌, ◌++◌, map, filter, flat_map, Bool, true, false, cond, refl, sym, ap, subst, ◌∙◌}
use Rattle.std.specs.List.Sorted.{IsPermutation}
use Rattle.std.proofs.lemmas.List.Sorted.{IsPermutation-map}
use Rattle.sqlite.specs.Order.{Row}
use Rattle.sqlite.specs.Tree.{Trees}
use Rattle.sqlite.specs.Term.{Term}
use Rattle.sqlite_sql.specs.Term.{Env}
use Rattle.sqlite_value.specs.declared.keys.Key.{Key}
use Rattle.sqlite.specs.Query.{Query, IsAnswer, Output, output}
use Rattle.sql_laws.specs.PlainQueries.{plain_query, passes, shows}

picked : {A B : Type 0} (p : A → Bool) (g : A → B) (xs : List A)
    → flat_map (λ x. cond (p x) (g x ∷ []) []) xs ≡ map g (filter p xs)
picked p g [] = refl
picked p g (x ∷ xs) = elim (p x) as (λ b. cond b (g x ∷ []) [] ++ flat_map (λ x. cond (p x) (g x ∷ []) []) xs ≡ map g (cond b (x ∷ filter p xs) (filter p xs))) [
  | true ↦ ap (λ ys. g x ∷ ys) (picked p g xs)
  | false ↦ picked p g xs
]

twice : {A B C : Type 0} (g : B → C) (f : A → B) (xs : List A) → map g (map f xs) ≡ map (λ x. g (f x)) xs
twice g f [] = refl
twice g f (x ∷ xs) = ap (λ ys. g (f x) ∷ ys) (twice g f xs)

-- whatever the order that is asked for
module _ (tree : ℕ) (terms project : List Term) (order : List (Term × Key)) (db : Trees) (params : Row) (rows : List Row)
    (a : IsAnswer (record (plain_query tree terms project) { order = order }) db params rows) where
  abbrev query : Query
  query = record (plain_query tree terms project) { order = order }

  abbrev envs : List Env
  envs = map (λ r. params ∷ r ∷ []) (filter (passes params terms) (db tree))

  pub outputs_are : a.kept ≡ map (output query) envs
  outputs_are = a.distinct ∙ ap (map (output query)) (a.grouped ∙ picked (passes params terms) (λ r. params ∷ r ∷ []) (db tree))

  pub ordered_permuted : IsPermutation (map (shows params project) (filter (passes params terms) (db tree))) rows
  ordered_permuted =
      let shown : map (λ (o : Output). o.1) a.kept ≡ map (shows params project) (filter (passes params terms) (db tree)) =
      ap (map (λ (o : Output). o.1)) outputs_are ∙ ap (map (λ (o : Output). o.1)) (twice (output query) (λ r. params ∷ r ∷ []) _) ∙ twice (λ (o : Output). o.1) (λ r. output query (params ∷ r ∷ [])) _ in
      subst (λ xs. IsPermutation xs rows) shown (subst (IsPermutation (map (λ (o : Output). o.1) a.kept)) (sym a.shown) (IsPermutation-map (λ (o : Output). o.1) _ _ a.same))

pub answers_permuted : (tree : ℕ) (terms project : List Term) (db : Trees) (params : Row) (rows : List Row)
    → IsAnswer (plain_query tree terms project) db params rows
    → IsPermutation (map (shows params project) (filter (passes params terms) (db tree))) rows
answers_permuted tree terms project db params rows a = ordered_permuted tree terms project [] db params rows a
