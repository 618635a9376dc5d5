-- What a query answers that goes through the rows of one table, each with what else its text brings for it: one row is shown of each that passes.
use Rattle.std.proofs.Common.{◌≡◌, ℕ, ◌+◌, ◌<◌, List, [], ◌∷◌, ◌++◌, map, filter, flat_map, length, get_or, Bool, true, false, cond, inl, inr, refl, sym, ap, subst, ◌∙◌, arith}
use Rattle.std.specs.declared.cmp.Ordering.{Ordering}
use Rattle.std.specs.Ordering.{is_lt}
use Rattle.std.specs.List.Sorted.{IsPermutation, IsSorted}
use Rattle.std.proofs.lemmas.List.{length-map, get_or-map, get_or_default}
use Rattle.std.proofs.lemmas.List.Sorted.{IsPermutation-map}
use Rattle.sqlite.specs.declared.types.Value.TheVariants.{Null}
use Rattle.sqlite.specs.Order.{Row}
use Rattle.sqlite.specs.Tree.{Trees}
use Rattle.sqlite.specs.Term.{Term}
use Rattle.sqlite_sql.specs.Term.{Env, eval_all}
use Rattle.sqlite_sql.specs.Query.{Join, matches_as}
use Rattle.sqlite.specs.Query.{Query, IsAnswer, Output, output, output_cmp}
use Rattle.sqlite_rules.specs.Lists.{Has}
use Rattle.sqlite_rules.proofs.ListLemmas.{has_at}
use Rattle.sql_laws.proofs.RemovedRows.{from_mapped, has_permuted}
use Rattle.sql_streams.specs.RowQueries.{row_query}

twice : {A B C : Type 0} (g : B → C) (f : A → B) (xs : List A) → map g (map f xs) ≡ map (λ x. g (f x)) xs
twice g f [] = refl
twice g f (x ∷ xs) = ap (λ ys. g (f x) ∷ ys) (twice g f xs)

pub picked : {A B : Type 0} (p : A → Bool) (g : A → B) (xs : List A)
    → flat_map (λ x. cond (p x) (g x ∷ []) []) xs ≡ map g (filter p xs)
picked p g [] = refl
picked p g (x ∷ xs) = elim (p x) as (λ b. cond b (g x ∷ []) [] ++ flat_map (λ x. cond (p x) (g x ∷ []) []) xs ≡ map g (cond b (x ∷ filter p xs) (filter p xs))) [
  | true ↦ ap (λ ys. g x ∷ ys) (picked p g xs)
  | false ↦ picked p g xs
]

one_or_none : {A B : Type 0} (f : A → List B) (test : A → Bool) (g : A → B) (xs : List A) → ((x : A) → Has xs x → f x ≡ cond (test x) (g x ∷ []) [])
    → flat_map f xs ≡ map g (filter test xs)
one_or_none f test g [] one = refl
one_or_none f test g (x ∷ xs) one = rw (one x (inl refl)) (elim (test x) as (λ b. cond b (g x ∷ []) [] ++ flat_map f xs ≡ map g (cond b (x ∷ filter test xs) (filter test xs))) [
  | true ↦ ap (λ ys. g x ∷ ys) (one_or_none f test g xs (λ y there. one y (inr there)))
  | false ↦ one_or_none f test g xs (λ y there. one y (inr there))
])

-- what is in the order of outputs is in an order of what they show, where the two compare alike
shown_sorted : (outputs : List Output) (compare : Output → Output → Ordering) (by : Row → Row → Ordering)
    → ((o p : Output) → Has outputs o → Has outputs p → compare o p ≡ by o.1 p.1) → IsSorted compare outputs
    → IsSorted by (map (λ (o : Output). o.1) outputs)
shown_sorted outputs compare by alike sorted k d low high =
    let pad : Output = ([], d) in
    let long : length (map (λ (o : Output). o.1) outputs) ≡ length outputs = length-map outputs (λ (o : Output). o.1) in
    let first = there k (omega arith) in
    let second = there (k + 1) (omega arith) in
    rw (get_or-map (λ (o : Output). o.1) outputs (k + 1) pad d (omega arith), get_or-map (λ (o : Output). o.1) outputs k pad d (omega arith))
    (ap is_lt (sym (alike _ _ second first)) ∙ sorted k pad low (omega arith))
  where
    there : (i : ℕ) → i < length outputs → Has outputs (get_or outputs i ([], d))
    there i below = has_at outputs i _ below (get_or_default outputs i _ _ below)

module _ (first : ℕ) (more : Join) (terms project : List Term) (by : List ℕ) (db : Trees) (params : Row) (test : Row → Bool) (env : Row → Env)
    (one : (row : Row) → Has (db first) row → matches_as Null db terms more (params ∷ row ∷ []) ≡ cond (test row) (env row ∷ []) [])
    (rows : List Row) (answer : IsAnswer (row_query first more terms project by) db params rows) where
  abbrev query : Query
  query = row_query first more terms project by

  abbrev chosen : List Row
  chosen = filter test (db first)

  envs_are : answer.staged ≡ map env chosen
  envs_are = answer.grouped ∙ one_or_none (λ row. matches_as Null db terms more (params ∷ row ∷ [])) test env (db first) one

  outputs_are : answer.kept ≡ map (λ row. output query (env row)) chosen
  outputs_are = answer.distinct ∙ ap (map (output query)) envs_are ∙ twice (output query) env chosen

  pub row_by_row : IsPermutation (map (λ row. eval_all project (env row)) chosen) rows
  row_by_row =
      let shown : map (λ (o : Output). o.1) answer.kept ≡ map (λ row. eval_all project (env row)) chosen =
      ap (map (λ (o : Output). o.1)) outputs_are ∙ twice (λ (o : Output). o.1) (λ row. output query (env row)) chosen in
      subst (λ xs. IsPermutation xs rows) shown (subst (IsPermutation (map (λ (o : Output). o.1) answer.kept)) (sym answer.shown) (IsPermutation-map (λ (o : Output). o.1) _ _ answer.same))

  from_row : (o : Output) → Has answer.ordered o → (row : Row) × Has chosen row × (o ≡ output query (env row))
  from_row o there = from_mapped (λ row. output query (env row)) chosen o (subst (λ l. Has l o) outputs_are (has_permuted answer.kept answer.ordered o answer.same there))

  pub in_its_order : (order : Row → Row → Ordering)
      → ((r s : Row) → Has chosen r → Has chosen s → output_cmp query (output query (env r)) (output query (env s)) ≡ order (eval_all project (env r)) (eval_all project (env s)))
      → IsSorted order rows
  in_its_order order alike = subst (IsSorted order) (sym answer.shown) (shown_sorted answer.ordered (output_cmp query) order compare_alike answer.sorted)
    where
      compare_alike : (o p : Output) → Has answer.ordered o → Has answer.ordered p → output_cmp query o p ≡ order o.1 p.1
      compare_alike o p at_o at_p =
          let r = from_row o at_o in
          let s = from_row p at_p in
          rw (r.2, s.2) (alike r.0 s.0 r.1 s.1)
