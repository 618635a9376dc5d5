-- A table of which no key is referred to in a way that acts where a row of it is put.
use Rattle.std.proofs.Common.{◌≡◌, inl, inr, ℕ, suc, ◌==◌, List, [], ◌∷◌, length, Bool, true, false, ◌||◌, refl, sym, subst, arith}
use Rattle.std.specs.List.{flat_map, filter_map}
use Rattle.std.proofs.lemmas.Bool.Decides.{eqb_tells}
use Rattle.sqlite.specs.Order.{Row}
use Rattle.sqlite_schema.specs.declared.schema.Keys.TheVariants.{Enforced}
use Rattle.sqlite_schema.specs.Rules.{parent_key}
use Rattle.sqlite_rules.specs.Action.{Work, works, work_by, pairs, deed_for}
use Rattle.sqlite.specs.Schema.{Schema}

-- what is set off, by whether rows only go
abbrev pub works_with : Schema → ℕ → Bool → List Row → List Row → List Work
works_with schema tree b olds news = flat_map (λ child. filter_map (λ ref. work_by 0 tree (pairs olds news) child ref (deed_for Enforced b ref) (parent_key schema.tables ref)) child.references) schema.tables

pub none_refers : (schema : Schema) (tree : ℕ) → ((olds news : List Row) → works_with schema tree false olds news ≡ []) → (n : Row) (rest olds : List Row) → works schema Enforced 0 tree olds (n ∷ rest) ≡ []
none_refers schema tree none n rest olds = subst (λ b. works_with schema tree b olds (n ∷ rest) ≡ []) (sym (some (length rest))) (none olds (n ∷ rest))
  where
    some : (m : ℕ) → (suc m == 0) ≡ false
    some m = elim (eqb_tells (suc m) 0) [ inl same ↦ absurd (omega (arith, same.1)) | inr other ↦ other.0 ]

pub drop_false : (b : Bool) → (b || false) ≡ true → b ≡ true
drop_false true h = refl
drop_false false h = absurd cc
