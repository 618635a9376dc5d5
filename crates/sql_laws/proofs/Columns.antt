-- What a column of a row holds, in a database that obeys its schema.
use Rattle.std.proofs.Common.{◌≡◌, ◌⊎◌, inl, inr, ℤ, ℕ, zero, suc, ◌+◌, List, [], ◌∷◌, drop, Bool, true, false, cond, not, ◌||◌, Option, Some, slice_get, slice_index_or, refl, sym, ap, subst, ◌∙◌, arith}
use Rattle.std.proofs.lemmas.Bool.{and_parts}
use Rattle.sqlite.specs.declared.types.Value.{Value}
use Rattle.sqlite.specs.declared.types.Value.TheVariants.{Null, Int, Real, Text, Blob}
use Rattle.sqlite.specs.Order.{Row, column}
use Rattle.sqlite_sql.specs.Ops.{is_null}
use Rattle.sqlite.specs.Kind.TheVariants as kind
use Rattle.sqlite_schema.specs.declared.schema.Constraint.TheVariants.{Datatype, NotNull}
use Rattle.sqlite_schema.specs.declared.schema.Column.{Column}
use Rattle.sqlite_schema.specs.declared.schema.Table.{Table}
use Rattle.sqlite_schema.specs.declared.schema.Schema.{Schema}
use Rattle.sqlite_schema.specs.Rules.{suits, are_typed, are_present, Obeys}
use Rattle.sqlite_schema.specs.Names.{is_key}
use Rattle.sqlite.specs.Tree.{Trees}
use Rattle.sqlite_rules.specs.Lists.{Has}
use Rattle.sqlite_rules.proofs.RuleLemmas.{keeps_at}

pub typed_at : (key : Option ℕ) (at : ℕ) (cs : List Column) (vs : Row) (i : ℕ) (c : Column) → slice_get cs i ≡ Some c
    → is_key key (at + i) ≡ false → are_typed key at cs vs ≡ true
    → (is_null (slice_index_or vs i Null) ≡ true) ⊎ (suits c (slice_index_or vs i Null) ≡ true)
typed_at key at [] vs i c got free typed = absurd cc
typed_at key at (d ∷ cs) [] i c got free typed = inl refl
typed_at key at (d ∷ cs) (v ∷ vs) zero c got free typed =
    let same : d ≡ c = cc in
    let here : is_key key at ≡ false = rw (let e : at + 0 ≡ at = omega arith in e) at free in
    let fits : cond (is_key key at) (is_null v) (suits d v) ≡ true = (and_parts _ _ typed).0 in
    inr (subst (λ x. suits x v ≡ true) same (rw here at fits))
typed_at key at (d ∷ cs) (v ∷ vs) (suc i) c got free typed =
    typed_at key (at + 1) cs vs i c got (rw (let e : at + suc i ≡ (at + 1) + i = omega arith in e) at free) (and_parts _ _ typed).1

pub present_at : (key : Option ℕ) (at : ℕ) (cs : List Column) (row : Row) (i : ℕ) (c : Column) → slice_get cs i ≡ Some c
    → is_key key (at + i) ≡ false → c.not_null ≡ true → are_present key at cs row ≡ true
    → is_null (column row ((at + i) + 1)) ≡ false
present_at key at [] row i c got free not_null present = absurd cc
present_at key at (d ∷ cs) row zero c got free not_null present =
    let same : d ≡ c = cc in
    let e : at + 0 ≡ at = omega arith in
    let here : is_key key at ≡ false = rw e at free in
    let there : (is_key key at || not d.not_null || not (is_null (column row (at + 1)))) ≡ true = (and_parts _ _ present).0 in
    let strict : d.not_null ≡ true = ap (λ (x : Column). x.not_null) same ∙ not_null in
    rw e (turned (is_null (column row (at + 1))) (rw (here, strict) at there))
  where
    turned : (b : Bool) → (false || (not true || not b)) ≡ true → b ≡ false
    turned true h = absurd cc
    turned false h = refl
present_at key at (d ∷ cs) row (suc i) c got free not_null present =
    let e : at + suc i ≡ (at + 1) + i = omega arith in
    rw e (present_at key (at + 1) cs row i c got (rw e at free) not_null (and_parts _ _ present).1)

-- what a value of a STRICT column is, by the column's kind
module _ (c : Column) (strict : c.is_strict ≡ true) where
  pub text_is : (v : Value) → c.kind ≡ kind.Text → (is_null v ≡ true) ⊎ (suits c v ≡ true)
      → (v ≡ Null) ⊎ ((t : List ℕ) × (v ≡ Text t))
  text_is Null k fits = inl refl
  text_is (Int n) k (inl h) = absurd cc
  text_is (Int n) k (inr h) = absurd (let e = rw (k, strict) at h in cc)
  text_is (Real n) k (inl h) = absurd cc
  text_is (Real n) k (inr h) = absurd (let e = rw (k, strict) at h in cc)
  text_is (Text t) k fits = inr (t, refl)
  text_is (Blob n) k (inl h) = absurd cc
  text_is (Blob n) k (inr h) = absurd (let e = rw (k, strict) at h in cc)

  pub int_is : (v : Value) → c.kind ≡ kind.Integer → (is_null v ≡ true) ⊎ (suits c v ≡ true)
      → (v ≡ Null) ⊎ ((n : ℤ) × (v ≡ Int n))
  int_is Null k fits = inl refl
  int_is (Int n) k fits = inr (n, refl)
  int_is (Real n) k (inl h) = absurd cc
  int_is (Real n) k (inr h) = absurd (let e = rw (k, strict) at h in cc)
  int_is (Text t) k (inl h) = absurd cc
  int_is (Text t) k (inr h) = absurd (let e = rw (k, strict) at h in cc)
  int_is (Blob n) k (inl h) = absurd cc
  int_is (Blob n) k (inr h) = absurd (let e = rw (k, strict) at h in cc)

not_null : {P : Type 0} (v : Value) → is_null v ≡ false → (v ≡ Null) ⊎ P → P
not_null v some (inl is) = absurd (let e = subst (λ x. is_null x ≡ false) is some in cc)
not_null v some (inr p) = p

past_rowid : (row : Row) (i : ℕ) → slice_index_or (drop 1 row) i Null ≡ column row (i + 1)
past_rowid [] i = sym (none (i + 1))
  where
    none : (n : ℕ) → column [] n ≡ Null
    none n = refl
past_rowid (v ∷ vs) i = let e : i + 1 ≡ suc i = omega arith in rw e refl

-- column i of a row of a table, which isn't the rowid's other name; in the row it stands behind the rowid
module _ (schema : Schema) (db : Trees) (table : Table) (row : Row) (i : ℕ) (c : Column) (obeys : Obeys schema db) (listed : Has schema.tables table)
    (there : Has (db table.tree) row) (got : slice_get table.columns i ≡ Some c) (free : is_key table.key i ≡ false) where
  free_from : is_key table.key (0 + i) ≡ false
  free_from = subst (λ k. is_key table.key k ≡ false) (let e : i ≡ 0 + i = omega arith in e) free

  suits_column : (is_null (column row (i + 1)) ≡ true) ⊎ (suits c (column row (i + 1)) ≡ true)
  suits_column =
      let typed : are_typed table.key 0 table.columns (drop 1 row) ≡ true = (and_parts _ _ (keeps_at Datatype schema db table row (obeys.rules Datatype) listed there)).0 in
      subst (λ v. (is_null v ≡ true) ⊎ (suits c v ≡ true)) (past_rowid row i) (typed_at table.key 0 table.columns (drop 1 row) i c got free_from typed)

  is_present : c.not_null ≡ true → is_null (column row (i + 1)) ≡ false
  is_present filled =
      let present = keeps_at NotNull schema db table row (obeys.rules NotNull) listed there in
      subst (λ k. is_null (column row (k + 1)) ≡ false) (let e : 0 + i ≡ i = omega arith in e)
      (present_at table.key 0 table.columns row i c got free_from filled present)

  module _ (strict : c.is_strict ≡ true) where
    pub text_or_null_at : c.kind ≡ kind.Text → (column row (i + 1) ≡ Null) ⊎ ((t : List ℕ) × (column row (i + 1) ≡ Text t))
    text_or_null_at k = text_is c strict _ k suits_column

    pub text_at : c.kind ≡ kind.Text → c.not_null ≡ true → (t : List ℕ) × (column row (i + 1) ≡ Text t)
    text_at k filled = not_null _ (is_present filled) (text_or_null_at k)

    pub int_at : c.kind ≡ kind.Integer → c.not_null ≡ true → (n : ℤ) × (column row (i + 1) ≡ Int n)
    int_at k filled = not_null _ (is_present filled) (int_is c strict _ k suits_column)
