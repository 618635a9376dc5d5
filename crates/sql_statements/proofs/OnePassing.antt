-- Where one row of a table passes, the rows that pass are this one, and where at most one does, they are the first of them or none.
use Rattle.std.proofs.Common.{◌≡◌, List, [], ◌∷◌, Bool, true, false, cond, filter, get_or, inl, inr, refl, sym, ap, subst, ◌∙◌}
use Rattle.std.specs.List.{list_any}
use Rattle.std.proofs.lemmas.Bool.{false_from_ne_true}
use Rattle.std.specs.Ordering.{is_eq}
use Rattle.std.specs.Cmp.{eq_by_cmp_equiv}
use Rattle.sqlite.specs.Order.{Row, value_cmp}
use Rattle.sqlite.specs.Tree.{rowid}
use Rattle.sqlite_value.proofs.OrderLemmas.{value_cmp_total}
use Rattle.sqlite_rules.specs.Lists.{Has}
use Rattle.sqlite_rules.proofs.ListLemmas.{all_has, some_has, some_from}
use Rattle.sql_laws.specs.ApartRows.{AreOnce}

pub none_passing : (test : Row → Bool) (rows : List Row) → ((row : Row) → Has rows row → test row ≡ false) → filter test rows ≡ []
none_passing test [] none = refl
none_passing test (row ∷ rows) none = rw (none row (inl refl)) (none_passing test rows (λ r there. none r (inr there)))

-- a row that stands first stands nowhere else
pub not_later : (row : Row) (rows : List Row) → AreOnce (row ∷ rows) → Has rows row → ⊥
not_later row rows once there =
    let apart : is_eq (value_cmp (rowid row) (rowid row)) ≡ false = all_has (λ s. is_eq (value_cmp (rowid row) (rowid s)) ≡ false) rows row once.0 there in
    let same : is_eq (value_cmp (rowid row) (rowid row)) ≡ true = (eq_by_cmp_equiv value_cmp_total).refl (rowid row) in
    absurd (let e : true ≡ false = sym same ∙ apart in cc)

-- the first row passes or doesn't
module _ (test : Row → Bool) (row : Row) (rows : List Row) (x : Row) (once : AreOnce (row ∷ rows)) (there : Has (row ∷ rows) x) (passes : test x ≡ true)
    (only : (r : Row) → Has (row ∷ rows) r → test r ≡ true → r ≡ x) (later : Has rows x → filter test rows ≡ x ∷ []) where
  first_passes : test row ≡ true → filter test (row ∷ rows) ≡ x ∷ []
  first_passes e =
      let same : row ≡ x = only row (inl refl) e in
      rw e (ap (λ more. row ∷ more) (none_passing test rows (λ r there. others r there (test r) refl)) ∙ ap (λ r. r ∷ []) same)
    where
      others : (r : Row) → Has rows r → (b : Bool) → test r ≡ b → test r ≡ false
      others r there false t = t
      others r there true t = absurd (not_later row rows once (subst (Has rows) (only r (inr there) t ∙ sym (only row (inl refl) e)) there))

  first_fails : test row ≡ false → filter test (row ∷ rows) ≡ x ∷ []
  first_fails e = rw e (elim there [
    | inl same ↦ absurd (let no : true ≡ false = sym passes ∙ ap test same ∙ e in cc)
    | inr behind ↦ later behind
  ])

  by_first : (b : Bool) → test row ≡ b → filter test (row ∷ rows) ≡ x ∷ []
  by_first true e = first_passes e
  by_first false e = first_fails e

pub one_passing : (test : Row → Bool) (rows : List Row) (x : Row) → AreOnce rows → Has rows x → test x ≡ true → ((row : Row) → Has rows row → test row ≡ true → row ≡ x) → filter test rows ≡ x ∷ []
one_passing test [] x once there passes only = absurd there
one_passing test (row ∷ rows) x once there passes only =
    by_first test row rows x once there passes only (λ behind. one_passing test rows x once.1 behind passes (λ r at. only r (inr at))) (test row) refl

-- at most one passes
module _ (test : Row → Bool) (rows : List Row) (once : AreOnce rows) (one : (r s : Row) → Has rows r → Has rows s → test r ≡ true → test s ≡ true → r ≡ s) where
  pub first_or_none : filter test rows ≡ cond (list_any test rows) (get_or (filter test rows) 0 [] ∷ []) []
  first_or_none = by (list_any test rows) refl
    where
      by : (b : Bool) → list_any test rows ≡ b → filter test rows ≡ cond b (get_or (filter test rows) 0 [] ∷ []) []
      by true e =
          let x = some_has test rows e in
          let is = one_passing test rows x.0 once x.1 x.2 (λ r there passes. one r x.0 there x.1 passes x.2) in
          is ∙ ap (λ l. get_or l 0 [] ∷ []) (sym is)
      by false e = none_passing test rows (λ r there. false_from_ne_true (test r) (λ passes. let some = some_from test rows r there passes in let none = e in cc))
