-- Which rows of units are approved, where no state is above that of these.
use Rattle.std.proofs.Common.{◌≡◌, ℤ, pos, negsuc, zero, suc, [], ◌∷◌, codes, true, refl, sym, ap, subst, ◌∙◌, arith}
use Rattle.std.proofs.lemmas.Int.{ints}
use Rattle.std.specs.Ordering.{is_eq, is_le, int_cmp}
use Rattle.std.specs.Cmp.{int_cmp_is}
use Rattle.std.specs.declared.cmp.Ordering.TheVariants.{Greater}
use Rattle.sqlite.specs.declared.types.Value.TheVariants.{Int}
use Rattle.sqlite.specs.Order.{Row, column, value_cmp}
use Rattle.sqlite_value.proofs.OrderLemmas.{value_cmp-Int}
use Rattle.sqlite_rules.specs.Edit.{id_in}
use Rattle.sqlite_rules.specs.Lists.{Has}
use Rattle.units.specs.Units.{is_approved}
use Rattle.sql_statements.specs.Renewed.{is_approved_row}
use Rattle.sql_meaning.specs.Values.{integer_at, state_at}
use Rattle.sql_schema.specs.Layouts.{NamedRows}
use Rattle.sql_meaning.specs.RowKeys.{AreTypedRows}

-- ---- numbers of states

three_is_last : (n : ℤ) → is_le (int_cmp n (pos 3)) ≡ true → is_approved (state_at 0 (Int n ∷ [])) ≡ is_eq (value_cmp (Int n) (Int (pos 3)))
three_is_last n low = by_number n low ∙ ap is_eq (sym (value_cmp-Int n (pos 3)))
  where
    by_number : (n : ℤ) → is_le (int_cmp n (pos 3)) ≡ true → is_approved (state_at 0 (Int n ∷ [])) ≡ is_eq (int_cmp n (pos 3))
    by_number (negsuc m) low = refl
    by_number (pos zero) low = refl
    by_number (pos (suc zero)) low = refl
    by_number (pos (suc (suc zero))) low = refl
    by_number (pos (suc (suc (suc zero)))) low = refl
    by_number (pos (suc (suc (suc (suc k))))) low = absurd (let above : Greater ≡ int_cmp (pos (suc (suc (suc (suc k))))) (pos 3) = int_cmp_is (pos (suc (suc (suc (suc k))))) (pos 3) Greater (omega (arith, ints)) in let no = ap is_le above ∙ low in cc)

module _ (rows : NamedRows) (typed : AreTypedRows rows) (row : Row) (there : Has (rows (codes "unit")) row) where
  pub revision_is : column row 7 ≡ Int (id_in (column row 7))
  revision_is = let is = typed.unit_revisions row there in is ∙ ap Int (sym (ap id_in is))

  -- the row is approved where its state is 3
  pub approved_is : is_approved (state_at 5 row) ≡ is_approved_row row
  approved_is =
      subst (λ v. is_approved (state_at 0 (v ∷ [])) ≡ is_eq (value_cmp v (Int (pos 3)))) (sym (typed.unit_states row there))
      (three_is_last (integer_at 5 row) (typed.last_state row there))
