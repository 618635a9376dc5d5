-- One row goes into a table that is seen as a map.
use Rattle.std.proofs.Common.{◌≡◌, inl, inr, List, [], ◌∷◌, true, sym, subst}
use Rattle.std.proofs.lemmas.Bool.{and_parts, not-true}
use Rattle.std.specs.Ordering.{is_eq}
use Rattle.std.specs.Cmp.{eq_by_cmp_equiv}
use Rattle.sqlite.specs.Order.{Row, value_cmp}
use Rattle.sqlite_value.proofs.OrderLemmas.{value_cmp_total}
use Rattle.sqlite.specs.Tree.{rowid}
use Rattle.sqlite_trees.specs.Tree.{put_row}
use Rattle.sqlite_rules.specs.Lists.{Has}
use Rattle.sqlite_rules.specs.Edit.{are_fresh}
use Rattle.sqlite_rules.proofs.TableLemmas.{has_put, put_has, put_all_keeps}
use Rattle.sql_laws.specs.RowMaps.{OneEach, IsPut}
use Rattle.sql_laws.proofs.ApartRows.{none_tied}

module _ {K : Type 0} (key : Row → K) where
  pub is_put : (old new : List Row) (row : Row) → new ≡ put_row row old → are_fresh old (row ∷ []) ≡ true → OneEach key new
      → IsPut key old new row
  is_put old new row is fresh one =
      let kept : (x : Row) → Has old x → Has new x = λ x h. subst (λ l. Has l x) (sym is) (put_all_keeps (row ∷ []) old x fresh h) in
      let here : Has new row = subst (λ l. Has l row) (sym is) (has_put row old) in
      record {
        only = λ x h. elim (put_has row old x (subst (λ l. Has l x) is h)) [
          | inl new ↦ inl new
          | inr there ↦ inr (
            there,
            λ e. none_tied old row x (not-true _ (and_parts _ _ fresh).0) there
                (subst (λ y. is_eq (value_cmp (rowid y) (rowid row)) ≡ true) (sym (one x row (kept x there) here e)) ((eq_by_cmp_equiv value_cmp_total).refl (rowid row))),
          )
        ];
        here = here;
        kept = λ x h differ. kept x h;
      }
