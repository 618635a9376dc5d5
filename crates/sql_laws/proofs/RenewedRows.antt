-- A row is renewed where it stands: the old one goes by its rowid, and the new one comes.
use Rattle.std.proofs.Common.{◌≡◌, inl, inr, ℤ, List, [], ◌∷◌, true, refl, sym, ap, subst, ◌∙◌}
use Rattle.std.specs.Ordering.{is_eq}
use Rattle.std.specs.Cmp.{eq_by_cmp_equiv}
use Rattle.std.proofs.lemmas.Bool.{false_from_ne_true}
use Rattle.sqlite.specs.Order.{Row, value_cmp}
use Rattle.sqlite_value.proofs.OrderLemmas.{value_cmp_total}
use Rattle.sqlite.specs.Tree.{rowid}
use Rattle.sqlite_trees.specs.Tree.{has_rowid, put_row}
use Rattle.sqlite_rules.specs.declared.error.Rowids.TheVariants.{Given}
use Rattle.sqlite_rules.specs.Lists.{Has}
use Rattle.sqlite_rules.specs.Edit.{put_all, without_all, are_fresh, numbered, id_in}
use Rattle.sqlite_rules.proofs.TableLemmas.{put_all_has, put_all_keeps, put_all_adds, without_all_has, int_is}
use Rattle.sql_laws.specs.RowMaps.{OneEach, IsPut}
use Rattle.sql_laws.specs.ApartRows.{AreApart}
use Rattle.sql_laws.proofs.RemovedRows.{kept_without, dropped_without}

pub numbered-given : (rows news : List Row) → numbered Given rows news ≡ news
numbered-given rows [] = refl
numbered-given rows (n ∷ news) = ap (λ l. n ∷ l) (numbered-given (put_row n rows) news)

module _ {K : Type 0} (key : Row → K) where
  -- the row that goes has the key of the one that comes, and each new row is that one
  pub is_put_anew : (old new : List Row) (gone row : Row) (ids : List ℤ) (news : List Row) → AreApart old → OneEach key old
      → Has old gone → key gone ≡ key row
      → ((id : ℤ) → Has ids id → id ≡ id_in (rowid gone)) → Has ids (id_in (rowid gone)) → ((n : Row) → Has news n → n ≡ row) → Has news row
      → new ≡ put_all (without_all old ids) news → are_fresh (without_all old ids) news ≡ true → IsPut key old new row
  is_put_anew old new gone row ids news apart one there keyed those id_there these row_there is fresh = record {
    only = λ x h. elim (put_all_has news (without_all old ids) x (subst (λ l. Has l x) is h)) [
      | inl came ↦ inl (these x came)
      | inr left ↦ inr (
        without_all_has ids old x left,
        λ e.
            let x_is : x ≡ gone = one x gone (without_all_has ids old x left) there (e ∙ sym keyed) in
            let free = dropped_without ids old x (id_in (rowid gone)) left id_there in
            let hit : has_rowid (id_in (rowid gone)) x ≡ true = subst (λ y. has_rowid (id_in (rowid gone)) y ≡ true) (sym x_is) itself in
            cc,
      )
    ];
    here = subst (λ l. Has l row) (sym is) (put_all_adds news (without_all old ids) row fresh row_there);
    kept = λ x h differ. subst (λ l. Has l x) (sym is) (put_all_keeps news (without_all old ids) x fresh (kept_without ids old x h (λ id in_ids. false_from_ne_true (has_rowid id x) (λ hit.
        let tied = subst (λ k. has_rowid k x ≡ true) (those id in_ids) hit in
        let x_is : x ≡ gone = apart.apart x gone h there (subst (λ v. is_eq (value_cmp (rowid x) v) ≡ true) (sym (int_is (rowid gone) (apart.ints gone there))) tied) in
        differ (ap key x_is ∙ keyed)))));
  }
    where
      itself : has_rowid (id_in (rowid gone)) gone ≡ true
      itself = subst (λ v. is_eq (value_cmp (rowid gone) v) ≡ true) (int_is (rowid gone) (apart.ints gone there)) ((eq_by_cmp_equiv value_cmp_total).refl (rowid gone))
