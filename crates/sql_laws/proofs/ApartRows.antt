-- An edit keeps rows apart, and a unique index tells rows apart that differ.
use Rattle.std.proofs.Common.{◌≡◌, inl, inr, ℤ, List, [], ◌∷◌, Bool, true, false, not, ◌&&◌, refl, sym, ap, subst, ◌∙◌}
use Rattle.std.proofs.lemmas.Bool.{and_parts, and_from, or_parts, not-true, false_from_ne_true}
use Rattle.std.specs.declared.cmp.Ordering.{Ordering}
use Rattle.std.specs.declared.cmp.Ordering.TheVariants.{Less, Equal, Greater}
use Rattle.std.specs.Ordering.{is_eq, is_ne}
use Rattle.std.specs.Cmp.{eq_by_cmp_equiv}
use Rattle.sqlite.specs.declared.types.Value.{Value}
use Rattle.sqlite.specs.declared.types.Value.TheVariants.{Null, Int, Real, Text, Blob}
use Rattle.sqlite.specs.Order.{Row, value_cmp}
use Rattle.sqlite_value.proofs.OrderLemmas.{value_cmp_total}
use Rattle.sqlite.specs.Ops.{binary}
use Rattle.sqlite.specs.Tree.{Trees, rowid}
use Rattle.sqlite_trees.specs.Tree.{put_row, has_rowid, without_rowid}
use Rattle.sqlite_trees.proofs.ListLemmas.{ascending-filter}
use Rattle.sqlite_trees.specs.View.{is_int}
use Rattle.sqlite_schema.specs.declared.schema.Constraint.TheVariants.{Unique}
use Rattle.sqlite_schema.specs.declared.schema.Index.{Index}
use Rattle.sqlite_schema.specs.declared.schema.Table.{Table}
use Rattle.sqlite_schema.specs.declared.schema.Schema.{Schema}
use Rattle.sqlite_schema.specs.declared.schema.Keys.{Keys}
use Rattle.sqlite_schema.specs.Rules.{agree, differ, clashes, guards, Keeps}
use Rattle.sqlite_rules.specs.Lists.{Has}
use Rattle.sqlite_rules.specs.Edit.{Edit, Applies, put_all, is_taken, are_fresh, have_rowids, left_by, without_all}
use Rattle.sqlite_rules.proofs.ListLemmas.{all_has, all_from, test_has, some_from}
use Rattle.sqlite_rules.proofs.TableLemmas.{put_has, without_all_has}
use Rattle.sqlite_rules.proofs.RuleLemmas.{keeps_at}
use Rattle.sql_laws.specs.ApartRows.{AreApart, AreOnce}
use Rattle.sql_laws.proofs.Comparisons.{truth_is}

tied_back : (a b : Value) → is_eq (value_cmp a b) ≡ true → is_eq (value_cmp b a) ≡ true
tied_back a b e = sym ((eq_by_cmp_equiv value_cmp_total).symm a b) ∙ e

pub none_tied : (rows : List Row) (new r : Row) → is_taken rows new ≡ false → Has rows r
    → is_eq (value_cmp (rowid r) (rowid new)) ≡ true → ⊥
none_tied rows new r free there e = let taken = some_from (λ r. is_eq (value_cmp (rowid r) (rowid new))) rows r there e in cc

-- a row that is put has a rowid of its own
module _ (new r : Row) (rows : List Row) (free : is_taken (r ∷ rows) new ≡ false) (once : AreOnce (r ∷ rows)) (later : AreOnce (put_row new rows)) where
  free_of : (s : Row) → Has (r ∷ rows) s → is_eq (value_cmp (rowid s) (rowid new)) ≡ false
  free_of s there = false_from_ne_true _ (λ e. none_tied (r ∷ rows) new s free there e)

  free_back : (s : Row) → Has (r ∷ rows) s → is_eq (value_cmp (rowid new) (rowid s)) ≡ false
  free_back s there = false_from_ne_true _ (λ e. none_tied (r ∷ rows) new s free there (tied_back (rowid new) (rowid s) e))

  once_by : (o : Ordering) → value_cmp (rowid r) (rowid new) ≡ o → AreOnce (put_row new (r ∷ rows))
  once_by Less e = rw e (
    all_from (λ s. is_eq (value_cmp (rowid r) (rowid s)) ≡ false) (put_row new rows) (λ s there. elim (put_has new rows s there) [
      | inl is ↦ subst (λ (x : Row). is_eq (value_cmp (rowid r) (rowid x)) ≡ false) (sym is) (free_of r (inl refl))
      | inr was ↦ all_has (λ s. is_eq (value_cmp (rowid r) (rowid s)) ≡ false) rows s once.0 was
    ]),
    later,
  )
  once_by Equal e = absurd (none_tied (r ∷ rows) new r free (inl refl) (ap is_eq e))
  once_by Greater e = rw e (all_from (λ s. is_eq (value_cmp (rowid new) (rowid s)) ≡ false) (r ∷ rows) free_back, once)

once_put : (new : Row) (rows : List Row) → is_taken rows new ≡ false → AreOnce rows → AreOnce (put_row new rows)
once_put new [] free once = (tt, tt)
once_put new (r ∷ rows) free once = once_by new r rows free once (once_put new rows (or_parts _ _ free).1 once.1) (value_cmp (rowid r) (rowid new)) refl

pub apart_put : (new : Row) (rows : List Row) → is_int (rowid new) ≡ true → is_taken rows new ≡ false → AreApart rows
    → AreApart (put_row new rows)
apart_put new rows whole free was = record {
  ints = λ r h. elim (put_has new rows r h) [ inl is ↦ rw is whole | inr there ↦ was.ints r there ];
  apart = λ r s in_r in_s e. elim (put_has new rows r in_r) [
    | inl is_r ↦ elim (put_has new rows s in_s) [
      | inl is_s ↦ is_r ∙ sym is_s
      | inr there ↦ absurd (none_tied rows new s free there (tied_back (rowid new) (rowid s) (subst (λ x. is_eq (value_cmp (rowid x) (rowid s)) ≡ true) is_r e)))
    ]
    | inr here ↦ elim (put_has new rows s in_s) [
      | inl is_s ↦ absurd (none_tied rows new r free here (subst (λ x. is_eq (value_cmp (rowid r) (rowid x)) ≡ true) is_s e))
      | inr there ↦ was.apart r s here there e
    ]
  ];
  once = once_put new rows free was.once;
}

pub apart_put_all : (news rows : List Row) → have_rowids news ≡ true → are_fresh rows news ≡ true → AreApart rows
    → AreApart (put_all rows news)
apart_put_all [] rows whole fresh was = was
apart_put_all (n ∷ news) rows whole fresh was =
    let w = and_parts _ _ whole in let f = and_parts _ _ fresh in apart_put_all news (put_row n rows) w.1 f.1 (apart_put n rows w.0 (not-true _ f.0) was)

once_without : (ids : List ℤ) (rows : List Row) → AreOnce rows → AreOnce (without_all rows ids)
once_without [] rows once = once
once_without (id ∷ ids) rows once =
    once_without ids (without_rowid id rows) (ascending-filter (λ r s. is_eq (value_cmp (rowid r) (rowid s)) ≡ false) (λ r. not (has_rowid id r)) rows once)

pub apart_without : (ids : List ℤ) (rows : List Row) → AreApart rows → AreApart (without_all rows ids)
apart_without ids rows was = record {
  ints = λ r h. was.ints r (without_all_has ids rows r h);
  apart = λ r s in_r in_s e. was.apart r s (without_all_has ids rows r in_r) (without_all_has ids rows s in_s) e;
  once = once_without ids rows was.once;
}

pub apart_edited : (schema : Schema) (keys : Keys) (db next : Trees) (edit : Edit) → Applies schema keys db edit next
    → AreApart (db edit.table.tree) → AreApart (next edit.table.tree)
apart_edited schema keys db next edit applies was =
    subst AreApart (sym applies.rows) (apart_put_all edit.news (left_by db edit) applies.keyed applies.fresh (apart_without edit.gone (db edit.table.tree) was))

ne_false : (o : Ordering) → is_ne o ≡ false → is_eq o ≡ true
ne_false Less e = absurd cc
ne_false Equal e = refl
ne_false Greater e = absurd cc

differ_not : (a b : Value) → is_int a ≡ true → is_int b ≡ true → differ a b ≡ false → is_eq (value_cmp a b) ≡ true
unfolding binary lib.Ieee.is_nan lib.Ieee.lt
differ_not (Int m) (Int n) p q e = ne_false (value_cmp (Int m) (Int n)) (sym (truth_is (is_ne (value_cmp (Int m) (Int n)))) ∙ e)
differ_not (Int m) Null p q e = absurd cc
differ_not (Int m) (Real n) p q e = absurd cc
differ_not (Int m) (Text n) p q e = absurd cc
differ_not (Int m) (Blob n) p q e = absurd cc
differ_not Null b p q e = absurd cc
differ_not (Real x) b p q e = absurd cc
differ_not (Text x) b p q e = absurd cc
differ_not (Blob x) b p q e = absurd cc

neither : (a b : Bool) → a ≡ true → (a && b) ≡ false → b ≡ false
neither true b p e = e
neither false b p e = absurd cc

-- two rows that agree on a unique key are one
pub one_at_key : (schema : Schema) (db : Trees) (table : Table) (index : Index) → Keeps Unique schema db → Has schema.tables table
    → Has schema.indexes index → guards index table ≡ true → AreApart (db table.tree)
    → (r s : Row) → Has (db table.tree) r → Has (db table.tree) s → agree index.order index.columns r index.columns s ≡ true → r ≡ s
one_at_key schema db table index keeps listed indexed guarded apart r s in_r in_s agreed =
    let passed = test_has (λ i. not (guards i table && clashes i.order i.columns (db table.tree) s)) schema.indexes index (keeps_at Unique schema db table s keeps listed in_s) indexed in
    let clear : clashes index.order index.columns (db table.tree) s ≡ false = neither (guards index table) _ guarded (not-true _ passed) in
    let same : differ (rowid r) (rowid s) ≡ false = elim (differ (rowid r) (rowid s)) as (λ b. differ (rowid r) (rowid s) ≡ b → b ≡ false) [
      | true ↦ λ e. absurd (let clash = some_from (λ other. agree index.order index.columns other index.columns s && differ (rowid other) (rowid s)) (db table.tree) r in_r (and_from _ _ agreed e) in cc)
      | false ↦ λ e. refl
    ] refl in
    apart.apart r s in_r in_s (differ_not (rowid r) (rowid s) (apart.ints r in_r) (apart.ints s in_s) same)
