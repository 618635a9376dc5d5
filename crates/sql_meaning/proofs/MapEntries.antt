-- The finite map that rows stand for, known by its entries, and two such maps of the same rows.
use Rattle.std.proofs.Common.{◌≡◌, ◌⊎◌, inl, inr, List, [], ◌∷◌, Bool, true, false, not, cond, Option, Some, None, refl, sym, ap, subst, ◌∙◌}
use Rattle.std.specs.Prelude.{T}
use Rattle.std.proofs.lemmas.Bool.{and_parts}
use Rattle.std.specs.declared.cmp.Ordering.{Ordering}
use Rattle.std.specs.declared.cmp.Ordering.TheVariants.{Less, Equal, Greater}
use Rattle.std.specs.Ordering.{is_eq, is_lt, eq_by_cmp, ordering_reverse}
use Rattle.std.specs.Cmp.{Equal-is, IsTotalOrder, tied_itself, eq_by_cmp_equiv}
use Rattle.std.specs.FinMap.{FinMap, IsAntisymmetric, find, is_sorted, entries, entries_sorted, get, get-entries, get-insert, get-remove, get-retain_keys, insert, remove, retain_keys, same_map}
use Rattle.std.specs.FinMap.Entries.{below_all}
use Rattle.sqlite.specs.Order.{Row}
use Rattle.sqlite_rules.specs.Lists.{Has}
use Rattle.sql_laws.specs.ApartRows.{IsRemoved}
use Rattle.sql_laws.specs.RowMaps.{OneEach, IsFound, IsPut, map_of}
use Rattle.sql_laws.proofs.RowMaps.{get-found, get-is, one_each_put, map_of-kept}

pub true_of : (b : Bool) → T b → b ≡ true
true_of true h = refl
true_of false h = absurd h

less_is : (r : Ordering) → is_lt r ≡ true → r ≡ Less
less_is Less e = refl
less_is Equal e = absurd cc
less_is Greater e = absurd cc

-- a key doesn't tie with one below it
not_tied : {K : Type 0} (R : K → K → Ordering) → IsTotalOrder R → (q k : K) → R k q ≡ Less → eq_by_cmp R q k ≡ false
not_tied R total q k below = ap is_eq (total.antisymm q k ∙ ap ordering_reverse below)

module _ {K X : Type 0} (R : K → K → Ordering) (total : IsTotalOrder R) where
  -- ---- entries in order

  pub below_has : (k : K) (es : List (K × X)) (e : K × X) → below_all R k es ≡ true → Has es e → R k e.0 ≡ Less
  below_has k [] e below there = absurd there
  below_has k (f ∷ es) e below (inl same) = subst (λ (x : K × X). R k x.0 ≡ Less) (sym same) (less_is _ (and_parts _ _ below).0)
  below_has k (f ∷ es) e below (inr later) = below_has k es e (and_parts _ _ below).1 later

  find_entry : (es : List (K × X)) (e : K × X) → is_sorted R es ≡ true → Has es e → find R e.0 es ≡ Some e.1
  find_entry [] e rising there = absurd there
  find_entry (f ∷ es) e rising (inl same) =
      subst (λ (x : K × X). find R x.0 (f ∷ es) ≡ Some x.1) (sym same) (ap (λ r. cond (is_eq r) (Some f.1) (find R f.0 es)) (tied_itself total f.0))
  find_entry (f ∷ es) e rising (inr later) =
      let below = below_has f.0 es e (and_parts _ _ rising).0 later in
      ap (λ b. cond b (Some f.1) (find R e.0 es)) (not_tied R total e.0 f.0 below) ∙ find_entry es e (and_parts _ _ rising).1 later

  pub get_entry : (m : FinMap R X) (e : K × X) → Has (entries m) e → get m e.0 ≡ Some e.1
  get_entry m e there = get-entries m e.0 ∙ find_entry (entries m) e (true_of _ (entries_sorted m)) there

  found_entry : IsAntisymmetric R → (es : List (K × X)) (q : K) (x : X) → find R q es ≡ Some x → (e : K × X) × Has es e × (e.0 ≡ q) × (e.1 ≡ x)
  found_entry same [] q x is = absurd (let e = is in cc)
  found_entry same (f ∷ es) q x is = by (eq_by_cmp R q f.0) refl is (found_entry same es q x)
    where
      by : (b : Bool) → eq_by_cmp R q f.0 ≡ b → cond b (Some f.1) (find R q es) ≡ Some x
          → (find R q es ≡ Some x → (e : K × X) × Has es e × (e.0 ≡ q) × (e.1 ≡ x)) → (e : K × X) × Has (f ∷ es) e × (e.0 ≡ q) × (e.1 ≡ x)
      by true tied here rest = (f, inl refl, sym (same q f.0 ((Equal-is _).0 tied)), cc)
      by false other there rest = let later = rest there in (later.0, inr later.1, later.2, later.3)

  pub entry_of_get : IsAntisymmetric R → (m : FinMap R X) (q : K) (x : X) → get m q ≡ Some x → (e : K × X) × Has (entries m) e × (e.0 ≡ q) × (e.1 ≡ x)
  entry_of_get same m q x is = found_entry same (entries m) q x (sym (get-entries m q) ∙ is)

  -- two entries in order with one key are one
  pub apart_keys : (k : K) (es : List (K × X)) (e : K × X) → below_all R k es ≡ true → Has es e → e.0 ≡ k → ⊥
  apart_keys k es e below there is =
      let less = subst (λ q. R k q ≡ Less) is (below_has k es e below there) in
      let tied = tied_itself total k in
      cc

module _ {K X : Type 0} (R : K → K → Ordering) (total : IsTotalOrder R) (same : IsAntisymmetric R) (key : Row → K) where
  -- ---- the map of rows that have exactly these entries

  pub map_of-entries : (value : Row → X) (rows : List Row) (m : FinMap R X) → ((r : Row) → Has rows r → (e : K × X) × Has (entries m) e × (key r ≡ e.0) × (value r ≡ e.1))
      → ((e : K × X) → Has (entries m) e → (r : Row) × Has rows r × (key r ≡ e.0)) → map_of R key value rows ≡ m
  map_of-entries value rows m each all = same_map total same _ _ (λ q. by q (get (map_of R key value rows) q) refl (get-found R total same key value rows q))
    where
      by : (q : K) (o : Option X) → get (map_of R key value rows) q ≡ o → IsFound key value rows q o → get (map_of R key value rows) q ≡ get m q
      by q (Some x) is found =
          let entry = each found.0 found.1 in
          let at_key : get m q ≡ Some entry.0.1 = ap (get m) (sym found.2 ∙ entry.2) ∙ get_entry R total m entry.0 entry.1 in
          is ∙ ap Some (sym found.3 ∙ entry.3) ∙ sym at_key
      by q None is none = is ∙ sym (missing (get m q) refl)
        where
          missing : (o : Option X) → get m q ≡ o → o ≡ None
          missing None e = refl
          missing (Some x) e =
              let entry = entry_of_get R total same m q x e in
              let row = all entry.0 entry.1 in
              absurd (none row.0 row.1 (row.2 ∙ entry.2))

  -- ---- the same rows with the same values

  pub map_of-agreeing : (before after : Row → X) (old new : List Row) → OneEach key old → ((x : Row) → Has new x → Has old x) → ((x : Row) → Has old x → Has new x)
      → ((x : Row) → Has old x → after x ≡ before x) → map_of R key after new ≡ map_of R key before old
  map_of-agreeing before after old new one only kept agree =
      same_map total same _ _ (λ q. get-is R total same key after new q _ (λ r s in_r in_s e. one r s (only r in_r) (only s in_s) e) (moved q _ (get-found R total same key before old q)))
    where
      moved : (q : K) (a : Option X) → IsFound key before old q a → IsFound key after new q a
      moved q (Some x) f = (f.0, kept f.0 f.1, f.2, agree f.0 f.1 ∙ f.3)
      moved q None f = λ r h e. f r (only r h) e

  -- a row is put, and the values of the others stay
  pub map_of-put_agreeing : (before after : Row → X) (old new : List Row) (row : Row) → OneEach key old → IsPut key old new row
      → ((x : Row) → Has old x → (key x ≡ key row → ⊥) → after x ≡ before x) → map_of R key after new ≡ insert (map_of R key before old) (key row) (after row)
  map_of-put_agreeing before after old new row one put agree =
      same_map total same _ _ (λ q. get-is R total same key after new q _ (one_each_put R total same key after old new row one put)
      (subst (IsFound key after new q) (sym (get-insert total _ (key row) (after row) q)) (at q)))
    where
      other : (q : K) → (q ≡ key row → ⊥) → (a : Option X) → IsFound key before old q a → IsFound key after new q a
      other q differ (Some x) f = let apart : key f.0 ≡ key row → ⊥ = λ e. differ (sym f.2 ∙ e) in (f.0, put.kept f.0 f.1 apart, f.2, agree f.0 f.1 apart ∙ f.3)
      other q differ None f = λ r h e. elim (put.only r h) [ inl is ↦ differ (sym e ∙ ap key is) | inr was ↦ f r was.0 e ]

      at : (q : K) → IsFound key after new q (cond (eq_by_cmp R q (key row)) (Some (after row)) (get (map_of R key before old) q))
      at q = elim (eq_by_cmp R q (key row)) as (λ b. eq_by_cmp R q (key row) ≡ b → IsFound key after new q (cond b (Some (after row)) (get (map_of R key before old) q))) [
        | true ↦ λ e. (row, put.here, sym (same q (key row) ((Equal-is _).0 e)), refl)
        | false ↦ λ e. other q (λ is. let one = (eq_by_cmp_equiv total).refl (key row) in let two = subst (λ k. eq_by_cmp R k (key row) ≡ false) is e in cc) _ (get-found R total same key before old q)
      ] refl

  -- the rows stay, and the values of all but those of one key
  pub map_of-changed : (before after : Row → X) (rows : List Row) (row : Row) → OneEach key rows → Has rows row → ((x : Row) → Has rows x → (key x ≡ key row → ⊥) → after x ≡ before x)
      → map_of R key after rows ≡ insert (map_of R key before rows) (key row) (after row)
  map_of-changed before after rows row one there agree =
      map_of-put_agreeing before after rows rows row one (record { only = only; here = there; kept = λ x in_x differ. in_x }) agree
    where
      only : (x : Row) → Has rows x → (x ≡ row) ⊎ (Has rows x × (key x ≡ key row → ⊥))
      only x in_x = elim (eq_by_cmp R (key x) (key row)) as (λ b. eq_by_cmp R (key x) (key row) ≡ b → (x ≡ row) ⊎ (Has rows x × (key x ≡ key row → ⊥))) [
        | true ↦ λ e. inl (one x row in_x there (same (key x) (key row) ((Equal-is _).0 e)))
        | false ↦ λ e. inr (in_x, λ is. let tied = (eq_by_cmp_equiv total).refl (key row) in let apart = subst (λ k. eq_by_cmp R k (key row) ≡ false) is e in cc)
      ] refl

  -- ---- the rows of one key go

  all_but : (m : FinMap R X) (k : K) → retain_keys m (λ q. not (eq_by_cmp R q k)) ≡ remove m k
  all_but m k = same_map total same _ _ (λ q.
      get-retain_keys m (λ x. not (eq_by_cmp R x k)) q (λ x e. ap (λ z. not (eq_by_cmp R z k)) (sym (same q x e))) ∙ turned (eq_by_cmp R q k) (get m q) ∙ sym (get-remove total m k q))
    where
      turned : (b : Bool) (o : Option X) → cond (not b) o None ≡ cond b None o
      turned true o = refl
      turned false o = refl

  pub map_of-removed : (value : Row → X) (old new : List Row) (k : K) → OneEach key old → IsRemoved (λ r. eq_by_cmp R (key r) k) old new → map_of R key value new ≡ remove (map_of R key value old) k
  map_of-removed value old new k one removed =
      map_of-kept R total same key value (λ q. not (eq_by_cmp R q k)) old new one (record {
        only = λ x there. let was = removed.only x there in (was.0, ap not was.1);
        kept = λ x there other. removed.kept x there (not_true _ other);
      })
      ∙ all_but (map_of R key value old) k
    where
      not_true : (b : Bool) → not b ≡ true → b ≡ false
      not_true true e = absurd cc
      not_true false e = refl

  -- an entry has the key of a row
  pub row_of_entry : (value : Row → X) (rows : List Row) (e : K × X) → Has (entries (map_of R key value rows)) e → (r : Row) × Has rows r × (key r ≡ e.0)
  row_of_entry value rows e there =
      let found = subst (IsFound key value rows e.0) (get_entry R total (map_of R key value rows) e there) (get-found R total same key value rows e.0) in
      (found.0, found.1, found.2)
