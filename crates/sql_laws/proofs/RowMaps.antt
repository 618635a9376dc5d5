-- How a finite map follows the rows that it stands for.
use Rattle.std.proofs.Common.{◌≡◌, inl, inr, ℕ, List, [], ◌∷◌, map, Bool, true, false, cond, Option, Some, None, refl, sym, ap, subst, ◌∙◌}
use Rattle.std.specs.declared.cmp.Ordering.{Ordering}
use Rattle.std.specs.declared.cmp.Ordering.TheVariants.{Less, Equal, Greater}
use Rattle.std.specs.Ordering.{is_eq, eq_by_cmp, nat_cmp}
use Rattle.std.specs.Cmp.Lexicographic.{slice_cmp, nat_list_cmp_total}
use Rattle.std.specs.Cmp.{IsTotalOrder, eq_by_cmp_equiv}
use Rattle.std.specs.FinMap.{IsAntisymmetric, slice_cmp-IsAntisymmetric, nat_cmp-IsAntisymmetric, find, get, insert, get-from_entries, get-insert, retain_keys, get-retain_keys, same_map}
use Rattle.sqlite.specs.Order.{Row}
use Rattle.sqlite_rules.specs.Lists.{Has}
use Rattle.sql_laws.specs.RowMaps.{map_of, OneEach, IsFound, IsPut, IsKept}

equal_is : (r : Ordering) → is_eq r ≡ true → r ≡ Equal
equal_is Less e = absurd cc
equal_is Equal e = refl
equal_is Greater e = absurd cc

pub texts_are_one : (a b : List ℕ) → is_eq (slice_cmp nat_cmp a b) ≡ true → a ≡ b
texts_are_one a b e = slice_cmp-IsAntisymmetric nat_cmp-IsAntisymmetric a b (equal_is (slice_cmp nat_cmp a b) e)

pub text_ties_itself : (a : List ℕ) → is_eq (slice_cmp nat_cmp a a) ≡ true
text_ties_itself a = (eq_by_cmp_equiv nat_list_cmp_total).refl a

module _ {K X : Type 0} (R : K → K → Ordering) (total : IsTotalOrder R) (same : IsAntisymmetric R) (key : Row → K) (value : Row → X) where
  tied : (q k : K) → eq_by_cmp R q k ≡ true → q ≡ k
  tied q k e = same q k (equal_is (R q k) e)

  itself : (k : K) → eq_by_cmp R k k ≡ true
  itself k = (eq_by_cmp_equiv total).refl k

  apart : (q k : K) → (q ≡ k → ⊥) → eq_by_cmp R q k ≡ false
  apart q k differ = elim (eq_by_cmp R q k) as (λ b. eq_by_cmp R q k ≡ b → b ≡ false) [ true ↦ λ e. absurd (differ (tied q k e)) | false ↦ λ e. refl ] refl

  entry : Row → K × X
  entry r = (key r, value r)

  is_found : (rows : List Row) (q : K) → IsFound key value rows q (find R q (map (λ r. (key r, value r)) rows))
  is_found [] q = λ r h e. h
  is_found (r ∷ rows) q =
      elim (eq_by_cmp R q (key r)) as (λ b. eq_by_cmp R q (key r) ≡ b → IsFound key value (r ∷ rows) q (cond b (Some (value r)) (find R q (map (λ r. (key r, value r)) rows)))) [
        | true ↦ λ e. (r, inl refl, sym (tied q (key r) e), refl)
        | false ↦ λ e. later (find R q (map (λ r. (key r, value r)) rows)) (is_found rows q) e
      ] refl
    where
      later : (o : Option X) → IsFound key value rows q o → eq_by_cmp R q (key r) ≡ false → IsFound key value (r ∷ rows) q o
      later (Some x) f e = (f.0, inr f.1, f.2, f.3)
      later None f e = λ s h k. elim h [
        | inl here ↦ let one = itself q in let two = subst (λ z. eq_by_cmp R q z ≡ false) (ap key (sym here) ∙ k) e in cc
        | inr there ↦ f s there k
      ]

  pub get-found : (rows : List Row) (q : K) → IsFound key value rows q (get (map_of R key value rows) q)
  get-found rows q = subst (IsFound key value rows q) (sym (get-from_entries total _ q)) (is_found rows q)

  -- what is found at a key is known from any row that has it
  found_same : (rows : List Row) (q : K) (a b : Option X) → OneEach key rows → IsFound key value rows q a
      → IsFound key value rows q b → a ≡ b
  found_same rows q None None one f g = refl
  found_same rows q None (Some y) one f g = absurd (f g.0 g.1 g.2)
  found_same rows q (Some x) None one f g = absurd (g f.0 f.1 f.2)
  found_same rows q (Some x) (Some y) one f g = ap Some (sym f.3 ∙ ap value (one f.0 g.0 f.1 g.1 (f.2 ∙ sym g.2)) ∙ g.3)

  pub get-is : (rows : List Row) (q : K) (a : Option X) → OneEach key rows → IsFound key value rows q a
      → get (map_of R key value rows) q ≡ a
  get-is rows q a one f = found_same rows q _ a one (get-found rows q) f

  pub one_each_put : (old new : List Row) (row : Row) → OneEach key old → IsPut key old new row → OneEach key new
  one_each_put old new row one p r s in_r in_s e = elim (p.only r in_r) [
    | inl is_r ↦ elim (p.only s in_s) [ inl is_s ↦ is_r ∙ sym is_s | inr other_s ↦ absurd (other_s.1 (sym e ∙ ap key is_r)) ]
    | inr other_r ↦ elim (p.only s in_s) [ inl is_s ↦ absurd (other_r.1 (e ∙ ap key is_s)) | inr other_s ↦ one r s other_r.0 other_s.0 e ]
  ]

  pub map_of-put : (old new : List Row) (row : Row) → OneEach key old → IsPut key old new row
      → map_of R key value new ≡ insert (map_of R key value old) (key row) (value row)
  map_of-put old new row one p = same_map total same _ _ (λ q. get-is new q _ (one_each_put old new row one p) (subst (IsFound key value new q) (sym (get-insert total _ (key row) (value row) q)) (at q)))
    where
      other : (q : K) → (q ≡ key row → ⊥) → (a : Option X) → IsFound key value old q a → IsFound key value new q a
      other q differ (Some x) f = (f.0, p.kept f.0 f.1 (λ e. differ (sym f.2 ∙ e)), f.2, f.3)
      other q differ None f = λ r h e. elim (p.only r h) [ inl is ↦ differ (sym e ∙ ap key is) | inr was ↦ f r was.0 e ]

      at : (q : K) → IsFound key value new q (cond (eq_by_cmp R q (key row)) (Some (value row)) (get (map_of R key value old) q))
      at q = elim (eq_by_cmp R q (key row)) as (λ b. eq_by_cmp R q (key row) ≡ b → IsFound key value new q (cond b (Some (value row)) (get (map_of R key value old) q))) [
        | true ↦ λ e. (row, p.here, sym (tied q (key row) e), refl)
        | false ↦ λ e. other q (λ is. let one = itself q in let two = subst (λ k. eq_by_cmp R q k ≡ false) (sym is) e in cc) _ (get-found old q)
      ] refl

  pub one_each_kept : (test : K → Bool) (old new : List Row) → OneEach key old → IsKept key test old new → OneEach key new
  one_each_kept test old new one p r s in_r in_s e = one r s (p.only r in_r).0 (p.only s in_s).0 e

  pub map_of-kept : (test : K → Bool) (old new : List Row) → OneEach key old → IsKept key test old new
      → map_of R key value new ≡ retain_keys (map_of R key value old) test
  map_of-kept test old new one p = same_map total same _ _ (λ q. get-is new q _ (one_each_kept test old new one p) (subst (IsFound key value new q) (sym (get-retain_keys _ test q (λ x e. ap test (sym (same q x e))))) (at q)))
    where
      here : (q : K) → test q ≡ true → (a : Option X) → IsFound key value old q a → IsFound key value new q a
      here q t (Some x) f = (f.0, p.kept f.0 f.1 (ap test f.2 ∙ t), f.2, f.3)
      here q t None f = λ r h e. f r (p.only r h).0 e

      at : (q : K) → IsFound key value new q (cond (test q) (get (map_of R key value old) q) None)
      at q = elim (test q) as (λ b. test q ≡ b → IsFound key value new q (cond b (get (map_of R key value old) q) None)) [
        | true ↦ λ t. here q t _ (get-found old q)
        | false ↦ λ t. λ r h e. let one = (p.only r h).1 in let two = subst (λ k. test k ≡ false) (sym e) t in cc
      ] refl

  pub map_of-same_rows : (old new : List Row) → OneEach key old → ((x : Row) → Has new x → Has old x)
      → ((x : Row) → Has old x → Has new x) → map_of R key value new ≡ map_of R key value old
  map_of-same_rows old new one only kept = same_map total same _ _ (λ q. get-is new q _ (λ r s in_r in_s e. one r s (only r in_r) (only s in_s) e) (moved q _ (get-found old q)))
    where
      moved : (q : K) (a : Option X) → IsFound key value old q a → IsFound key value new q a
      moved q (Some x) f = (f.0, kept f.0 f.1, f.2, f.3)
      moved q None f = λ r h e. f r (only r h) e
