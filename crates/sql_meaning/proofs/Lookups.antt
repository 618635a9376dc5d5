-- What a query by a key finds of the map that the rows stand for, and what a new row makes of it, where the rows' own key and that of
-- the map tell the same rows apart.
use Rattle.std.proofs.Common.{◌≡◌, inl, inr, List, Option, Some, None, option_map, sym, ap, subst, ◌∙◌}
use Rattle.std.specs.declared.cmp.Ordering.{Ordering}
use Rattle.std.specs.Cmp.{IsTotalOrder}
use Rattle.std.specs.FinMap as maps
use Rattle.std.specs.FinMap.{IsAntisymmetric}
use Rattle.sqlite.specs.Order.{Row}
use Rattle.sqlite_rules.specs.Lists.{Has}
use Rattle.sql_laws.specs.RowMaps.{OneEach, IsFound, IsPut, map_of}
use Rattle.sql_laws.proofs.RowMaps.{get-is, map_of-put}

module _ {K Q : Type 0} (key : Row → K) (place : Row → Q) (Reads : Row → Type 0) where
  -- rows that can be read are of one key exactly where they are at one place
  pub record AreOneKey : Type 0 where
    pub forth : (r s : Row) → Reads r → Reads s → key r ≡ key s → place r ≡ place s
    pub back : (r s : Row) → Reads r → Reads s → place r ≡ place s → key r ≡ key s

  -- the key that is asked for is that of this place
  pub record IsKeyOf (q : K) (at : Q) : Type 0 where
    pub forth : (r : Row) → Reads r → key r ≡ q → place r ≡ at
    pub back : (r : Row) → Reads r → place r ≡ at → key r ≡ q

  module _ {X : Type 0} (R : Q → Q → Ordering) (total : IsTotalOrder R) (same : IsAntisymmetric R) (value : Row → X) where
    pub finds : (rows : List Row) (q : K) (at : Q) (cells : Row → Row) (shown : Row → X) (found : Option Row)
        → ((r : Row) → Has rows r → Reads r) → OneEach key rows → AreOneKey → IsKeyOf q at
        → ((r : Row) → key r ≡ q → value r ≡ shown (cells r)) → IsFound key cells rows q found
        → maps.get (map_of R place value rows) at ≡ option_map shown found
    finds rows q at cells shown found all one keys asked read it = get-is R total same place value rows at (option_map shown found) one_place (by found it)
      where
        one_place : OneEach place rows
        one_place r s in_r in_s e = one r s in_r in_s (keys.back r s (all r in_r) (all s in_s) e)

        by : (found : Option Row) → IsFound key cells rows q found → IsFound place value rows at (option_map shown found)
        by (Some row) f = (f.0, f.1, asked.forth f.0 (all f.0 f.1) f.2, read f.0 f.2 ∙ ap shown f.3)
        by None f = λ row there is. f row there (asked.back row (all row there) is)

    pub puts : (old new : List Row) (row : Row) → ((r : Row) → Has old r → Reads r) → Reads row → OneEach key old → AreOneKey → IsPut key old new row
        → map_of R place value new ≡ maps.insert (map_of R place value old) (place row) (value row)
    puts old new row all reads one keys it =
        map_of-put R total same place value old new row (λ r s in_r in_s e. one r s in_r in_s (keys.back r s (all r in_r) (all s in_s) e)) (record {
          only = λ x there. elim (it.only x there) [
            | inl is ↦ inl is
            | inr was ↦ inr (was.0, λ e. was.1 (keys.back x row (all x was.0) reads e))
          ];
          here = it.here;
          kept = λ x there differ. it.kept x there (λ e. differ (keys.forth x row (all x there) reads e));
        })

  pub all_read : (old new : List Row) (row : Row) → ((r : Row) → Has old r → Reads r) → Reads row → IsPut key old new row
      → (r : Row) → Has new r → Reads r
  all_read old new row all reads it r there = elim (it.only r there) [ inl is ↦ subst Reads (sym is) reads | inr was ↦ all r was.0 ]
