-- What becomes of the rows that are seen where a row of the table behind them is put, or rows are taken out.
use Rattle.std.proofs.Common.{◌≡◌, ◌⊎◌, inl, inr, List, filter, Bool, true, false, Option, Some, None, sym, ap, subst, ◌∙◌}
use Rattle.sqlite.specs.Order.{Row}
use Rattle.sqlite_rules.specs.Lists.{Has}
use Rattle.sqlite_rules.proofs.ListLemmas.{has_filtered, has_kept}
use Rattle.sql_laws.specs.ApartRows.{IsRemoved}
use Rattle.sql_laws.specs.RowMaps.{OneEach, IsFound, IsPut}
use Rattle.sql_laws.proofs.RemovedRows.{from_mapped, to_mapped}
use Rattle.sql_schema.specs.SeenRows.{rows_seen, AreSame}

-- a row that is seen is one that passes
pub from_seen : (test : Row → Bool) (seen : Row → Row) (rows : List Row) (x : Row) → Has (rows_seen test seen rows) x → (r : Row) × Has rows r × (test r ≡ true) × (x ≡ seen r)
from_seen test seen rows x there =
    let m = from_mapped seen (filter test rows) x there in
    let f = has_filtered test rows m.0 m.1 in
    (m.0, f.0, f.1, m.2)

pub to_seen : (test : Row → Bool) (seen : Row → Row) (rows : List Row) (r : Row) → Has rows r → test r ≡ true → Has (rows_seen test seen rows) (seen r)
to_seen test seen rows r there passes = to_mapped seen (filter test rows) r (has_kept test rows r there passes)

-- Rows are known by a key of the whole table, and those that are seen by a key of their own.
pub record IsKeyedAlike {K Q : Type 0} (test : Row → Bool) (seen : Row → Row) (whole : Row → K) (own : Row → Q) : Type 0 where
  -- rows of one key are all seen, or none of them
  pub alike : (r s : Row) → whole r ≡ whole s → test r ≡ test s
  pub forth : (r s : Row) → whole r ≡ whole s → own (seen r) ≡ own (seen s)
  pub back : (r s : Row) → test r ≡ true → test s ≡ true → own (seen r) ≡ own (seen s) → whole r ≡ whole s

module _ {K Q : Type 0} {test : Row → Bool} {seen : Row → Row} {whole : Row → K} {own : Row → Q} (is : IsKeyedAlike test seen whole own) where
  pub one_seen : (rows : List Row) → OneEach whole rows → OneEach own (rows_seen test seen rows)
  one_seen rows one x y in_x in_y e =
      let r = from_seen test seen rows x in_x in
      let s = from_seen test seen rows y in_y in
      let same : own (seen r.0) ≡ own (seen s.0) = ap own (sym r.3) ∙ e ∙ ap own s.3 in
      r.3 ∙ ap seen (one r.0 s.0 r.1 s.1 (is.back r.0 s.0 r.2 s.2 same)) ∙ sym s.3

  module _ (old new : List Row) (row : Row) (put : IsPut whole old new row) where
    -- a row that is seen is put among those that are
    pub put_seen : test row ≡ true → IsPut own (rows_seen test seen old) (rows_seen test seen new) (seen row)
    put_seen passes = record {
      only = λ x there. let r = from_seen test seen new x there in by x r.0 r.2 r.3 (put.only r.0 r.1);
      here = to_seen test seen new row put.here passes;
      kept = λ x there differ.
          let r = from_seen test seen old x there in
          subst (Has (rows_seen test seen new)) (sym r.3)
          (to_seen test seen new r.0 (put.kept r.0 r.1 (λ e. differ (ap own r.3 ∙ is.forth r.0 row e))) r.2);
    }
      where
        by : (x r : Row) → test r ≡ true → x ≡ seen r → (r ≡ row) ⊎ (Has old r × (whole r ≡ whole row → ⊥)) → (x ≡ seen row) ⊎ (Has (rows_seen test seen old) x × (own x ≡ own (seen row) → ⊥))
        by x r passed at (inl same) = inl (at ∙ ap seen same)
        by x r passed at (inr (was, differ)) =
            inr (subst (Has (rows_seen test seen old)) (sym at) (to_seen test seen old r was passed), λ e. differ (is.back r row passed passes (ap own (sym at) ∙ e)))

    -- one that isn't leaves those that are
    pub put_unseen : test row ≡ false → AreSame (rows_seen test seen old) (rows_seen test seen new)
    put_unseen fails = record {
      only = λ x there. let r = from_seen test seen new x there in
          subst (Has (rows_seen test seen old)) (sym r.3) (to_seen test seen old r.0 (was r.0 r.2 (put.only r.0 r.1)) r.2);
      kept = λ x there. let r = from_seen test seen old x there in
          subst (Has (rows_seen test seen new)) (sym r.3) (to_seen test seen new r.0 (put.kept r.0 r.1 (λ e. clash r.0 r.2 (is.alike r.0 row e))) r.2);
    }
      where
        clash : (r : Row) → test r ≡ true → test r ≡ test row → ⊥
        clash r passed e = let wrong : true ≡ false = sym passed ∙ (e ∙ fails) in cc

        was : (r : Row) → test r ≡ true → (r ≡ row) ⊎ (Has old r × (whole r ≡ whole row → ⊥)) → Has old r
        was r passed (inl same) = absurd (clash r passed (ap test same))
        was r passed (inr there) = there.0

  -- the row of a key is found among those that are seen
  pub found_seen : {X : Type 0} (shown : Row → X) (shown_seen : Row → X) (rows : List Row) (q : K) (own_q : Q)
      → ((r : Row) → whole r ≡ q → (test r ≡ true) × (own (seen r) ≡ own_q)) → ((r : Row) → test r ≡ true → own (seen r) ≡ own_q → whole r ≡ q)
      → ((r : Row) → shown r ≡ shown_seen (seen r)) → (found : Option X) → IsFound whole shown rows q found → IsFound own shown_seen (rows_seen test seen rows) own_q found
  found_seen shown shown_seen rows q own_q asked back same (Some x) (r, there, at, is_shown) =
      let own_at = asked r at in
      (seen r, to_seen test seen rows r there own_at.0, own_at.1, sym (same r) ∙ is_shown)
  found_seen shown shown_seen rows q own_q asked back same None none = λ x there at.
      let r = from_seen test seen rows x there in
      none r.0 r.1 (back r.0 r.2 (ap own (sym r.3) ∙ at))

-- rows that are taken out are taken out of those that are seen
pub removed_seen : (test : Row → Bool) (seen : Row → Row) (gone gone_seen : Row → Bool) (old new : List Row) → ((r : Row) → test r ≡ true → gone r ≡ gone_seen (seen r))
    → IsRemoved gone old new → IsRemoved gone_seen (rows_seen test seen old) (rows_seen test seen new)
removed_seen test seen gone gone_seen old new same removed = record {
  only = λ x there.
      let r = from_seen test seen new x there in
      let was = removed.only r.0 r.1 in (
        subst (Has (rows_seen test seen old)) (sym r.3) (to_seen test seen old r.0 was.0 r.2),
        ap gone_seen r.3 ∙ sym (same r.0 r.2) ∙ was.1,
      );
  kept = λ x there out.
      let r = from_seen test seen old x there in
      subst (Has (rows_seen test seen new)) (sym r.3) (to_seen test seen new r.0 (removed.kept r.0 r.1 (same r.0 r.2 ∙ ap gone_seen (sym r.3) ∙ out)) r.2);
}

-- none of those that are seen is taken out
pub none_removed : (test : Row → Bool) (seen : Row → Row) (gone : Row → Bool) (old new : List Row) → ((r : Row) → test r ≡ true → gone r ≡ false)
    → IsRemoved gone old new → AreSame (rows_seen test seen old) (rows_seen test seen new)
none_removed test seen gone old new stays removed = record {
  only = λ x there. let r = from_seen test seen new x there in
      subst (Has (rows_seen test seen old)) (sym r.3) (to_seen test seen old r.0 (removed.only r.0 r.1).0 r.2);
  kept = λ x there. let r = from_seen test seen old x there in
      subst (Has (rows_seen test seen new)) (sym r.3) (to_seen test seen new r.0 (removed.kept r.0 r.1 (stays r.0 r.2)) r.2);
}

-- rows that are the same are seen the same
pub same_seen : (test : Row → Bool) (seen : Row → Row) (old new : List Row) → new ≡ old → AreSame (rows_seen test seen old) (rows_seen test seen new)
same_seen test seen old new e = record {
  only = λ x there. subst (λ rows. Has (rows_seen test seen rows) x) e there;
  kept = λ x there. subst (λ rows. Has (rows_seen test seen rows) x) (sym e) there;
}
