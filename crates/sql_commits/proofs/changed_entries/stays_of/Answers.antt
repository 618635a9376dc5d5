use Rattle.std.proofs.Common.{◌≡◌, ℕ, ◌+◌, ◌++◌, [], ◌∷◌, take, List, Bool, Some, None, sym, ap, subst, ◌∙◌, arith}
use Rattle.std.proofs.lemmas.List.{take_more}
use Rattle.sqlite.specs.Order.{Row}
use Rattle.sql_commits.specs.Entries.{IsShownAt, AreShown}
use Rattle.sql_commits.proofs.EntriesShown.{none_shown, marked_within, one_shown, nothing_shown}
use Rattle.sql_commits.proofs.changed_entries.stays_of.Goals as goal
use Rattle.sql_commits.proofs.changed_entries.stays_of.Goals.{in-Some, in_default}

pub loop-row-preserved : goal.loop-row-preserved
loop-row-preserved c =
    let rows = c.args.rows.now in
    let entries = c.args.entries.now in
    let i = c.loop-row.row-index in
    let row = c.row-item.result in
    let before = take i rows in
    let marks = c.loop-row.stays.items in
    let more : take (i + 1) rows ≡ before ++ row ∷ [] = take_more rows i row c.loop-row-test.true ∙ ap (λ (last : Row). before ++ last ∷ []) (sym c.row-item.is) in
    elim c.match-branch-3.branch [
      | in-Some w ↦
          let place = w.in-Some.place in
          let at = (c.in_ok-place.ensures place).0 w.in-Some.is in
          subst (λ (x : List Row × List Bool). AreShown x.0 x.1 entries) (λ k. (sym more k, sym (ap (λ v. v.items) w.stays-is) k)) (one_shown before entries marks row c.loop-row.invariant place at)
      | in_default w ↦
          let never : (n : ℕ) → IsShownAt entries row n → ⊥ = λ n at. let clash : None ≡ Some n = sym w.in_default.is ∙ (c.in_ok-place.ensures n).1 at in cc in
          subst (λ (x : List Row × List Bool). AreShown x.0 x.1 entries) (λ k. (sym more k, sym (ap (λ v. v.items) w.stays-is) k)) (nothing_shown before entries marks row c.loop-row.invariant never)
    ]

pub loop-row-init : goal.loop-row-init
loop-row-init c = none_shown c.args.entries.now c.in_ok-stays.stays.items (c.in_ok-stays.ensures.items_if_clones_equal (λ y same. same))

pub index_mut-requires : goal.index_mut-requires
index_mut-requires c =
    let at = (c.in_ok-place.ensures c.in-Some.place).0 c.in-Some.is in
    omega (arith, marked_within (take c.loop-row.row-index c.args.rows.now) c.args.entries.now c.loop-row.stays.items c.row-item.result c.loop-row.invariant c.in-Some.place at)
