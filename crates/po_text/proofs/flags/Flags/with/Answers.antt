use Rattle.std.proofs.Common.{ℕ, List, map, sym, ◌∙◌, ap, Bor}
use Rattle.po_text.specs.Flags.{has_text}
use Rattle.po_text.proofs.flags.Flags.with.Goals.{then-branch+in_ok-push, else-branch}
use Rattle.po_text.proofs.FlagLemmas.{seen_added, seen_same, map_push}
use Rattle.po_text.proofs.flags.Flags.with.Goals as goal

pub invariant_of-result : goal.invariant_of-result
invariant_of-result c =
    let texts : List (List ℕ) = map (λ (f : Bor (List ℕ)). f.now) c.self.inside.kept.items in
    elim c.if-branch.branch [
      | then-branch+in_ok-push w ↦ (λ q.
          seen_added c.self.inside.seen c.insert.new.self c.args.flag texts c.self.invariant c.in_ok-insert.ensures.updates q
          ∙ ap (has_text q.now) (sym (ap (λ v. map (λ (f : Bor (List ℕ)). f.now) v.items) w.kept-is ∙ ap (map (λ (f : Bor (List ℕ)). f.now)) w.in_ok-push.ensures.items ∙ map_push c.self.inside.kept.items c.args.flag)))
      | else-branch w ↦ (λ q.
          seen_same c.self.inside.seen c.insert.new.self texts c.self.invariant (rw w.if-branch.false at c.in_ok-insert.ensures.unchanged) q
          ∙ ap (λ v. has_text q.now (map (λ (f : Bor (List ℕ)). f.now) v.items)) (sym w.kept-is))
    ]
