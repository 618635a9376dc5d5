use Rattle.std.proofs.Common.{◌≡◌, List, ℕ, length, replicate, subst, ◌∙◌}
use Rattle.client.specs.Talks.{IsWithin}
use Rattle.client.specs.TalkSteps.{IsPaid}
use Rattle.client.proofs.TalkLemmas.{talked_so, all_within}
use Rattle.client.proofs.sending.send_all.Goals as goal

pub returns-clause-talked : goal.returns-clause-talked
returns-clause-talked g c = λ are.
    let tries = c.args.tries in
    let count = length c.args.requests.now in
    let new = c.send_rounds.new.left in
    let all : c.as_mut_slice.result.now ≡ replicate count tries = c.as_mut_slice.ensures.value ∙ c.in_ok-left.ensures.items_if_clones_equal (λ y same. same) in
    talked_so (IsPaid c.as_mut_slice.result.now new) (IsWithin tries) (g.L.Link.said c.args.link.now) (g.L.Link.said c.send_rounds.new.link) c.args.sender.now c.send_rounds.new.sender
    (λ talk paid. all_within tries count new talk (subst (λ (left : List ℕ). IsPaid left new talk) all paid)) (c.send_rounds.ensures are)
