use Rattle.std.proofs.Common.{sym, ◌∙◌, ap, ◌-◌, ◌+◌}
use Rattle.std.specs.FinMap as maps
use Rattle.review.specs.UnitStep.{set_vote}
use Rattle.review.proofs.Ballots.{len-set_vote-none, len-set_vote-some}
use Rattle.review.proofs.suggestions.len_after.Goals as goal

pub returns-in-None-Some : goal.returns-in-None-Some
returns-in-None-Some c =
    let a = c.args in
    c.saturating_sub.ensures ∙ ap (λ n. n - 1) c.len.ensures.value
    ∙ sym (ap (λ v. maps.len (set_vote a.caller.now v a.votes.now)) c.in-None-Some.is-0 ∙ len-set_vote-none a.votes.now a.caller.now _ (sym c.get.ensures ∙ c.in-None-Some.is-1))

pub returns-in-None-None : goal.returns-in-None-None
returns-in-None-None c =
    let a = c.args in
    c.len-in-None-None.ensures.value
    ∙ sym (ap (λ v. maps.len (set_vote a.caller.now v a.votes.now)) c.in-None-None.is-0 ∙ len-set_vote-none a.votes.now a.caller.now _ (sym c.get.ensures ∙ c.in-None-None.is-1))

pub returns-in-Some-Some : goal.returns-in-Some-Some
returns-in-Some-Some c =
    let a = c.args in
    c.len-in-Some-Some.ensures.value
    ∙ sym (ap (λ v. maps.len (set_vote a.caller.now v a.votes.now)) c.in-Some-Some.is-0 ∙ len-set_vote-some a.votes.now a.caller.now _ _ (sym c.get.ensures ∙ c.in-Some-Some.is-1))

pub returns-in-Some-None : goal.returns-in-Some-None
returns-in-Some-None c =
    let a = c.args in
    ap (λ n. n + 1) c.len-in-Some-None.ensures.value
    ∙ sym (ap (λ v. maps.len (set_vote a.caller.now v a.votes.now)) c.in-Some-None.is-0 ∙ len-set_vote-some a.votes.now a.caller.now _ _ (sym c.get.ensures ∙ c.in-Some-None.is-1))
