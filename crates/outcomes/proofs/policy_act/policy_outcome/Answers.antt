use Rattle.std.proofs.Common.{sym, ap, ◌∙◌}
use Rattle.std.specs.Prelude.{ℕ}
use Rattle.replies.specs.Bodies.{reply, policy_fields}
use Rattle.outcomes.proofs.Policies.{refused_past, set_within}
use Rattle.outcomes.proofs.policy_act.policy_outcome.Goals as goal

pub returns-then-some_would_pass : goal.returns-then-some_would_pass
returns-then-some_would_pass c = refused_past c.args.policy.now c.args.approvals c.refused.result (sym c.some_would_pass.ensures ∙ c.if-some_would_pass.true) c.refused.ensures

pub returns : goal.returns
returns c = λ whole rules counts.
    set_within c.args.policy.now c.args.approvals c.in_ok-reply.reply (sym c.some_would_pass.ensures ∙ c.if-some_would_pass.false)
    (c.in_ok-reply.ensures ∙ ap (λ (n : ℕ). reply 200 (policy_fields n)) c.count_losing.ensures) whole rules counts
