use Rattle.std.proofs.Common.{subst}
use Rattle.std.specs.Prelude.{IfOk}
use Rattle.replies.specs.Bodies.{Stepped}
use Rattle.units.specs.Office.{Office}
use Rattle.outcomes.specs.Settled.{IsSettled}
use Rattle.outcomes.proofs.Settling.{policy_request}
use Rattle.office.proofs.delivery.decide_by_act.Goals as goal

pub returns-in-SetPolicy-clause-answer : goal.returns-in-SetPolicy-clause-answer
returns-in-SetPolicy-clause-answer g c = λ honest.
    let office = (g.T.Tables.means c.args.tables.now).office in
    let was = c.count_and_decide.ensures.kept.honest honest in
    subst (λ (s : Stepped Office). IfOk c.count_and_decide.result (λ outcome. IsSettled office outcome s))
    (policy_request office c.args.request.now c.in-SetPolicy.policy c.in-SetPolicy.is (c.requires.manager was)) (c.count_and_decide.ensures.answer honest)
