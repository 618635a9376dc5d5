use Rattle.std.proofs.Common.{sym, ◌∙◌}
use Rattle.office_specification.proofs.retries.Delivered.{IsDelivery, repeated, first_delivery, each_ok}
use Rattle.office.proofs.desk.Desk.deliver.Goals as goal

pub returns-in-Some-clause-reply : goal.returns-in-Some-clause-reply
returns-in-Some-clause-reply g c = rw (← c.self.view_is) (λ honest.
    (repeated (g.T.Tables.means c.self.inside.tables) (g.T.Tables.means c.known.new.tables) c.args.request.now c.in-Some.reply
    (c.known.ensures.same honest (c.in_ok-reply.ensures.kept.open_still honest)) (sym c.in-Some.is ∙ c.in_ok-reply.ensures.answer honest)).answer)

pub returns-in-None-clause-reply : goal.returns-in-None-clause-reply
returns-in-None-clause-reply g c = rw (← c.self.view_is) (λ honest.
    let was = c.deliver_first.ensures.kept.honest honest in
    each_ok c.deliver_first.result _ _ (λ reply d. IsDelivery.answer d)
    (first_delivery (g.T.Tables.means c.self.inside.tables) (g.T.Tables.means c.known.new.tables) (g.T.Tables.means c.deliver_first.new.tables) c.args.request.now c.deliver_first.result
    (c.known.ensures.same was (c.in_ok-reply.ensures.kept.open_still was)) (sym c.in-None.is ∙ c.in_ok-reply.ensures.answer was) (c.deliver_first.ensures.ok honest)))

pub returns-in-None-clause-refused : goal.returns-in-None-clause-refused
returns-in-None-clause-refused g c = rw (← c.self.view_is) (λ honest.
    let was = c.deliver_first.ensures.kept.honest honest in
    each_ok c.deliver_first.result _ _ (λ reply d. IsDelivery.still d)
    (first_delivery (g.T.Tables.means c.self.inside.tables) (g.T.Tables.means c.known.new.tables) (g.T.Tables.means c.deliver_first.new.tables) c.args.request.now c.deliver_first.result
    (c.known.ensures.same was (c.in_ok-reply.ensures.kept.open_still was)) (sym c.in-None.is ∙ c.in_ok-reply.ensures.answer was) (c.deliver_first.ensures.ok honest)))
