use Rattle.std.proofs.Common.{◌<◌, length, arith, refl, sym, ◌∙◌, ap}
use Rattle.std.proofs.lemmas.Option.{slice_get_read}
use Rattle.sender.specs.Sending.{Sending, hear}
use Rattle.sender.proofs.NumberLemmas.{number_within, heard_here, heard_strange}
use Rattle.sender.proofs.WaitingLemmas.{kept_after}
use Rattle.sender.proofs.sending.Sender.on_reply.Goals as goal

pub index_mut-requires : goal.index_mut-requires
index_mut-requires c =
    let lt : c.in-Some.place.now < length c.self.inside.exchanges.items = number_within _ _ _ ((c.self.invariant.numbers c.args.number c.in-Some.place.now).0 (sym c.in-Some.ensures.value)) in
    omega (arith, c.self.inside.exchanges.ok)

pub invariant_of-self : goal.invariant_of-self
invariant_of-self c =
    let es = c.self.inside.exchanges.items in
    let place = c.in-Some.place.now in
    let lt : place < length es = number_within _ _ _ ((c.self.invariant.numbers c.args.number place).0 (sym c.in-Some.ensures.value)) in
    let e = c.index_mut.result.now in
    kept_after es c.self.inside.places c.self.inside.waiting c.remove.new.self place c.args.reply e c.hold.new.self c.self.invariant (slice_get_read es (length es) place e refl lt c.index_mut.ensures.value) c.hold.ensures c.remove.ensures

pub returns-in-Some : goal.returns-in-Some
returns-in-Some c =
    let es = c.self.inside.exchanges.items in
    let place = c.in-Some.place.now in
    let found = sym c.in-Some.ensures.value in
    let lt : place < length es = number_within _ _ _ ((c.self.invariant.numbers c.args.number place).0 found) in
    let e = c.index_mut.result.now in
    heard_here es c.self.inside.places c.args.number c.args.reply place e c.hold.new.self c.self.invariant.numbers found (slice_get_read es (length es) place e refl lt c.index_mut.ensures.value) c.hold.ensures
    ∙ ap (λ (s : Sending). hear c.args.number c.args.reply s) c.self.view_is

pub returns-in-None : goal.returns-in-None
returns-in-None c =
    sym c.self.view_is ∙ (heard_strange c.self.inside.exchanges.items c.self.inside.places c.args.number c.args.reply c.self.invariant.numbers (sym c.in-None.ensures.value)
    ∙ ap (λ (s : Sending). hear c.args.number c.args.reply s) c.self.view_is)
