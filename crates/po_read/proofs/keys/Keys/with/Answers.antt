use Rattle.std.proofs.Common.{◌≡◌, sym, ◌∙◌}
use Rattle.po_read.specs.Found.{key_at_hand}
use Rattle.po_read.proofs.FoundLemmas.{found_new, found_behind}
use Rattle.po_read.proofs.keys.Keys.with.Goals as goal

pub invariant_of-result : goal.invariant_of-result
invariant_of-result c =
    found_new c.self.inside.all c.in_ok-all.all (key_at_hand c.args.ctx.now c.args.id.now) c.self.inside.firsts c.self.inside.others c.key_hash-hash.result c.self.invariant c.in_ok-all.ensures c.key_hash-hash.ensures
    c.insert.new.self c.in_ok-number.number (c.in_ok-number.ensures ∙ c.len.ensures) c.in_ok-insert.ensures.updates.0 (sym c.in_ok-insert.ensures.old ∙ c.in-None.is)

pub invariant_of-result-in-Some : goal.invariant_of-result-in-Some
invariant_of-result-in-Some c =
    let key : c.in_ok-of-in-Some.field-0 ≡ key_at_hand c.args.ctx.now c.args.id.now = λ i. record { ctx = c.in_ok-of-in-Some.ensures.ctx i; id = c.in_ok-of-in-Some.ensures.id i } in
    found_behind c.self.inside.all c.in_ok-all.all (key_at_hand c.args.ctx.now c.args.id.now) c.self.inside.firsts c.self.inside.others c.key_hash-hash.result c.self.invariant c.in_ok-all.ensures c.key_hash-hash.ensures
    c.insert.new.self c.insert-in-Some.new.self c.insert-in-Some-2.new.self c.in_ok-number.number c.in-Some.first c.in_ok-of-in-Some.field-0 c.in_ok-insert.ensures.updates.0 (sym c.in_ok-insert.ensures.old ∙ c.in-Some.is)
    c.in_ok-insert-in-Some.ensures.updates.0 key c.in_ok-insert-in-Some-2.ensures.updates.0
