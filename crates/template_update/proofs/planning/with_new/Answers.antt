use Rattle.std.proofs.Common.{◌≡◌, ◌-◌, length, map, ap, ◌∙◌, arith}
use Rattle.std.proofs.lemmas.List.{length-append, length-map}
use Rattle.template_update.specs.Units.{new_unit}
use Rattle.template_update.specs.Updates.{added, stays_by, counts_of}
use Rattle.template_update.proofs.Updating.{the_plan}
use Rattle.template_update.proofs.planning.with_new.Goals as goal

pub returns : goal.returns
returns c present updated =
    let more = map (new_unit c.args.rule.now) (added c.args.units.now c.args.next.now) in
    let joined = c.in_ok-all.ensures.units c.args.units.now c.in_ok-known.ensures in
    let count : c.len.result - c.len-count.result ≡ length (added c.args.units.now c.args.next.now) =
    omega (arith, c.len.ensures, c.len-count.ensures, ap length joined, length-append c.args.done.units.items more, length-map (added c.args.units.now c.args.next.now) (new_unit c.args.rule.now)) in
    the_plan present c.args.next.now c.args.rule.now c.args.units.now c.args.done.units.items c.args.done.updates.items c.in_ok-all.all.items c.in_ok-stays.stays
    (c.len.result - c.len-count.result) c.counts_of-counts.result c.within_limit.result
    updated joined (c.in_ok-stays.ensures ∙ ap (map stays_by) c.deref.ensures.value) count
    (c.counts_of-counts.ensures ∙ ap (counts_of (c.len.result - c.len-count.result)) c.deref-2.ensures.value)
    c.within_limit.ensures
