use Rattle.std.proofs.Common.{◌≡◌, ◌-◌, cond, length, map, Some, None, ap, ◌∙◌, arith}
use Rattle.std.specs.Prelude.{nat_le}
use Rattle.std.proofs.lemmas.List.{length-append, length-map}
use Rattle.units.specs.Limits.{unit_limit}
use Rattle.template_update.specs.declared.plans.Counts.TheVariants.{Loaded}
use Rattle.template_update.specs.Loads.{is_in, leftover, leftovers, load_of}
use Rattle.template_update.proofs.LoadLemmas.{the_load, count_by-not}
use Rattle.template_update.proofs.loading.load.Goals as goal

pub returns : goal.returns
returns c =
    let template = c.entries-template.result.now in
    let text = c.entries-text.result.now in
    let loaded = c.count_loaded-loaded.ensures.count text c.in_ok-given.ensures in
    let joined = c.in_ok-all.ensures.units template c.in_ok-present.ensures in
    let obsolete : c.len.result - c.len-count.result ≡ length (leftovers template text) =
    omega (arith, c.len.ensures, c.len-count.ensures, ap length joined, length-append c.in_ok-current.current.items (map leftover (leftovers template text)), length-map (leftovers template text) leftover) in
    the_load template text c.args.rule.now c.args.policy.now c.in_ok-current.current.items c.in_ok-all.all.items
    c.count_loaded-loaded.result (length template - c.count_loaded-loaded.result) (c.len.result - c.len-count.result) c.within_limit.result
    (c.in_ok-current.ensures text c.in_ok-given.ensures) joined loaded (count_by-not (is_in text) template c.count_loaded-loaded.result loaded) obsolete
    (c.within_limit.ensures ∙ (λ i. cond (nat_le (length c.in_ok-all.all.items) unit_limit)
    (Some (record { units = c.in_ok-all.all.items; stays = c.new.ensures i; counts = Loaded c.count_loaded-loaded.result (length template - c.count_loaded-loaded.result) (c.len.result - c.len-count.result) })) None))
    ∙ (λ i. load_of (c.entries-template.ensures.value i) (c.entries-text.ensures.value i) c.args.rule.now c.args.policy.now)
