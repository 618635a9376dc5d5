use Rattle.std.proofs.Common.{[], ◌∷◌, ◌++◌, map, sym, ap, ◌∙◌}
use Rattle.template_update.proofs.Taken.{map-next, all_taken}
use Rattle.po_text.specs.Texts.{Text}
use Rattle.office_specification.specs.declared.tally.Tally.{Tally}
use Rattle.office_specification.specs.ProjectActs.{LanguagePlan}
use Rattle.office_specification.specs.Tally.{counts_in}
use Rattle.outcomes.proofs.tallies.tallies_of.Goals as goal

pub loop-lang-preserved : goal.loop-lang-preserved
loop-lang-preserved c =
    let f : LanguagePlan → Text × Tally = λ p. (p.0, counts_in c.args.template.now.catalogue p.1.units) in
    c.in_ok-push.ensures.items ∙ (λ k. c.loop-lang.invariant k ++ (c.in_ok-duplicate.ensures k, (c.in_ok-tally.ensures ∙ ap (counts_in c.args.template.now.catalogue) c.as_slice.ensures) k) ∷ [])
    ∙ sym (map-next f c.args.plans.now c.loop-lang.lang-index c.loop-lang-item.result c.loop-lang-test.true c.loop-lang-item.is)

pub returns : goal.returns
returns c =
    let f : LanguagePlan → Text × Tally = λ p. (p.0, counts_in c.args.template.now.catalogue p.1.units) in
    c.loop-lang.invariant ∙ ap (map f) (all_taken c.args.plans.now c.loop-lang.lang-index c.loop-lang-test.false)
