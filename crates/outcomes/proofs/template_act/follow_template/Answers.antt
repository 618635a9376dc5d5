use Rattle.std.proofs.Common.{◌≡◌, List, Option, Some, option_map, sym, ap, subst, ◌∙◌}
use Rattle.std.specs.Option.{option_map_or}
use Rattle.std.proofs.lemmas.Result.{IfOk-weaker}
use Rattle.po_text.specs.declared.entry.Entry.{Entry}
use Rattle.po_text.specs.Valid.{IsValid}
use Rattle.template_update.proofs.TemplateLemmas.{valid_template}
use Rattle.template_update.specs.Templates.{template_of}
use Rattle.units.specs.Project.{Project}
use Rattle.units.specs.declared.unit.Refusal.TheVariants.{PastLimit}
use Rattle.replies.specs.Bodies.{Stepped, refuse}
use Rattle.office_specification.specs.ProjectActs.{plans, updated, LanguagePlan}
use Rattle.office_maps.specs.OfficeIn.{lent_project}
use Rattle.outcomes.specs.declared.outcome.DomainOutcome.{DomainOutcome}
use Rattle.outcomes.specs.Settled.{IsSettledIn}
use Rattle.outcomes.proofs.template_act.follow_template.Goals as goal

-- what a template comes to, by the plans that there are for it
abbrev by_plans : Project → List Entry → Stepped Project
by_plans project next = option_map_or (updated project next) (plans project next) (refuse project PastLimit)

pub returns-in-Some : goal.returns-in-Some
returns-in-Some c =
    let project = lent_project c.args.project.now in
    let next = c.in_ok-next.next.catalogue in
    let planned : plans project next ≡ Some c.in-Some.plans.items = sym c.in-Ok.ensures ∙ ap (option_map (λ all. all.items)) c.in-Some.is in
    let step : ◌≡◌ {A = Stepped Project} (updated project next c.in-Some.plans.items) (by_plans project (template_of c.args.text.now)) =
    sym (ap (λ (found : Option (List LanguagePlan)). option_map_or (updated project next) found (refuse project PastLimit)) planned) ∙ ap (by_plans project) (c.in_ok-next.ensures ∙ c.in_ok-template_of.ensures.entries) in
    IfOk-weaker c.with_plans.result
    (λ (outcome : DomainOutcome). (project : Project) → plans project next ≡ Some c.in-Some.plans.items → IsSettledIn project outcome (updated project next c.in-Some.plans.items))
    (λ (outcome : DomainOutcome). IsSettledIn project outcome (by_plans project (template_of c.args.text.now)))
    (λ outcome settled. subst (λ (stepped : Stepped Project). IsSettledIn project outcome stepped) step (settled project planned))
    c.with_plans.ensures

pub with_plans-requires : goal.with_plans-requires
with_plans-requires c = record { valid = subst IsValid (sym (c.in_ok-next.ensures ∙ c.in_ok-template_of.ensures.entries)) (valid_template c.args.text.now c.requires.valid) }
