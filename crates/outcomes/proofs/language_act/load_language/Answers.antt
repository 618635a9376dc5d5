use Rattle.std.proofs.Common.{◌≡◌, true, false, map, Some, None, sym, ap, subst, ◌∙◌, arith}
use Rattle.std.specs.Prelude.{nat_le}
use Rattle.std.specs.List.{IsDistinct}
use Rattle.std.specs.FinMap as maps
use Rattle.std.proofs.lemmas.Grind.{common_steps}
use Rattle.std.proofs.lemmas.Result.{IfOk-weaker}
use Rattle.po_text.specs.Texts.{text_cmp}
use Rattle.po_text.specs.Valid.{HasUniqueKeys}
use Rattle.po_text.specs.declared.entry.Entry.{Entry}
use Rattle.template_update.specs.Loads.{load_of}
use Rattle.units.specs.Limits.{language_limit}
use Rattle.units.specs.Project.{Project, place_eq}
use Rattle.units.specs.Projects.{IsProject}
use Rattle.units.specs.declared.unit.Refusal.TheVariants.{PastLimit}
use Rattle.replies.specs.Bodies.{Stepped, refused}
use Rattle.office_specification.specs.Parts.{ShareLanguages}
use Rattle.office_specification.specs.ProjectActs.{placed, loaded, with_rule}
use Rattle.office_specification.proofs.acts.PlansApart.{load_apart}
use Rattle.outcomes.specs.declared.outcome.DomainOutcome.{DomainOutcome}
use Rattle.outcomes.specs.Settled.{IsSettledIn}
use Rattle.office_maps.specs.OfficeIn.{lent_project}
use Rattle.outcomes.proofs.ActsSettled.{unchanged_in}
use Rattle.outcomes.proofs.LanguageSteps.{languages_full, units_past, language_loaded}
use Rattle.outcomes.proofs.language_act.load_language.Goals as goal

pub returns-then-language_count-ge-LANGUAGE_LIMIT : goal.returns-then-language_count-ge-LANGUAGE_LIMIT
returns-then-language_count-ge-LANGUAGE_LIMIT c =
    let lent = lent_project c.args.project.now in
    let lang = c.args.lang.now in
    let header = c.args.header.now in
    let full : nat_le language_limit (maps.len lent.headers) ≡ true = grind (arith, common_steps) in
    unchanged_in c.refused.result (refused PastLimit) (ShareLanguages lent) (λ (whole : Project). with_rule whole lang c.args.text.now header c.args.rule)
    (λ whole alike. languages_full lent whole alike lang c.args.text.now header c.args.rule full) c.refused.ensures

pub returns-in-None : goal.returns-in-None
returns-in-None c =
    let lent = lent_project c.args.project.now in
    let lang = c.args.lang.now in
    let header = c.args.header.now in
    let few : nat_le language_limit (maps.len lent.headers) ≡ false = grind (arith, common_steps) in
    let none : load_of lent.template c.args.text.now c.args.rule lent.policy ≡ None = sym c.in-Ok.ensures ∙ c.in-None.is in
    unchanged_in c.refused-in-None.result (refused PastLimit) (ShareLanguages lent) (λ (whole : Project). with_rule whole lang c.args.text.now header c.args.rule)
    (λ whole alike. units_past lent whole alike lang c.args.text.now header c.args.rule few none) c.refused-in-None.ensures

pub returns-in-Some : goal.returns-in-Some
returns-in-Some c =
    let lent = lent_project c.args.project.now in
    let lang = c.args.lang.now in
    let header = c.args.header.now in
    let text = c.args.text.now in
    let rule = c.args.rule in
    let plan = c.in-Some.plan in
    let few : nat_le language_limit (maps.len lent.headers) ≡ false = grind (arith, common_steps) in
    let found : load_of lent.template text rule lent.policy ≡ Some plan = sym c.in-Ok.ensures ∙ c.in-Some.is in
    let keys = c.loads_count_the_template.ensures.keys lent.template text rule lent.policy plan found in
    IfOk-weaker c.with_plan.result
    (λ (outcome : DomainOutcome). (project : Project) → project.template ≡ c.args.project.now.domain.now.template.catalogue → maps.contains_key project.headers lang ≡ false
    → (IsProject project → IsDistinct place_eq (map (λ e. e.0) (placed (lang, plan)))) → IsSettledIn project outcome (loaded project lang header plan))
    (λ (outcome : DomainOutcome). (whole : Project) → ShareLanguages lent whole → IsSettledIn whole outcome (with_rule whole lang text header rule))
    (λ outcome settled whole alike. subst (λ (stepped : Stepped Project). IsSettledIn whole outcome stepped) (language_loaded lent whole alike lang text header rule few plan found)
    (settled whole (sym alike.template) (ap (λ (headers : maps.FinMap text_cmp Entry). maps.contains_key headers lang) (sym alike.headers) ∙ c.requires.new)
    (λ rules. load_apart lent.template text lang plan (subst (λ template. HasUniqueKeys template) (sym alike.template) rules.template_valid.unique) c.requires.valid.unique keys)))
    c.with_plan.ensures
