use Rattle.std.proofs.Common.{◌≡◌, Ok, Err, Some, None, sym, ap, ◌∙◌}
use Rattle.std.specs.Prelude.{find}
use Rattle.std.specs.Option.{option_copied}
use Rattle.po_text.specs.Entries.{is_header}
use Rattle.units.specs.Project.{Project}
use Rattle.units.specs.Rules.{rule_in}
use Rattle.units.specs.declared.unit.Refusal.TheVariants.{PluralFormsField}
use Rattle.replies.specs.Bodies.{refused_with, plural_fault_fields}
use Rattle.office_specification.specs.Parts.{ShareLanguages}
use Rattle.office_specification.specs.ProjectActs.{with_rule, of_entries}
use Rattle.office_maps.specs.OfficeIn.{lent_project}
use Rattle.outcomes.proofs.ActsSettled.{unchanged_in, alike_in}
use Rattle.outcomes.proofs.LanguageSteps.{rule_missing, header_missing, header_there}
use Rattle.outcomes.proofs.language_act.add_language.Goals as goal

pub returns-in-Err : goal.returns-in-Err
returns-in-Err c =
    let lent = lent_project c.args.project.now in
    let header = c.header_of-header.ensures ∙ ap (find is_header) c.entries.ensures.value in
    let missing : rule_in (find is_header c.args.text.now) ≡ Err c.in-Err.fault = sym (ap rule_in header) ∙ (sym c.in_ok-fault.ensures ∙ c.in-Err.is) in
    unchanged_in c.refused_rule.result (refused_with PluralFormsField (plural_fault_fields c.in-Err.fault)) (ShareLanguages lent) (λ (whole : Project). of_entries whole c.args.lang.now c.args.text.now)
    (λ whole alike. rule_missing lent whole alike c.args.lang.now c.args.text.now c.in-Err.fault missing) c.refused_rule.ensures

pub returns-in-None : goal.returns-in-None
returns-in-None c =
    let lent = lent_project c.args.project.now in
    let header = c.header_of-header.ensures ∙ ap (find is_header) c.entries.ensures.value in
    let read : rule_in (find is_header c.args.text.now) ≡ Ok c.in-Ok.rule = sym (ap rule_in header) ∙ (sym c.in_ok-fault.ensures ∙ c.in-Ok.is) in
    let none : find is_header c.args.text.now ≡ None = sym header ∙ ap option_copied c.in-None.is in
    unchanged_in c.refused_rule-in-None.result (refused_with PluralFormsField (plural_fault_fields None)) (ShareLanguages lent) (λ (whole : Project). of_entries whole c.args.lang.now c.args.text.now)
    (λ whole alike. header_missing lent whole alike c.args.lang.now c.args.text.now c.in-Ok.rule read none) c.refused_rule-in-None.ensures

pub returns-in-Some : goal.returns-in-Some
returns-in-Some c =
    let lent = lent_project c.args.project.now in
    let header = c.header_of-header.ensures ∙ ap (find is_header) c.entries.ensures.value in
    let read : rule_in (find is_header c.args.text.now) ≡ Ok c.in-Ok.rule = sym (ap rule_in header) ∙ (sym c.in_ok-fault.ensures ∙ c.in-Ok.is) in
    let some : find is_header c.args.text.now ≡ Some c.in-Some.header.now = sym header ∙ ap option_copied c.in-Some.is in
    alike_in c.load_language.result (ShareLanguages lent) (λ (whole : Project). with_rule whole c.args.lang.now c.args.text.now c.in-Some.header.now c.in-Ok.rule)
    (λ (whole : Project). of_entries whole c.args.lang.now c.args.text.now)
    (λ whole alike. header_there lent whole alike c.args.lang.now c.args.text.now c.in-Ok.rule c.in-Some.header.now read some) c.load_language.ensures
