use Rattle.std.proofs.Common.{◌≡◌, true, false, Ok, Err, sym, ap, ◌∙◌}
use Rattle.std.specs.FinMap as maps
use Rattle.po_read.specs.Plain.{reading_of}
use Rattle.po_read.specs.Spells.{limits}
use Rattle.units.specs.Project.{Project}
use Rattle.units.specs.declared.unit.Refusal.TheVariants.{LanguageExists, PoText}
use Rattle.replies.specs.Bodies.{refused, refused_with, po_fault_fields}
use Rattle.office_specification.proofs.rules.PlanRows.{read_valid}
use Rattle.office_specification.specs.Parts.{ShareLanguages}
use Rattle.office_specification.specs.ProjectActs.{of_entries, language_step}
use Rattle.office_maps.specs.OfficeIn.{lent_project}
use Rattle.outcomes.specs.Settled.{told}
use Rattle.outcomes.proofs.ActsSettled.{unchanged_in, alike_in}
use Rattle.outcomes.proofs.LanguageSteps.{language_there, text_unread, text_taken}
use Rattle.outcomes.proofs.language_act.language_outcome.Goals as goal

pub returns-then-has_language : goal.returns-then-has_language
returns-then-has_language c =
    let lent = lent_project c.args.project.now in
    let lang = c.args.lang.now in
    unchanged_in c.refused.result (refused LanguageExists) (ShareLanguages lent) (λ (whole : Project). language_step whole lang c.args.po.now)
    (λ whole alike. language_there lent whole alike lang c.args.po.now (sym c.has_language.ensures ∙ c.if-has_language.true)) c.refused.ensures

pub returns-in-Ok : goal.returns-in-Ok
returns-in-Ok c =
    let lent = lent_project c.args.project.now in
    let lang = c.args.lang.now in
    let read : reading_of limits c.args.po.now ≡ Ok c.in-Ok.text = c.in_ok-text.ensures ∙ ap told c.in-Ok.is in
    alike_in c.add_language.result (ShareLanguages lent) (λ (whole : Project). of_entries whole lang c.in-Ok.text) (λ (whole : Project). language_step whole lang c.args.po.now)
    (λ whole alike. text_taken lent whole alike lang c.args.po.now (sym c.has_language.ensures ∙ c.if-has_language.false) c.in-Ok.text read) c.add_language.ensures

pub returns-in-Err : goal.returns-in-Err
returns-in-Err c =
    let lent = lent_project c.args.project.now in
    let lang = c.args.lang.now in
    let fault = c.in-Err.fault in
    let read : reading_of limits c.args.po.now ≡ Err (fault.line, fault.kind) = c.in_ok-text.ensures ∙ ap told c.in-Err.is in
    unchanged_in c.refused_text.result (refused_with PoText (po_fault_fields (fault.line, fault.kind))) (ShareLanguages lent) (λ (whole : Project). language_step whole lang c.args.po.now)
    (λ whole alike. text_unread lent whole alike lang c.args.po.now (sym c.has_language.ensures ∙ c.if-has_language.false) (fault.line, fault.kind) read) c.refused_text.ensures

pub add_language-requires-clause-valid : goal.add_language-requires-clause-valid
add_language-requires-clause-valid c = read_valid c.args.po.now c.in-Ok.text (c.in_ok-text.ensures ∙ ap told c.in-Ok.is)
