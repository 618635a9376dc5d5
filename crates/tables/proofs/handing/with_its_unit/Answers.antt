use Rattle.std.proofs.Common.{◌≡◌, Some, None, ◌∙◌}
use Rattle.std.proofs.lemmas.Result.{IfOk-weaker}
use Rattle.office_maps.specs.OfficeIn.{lent_project}
use Rattle.office_specification.specs.ExportedEntries.{translated}
use Rattle.office_specification.specs.EntryTexts.{with_its_unit}
use Rattle.tables.proofs.EntriesCut.{with_unit_found}
use Rattle.tables.proofs.handing.with_its_unit.Goals as goal

pub returns-in-Some : goal.returns-in-Some
returns-in-Some c =
    IfOk-weaker c.translated.result (λ made. made ≡ translated c.args.entry.now c.in-Some.unit.now) (λ made. made ≡ with_its_unit (lent_project c.args.project.now) c.args.lang.now c.args.entry.now)
    (λ made same. same
    ∙ with_unit_found c.args.project.now c.args.lang.now c.in_ok-duplicate.field-0 c.in_ok-key_of.field-0.key c.args.entry.now (Some c.in-Some.unit.now) c.in_ok-duplicate.ensures c.in_ok-key_of.ensures c.in-Some.ensures.value)
    c.translated.ensures

pub returns : goal.returns
returns c =
    IfOk-weaker c.duplicate-in-None.result (λ made. made ≡ c.args.entry.now) (λ made. made ≡ with_its_unit (lent_project c.args.project.now) c.args.lang.now c.args.entry.now)
    (λ made same. same
    ∙ with_unit_found c.args.project.now c.args.lang.now c.in_ok-duplicate.field-0 c.in_ok-key_of.field-0.key c.args.entry.now None c.in_ok-duplicate.ensures c.in_ok-key_of.ensures c.in-None.ensures.value)
    c.duplicate-in-None.ensures
