use Rattle.std.proofs.Common.{Option, sym, ap, ◌∙◌}
use Rattle.std.proofs.lemmas.Result.{IfOk-weaker}
use Rattle.po_text.specs.declared.entry.Entry.{Entry}
use Rattle.units.specs.declared.unit.Unit.{Unit}
use Rattle.office_specification.specs.declared.values.UnitWrite.{UnitWrite}
use Rattle.office_specification.specs.UnitAccess.{view_written}
use Rattle.office_maps.proofs.unit_parts.unit_written.Goals as goal

abbrev left_of : Unit → Option Entry → UnitWrite → Unit
left_of unit source write = (view_written write (record { unit = unit; source = source })).unit

pub returns-in-Whole : goal.returns-in-Whole
returns-in-Whole c = λ source. c.unit_of.ensures ∙ ap (left_of c.args.unit.now source) (sym c.in-Whole.is)

pub returns-in-Row : goal.returns-in-Row
returns-in-Row c =
    IfOk-weaker c.with_its_suggestions.result _ _ (λ u is. λ source. is ∙ ap (left_of c.args.unit.now source) (sym c.in-Row.is)) c.with_its_suggestions.ensures

pub returns-in-Suggested : goal.returns-in-Suggested
returns-in-Suggested c =
    IfOk-weaker c.with_one_more.result _ _ (λ u is. λ source. is ∙ ap (left_of c.args.unit.now source) (sym c.in-Suggested.is)) c.with_one_more.ensures

pub returns-in-Voted : goal.returns-in-Voted
returns-in-Voted c = IfOk-weaker c.voted_on.result _ _ (λ u is. λ source. is ∙ ap (left_of c.args.unit.now source) (sym c.in-Voted.is)) c.voted_on.ensures
