use Rattle.std.proofs.Common.{List, map, sym, ap, subst, ◌∙◌}
use Rattle.std.specs.List.{IsDistinct}
use Rattle.std.specs.FinMap as maps
use Rattle.po_text.specs.declared.entry.Entry.{Entry}
use Rattle.po_text.specs.Texts.{Text}
use Rattle.units.specs.Project.{Place, place_eq}
use Rattle.units.specs.declared.unit.Unit.{Unit}
use Rattle.office_specification.specs.ProjectActs.{placed, with_language}
use Rattle.office_specification.specs.Tally.{counts_in}
use Rattle.outcomes.proofs.language_act.with_plan.Goals as goal

pub returns-in-Ok : goal.returns-in-Ok
returns-in-Ok c = λ project same new apart. record {
  is = λ i. (with_language project (c.in-Ok.ensures.lang i) (c.in-Ok.ensures.header i) c.args.plan, c.in-Ok.ensures.reply i);
  possible = record {
    new = ap (maps.contains_key project.headers) c.in-Ok.ensures.lang ∙ new;
    tallied = c.in-Ok.ensures.tally ∙ ap (λ (entries : List Entry). counts_in entries c.args.plan.units) (sym same);
    apart = λ rules. subst (λ (lang : Text). IsDistinct place_eq (map (λ (e : Place × Unit). e.0) (placed (lang, c.args.plan)))) (sym c.in-Ok.ensures.lang) (apart rules);
  };
}
