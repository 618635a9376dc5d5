use Rattle.std.proofs.Common.{Bor, Option, Some, None, option_map, sym, ap, ◌∙◌}
use Rattle.std.specs.Option.{option_copied}
use Rattle.units.specs.Project.{units_of}
use Rattle.office_specification.specs.declared.values.Language.{Language}
use Rattle.office_maps.specs.OfficeIn.{lent_project}
use Rattle.office_specification.specs.Tally.{counts_in}
use Rattle.tables.proofs.CountsFound.{counts_by}
use Rattle.tables.proofs.counting.project_counts.Goals as goal

pub returns-in-None : goal.returns-in-None
returns-in-None c = λ rules. counts_by c.args.project.now c.args.lang.now None c.in-None.ensures

pub returns-in_ok-count_units-in-Some : goal.returns-in_ok-count_units-in-Some
returns-in_ok-count_units-in-Some c = λ rules.
    let all = counts_in c.args.project.now.domain.now.template.catalogue (units_of (lent_project c.args.project.now) c.args.lang.now) in
    ap Some (c.in_ok-count_units-in-Some.ensures rules)
    ∙ (ap (λ (found : Option (Bor Language)). option_map (λ (language : Language). all) (option_copied found)) (sym c.in-Some.is)
    ∙ counts_by c.args.project.now c.args.lang.now (option_copied c.get.result) c.get.ensures)
