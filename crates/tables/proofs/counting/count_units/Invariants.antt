use Rattle.std.proofs.Common.{◌≡◌}
use Rattle.std.specs.List.{AllByRecursion}
use Rattle.office_maps.specs.LanguageUnits.{taken}
use Rattle.office_maps.proofs.Ranges.{own_of}
use Rattle.office_maps.specs.OfficeIn.{lent_project}
use Rattle.units.specs.Projects.{IsProject}
use Rattle.office_specification.specs.Tally.{counts_in}
use Rattle.office_specification.specs.Counting.{plus}
use Rattle.tables.proofs.OfficeUnits.{HasItsKey}
use Rattle.tables.proofs.counting.count_units.Given as goal

abbrev pub invariant-loop-place : goal.invariant-loop-place
invariant-loop-place l = record {
  sum : IsProject (lent_project l.project) → plus l.tally (counts_in l.project.domain.now.template.catalogue (taken l.fn.lang l.place-iterator)) ≡ counts_in l.project.domain.now.template.catalogue (own_of l.project.domain.now.units l.fn.lang);
  keys : IsProject (lent_project l.project) → AllByRecursion HasItsKey l.place-iterator;
}
