use Rattle.std.proofs.Common.{◌≡◌, true, ◌++◌}
use Rattle.units.specs.Project.{languages}
use Rattle.office_maps.specs.OfficeIn.{lent_project}
use Rattle.office_maps.proofs.Plans.{codes_in, are_codes}
use Rattle.office_maps.proofs.project_maps.ProjectMaps.languages.Given as goal

abbrev pub invariant-loop-code : goal.invariant-loop-code
invariant-loop-code l = record {
  told : languages (lent_project l.self) ≡ l.all.items ++ codes_in l.code-iterator;
  coded : are_codes l.code-iterator ≡ true;
}
