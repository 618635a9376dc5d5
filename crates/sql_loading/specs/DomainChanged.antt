-- What is put into a domain of an office in maps. Only private clauses and proofs cite this file.
use Rattle.std.specs.Prelude.{◌≡◌}
use Rattle.std.specs.FinMap as finite
use Rattle.po_text.specs.Texts.{Text}
use Rattle.units.specs.Project.{Project}
use Rattle.units.specs.Office.{Office, domain_of}
use Rattle.office_maps.specs.OfficeIn.{office_in}
use Rattle.office_maps.specs.declared.office_maps.OfficeMaps.{OfficeMaps}

-- an office with a project as one of its domains, and with the project's team and policy
abbrev pub lending : Office → Text → Project → Office
lending office domain project = record { domains = finite.insert office.domains domain (domain_of project); team = project.team; policy = project.policy }

-- where an office lends a project, it lends what becomes of it
abbrev pub ChangesDomain : Text → OfficeMaps → OfficeMaps → (Project → Project) → Type 0
ChangesDomain domain old new next = (office : Office) (project : Project) → office_in old ≡ lending office domain project → office_in new ≡ lending office domain (next project)
