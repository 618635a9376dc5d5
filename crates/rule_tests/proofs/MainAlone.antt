-- An office whose one domain is `main`: its rules are those of that domain with the team and the policy.
use Rattle.std.proofs.Common.{subst}
use Rattle.std.specs.List.{IsDistinct}
use Rattle.po_text.specs.Texts.{Text, text_eq}
use Rattle.units.specs.Project.{Project}
use Rattle.units.specs.Projects.{IsProject}
use Rattle.units.specs.Office.{main, domain_of}
use Rattle.request_book.specs.Book.{Book}
use Rattle.office_specification.specs.MainAlone.{main_alone}
use Rattle.office_specification.specs.OfficeRules.{numbers_in, KeepsRules}
use Rattle.office_specification.proofs.domains.MainAlone.{in-main, numbers-main}

module _ (project : Project) (book : Book) (rules : KeepsRules (record { office = main_alone project; book = book })) where
  pub project_keeps : IsProject project
  project_keeps = subst IsProject (in-main project) (rules.office.projects main rules.office.has_main)

  pub numbers_keep : IsDistinct text_eq (numbers_in (domain_of project))
  numbers_keep = subst (IsDistinct text_eq) (numbers-main project) rules.own_numbers
