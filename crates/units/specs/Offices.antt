-- The rules that an office keeps: each domain keeps those of a project. This project's own rule.
use Rattle.std.specs.Prelude.{◌≤◌, IsSome}
use Rattle.std.specs.FinMap as maps
use Rattle.po_text.specs.Texts.{Text}
use Rattle.units.specs.Limits.{domain_limit}
use Rattle.units.specs.Office.{Office, main, project_in}
use Rattle.units.specs.Projects.{IsProject}

pub record IsOffice (office : Office) : Type 0 where
  pub has_main : IsSome (maps.get office.domains main)
  pub few_domains : maps.len office.domains ≤ domain_limit
  pub projects : (domain : Text) → IsSome (maps.get office.domains domain) → IsProject (project_in office domain)
