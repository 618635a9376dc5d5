-- What is found in a domain is what it sees: the project of one that is there, and of another one with no message and no language.
use Rattle.std.proofs.Common.{◌≡◌, inl, List, [], ◌∷◌, Bool, true, false, IsTrue, refl, sym, subst, ◌∙◌, codes}
use Rattle.sqlite.specs.Order.{Row}
use Rattle.sqlite.specs.State.{State, HasCleanDisk}
use Rattle.po_text.specs.Texts.{Text}
use Rattle.units.specs.Office.{project_in}
use Rattle.units.specs.Projects.{IsProject}
use Rattle.office_specification.proofs.domains.InDomains.{no_domain_yet}
use Rattle.office_specification.proofs.rules.DomainsKept.{any_project}
use Rattle.sql_schema.specs.Layouts.{rows_named}
use Rattle.sql_schema.specs.SeenRows.{seen_in}
use Rattle.sql_meaning.specs.Domains.{project_seen, office_of_rows, is_domain}
use Rattle.sql_meaning.proofs.DomainChanges.{has_domain_of_rows}
use Rattle.sql_meaning.proofs.Openings.{no_template, no_headers, no_units}
use Rattle.sql_files.proofs.InDomains.{SeesNothing, HasNoRow, sees_nothing, project_there}
use Rattle.store_sql.specs.TablesInFile.{KeepsOffice}
use Rattle.store_sql.proofs.RowsHeld.{own_domains}

without_rows : (rows : List Row) → HasNoRow rows → rows ≡ []
without_rows [] none = refl
without_rows (row ∷ rows) none = absurd (none row (inl refl))

module _ (s : State) (keeps : KeepsOffice s) (clean : HasCleanDisk s) (is_open : IsTrue s.is_open) (domain : Text) where
  project_missing : is_domain (rows_named s.now) domain ≡ false → project_in (office_of_rows (rows_named s.now)) domain ≡ project_seen domain (rows_named s.now)
  project_missing missing =
      let seen = seen_in domain (rows_named s.now) in
      let none : SeesNothing seen = sees_nothing (rows_named s.now) (own_domains s keeps clean is_open) domain missing in
      let template = no_template seen (without_rows (seen (codes "template")) none.entries) in
      let headers = no_headers seen (without_rows (seen (codes "language")) none.languages) in
      let units = no_units seen (without_rows (seen (codes "unit")) none.units) in
      no_domain_yet (office_of_rows (rows_named s.now)) domain (sym (has_domain_of_rows (rows_named s.now) domain) ∙ missing)
      ∙ sym (λ i. record (project_seen domain (rows_named s.now)) { template = template i; headers = headers i; units = units i })

  pub project_as_seen : project_in (office_of_rows (rows_named s.now)) domain ≡ project_seen domain (rows_named s.now)
  project_as_seen = by (is_domain (rows_named s.now) domain) refl
    where
      by : (b : Bool) → is_domain (rows_named s.now) domain ≡ b → project_in (office_of_rows (rows_named s.now)) domain ≡ project_seen domain (rows_named s.now)
      by true there = project_there s.now (keeps.idle.ready clean is_open) domain there
      by false missing = project_missing missing

  -- and it keeps the rules of one
  pub keeps_project : IsProject (project_seen domain (rows_named s.now))
  keeps_project = subst IsProject project_as_seen (any_project (office_of_rows (rows_named s.now)) (keeps.rules clean is_open).office domain)
