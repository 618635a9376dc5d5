-- What the commits of acts make of the office with its book.
use Rattle.std.proofs.Common.{Option, Some, None, IfSome, sym, subst}
use Rattle.sqlite.specs.Effect.{Database}
use Rattle.po_text.specs.Texts.{Text}
use Rattle.units.specs.KeyTexts.{HasStrings}
use Rattle.units.specs.Office.{Office, project_in}
use Rattle.units.specs.declared.unit.Key.{Key}
use Rattle.request_book.specs.declared.book.Record.{Record}
use Rattle.office_specification.specs.OfficeChanges.{changed_by, IsPossibleChange}
use Rattle.office_specification.specs.OfficeRules.{KeepsRules}
use Rattle.office_specification.specs.UnitAccess.{with_write_in, IsPossibleWrite}
use Rattle.office_specification.specs.declared.values.Change.{Change}
use Rattle.office_specification.specs.declared.values.Change.TheVariants.{OneRole, NewPolicy, NewDomain, InDomain}
use Rattle.office_specification.specs.declared.values.UnitWrite.{UnitWrite}
use Rattle.office_specification.proofs.domains.InDomains.{with_project-same}
use Rattle.sql_schema.specs.Inside.{AreOfficeTablesOf}
use Rattle.sql_schema.specs.Layouts.{by_domain, rows_named}
use Rattle.sql_meaning.specs.Domains.{HoldsOwnDomains, office_of_rows, meaning_by_domain}
use Rattle.sql_meaning.specs.Meaning.{AreNumbered}
use Rattle.sql_changes.specs.UnitWrites.{ArePreviousIn}
use Rattle.sql_changes.proofs.DomainCommits.{LeavesOffice, AllowsOffice, follows, record_leaves, role_leaves, policy_leaves, write_leaves, domain_change_leaves, new_domain_leaves}
use Rattle.sql_commits.specs.Acts.{MakesAct, MakesChange}

module _ (old after : Database) (row : Record) (ready : AreOfficeTablesOf by_domain old) (tables : AreOfficeTablesOf by_domain after) (held : HoldsOwnDomains (rows_named old))
    (numbered : AreNumbered (rows_named old)) (kept : KeepsRules (meaning_by_domain (rows_named old))) where
  abbrev office : Office
  office = office_of_rows (rows_named old)

  pub act_means : (domain lang : Text) (key : Key) (write : Option UnitWrite) → HasStrings key → IfSome write ArePreviousIn
      → IsPossibleWrite (project_in (office_of_rows (rows_named old)) domain) lang key write
      → AllowsOffice old row (with_write_in (office_of_rows (rows_named old)) domain lang key write) → MakesAct row domain lang key write old after
      → LeavesOffice old after row (with_write_in (office_of_rows (rows_named old)) domain lang key write)
  act_means domain lang key None strings previous possible rules made = subst (LeavesOffice old after row) (sym (with_project-same office domain)) (record_leaves old row ready numbered after made)
  act_means domain lang key (Some write) strings previous possible rules made = write_leaves old row ready numbered after tables kept domain lang key write strings previous possible made rules

  -- no unit goes where a template comes, since the change is possible
  pub change_means : (change : Option Change) → IsPossibleChange (office_of_rows (rows_named old)) change → AllowsOffice old row (changed_by (office_of_rows (rows_named old)) change)
      → MakesChange row change old after → LeavesOffice old after row (changed_by (office_of_rows (rows_named old)) change)
  change_means None possible rules made = record_leaves old row ready numbered after made
  change_means (Some (OneRole name role)) possible rules made = role_leaves old row ready numbered after name role made
  change_means (Some (NewPolicy policy)) possible rules made = policy_leaves old row ready numbered after tables policy kept held made
  change_means (Some (NewDomain domain)) possible rules made = new_domain_leaves old row ready numbered after domain held possible made
  change_means (Some (InDomain domain change)) possible rules made =
      domain_change_leaves old row ready numbered after tables kept domain change possible.0
      (follows (project_in office domain) change (kept.office.projects domain possible.0) possible.1) made rules
