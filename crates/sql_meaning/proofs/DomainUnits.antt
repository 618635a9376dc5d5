-- A unit's row is put in a domain, whose suggestions stand there already: the domain has the unit at its place, and the office is as it was otherwise.
use Rattle.std.proofs.Common.{◌≡◌, ◌≢◌, List, [], ◌∷◌, refl, ap, codes}
use Rattle.sqlite.specs.declared.types.Value.TheVariants.{Text as Words}
use Rattle.sqlite.specs.Order.{Row}
use Rattle.sqlite.specs.Effect.{Database}
use Rattle.sql_laws.specs.RowMaps.{OneEach}
use Rattle.po_text.specs.Texts.{Text}
use Rattle.units.specs.KeyTexts.{HasStrings}
use Rattle.units.specs.Project.{with_unit}
use Rattle.units.specs.Office.{with_project}
use Rattle.units.specs.Units.{key_text}
use Rattle.units.specs.declared.unit.Unit.{Unit}
use Rattle.sql_columns.specs.Written.{ArePrevious}
use Rattle.sql_schema.specs.Keys.{text_at, first_text, first_texts, first_three}
use Rattle.sql_schema.specs.Inside.{AreOfficeTablesOf, PutsRow, PutsIn, HoldsValues}
use Rattle.sql_schema.specs.Layouts.{by_domain, NamedRows, rows_named}
use Rattle.sql_schema.specs.SeenRows.{unit_seen, seen_in}
use Rattle.sql_schema.proofs.Layouts.{names_differ}
use Rattle.sql_schema.proofs.DomainRows.{one_domain}
use Rattle.sql_schema.proofs.DomainsSeen.{unit_put_seen, units_stay_seen}
use Rattle.sql_meaning.specs.Cells.{unit_cells}
use Rattle.sql_meaning.specs.Meaning.{template_in, headers_in, team_in, policy_in, suggestions_in, project_of_rows}
use Rattle.sql_meaning.specs.Domains.{domain_of_rows, office_of_rows}
use Rattle.sql_meaning.proofs.RowsPut.{unit_put}
use Rattle.sql_meaning.proofs.DomainKeys.{are_keyed_rows}
use Rattle.sql_meaning.proofs.SameRows.{domain_same}
use Rattle.sql_meaning.proofs.DomainChanges.{office_after}
use Rattle.sql_meaning.specs.RowKeys.{AreKeyedRows}

-- ---- among rows by their names, whichever tables these are

module _ (old new : NamedRows) (lang : Text) (unit : Unit) (strings : HasStrings unit.key) (previous : ArePrevious unit.previous)
    (suggested : suggestions_in old lang (key_text unit.key) ≡ unit.suggestions) (one : OneEach first_texts (old (codes "unit")))
    (made : PutsIn (codes "unit") first_texts (HoldsValues (unit_cells lang unit)) old new) where
  pub project_with : project_of_rows new ≡ with_unit (project_of_rows old) (lang, unit.key) unit
  project_with =
      let template : template_in new ≡ template_in old = ap (λ (rows : List Row). template_in (λ name. rows)) (made.others (codes "template") (names_differ refl)) in
      let headers : headers_in new ≡ headers_in old = ap (λ (rows : List Row). headers_in (λ name. rows)) (made.others (codes "language") (names_differ refl)) in
      let team : team_in new ≡ team_in old = ap (λ (rows : List Row). team_in (λ name. rows)) (made.others (codes "team") (names_differ refl)) in
      let policy : policy_in new ≡ policy_in old = ap (λ (rows : List Row). policy_in (λ name. rows)) (made.others (codes "policy") (names_differ refl)) in
      let units = unit_put old new lang unit strings previous suggested one made in
      λ i. record { template = template i; headers = headers i; units = units i; team = team i; policy = policy i }

-- ---- in a domain

module _ (old new : Database) (domain lang : Text) (unit : Unit) (strings : HasStrings unit.key) (previous : ArePrevious unit.previous)
    (put : PutsRow (codes "d_unit") first_three (HoldsValues (Words domain ∷ unit_cells lang unit)) old new)
    (keyed : (other : Text) → AreKeyedRows (seen_in other (rows_named old))) (one : OneEach first_text (rows_named old (codes "domain")))
    (suggested : suggestions_in (seen_in domain (rows_named old)) lang (key_text unit.key) ≡ unit.suggestions) where
  own : text_at 1 put.row ≡ domain
  own = ap (text_at 1) put.is_row.1

  made : PutsIn (codes "unit") first_texts (HoldsValues (unit_cells lang unit)) (seen_in domain (rows_named old)) (seen_in domain (rows_named new))
  made = unit_put_seen (HoldsValues (Words domain ∷ unit_cells lang unit)) domain old new put own (HoldsValues (unit_cells lang unit)) (λ row is. (is.0, ap unit_seen is.1))

  others : (other : Text) → other ≢ domain → domain_of_rows (rows_named new) other ≡ domain_of_rows (rows_named old) other
  others other differ =
      domain_same (seen_in other (rows_named old)) (seen_in other (rows_named new)) (keyed other)
      (units_stay_seen (HoldsValues (Words domain ∷ unit_cells lang unit)) domain old new put own other differ)

  pub unit_put_in_domain : office_of_rows (rows_named new) ≡ with_project (office_of_rows (rows_named old)) domain (with_unit (project_of_rows (seen_in domain (rows_named old))) (lang, unit.key) unit)
  unit_put_in_domain =
      let team : team_in (rows_named new) ≡ team_in (rows_named old) = ap (λ (rows : List Row). team_in (λ name. rows)) (put.others (codes "team") (names_differ refl)) in
      let policy : policy_in (rows_named new) ≡ policy_in (rows_named old) = ap (λ (rows : List Row). policy_in (λ name. rows)) (put.others (codes "policy") (names_differ refl)) in
      office_after (rows_named old) (rows_named new) domain one (put.others (codes "domain") (names_differ refl)) others team policy
      (with_unit (project_of_rows (seen_in domain (rows_named old))) (lang, unit.key) unit)
      (project_with (seen_in domain (rows_named old)) (seen_in domain (rows_named new)) lang unit strings previous suggested (keyed domain).one_unit made)

-- the schema says that they are keyed
module _ (old new : Database) (domain lang : Text) (unit : Unit) (strings : HasStrings unit.key) (previous : ArePrevious unit.previous) (ready : AreOfficeTablesOf by_domain old)
    (put : PutsRow (codes "d_unit") first_three (HoldsValues (Words domain ∷ unit_cells lang unit)) old new)
    (suggested : suggestions_in (seen_in domain (rows_named old)) lang (key_text unit.key) ≡ unit.suggestions) where
  one_name : OneEach first_text (rows_named old (codes "domain"))
  one_name r s in_r in_s e = one_domain old ready.schema ready.sound (ready.tables (codes "domain") refl) r s in_r in_s (λ i. e i ∷ [])

  pub unit_put_by_domain : office_of_rows (rows_named new) ≡ with_project (office_of_rows (rows_named old)) domain (with_unit (project_of_rows (seen_in domain (rows_named old))) (lang, unit.key) unit)
  unit_put_by_domain = unit_put_in_domain old new domain lang unit strings previous put (are_keyed_rows old ready) one_name suggested
