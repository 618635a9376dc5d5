-- Where `main` is the one domain that there is, an office of several domains is the office of `main` alone.
use Rattle.std.proofs.Common.{◌≡◌, Bool, true, false, cond, Some, None, refl, sym, ap, subst, ◌∙◌, codes}
use Rattle.std.specs.FinMap as maps
use Rattle.sqlite.specs.Order.{Row}
use Rattle.sqlite_rules.specs.Lists.{Has}
use Rattle.sql_laws.specs.RowMaps.{OneEach, IsFound}
use Rattle.sql_laws.proofs.RowMaps.{get-is}
use Rattle.po_text.specs.Texts.{Text, text_cmp}
use Rattle.units.specs.Orders.{text_total, text_IsAntisymmetric}
use Rattle.units.specs.Office.{main, same_domain}
use Rattle.office_specification.specs.MainAlone.{main_alone}
use Rattle.office_specification.proofs.domains.InDomains.{equal_domains, its_own_domain}
use Rattle.sql_schema.specs.Keys.{first_text}
use Rattle.sql_schema.specs.Layouts.{NamedRows}
use Rattle.sql_schema.specs.SeenRows.{seen_in}
use Rattle.sql_meaning.specs.Meaning.{project_of_rows, meaning_in}
use Rattle.sql_meaning.specs.Domains.{domain_of_rows, domains_in, office_of_rows, meaning_by_domain}

module _ (rows : NamedRows) (one : OneEach first_text (rows (codes "domain"))) (row : Row) (there : Has (rows (codes "domain")) row)
    (only : (r : Row) → Has (rows (codes "domain")) r → first_text r ≡ main) where
  found : (q : Text) → IsFound first_text (λ r. domain_of_rows rows (first_text r)) (rows (codes "domain")) q (cond (same_domain q main) (Some (domain_of_rows rows main)) None)
  found q = by (same_domain q main) refl
    where
      by : (b : Bool) → same_domain q main ≡ b → IsFound first_text (λ r. domain_of_rows rows (first_text r)) (rows (codes "domain")) q (cond b (Some (domain_of_rows rows main)) None)
      by true tied = (row, there, only row there ∙ sym (equal_domains q main tied), ap (domain_of_rows rows) (only row there))
      by false apart = λ r in_rows is.
          let named : q ≡ main = sym is ∙ only r in_rows in
          let itself = its_own_domain main in
          let not : same_domain main main ≡ false = subst (λ n. same_domain n main ≡ false) named apart in
          cc

  domains_are : domains_in rows ≡ maps.insert maps.empty main (domain_of_rows rows main)
  domains_are = maps.same_map text_total text_IsAntisymmetric _ _ (λ q.
      get-is text_cmp text_total text_IsAntisymmetric first_text (λ r. domain_of_rows rows (first_text r)) (rows (codes "domain")) q _ one (found q)
      ∙ sym (maps.get-insert text_total maps.empty main (domain_of_rows rows main) q
      ∙ ap (λ o. cond (same_domain q main) (Some (domain_of_rows rows main)) o) (maps.get-empty text_cmp q)))

  pub office_of_main : office_of_rows rows ≡ main_alone (project_of_rows (seen_in main rows))
  office_of_main = λ i. record (office_of_rows rows) { domains = domains_are i }

  -- what running tables stand for while they have one domain
  pub meaning_of_main : meaning_by_domain rows ≡ meaning_in (seen_in main rows)
  meaning_of_main = λ i. record (meaning_by_domain rows) { office = office_of_main i }
