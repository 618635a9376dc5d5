-- The office that rows by domains stand for, from what is known of each domain: where each is as it was, or becomes another, where one comes, and where
-- there is none.
use Rattle.std.proofs.Common.{◌≡◌, ◌≢◌, ℕ, inl, List, [], ◌∷◌, true, false, Option, Some, None, option_map, refl, sym, ap, subst, ◌∙◌, codes}
use Rattle.std.proofs.lemmas.Bool.{false_from_ne_true}
use Rattle.std.specs.Prelude.{IsTrue}
use Rattle.std.specs.FinMap as maps
use Rattle.sqlite.specs.Order.{Row}
use Rattle.sqlite_rules.specs.Lists.{Has}
use Rattle.sqlite_rules.proofs.ListLemmas.{some_has, some_from}
use Rattle.sql_laws.specs.RowMaps.{map_of, OneEach, IsFound, IsPut}
use Rattle.sql_laws.proofs.RowMaps.{get-found, get-is, texts_are_one}
use Rattle.po_text.specs.Texts.{Text, text_cmp}
use Rattle.units.specs.Changes.{with_policy, office_under, with_domain}
use Rattle.units.specs.Orders.{text_total, text_IsAntisymmetric}
use Rattle.units.specs.Office.{Domain, main, empty_domain, same_domain, as_project, project_in, domain_of}
use Rattle.units.specs.Project.{Project}
use Rattle.units.specs.declared.unit.Policy.{Policy}
use Rattle.request_book.specs.Book.{Book, OfficeWithBook}
use Rattle.office_specification.specs.MainAlone.{main_alone}
use Rattle.office_specification.proofs.domains.InDomains.{equal_domains}
use Rattle.office_specification.proofs.domains.MainAlone.{in-main}
use Rattle.office_specification.proofs.rules.DomainsKept.{get-under}
use Rattle.sql_schema.specs.Keys.{text_at, first_text, has_text}
use Rattle.sql_schema.specs.Layouts.{NamedRows}
use Rattle.sql_schema.specs.SeenRows.{rows_seen, entry_seen, language_seen, unit_seen, seen_in, AreSameByName}
use Rattle.sql_schema.proofs.DomainsSeen.{is_text}
use Rattle.sql_schema.proofs.SeenRows.{from_seen}
use Rattle.sql_meaning.specs.Meaning.{book_in, team_in, policy_in, project_of_rows, meaning_in}
use Rattle.sql_meaning.specs.Domains.{project_seen, domain_of_rows, domains_in, office_of_rows, is_domain, AreOwned, HoldsOwnDomains}
use Rattle.sql_meaning.specs.RowKeys.{AreKeyedRows}
use Rattle.sql_meaning.proofs.MapEntries.{map_of-put_agreeing}
use Rattle.sql_meaning.proofs.Openings.{no_template, no_headers, no_units}
use Rattle.sql_meaning.proofs.SameRows.{domain_same}

-- names that differ are of two domains
pub not_same_domain : (a b : Text) → a ≢ b → same_domain a b ≡ false
not_same_domain a b apart = false_from_ne_true _ (λ tied. apart (equal_domains a b tied))

-- ---- the project of an office of `main` alone

-- The rows are of this project and this book.
pub record AreOf (project : Project) (book : Book) (rows : NamedRows) : Type 0 where
  pub its_project : project_of_rows rows ≡ project
  pub its_book : book_in rows ≡ book

pub are_of : (rows : NamedRows) (project : Project) (book : Book) → meaning_in rows ≡ record { office = main_alone project; book = book } → AreOf project book rows
are_of rows project book is = record {
  its_project = sym (in-main (project_of_rows rows)) ∙ ap (λ (m : OfficeWithBook). project_in m.office main) is ∙ in-main project;
  its_book = ap (λ (m : OfficeWithBook). m.book) is;
}

module _ {project : Project} {book : Book} {rows : NamedRows} (are : AreOf project book rows) where
  pub domain_meant : domain_of (project_of_rows rows) ≡ domain_of project
  domain_meant = ap (λ (p : Project). domain_of p) are.its_project

  pub team_meant : team_in rows ≡ project.team
  team_meant = ap (λ (p : Project). p.team) are.its_project

  pub policy_meant : policy_in rows ≡ project.policy
  policy_meant = ap (λ (p : Project). p.policy) are.its_project

-- ---- which domains there are

-- a row of the table names one that is there
pub row_names : (rows : NamedRows) (row : Row) → Has (rows (codes "domain")) row → IsTrue (is_domain rows (first_text row))
row_names rows row there = some_from (has_text 1 (first_text row)) (rows (codes "domain")) row there (is_text 1 (first_text row) row refl)

pub named_row : (rows : NamedRows) (domain : Text) → IsTrue (is_domain rows domain) → (row : Row) × Has (rows (codes "domain")) row × (first_text row ≡ domain)
named_row rows domain there = let it = some_has (has_text 1 domain) (rows (codes "domain")) there in (it.0, it.1, texts_are_one (first_text it.0) domain it.2)

-- ---- each domain is as it was, or becomes another

module _ (old new : NamedRows) (same : new (codes "domain") ≡ old (codes "domain")) where
  pub domains_same : ((domain : Text) → domain_of_rows new domain ≡ domain_of_rows old domain) → domains_in new ≡ domains_in old
  domains_same each = λ i. map_of text_cmp first_text (λ row. each (first_text row) i) (same i)

  module _ (one : OneEach first_text (old (codes "domain"))) (becomes : Domain → Domain)
      (each : (domain : Text) → IsTrue (is_domain old domain) → domain_of_rows new domain ≡ becomes (domain_of_rows old domain)) where
    found_become : (q : Text) (found : Option Domain) → IsFound first_text (λ r. domain_of_rows old (first_text r)) (old (codes "domain")) q found
        → IsFound first_text (λ r. domain_of_rows new (first_text r)) (new (codes "domain")) q (option_map becomes found)
    found_become q None none = λ r there is. none r (subst (λ rows. Has rows r) same there) is
    found_become q (Some d) (r, there, at, is) = (r, subst (λ rows. Has rows r) (sym same) there, at, each (first_text r) (row_names old r there) ∙ ap becomes is)

    pub get-become : (q : Text) → maps.get (domains_in new) q ≡ option_map becomes (maps.get (domains_in old) q)
    get-become q =
        get-is text_cmp text_total text_IsAntisymmetric first_text (λ r. domain_of_rows new (first_text r)) (new (codes "domain")) q _ (subst (OneEach first_text) (sym same) one)
        (found_become q _ (get-found text_cmp text_total text_IsAntisymmetric first_text (λ r. domain_of_rows old (first_text r)) (old (codes "domain")) q))

  -- each comes under a policy
  pub domains_under_policy : OneEach first_text (old (codes "domain")) → (policy : Policy)
      → ((domain : Text) → IsTrue (is_domain old domain) → domain_of_rows new domain ≡ domain_of (with_policy (project_seen domain old) policy))
      → domains_in new ≡ (office_under (office_of_rows old) policy).domains
  domains_under_policy one policy each = maps.same_map text_total text_IsAntisymmetric _ _ (λ q.
      get-become one (λ d. domain_of (with_policy (as_project (office_of_rows old) d) policy)) each q ∙ sym (get-under (office_of_rows old) policy q))

-- ---- one comes

-- none where there was one before
pub domains_with : (old new : NamedRows) (domain : Text) (row : Row) → OneEach first_text (old (codes "domain")) → IsPut first_text (old (codes "domain")) (new (codes "domain")) row
    → first_text row ≡ domain → ((other : Text) → domain_of_rows new other ≡ domain_of_rows old other) → domain_of_rows old domain ≡ empty_domain
    → domains_in new ≡ (with_domain (office_of_rows old) domain).domains
domains_with old new domain row one put named each empty =
    map_of-put_agreeing text_cmp text_total text_IsAntisymmetric first_text (λ r. domain_of_rows old (first_text r)) (λ r. domain_of_rows new (first_text r)) (old (codes "domain"))
    (new (codes "domain")) row one put (λ x there apart. each (first_text x))
    ∙ ap (λ (n : Text). maps.insert (domains_in old) n (domain_of_rows new n)) named
    ∙ ap (λ (d : Domain). maps.insert (domains_in old) domain d) (each domain ∙ empty)

-- ---- one that isn't there sees no row

no_row : (rows : List Row) → ((row : Row) → Has rows row → ⊥) → rows ≡ []
no_row [] none = refl
no_row (row ∷ rows) none = absurd (none row (inl refl))

module _ (rows : NamedRows) (held : HoldsOwnDomains rows) (domain : Text) (missing : is_domain rows domain ≡ false) where
  none_seen : (place : ℕ) (name : List ℕ) (seen : Row → Row) → AreOwned place name rows → (row : Row) → Has (rows_seen (has_text place domain) seen (rows name)) row → ⊥
  none_seen place name seen owned row there =
      let it = from_seen (has_text place domain) seen (rows name) row there in
      let own : is_domain rows domain ≡ true = subst (λ d. is_domain rows d ≡ true) (texts_are_one (text_at place it.0) domain it.2) (owned it.0 it.1) in
      cc

  pub no_unit_seen : (row : Row) → Has (seen_in domain rows (codes "unit")) row → ⊥
  no_unit_seen = none_seen 1 (codes "d_unit") unit_seen held.units

  pub no_domain : domain_of_rows rows domain ≡ empty_domain
  no_domain =
      let template = no_template (seen_in domain rows) (no_row _ (none_seen 1 (codes "d_template") entry_seen held.template)) in
      let headers = no_headers (seen_in domain rows) (no_row _ (none_seen 1 (codes "d_language") language_seen held.languages)) in
      let units = no_units (seen_in domain rows) (no_row _ no_unit_seen) in
      λ i. record { template = template i; headers = headers i; units = units i }

-- ---- rows that are the same the other way round

pub same_back : (old new : NamedRows) → AreSameByName old new → AreSameByName new old
same_back old new same name = record { only = (same name).kept; kept = (same name).only }

-- where the new ones are keyed
pub domain_as_before : (old new : NamedRows) → AreKeyedRows new → AreSameByName old new → domain_of (project_of_rows new) ≡ domain_of (project_of_rows old)
domain_as_before old new keyed same = sym (domain_same new old keyed (same_back old new same))
