-- What commits on tables by domains make of the office with its book: of each domain that is there what they make of an office of it alone.
use Rattle.std.specs.Prelude.{⊤}
use Rattle.std.proofs.Common.{◌≡◌, ◌≢◌, List, Bool, true, false, Option, Some, None, inl, refl, sym, ap, subst, ◌∙◌, codes}
use Rattle.std.specs.Prelude.{IsTrue}
use Rattle.sqlite.specs.Effect.{Database}
use Rattle.sqlite.specs.Order.{Row}
use Rattle.sql_laws.specs.RowMaps.{IsPut}
use Rattle.po_text.specs.Texts.{Text}
use Rattle.units.specs.Changes.{set_role, office_under, with_domain, with_policy, with_team}
use Rattle.units.specs.KeyTexts.{HasStrings}
use Rattle.units.specs.Project.{Project}
use Rattle.units.specs.Projects.{IsProject}
use Rattle.units.specs.Office.{Office, main, has_domain, project_in, domain_of, with_project}
use Rattle.units.specs.declared.unit.Key.{Key}
use Rattle.units.specs.declared.unit.Policy.{Policy}
use Rattle.units.specs.declared.unit.Role.{Role}
use Rattle.units.specs.declared.unit.UnitView.{UnitView}
use Rattle.request_book.specs.Book.{with_record}
use Rattle.request_book.specs.declared.book.Record.{Record}
use Rattle.office_specification.specs.MainAlone.{main_alone}
use Rattle.office_specification.specs.OfficeChanges.{IsPossibleIn, changed_project, changed}
use Rattle.office_specification.specs.OfficeRules.{KeepsRules}
use Rattle.office_specification.specs.UnitAccess.{with_view, written_at, IsPossibleWrite, with_write_in}
use Rattle.office_specification.specs.declared.values.Change.TheVariants.{InDomain}
use Rattle.office_specification.specs.declared.values.DomainChange.{DomainChange}
use Rattle.office_specification.specs.declared.values.DomainChange.TheVariants.{NewLanguage, NewTemplate}
use Rattle.office_specification.specs.declared.values.UnitWrite.{UnitWrite}
use Rattle.office_specification.proofs.domains.InDomains.{nothing_put}
use Rattle.office_specification.proofs.domains.MainAlone.{policy-main}
use Rattle.sql_schema.specs.Inside.{AreOfficeTablesOf, Then}
use Rattle.sql_schema.specs.Keys.{first_text}
use Rattle.sql_schema.specs.Layouts.{by_domain, NamedRows, rows_named}
use Rattle.sql_schema.specs.SeenRows.{seen_in}
use Rattle.sql_meaning.specs.Beginnings.{PutsDomain}
use Rattle.sql_meaning.specs.Domains.{project_seen, domain_of_rows, office_of_rows, meaning_by_domain, is_domain, HoldsOwnDomains}
use Rattle.sql_meaning.specs.Meaning.{AreNumbered, book_in, team_in, policy_in, meaning_in}
use Rattle.sql_meaning.specs.RowChanges.{HaveNextIn}
use Rattle.sql_meaning.proofs.CommitLaws.{same_project, commits_record}
use Rattle.sql_meaning.proofs.DomainChanges.{has_domain_of_rows, project_of_domain, office_after}
use Rattle.sql_meaning.proofs.DomainOfficeRows.{one_domain_each, domain_rows}
use Rattle.sql_meaning.proofs.DomainSteps.{all_unseen}
use Rattle.sql_meaning.proofs.OfficeOfDomains.{not_same_domain, AreOf, are_of, domain_meant, team_meant, policy_meant, named_row, domains_same, domains_under_policy, domains_with, no_unit_seen, no_domain, domain_as_before}
use Rattle.sql_meaning.proofs.OneDomainRules.{rules_of_one, rules_of_put}
use Rattle.sql_changes.specs.Commits.{PutsNumberedRecord, WritesRecordAndUnit, MakesRole, MakesPolicy, MakesDomainChange, PutsRecordAlone, MakesThere, MakesIn}
use Rattle.sql_changes.specs.OnDomains.{OnDomainsWhere, OnEach, OnDomainElse}
use Rattle.sql_changes.specs.UnitWrites.{ArePreviousIn}
use Rattle.sql_changes.proofs.DomainWrites.{domain_elsewhere, its_made, others_made}
use Rattle.sql_changes.proofs.LanguageCommits.{commits_language}
use Rattle.sql_changes.proofs.PolicyCommits.{commits_policy}
use Rattle.sql_changes.proofs.StayingUnits.{PlansFollow}
use Rattle.sql_changes.proofs.RoleCommits.{commits_role}
use Rattle.sql_changes.proofs.TemplateCommits.{commits_template}
use Rattle.sql_changes.proofs.UnitCommits.{commits_write}
use Rattle.sql_changes.proofs.Units.{has_next}

-- ---- what the domains keep of the rules

-- 64 bits hold the next revisions, since the rules bound them; a domain that isn't there has no unit
module _ (db : Database) (ready : AreOfficeTablesOf by_domain db) (kept : KeepsRules (meaning_by_domain (rows_named db))) where
  project_there : (domain : Text) → IsTrue (is_domain (rows_named db) domain) → project_in (office_of_rows (rows_named db)) domain ≡ project_seen domain (rows_named db)
  project_there domain there = let it = named_row (rows_named db) domain there in project_of_domain (rows_named db) (one_domain_each db ready) domain it.0 it.1 it.2

  rules_seen : (domain : Text) → IsTrue (is_domain (rows_named db) domain) → KeepsRules (meaning_in (seen_in domain (rows_named db)))
  rules_seen domain there =
      subst (λ (p : Project). KeepsRules (record { office = main_alone p; book = book_in (rows_named db) })) (project_there domain there)
      (rules_of_one (office_of_rows (rows_named db)) (book_in (rows_named db)) domain kept (sym (has_domain_of_rows (rows_named db) domain) ∙ there))

  each_has_next : HoldsOwnDomains (rows_named db) → (domain : Text) → HaveNextIn (seen_in domain (rows_named db))
  each_has_next held domain = by (is_domain (rows_named db) domain) refl
    where
      by : (there : Bool) → is_domain (rows_named db) domain ≡ there → HaveNextIn (seen_in domain (rows_named db))
      by true there = λ r in_rows approved. has_next (seen_in domain (rows_named db)) (domain_rows db ready domain) (rules_seen domain there) r in_rows
      by false missing = λ r in_rows approved. absurd (no_unit_seen (rows_named db) held domain missing r in_rows)

-- a unit's view, if there is one, leaves the team and the policy
with_view_same : (project : Project) (lang : Text) (key : Key) (view : Option UnitView) → ((with_view project lang key view).team ≡ project.team) × ((with_view project lang key view).policy ≡ project.policy)
with_view_same project lang key None = (refl, refl)
with_view_same project lang key (Some view) = (refl, refl)

-- a template's plans follow the units that are there
abbrev pub Follows : Project → DomainChange → Type 0
Follows project (NewLanguage lang language plan tally) = ⊤
Follows project (NewTemplate template plans tallies) = PlansFollow project.units plans.items

-- as those do of a change that is possible in a domain that keeps its rules
pub follows : (project : Project) (change : DomainChange) → IsProject project → IsPossibleIn project change → Follows project change
follows project (NewLanguage lang language plan tally) keeps possible = tt
follows project (NewTemplate template plans tallies) keeps possible = record { named = possible.none_goes keeps; apart = possible.apart keeps; still = possible.still keeps }

-- ---- what is left

-- this office, and a book with one record more
abbrev pub LeavesOffice : Database → Database → Record → Office → Type 0
LeavesOffice old after row office =
    (meaning_by_domain (rows_named after) ≡ record { office = office; book = with_record (book_in (rows_named old)) row }) × AreNumbered (rows_named after)

-- it keeps the rules
abbrev pub AllowsOffice : Database → Record → Office → Type 0
AllowsOffice old row office = KeepsRules (record { office = office; book = with_record (book_in (rows_named old)) row })

-- this project is what a domain sees, and a book with one record more
abbrev LeavesProject : NamedRows → NamedRows → Record → Project → Type 0
LeavesProject old after row project = (meaning_in after ≡ record { office = main_alone project; book = with_record (book_in old) row }) × AreNumbered after

module _ (old : Database) (row : Record) (ready : AreOfficeTablesOf by_domain old) (numbered : AreNumbered (rows_named old)) where
  abbrev before : NamedRows
  before = rows_named old

  abbrev office : Office
  office = office_of_rows before

  module _ (after : Database) where
    abbrev behind : NamedRows
    behind = rows_named after

    abbrev Leaves : Office → Type 0
    Leaves = LeavesOffice old after row

    abbrev Sees : Text → Project → Type 0
    Sees domain project = LeavesProject (seen_in domain before) (seen_in domain behind) row project

    -- ---- a record alone, and one and a member's role

    seen_recorded : (domain : Text) → PutsNumberedRecord row (seen_in domain before) (seen_in domain behind) → Sees domain (project_seen domain before)
    seen_recorded domain made = commits_record (seen_in domain before) (seen_in domain behind) row (domain_rows old ready domain) numbered made.1 made.0

    -- each domain is as it was, but for the team
    same_domains_leave : (projects : Text → Project) → ((domain : Text) → domain_of (projects domain) ≡ domain_of_rows before domain) → behind (codes "domain") ≡ before (codes "domain")
        → ((domain : Text) → Sees domain (projects domain)) → (projects main).policy ≡ policy_in before → Leaves (with_team office (projects main).team)
    same_domains_leave projects same names sees policies =
        let are : (d : Text) → AreOf (projects d) (with_record (book_in before) row) (seen_in d behind) = λ d. are_of (seen_in d behind) (projects d) (with_record (book_in before) row) (sees d).0 in
        let domains = domains_same before behind names (λ d. domain_meant (are d) ∙ same d) in
        let team = team_meant (are main) in
        let policy = policy_meant (are main) ∙ policies in
        let book = (are main).its_book in
        ((λ i. record { office = record { domains = domains i; team = team i; policy = policy i }; book = book i }), (sees main).1)

    pub record_leaves : OnEach (PutsNumberedRecord row) old after → Leaves office
    record_leaves made =
        let each = made.on (λ d. tt) in
        same_domains_leave (λ d. project_seen d before) (λ d. refl) (each.1 (codes "domain") domain_elsewhere) (λ d. seen_recorded d (each.0 d)) refl

    pub role_leaves : (name : Text) (role : Role) → OnEach (MakesRole row name role) old after → Leaves (with_team office (set_role name role office.team))
    role_leaves name role made =
        let each = made.on (λ d. tt) in
        same_domains_leave (λ d. record (project_seen d before) { team = set_role name role (team_in before) }) (λ d. refl) (each.1 (codes "domain") domain_elsewhere)
        (λ d. commits_role (seen_in d before) (seen_in d behind) row name role (domain_rows old ready d) numbered (each.0 d)) refl

    -- ---- what is asked of the tables that are left too

    module _ (tables : AreOfficeTablesOf by_domain after) where
      -- ---- a policy

      pub policy_leaves : (policy : Policy) → KeepsRules (meaning_by_domain before) → HoldsOwnDomains before → OnDomainsWhere HaveNextIn (λ domain. MakesPolicy row policy) old after → Leaves (office_under office policy)
      policy_leaves policy kept held made =
          let each = made.on (each_has_next old ready kept held) in
          let sees : (d : Text) → IsTrue (is_domain before d) → Sees d (with_policy (project_seen d before) policy) = λ d there.
          let it = commits_policy (seen_in d before) (seen_in d behind) row policy (domain_rows old ready d) (domain_rows after tables d) numbered (rules_seen old ready kept d there) (each.0 d) in
          (it.0 ∙ (λ i. record { office = policy-main (project_seen d before) policy i; book = with_record (book_in before) row }), it.1) in
          let are : (d : Text) → IsTrue (is_domain before d) → AreOf (with_policy (project_seen d before) policy) (with_record (book_in before) row) (seen_in d behind) = λ d there.
          are_of (seen_in d behind) (with_policy (project_seen d before) policy) (with_record (book_in before) row) (sees d there).0 in
          let there : is_domain before main ≡ true = has_domain_of_rows before main ∙ kept.office.has_main in
          let domains = domains_under_policy before behind (each.1 (codes "domain") domain_elsewhere) (one_domain_each old ready) policy (λ d is_there. domain_meant (are d is_there)) in
          let team = team_meant (are main there) in
          let is = policy_meant (are main there) in
          let book = (are main there).its_book in
          ((λ i. record { office = record { domains = domains i; team = team i; policy = is i }; book = book i }), (sees main there).1)

      -- ---- in a domain that is there, and elsewhere the record alone

      stays_recorded : (domain : Text) → PutsRecordAlone row (seen_in domain before) (seen_in domain behind) → domain_of_rows behind domain ≡ domain_of_rows before domain
      stays_recorded domain (mid, recorded, same) =
          domain_as_before mid (seen_in domain behind) (domain_rows after tables domain).keyed same
          ∙ ap (λ (p : Project). domain_of p) (same_project (seen_in domain before) mid row recorded.0)

      module _ (domain : Text) (Makes : NamedRows → NamedRows → Type 0) (there : IsTrue (is_domain before domain)) (made : OnDomainElse domain Makes (PutsRecordAlone row) old after) where
        others_stay : (other : Text) → other ≢ domain → domain_of_rows behind other ≡ domain_of_rows before other
        others_stay other apart =
            stays_recorded other (others_made domain Makes (PutsRecordAlone row) (seen_in other before) (seen_in other behind) other (not_same_domain other domain apart) ((made.on (λ d. tt)).0 other))

        one_leaves : (next : Project) → next.team ≡ team_in before → next.policy ≡ policy_in before → Sees domain next → Leaves (with_project office domain next)
        one_leaves next team policy sees =
            let are = are_of (seen_in domain behind) next (with_record (book_in before) row) sees.0 in
            let left =
            office_after before behind domain (one_domain_each old ready) ((made.on (λ d. tt)).1 (codes "domain") domain_elsewhere) others_stay
            (team_meant are ∙ team) (policy_meant are ∙ policy) next are.its_project in
            let book = are.its_book in
            ((λ i. record { office = left i; book = book i }), sees.1)

        -- what is made of the domain's project is made of the office
        there_leaves : KeepsRules (meaning_by_domain before) → (next : Project → Project) → (next (project_seen domain before)).team ≡ team_in before → (next (project_seen domain before)).policy ≡ policy_in before
            → (KeepsRules (record { office = main_alone (next (project_seen domain before)); book = with_record (book_in before) row }) → Makes (seen_in domain before) (seen_in domain behind)
            → Sees domain (next (project_seen domain before)))
            → AllowsOffice old row (with_project office domain (next (project_in office domain))) → Leaves (with_project office domain (next (project_in office domain)))
        there_leaves kept next team policy sees rules =
            let is = project_there old ready kept domain there in
            let ruled = rules_of_put office (with_record (book_in before) row) domain (next (project_seen domain before)) (sym (has_domain_of_rows before domain) ∙ there) (team, policy)
            (subst (λ (p : Project). AllowsOffice old row (with_project office domain (next p))) is rules) in
            subst (λ (p : Project). Leaves (with_project office domain (next p))) (sym is)
            (one_leaves (next (project_seen domain before)) team policy
            (sees ruled (its_made domain Makes (PutsRecordAlone row) (seen_in domain before) (seen_in domain behind) ((made.on (λ d. tt)).0 domain))))

      -- what is written of a unit that is there
      pub write_leaves : KeepsRules (meaning_by_domain before) → (domain lang : Text) (key : Key) (write : UnitWrite) → HasStrings key → ArePreviousIn write
          → IsPossibleWrite (project_in office domain) lang key (Some write) → MakesIn domain row (WritesRecordAndUnit row lang key write) old after
          → AllowsOffice old row (with_write_in office domain lang key (Some write)) → Leaves (with_write_in office domain lang key (Some write))
      write_leaves kept domain lang key write strings previous possible = by (is_domain before domain) refl
        where
          by : (there : Bool) → is_domain before domain ≡ there → MakesThere there domain row (WritesRecordAndUnit row lang key write) old after
              → AllowsOffice old row (with_write_in office domain lang key (Some write)) → Leaves (with_write_in office domain lang key (Some write))
          by true there made rules =
              let its = subst (λ (p : Project). IsPossibleWrite p lang key (Some write)) (project_there old ready kept domain there) possible in
              let same = with_view_same (project_seen domain before) lang key (written_at (project_seen domain before) lang key (Some write)) in
              there_leaves domain (WritesRecordAndUnit row lang key write) there made kept (λ p. with_view p lang key (written_at p lang key (Some write))) same.0 same.1
              (λ ruled written. commits_write (seen_in domain before) (seen_in domain behind) row lang key write (domain_rows old ready domain) numbered ruled strings previous its written) rules
          by false missing made rules =
              subst Leaves (sym (nothing_put office domain (with_view (project_in office domain) lang key (written_at (project_in office domain) lang key (Some write))) (sym (has_domain_of_rows before domain) ∙ missing)))
              (record_leaves made)

      -- a domain's change, where its plans follow the units that are there
      pub domain_change_leaves : KeepsRules (meaning_by_domain before) → (domain : Text) (change : DomainChange) → IsTrue (has_domain office domain) → Follows (project_in office domain) change
          → MakesIn domain row (MakesDomainChange row change) old after → AllowsOffice old row (changed office (InDomain domain change)) → Leaves (changed office (InDomain domain change))
      domain_change_leaves kept domain change has stay made rules = by change (subst (λ (p : Project). Follows p change) (project_there old ready kept domain there) stay) (subst (λ b. MakesThere b domain row (MakesDomainChange row change) old after) there made) rules
        where
          there : is_domain before domain ≡ true
          there = has_domain_of_rows before domain ∙ has

          by : (change : DomainChange) → Follows (project_seen domain before) change → OnDomainElse domain (MakesDomainChange row change) (PutsRecordAlone row) old after
              → AllowsOffice old row (changed office (InDomain domain change)) → Leaves (changed office (InDomain domain change))
          by (NewLanguage lang language plan tally) stay made rules =
              there_leaves domain (MakesDomainChange row (NewLanguage lang language plan tally)) there made kept (λ p. changed_project p (NewLanguage lang language plan tally)) refl refl
              (λ ruled its. commits_language (seen_in domain before) (seen_in domain behind) row lang language plan (domain_rows old ready domain) numbered ruled its) rules
          by (NewTemplate template plans tallies) stay made rules =
              there_leaves domain (MakesDomainChange row (NewTemplate template plans tallies)) there made kept (λ p. changed_project p (NewTemplate template plans tallies)) refl refl
              (λ ruled its. commits_template (seen_in domain before) (seen_in domain behind) row template plans.items (domain_rows old ready domain) numbered ruled stay its) rules

  -- ---- a new domain

  pub new_domain_leaves : (after : Database) (domain : Text) → HoldsOwnDomains before → has_domain office domain ≡ false → Then (OnEach (PutsNumberedRecord row)) (PutsDomain domain) old after
      → LeavesOffice old after row (with_domain office domain)
  new_domain_leaves after domain held missing (mid, recorded, put) =
      let each = recorded.on (λ d. tt) in
      let unseen : (d : Text) → seen_in d (rows_named after) ≡ seen_in d (rows_named mid) = λ d. all_unseen d mid after (codes "domain") (inl refl) put.others in
      let sees : (d : Text) → LeavesProject (seen_in d before) (seen_in d (rows_named after)) row (project_seen d before) = λ d.
      subst (λ rows. LeavesProject (seen_in d before) rows row (project_seen d before)) (sym (unseen d)) (seen_recorded mid d (each.0 d)) in
      let are : (d : Text) → AreOf (project_seen d before) (with_record (book_in before) row) (seen_in d (rows_named after)) = λ d.
      are_of (seen_in d (rows_named after)) (project_seen d before) (with_record (book_in before) row) (sees d).0 in
      let names = each.1 (codes "domain") domain_elsewhere in
      let domains =
      domains_with before (rows_named after) domain put.row (one_domain_each old ready) (subst (λ (rows : List Row). IsPut first_text rows (rows_named after (codes "domain")) put.row) names put.put)
      (ap first_text put.is_row.1) (λ d. domain_meant (are d)) (no_domain before held domain (has_domain_of_rows before domain ∙ missing)) in
      let team = team_meant (are main) in
      let policy = policy_meant (are main) in
      let book = (are main).its_book in
      ((λ i. record { office = record { domains = domains i; team = team i; policy = policy i }; book = book i }), (sees main).1)
