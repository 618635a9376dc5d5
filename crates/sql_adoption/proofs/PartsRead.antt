-- What is read of a part of the office is alike to the office that all rows stand for.
use Rattle.std.proofs.Common.{◌≡◌, List, [], ◌∷◌, fold, Bool, true, false, cond, Option, Some, None, is_some, refl, sym, ap, subst, ◌∙◌, codes}
use Rattle.std.specs.Prelude.{unwrap_or}
use Rattle.std.specs.Ordering.{eq_by_cmp}
use Rattle.std.specs.FinMap as maps
use Rattle.std.specs.Cmp.Lexicographic.{nat_list_cmp_total}
use Rattle.sqlite.specs.Effect.{Database}
use Rattle.sqlite.specs.Order.{Row}
use Rattle.sql_laws.specs.RowMaps.{IsFound}
use Rattle.sql_laws.proofs.RowMaps.{get-found}
use Rattle.po_text.specs.Texts.{Text, text_cmp}
use Rattle.units.specs.Changes.{with_domain}
use Rattle.units.specs.Office.{Office, Domain, empty_domain, same_domain}
use Rattle.units.specs.Orders.{text_total, text_IsAntisymmetric}
use Rattle.office_specification.specs.Parts.{ShareTeam, AreAlikeIn}
use Rattle.office_specification.specs.declared.parts.Part.TheVariants as parts
use Rattle.office_specification.proofs.domains.InDomains.{equal_domains, its_own_domain}
use Rattle.sql_schema.specs.Inside.{AreOfficeTablesOf}
use Rattle.sql_schema.specs.Keys.{text_at, first_text, columns}
use Rattle.sql_schema.specs.Layouts.{by_domain, NamedRows, rows_named}
use Rattle.sql_schema.specs.SeenRows.{seen_in}
use Rattle.sql_schema.proofs.DomainRows.{one_domain_name}
use Rattle.sql_statements.specs.DomainAnswers.{ShowsDomains}
use Rattle.sql_statements.specs.WholeOffice.{without_units}
use Rattle.sql_meaning.specs.Domains.{domain_of_rows, domains_in, office_of_rows}
use Rattle.sql_meaning.proofs.Books.{same_texts}
use Rattle.sql_meaning.proofs.DomainOfficeRows.{domain_rows}
use Rattle.sql_meaning.proofs.OfficeTables.{whole_team, whole_policy}
use Rattle.sql_meaning.proofs.ShownMaps.{inserted, map_is, inserted_answers}
use Rattle.sql_adoption.specs.PartsRead.{ShowsShared, with_named, shared_office}
use Rattle.sql_adoption.specs.Reading.{bare_office, with_seen}
use Rattle.sql_adoption.specs.declared.look_ups.SharedRows.{SharedRows}

abbrev Domains : Type 0
Domains = maps.FinMap text_cmp Domain

-- ---- the domains' names

named : (rows : List Row) (office : Office) → (with_named office rows).domains ≡ fold (λ (m : Domains) row. maps.insert m (text_at 0 row) empty_domain) office.domains rows
named [] office = refl
named (row ∷ rows) office = named rows (with_domain office (text_at 0 row))

put_still : (b : Bool) (v w : Domain) (o p : Option Domain) → is_some o ≡ is_some p → is_some (cond b (Some v) o) ≡ is_some (cond b (Some w) p)
put_still true v w o p e = refl
put_still false v w o p e = e

-- whatever each one has
same_named : (rows : List Row) (item : Row → Domain) (m n : Domains) → ((q : Text) → maps.contains_key m q ≡ maps.contains_key n q) → (q : Text)
    → maps.contains_key (fold (λ (m : Domains) row. maps.insert m (text_at 0 row) empty_domain) m rows) q ≡ maps.contains_key (fold (λ (n : Domains) row. maps.insert n (text_at 0 row) (item row)) n rows) q
same_named [] item m n same q = same q
same_named (row ∷ rows) item m n same q =
    same_named rows item (maps.insert m (text_at 0 row) empty_domain) (maps.insert n (text_at 0 row) (item row))
    (λ k. ap is_some (maps.get-insert text_total m (text_at 0 row) empty_domain k)
    ∙ (put_still (eq_by_cmp text_cmp k (text_at 0 row)) empty_domain (item row) (maps.get m k) (maps.get n k) (same k)
    ∙ sym (ap is_some (maps.get-insert text_total n (text_at 0 row) (item row) k)))) q

module _ (db : Database) (ready : AreOfficeTablesOf by_domain db) where
  abbrev tables : NamedRows
  tables = rows_named db

  abbrev shown_domain : Row → Domain
  shown_domain row = domain_of_rows tables (text_at 0 row)

  in_rows : (rows : List Row) → ShowsDomains db rows → domains_in tables ≡ inserted (text_at 0) shown_domain rows
  in_rows rows shows =
      map_is text_cmp nat_list_cmp_total same_texts first_text (λ row. domain_of_rows tables (first_text row)) (columns (1 ∷ [])) (text_at 0) shown_domain (tables (codes "domain")) rows
      (λ r there. refl) (λ r there. refl) shows.all (inserted (text_at 0) shown_domain rows) (one_domain_name db ready.schema ready.sound (ready.tables (codes "domain") refl))
      (inserted_answers text_cmp nat_list_cmp_total same_texts (text_at 0) shown_domain rows)

  abbrev seen : Text → NamedRows
  seen domain = seen_in domain tables

  -- what all domains share
  pub shared_alike : (rows : SharedRows) → ShowsShared db rows → ShareTeam (shared_office rows) (office_of_rows tables)
  shared_alike rows shows = record {
    team = sym (whole_team (seen []) (domain_rows db ready []) rows.team.items (record { all = shows.team.all; in_order = shows.team.in_order }));
    policy = sym (whole_policy (seen []) (domain_rows db ready []) rows.policy shows.policy);
    domains = λ q. ap (λ (m : Domains). maps.contains_key m q) (named rows.domains.items bare_office)
        ∙ (same_named rows.domains.items shown_domain maps.empty maps.empty (λ k. refl) q ∙ sym (ap (λ (m : Domains). maps.contains_key m q) (in_rows rows.domains.items shows.domains)));
  }

-- where it isn't there
no_two : (o p : Option Domain) → is_some o ≡ is_some p → is_some o ≡ false → o ≡ p
no_two None None same none = refl
no_two None (Some d) same none = cc
no_two (Some d) p same none = cc

pub none_alike : (x y : Office) (domain : Text) → ShareTeam x y → maps.contains_key x.domains domain ≡ false → maps.get x.domains domain ≡ maps.get y.domains domain
none_alike x y domain shares none = no_two (maps.get x.domains domain) (maps.get y.domains domain) (shares.domains domain) none

-- where it is
found_domain : (tables : NamedRows) (domain : Text) → maps.contains_key (domains_in tables) domain ≡ true → maps.get (domains_in tables) domain ≡ Some (domain_of_rows tables domain)
found_domain tables domain there =
    by (maps.get (domains_in tables) domain) (get-found text_cmp text_total text_IsAntisymmetric first_text (λ row. domain_of_rows tables (first_text row)) (tables (codes "domain")) domain) there
  where
    by : (found : Option Domain) → IsFound first_text (λ row. domain_of_rows tables (first_text row)) (tables (codes "domain")) domain found → is_some found ≡ true → found ≡ Some (domain_of_rows tables domain)
    by (Some d) (row, here, is_named, is) some = ap (λ d. Some d) (sym is ∙ ap (domain_of_rows tables) is_named)
    by None none some = cc

module _ (tables : NamedRows) (old : Office) (domain : Text) (shares : ShareTeam old (office_of_rows tables)) (there : maps.contains_key old.domains domain ≡ true) where
  meant : maps.contains_key (domains_in tables) domain ≡ true
  meant = sym (shares.domains domain) ∙ there

  -- whatever takes its place, no name comes or goes
  still_named : (put : Domain) (q : Text) → maps.contains_key (maps.insert old.domains domain put) q ≡ maps.contains_key (domains_in tables) q
  still_named put q = ap is_some (maps.get-insert text_total old.domains domain put q) ∙ by (same_domain q domain) refl
    where
      by : (tied : Bool) → same_domain q domain ≡ tied → is_some (cond tied (Some put) (maps.get old.domains q)) ≡ maps.contains_key (domains_in tables) q
      by true e = sym (ap (maps.contains_key (domains_in tables)) (equal_domains q domain e) ∙ meant)
      by false e = shares.domains q

  -- the one that takes it
  taken : (put : Domain) → maps.get (maps.insert old.domains domain put) domain ≡ Some put
  taken put = maps.get-insert text_total old.domains domain put domain ∙ ap (λ b. cond b (Some put) (maps.get old.domains domain)) (its_own_domain domain)

  pub seen_alike : (new : Office) → new ≡ with_seen tables old domain → AreAlikeIn (parts.Domain domain) new (office_of_rows tables)
  seen_alike new is =
      subst (λ (office : Office). AreAlikeIn (parts.Domain domain) office (office_of_rows tables)) (sym is) (
        record { team = refl; policy = refl; domains = still_named (domain_of_rows tables domain) },
        taken (domain_of_rows tables domain) ∙ sym (found_domain tables domain meant),
      )

  pub frame_alike : (new : Office) → new ≡ with_seen (without_units tables) old domain → AreAlikeIn (parts.Languages domain) new (office_of_rows tables)
  frame_alike new is =
      subst (λ (office : Office). AreAlikeIn (parts.Languages domain) office (office_of_rows tables)) (sym is) (
        record { team = refl; policy = refl; domains = still_named (domain_of_rows (without_units tables) domain) },
        record {
          template = ap (λ (found : Option Domain). (unwrap_or found empty_domain).template) (taken (domain_of_rows (without_units tables) domain))
              ∙ sym (ap (λ (found : Option Domain). (unwrap_or found empty_domain).template) (found_domain tables domain meant));
          headers = ap (λ (found : Option Domain). (unwrap_or found empty_domain).headers) (taken (domain_of_rows (without_units tables) domain))
              ∙ sym (ap (λ (found : Option Domain). (unwrap_or found empty_domain).headers) (found_domain tables domain meant));
          team = refl;
          policy = refl;
        },
      )
