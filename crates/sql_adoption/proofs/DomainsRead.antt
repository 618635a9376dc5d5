-- The office of all domains, read one after the other, is that of all rows.
use Rattle.std.proofs.Common.{◌≡◌, inl, inr, ℕ, ◌+◌, ◌<◌, ◌≤◌, List, [], ◌∷◌, ◌++◌, length, take, map, fold, get_or, true, false, is_some, refl, sym, ap, subst, ◌∙◌, arith, codes}
use Rattle.std.specs.Prelude.{IsTrue}
use Rattle.std.specs.List.{list_all}
use Rattle.std.specs.FinMap as maps
use Rattle.std.specs.Cmp.Lexicographic.{nat_list_cmp_total}
use Rattle.std.proofs.lemmas.Bool.{false≢true}
use Rattle.std.proofs.lemmas.List.{take_more, take_all}
use Rattle.sqlite.specs.Order.{Row}
use Rattle.sqlite.specs.Effect.{Database}
use Rattle.sqlite_rules.specs.Lists.{Has}
use Rattle.sqlite_rules.proofs.ListLemmas.{some_has, some_from, has_either}
use Rattle.sql_laws.specs.RowMaps.{map_of}
use Rattle.sql_laws.proofs.RemovedRows.{from_mapped, to_mapped}
use Rattle.sql_laws.proofs.RowMaps.{texts_are_one}
use Rattle.po_text.specs.Texts.{Text, text_cmp}
use Rattle.units.specs.Office.{Office, Domain, main}
use Rattle.office_specification.specs.OfficeRules.{KeepsRules}
use Rattle.office_maps.specs.OfficeIn.{office_in}
use Rattle.office_maps.specs.declared.office_maps.OfficeMaps.{OfficeMaps}
use Rattle.sql_schema.specs.Inside.{AreOfficeTablesOf}
use Rattle.sql_schema.specs.Keys.{text_at, first_text, has_text, columns}
use Rattle.sql_schema.specs.Layouts.{by_domain, NamedRows, rows_named}
use Rattle.sql_schema.specs.SeenRows.{seen_in}
use Rattle.sql_schema.proofs.DomainsSeen.{is_text}
use Rattle.sql_statements.specs.DomainAnswers.{ShowsDomains}
use Rattle.sql_statements.specs.Tables.{ShowsTableIn}
use Rattle.tables.specs.declared.faults.Lost.{Lost}
use Rattle.tables.specs.declared.faults.Lost.TheVariants as lost
use Rattle.sql_decoding.specs.declared.faults.Failure.{Failure}
use Rattle.sql_decoding.specs.RowTests.{is_domain_row, IsUnread}
use Rattle.sql_decoding.proofs.RowsTold.{disk_is_other}
use Rattle.sql_meaning.specs.Meaning.{team_in, policy_in}
use Rattle.sql_meaning.specs.Domains.{domain_of_rows, domains_in, meaning_by_domain, is_domain}
use Rattle.sql_meaning.proofs.Books.{same_texts}
use Rattle.sql_meaning.proofs.ShownMaps.{inserted, map_is, inserted_answers}
use Rattle.sql_meaning.proofs.WholeRows.{fold_mapped}
use Rattle.sql_decoding.proofs.RowsSoFar.{one_more}
use Rattle.sql_adoption.specs.Adoption.{TellsForm, StandForOffice}
use Rattle.sql_adoption.specs.Reading.{unread, AreNames, bare_office, with_seen, AddsDomain, AreDomainsRead, RefusesOf}
use Rattle.sql_adoption.specs.declared.faults.OpenFault.{OpenFault}
use Rattle.sql_adoption.specs.ReadParts.{part_of}
use Rattle.sql_adoption.specs.declared.domains_read.Part.{Part}
use Rattle.sql_adoption.specs.declared.office_put.ReadOffice.{ReadOffice}
use Rattle.sql_adoption.proofs.ReadParts.{one_name_in_part}
use Rattle.sql_adoption.proofs.Stand.{is_shown, was_there, each_stands, all_stand}

-- ---- names

-- those that are read
pub names_are_read : (tables : NamedRows) (rows : List Row) → ShowsTableIn (codes "domain") (1 ∷ []) (0 ∷ []) tables rows → (names : List Text) → names ≡ map (text_at 0) rows
    → list_all is_domain_row rows ≡ true → AreNames tables names
names_are_read tables rows shows names named stand = record {
  rows = rows;
  shows = shows;
  named = named;
  stand = each_stands tables (codes "domain") (1 ∷ []) (0 ∷ []) rows shows is_domain_row stand;
}

-- those that aren't
pub names_unread : {C : Type 0} (db : Database) (rows : List Row) (failure : Failure) (fault : OpenFault) → (C → ShowsDomains db rows) → fault ≡ unread failure.lost
    → IsUnread (list_all is_domain_row rows) failure → C → RefusesOf by_domain db fault
names_unread {C} db rows failure fault shows is unread_rows clean = subst (RefusesOf by_domain db) (sym is) (by failure.lost refl)
  where
    by : (l : Lost) → failure.lost ≡ l → RefusesOf by_domain db (unread l)
    by lost.Memory e = tt
    by lost.Refused e = tt
    by lost.Disk e = λ stand. false≢true (sym (unread_rows (disk_is_other failure.lost e)) ∙ all_stand (rows_named db) (codes "domain") (1 ∷ []) (0 ∷ []) rows (shows clean) is_domain_row stand.0.names)

module _ (tables : NamedRows) (names : List Text) (are : AreNames tables names) where
  -- a domain that is there is named
  pub is_named : (domain : Text) → IsTrue (is_domain tables domain) → Has names domain
  is_named domain there =
      let r = some_has (has_text 1 domain) (tables (codes "domain")) there in
      let here = to_mapped (text_at 0) are.rows (columns (1 ∷ []) r.0) (is_shown tables (codes "domain") (1 ∷ []) (0 ∷ []) are.rows are.shows r.0 r.1) in
      subst (Has names) (texts_are_one (text_at 1 r.0) domain r.2) (subst (λ l. Has l (text_at 1 r.0)) (sym are.named) here)

  -- what is named is there
  is_there : (name : Text) → Has names name → IsTrue (is_domain tables name)
  is_there name here =
      let row = from_mapped (text_at 0) are.rows name (subst (λ l. Has l name) are.named here) in
      let was = was_there tables (codes "domain") (1 ∷ []) (0 ∷ []) are.rows are.shows row.0 row.1 in
      some_from (has_text 1 name) (tables (codes "domain")) was.0 was.1 (is_text 1 name was.0 (ap (text_at 0) (sym was.2) ∙ sym row.2))

some_name : (names : List Text) → 0 < length names → (name : Text) × Has names name
some_name [] some = absurd (omega (arith, some))
some_name (name ∷ names) some = (name, inl refl)

-- ---- one domain after the other

-- those so far are put in, and stand for values
pub record HaveRead (tables : NamedRows) (names : List Text) (office : Office) : Type 0 where
  pub told : (name : Text) → Has names name → TellsForm by_domain tables
  pub stand : (name : Text) → Has names name → StandForOffice (seen_in name tables)
  pub put : office ≡ fold (with_seen tables) bare_office names

module _ (tables : NamedRows) where
  pub nothing_read : (office : Office) → office ≡ bare_office → HaveRead tables [] office
  nothing_read office bare = record { told = λ name there. absurd there; stand = λ name there. absurd there; put = bare }

  module _ (names : List Text) (i : ℕ) where
    pub one_read : (name : Text) (old new : OfficeMaps) → i < length names → name ≡ get_or names i name → HaveRead tables (take i names) (office_in old) → AddsDomain name tables old new
        → HaveRead tables (take (i + 1) names) (office_in new)
    one_read name old new within is so_far adds = record {
      told = λ other there. adds.told;
      stand = λ other there. elim (has_either (take i names) (name ∷ []) other (subst (λ l. Has l other) pushed there)) [
        | inl before ↦ so_far.stand other before
        | inr here ↦ elim here [
          | inl same ↦ subst (λ n. StandForOffice (seen_in n tables)) (sym same) adds.stand
          | inr none ↦ absurd none
        ]
      ];
      put = adds.office ∙ ap (λ o. with_seen tables o name) so_far.put ∙ sym (one_more names i name within is (with_seen tables) bare_office);
    }
      where
        pushed : take (i + 1) names ≡ take i names ++ name ∷ []
        pushed = take_more names i name within ∙ ap (λ (n : Text). take i names ++ n ∷ []) (sym is)

    pub all_read : (office : Office) → length names ≤ i → HaveRead tables (take i names) office → HaveRead tables names office
    all_read office past so_far = subst (λ l. HaveRead tables l office) (take_all i names past) so_far

  -- ---- all of them

  abbrev with_name : maps.FinMap text_cmp Domain → Text → maps.FinMap text_cmp Domain
  with_name m name = maps.insert m name (domain_of_rows tables name)

  abbrev of_domains : maps.FinMap text_cmp Domain → Office
  of_domains domains = record { domains = domains; team = team_in tables; policy = policy_in tables }

  settled : (names : List Text) (domains : maps.FinMap text_cmp Domain) → fold (with_seen tables) (of_domains domains) names ≡ of_domains (fold with_name domains names)
  settled [] domains = refl
  settled (name ∷ names) domains = settled names (with_name domains name)

  some_put : (names : List Text) → 0 < length names → fold (with_seen tables) bare_office names ≡ of_domains (fold with_name maps.empty names)
  some_put [] some = absurd (omega (arith, some))
  some_put (name ∷ names) some = settled names (with_name maps.empty name)

module _ (db : Database) (ready : AreOfficeTablesOf by_domain db) (part : Part) (names : List Text) (are : AreNames (part_of part (rows_named db)) names) where
  abbrev tables : NamedRows
  tables = part_of part (rows_named db)

  abbrev shown_domain : Row → Domain
  shown_domain row = domain_of_rows tables (text_at 0 row)

  in_rows : domains_in tables ≡ inserted (text_at 0) shown_domain are.rows
  in_rows =
      map_is text_cmp nat_list_cmp_total same_texts first_text (λ row. domain_of_rows tables (first_text row)) (columns (1 ∷ [])) (text_at 0) shown_domain (tables (codes "domain")) are.rows
      (λ r there. refl) (λ r there. refl) are.shows.all (inserted (text_at 0) shown_domain are.rows) (one_name_in_part part db ready)
      (inserted_answers text_cmp nat_list_cmp_total same_texts (text_at 0) shown_domain are.rows)

  in_names : fold (with_name tables) maps.empty names ≡ domains_in tables
  in_names = ap (fold (with_name tables) maps.empty) are.named ∙ fold_mapped (with_name tables) (text_at 0) maps.empty are.rows ∙ sym in_rows

  pub domains_are_read : 0 < length names → (read : ReadOffice) → HaveRead tables names (office_in read.maps) → AreDomainsRead tables read
  domains_are_read some read have =
      let first = some_name names some in
      record {
        told = have.told first.0 first.1;
        names = are.stand;
        some = (first.0, is_there tables names are first.0 first.1);
        each = λ domain there. have.stand domain (is_named tables names are domain there);
        office = have.put ∙ some_put tables names some ∙ ap (of_domains tables) in_names;
      }

-- ---- where there is none, `main` isn't there

nothing_there : (rows : List Row) → ((row : Row) → Has rows row → ⊥) → rows ≡ []
nothing_there [] none = refl
nothing_there (row ∷ rows) none = absurd (none row (inl refl))

pub no_main : (db : Database) (names : List Text) → AreNames (rows_named db) names → length names ≡ 0 → ¬ KeepsRules (meaning_by_domain (rows_named db))
no_main db names are none keeps = false≢true (sym missing ∙ keeps.office.has_main)
  where
    no_row : (row : Row) → Has (rows_named db (codes "domain")) row → ⊥
    no_row row there = nobody names none (is_named (rows_named db) names are (first_text row)
        (some_from (has_text 1 (first_text row)) (rows_named db (codes "domain")) row there (is_text 1 (first_text row) row refl)))
      where
        nobody : (l : List Text) → length l ≡ 0 → Has l (first_text row) → ⊥
        nobody [] e there = there
        nobody (x ∷ l) e there = omega (arith, e)

    missing : is_some (maps.get (domains_in (rows_named db)) main) ≡ false
    missing =
        ap (λ rows. is_some (maps.get (map_of text_cmp first_text (λ row. domain_of_rows (rows_named db) (first_text row)) rows) main)) (nothing_there (rows_named db (codes "domain")) no_row)
        ∙ ap is_some (maps.get-empty {X = Domain} text_cmp main)
