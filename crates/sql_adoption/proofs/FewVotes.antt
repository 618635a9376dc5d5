-- A suggestion of an office by domains has few votes, since its unit's rules say so.
use Rattle.std.proofs.Common.{◌≡◌, ◌≤◌, List, [], ◌∷◌, map, filter, true, Some, refl, sym, subst, ◌∙◌, codes, All}
use Rattle.std.specs.Cmp.{int_cmp_total}
use Rattle.std.specs.FinMap as maps
use Rattle.std.specs.FinMap.{int_cmp-IsAntisymmetric}
use Rattle.std.specs.Ordering.{int_cmp}
use Rattle.std.proofs.lemmas.Bool.{and_from}
use Rattle.std.proofs.lemmas.List.Elements.{All-contains}
use Rattle.std.proofs.lemmas.List.Sorted.{IsPermutation-refl}
use Rattle.sqlite.specs.Effect.{Database}
use Rattle.sqlite.specs.Order.{Row}
use Rattle.sqlite_rules.specs.Lists.{Has}
use Rattle.sqlite_rules.proofs.ListLemmas.{contains_had, has_kept, some_has}
use Rattle.sql_laws.proofs.RowMaps.{get-is, texts_are_one}
use Rattle.po_text.specs.Texts.{Text, text_cmp}
use Rattle.units.specs.Limits.{vote_limit}
use Rattle.units.specs.Offices.{IsOffice}
use Rattle.units.specs.Orders.{place_total, place_IsAntisymmetric}
use Rattle.units.specs.Project.{place_cmp}
use Rattle.units.specs.Projects.{IsProject}
use Rattle.units.specs.declared.unit.Suggestion.{Suggestion}
use Rattle.units.specs.declared.votes.VoteValue.{VoteValue}
use Rattle.sql_schema.specs.Inside.{AreOfficeTablesOf}
use Rattle.sql_schema.specs.Keys.{text_at, first_text, has_text, is_on_unit, columns}
use Rattle.sql_schema.specs.Layouts.{by_domain, NamedRows, rows_named}
use Rattle.sql_schema.specs.SeenRows.{seen_in, suggestion_seen}
use Rattle.sql_schema.proofs.DomainRows.{one_d_vote}
use Rattle.sql_schema.proofs.DomainsSeen.{is_text}
use Rattle.sql_schema.proofs.SeenRows.{to_seen}
use Rattle.sql_statements.proofs.SeenAnswers.{votes_shown_seen}
use Rattle.sql_meaning.specs.Domains.{HoldsOwnDomains, office_of_rows}
use Rattle.sql_meaning.specs.Meaning.{votes_in, suggestion_of_row, suggestions_in, place_of_row, unit_of_row, units_in, project_of_rows}
use Rattle.sql_meaning.specs.RowKeys.{AreOfficeRows}
use Rattle.sql_meaning.specs.Values.{integer_at}
use Rattle.sql_meaning.proofs.DomainChanges.{has_domain_of_rows, project_of_domain}
use Rattle.sql_meaning.proofs.DomainOfficeRows.{one_domain_each, domain_rows}
use Rattle.sql_meaning.proofs.MapValues.{row_has_value}
use Rattle.sql_meaning.proofs.OfficeQueries.{votes_found}
use Rattle.sql_meaning.proofs.ShownVotes.{finds_votes}
use Rattle.sql_meaning.proofs.UniqueKeys.{one_place_each}
use Rattle.sql_meaning.proofs.Units.{by_place}
use Rattle.sql_figures.specs.KeptSums.{votes_among}

-- the votes on a suggestion that a domain sees are those among all
pub votes_of_row : (db : Database) → AreOfficeTablesOf by_domain db → (domain : Text) (s : Row) → Has (rows_named db (codes "d_suggestion")) s → has_text 2 domain s ≡ true
    → votes_in (seen_in domain (rows_named db)) (first_text s) ≡ votes_among (rows_named db (codes "d_vote")) (first_text s)
votes_of_row db ready domain s there own =
    let votes = rows_named db (codes "d_vote") in
    let number = first_text s in
    let shown : List Row = map (columns (2 ∷ 3 ∷ [])) (filter (has_text 1 number) votes) in
    votes_found (seen_in domain (rows_named db)) (domain_rows db ready domain) number shown (votes_shown_seen domain number db s there own refl shown (IsPermutation-refl shown))
    ∙ sym (finds_votes (λ name. votes) number shown (one_d_vote db ready.schema ready.sound (ready.tables (codes "d_vote") refl)) (IsPermutation-refl shown))

module _ (db : Database) (ready : AreOfficeTablesOf by_domain db) (own : HoldsOwnDomains (rows_named db)) (office : IsOffice (office_of_rows (rows_named db))) (s : Row)
    (there : Has (rows_named db (codes "d_suggestion")) s) where
  abbrev rows : NamedRows
  rows = rows_named db

  abbrev number : Text
  number = first_text s

  abbrev domain : Text
  domain = text_at 2 s

  -- what its domain sees
  abbrev tables : NamedRows
  tables = seen_in domain rows

  abbrev own_row : Row
  own_row = suggestion_seen s

  are : AreOfficeRows tables
  are = domain_rows db ready domain

  of_domain : has_text 2 domain s ≡ true
  of_domain = is_text 2 domain s refl

  seen : Has (tables (codes "suggestion")) own_row
  seen = to_seen (has_text 2 domain) suggestion_seen (rows (codes "d_suggestion")) s there of_domain

  rules : IsProject (project_of_rows tables)
  rules =
      let d = some_has (has_text 1 domain) (rows (codes "domain")) (own.suggestions s there) in
      subst IsProject (project_of_domain rows (one_domain_each db ready) domain d.0 d.1 (texts_are_one (first_text d.0) domain d.2))
      (office.projects domain (sym (has_domain_of_rows rows domain) ∙ own.suggestions s there))

  -- its unit
  module _ (u : Row) (of_unit : Has (tables (codes "unit")) u) (of_lang : text_at 1 u ≡ text_at 2 own_row) (of_key : text_at 2 u ≡ text_at 3 own_row) where
    abbrev lang : Text
    lang = text_at 1 u

    abbrev key : Text
    key = text_at 2 u

    unit_is : maps.get (units_in tables) (place_of_row u) ≡ Some (unit_of_row tables u)
    unit_is =
        get-is place_cmp place_total place_IsAntisymmetric place_of_row (unit_of_row tables) (tables (codes "unit")) (place_of_row u) (Some (unit_of_row tables u))
        (λ r t in_r in_t e. are.keyed.one_unit r t in_r in_t (by_place.back r t tt tt e)) (u, of_unit, refl, refl)

    here : Has (suggestions_in tables lang key) (suggestion_of_row tables own_row)
    here =
        row_has_value int_cmp int_cmp_total (integer_at 4) (suggestion_of_row tables) int_cmp-IsAntisymmetric (filter (is_on_unit lang key) (tables (codes "suggestion"))) own_row
        (one_place_each tables are.keyed.suggested lang key)
        (has_kept (is_on_unit lang key) (tables (codes "suggestion")) own_row seen (and_from _ _ (is_text 2 lang own_row (sym of_lang)) (is_text 3 key own_row (sym of_key))))

    few : maps.len (votes_in tables number) ≤ vote_limit
    few =
        let voted : All (λ (t : Suggestion). maps.len t.votes ≤ vote_limit) (suggestions_in tables lang key) = (rules.each (place_of_row u) (unit_of_row tables u) unit_is).voted in
        All-contains (λ (t : Suggestion). maps.len t.votes ≤ vote_limit) (suggestions_in tables lang key) (suggestion_of_row tables own_row) voted
        (contains_had (suggestions_in tables lang key) (suggestion_of_row tables own_row) here)

  pub few_votes : maps.len (votes_among (rows (codes "d_vote")) number) ≤ vote_limit
  few_votes =
      let u = are.has_unit own_row seen in
      subst (λ (m : maps.FinMap text_cmp VoteValue). maps.len m ≤ vote_limit) (votes_of_row db ready domain s there of_domain) (few u.0 u.1 u.2 u.3)
