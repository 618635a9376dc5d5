-- What a look at a unit alone finds of a domain, for which the connection's rows stand, and what an act needs to know by it where a part of the office is
-- at hand.
use Rattle.std.proofs.Common.{◌≡◌, ℕ, true, List, [], ◌∷◌, suc, zero, inl, inr, map, filter, Option, Some, None, option_map, codes, refl, sym, ap, subst, ◌∙◌, arith}
use Rattle.std.specs.Prelude.{IsTrue}
use Rattle.std.specs.List.{All}
use Rattle.std.proofs.lemmas.Bool.{and_parts}
use Rattle.sqlite.specs.Order.{Row}
use Rattle.sqlite.specs.Effect.{Database}
use Rattle.sqlite.specs.State.{State, HasCleanDisk}
use Rattle.sqlite_rules.specs.Lists.{Has}
use Rattle.sqlite_rules.proofs.ListLemmas.{has_filtered}
use Rattle.sql_laws.proofs.RemovedRows.{from_mapped, has_permuted}
use Rattle.po_text.specs.Texts.{Text}
use Rattle.units.specs.Office.{project_in}
use Rattle.units.specs.Project.{Project, entry_of, view_of}
use Rattle.units.specs.KeyTexts.{HasStrings}
use Rattle.units.specs.Units.{key_text}
use Rattle.units.specs.declared.unit.Key.{Key}
use Rattle.units.specs.declared.unit.UnitView.{UnitView}
use Rattle.review.specs.Parts.{bare}
use Rattle.office_specification.specs.declared.values.ActContext.{ActContext}
use Rattle.office_specification.specs.UnitAccess.{context_of, without_suggestions}
use Rattle.sql_schema.specs.Keys.{text_at, first_text, has_text, columns}
use Rattle.sql_schema.specs.Layouts.{NamedRows, rows_named}
use Rattle.sql_schema.specs.SeenRows.{seen_in}
use Rattle.sql_schema.proofs.DomainsSeen.{unit_found_seen}
use Rattle.sql_statements.specs.declared.unit_rows.SuggestionRows.{SuggestionRows}
use Rattle.sql_statements.specs.declared.unit_rows.UnitRows.{UnitRows}
use Rattle.sql_statements.specs.DomainAnswers.{ShowsDomainSuggestions}
use Rattle.sql_statements.specs.DomainCleared.{is_on_domain_unit}
use Rattle.sql_statements.specs.DomainUnitRows.{ShowsDomainVotesOn, ShowsDomainUnitRows, ShowsDomainUnitAlone}
use Rattle.sql_statements.specs.UnitRows.{suggestion_of, ShowsVotesOn, ShowsUnitRows, ShowsUnitAlone}
use Rattle.sql_statements.proofs.SeenAnswers.{entry_found_seen, suggestions_shown_seen, votes_shown_seen}
use Rattle.sql_meaning.specs.Domains.{office_of_rows}
use Rattle.sql_meaning.specs.Meaning.{project_of_rows, suggestions_in, template_in}
use Rattle.sql_meaning.specs.RowKeys.{AreOfficeRows}
use Rattle.sql_meaning.specs.Shown.{shown_unit}
use Rattle.sql_meaning.proofs.OfficeQueries.{entry_found}
use Rattle.sql_meaning.proofs.Units.{finds_unit}
use Rattle.sql_decoding.specs.ShownContexts.{suggestion_shown, shown_source, shown_view}
use Rattle.sql_decoding.proofs.ContextsRead.{view_found}
use Rattle.store_sql.specs.declared.office_part.OfficePart.{OfficePart}
use Rattle.store_sql.specs.OfficeParts.{IsPartOf, context_with}
use Rattle.store_sql.specs.TablesInFile.{KeepsOffice}
use Rattle.store_sql.proofs.RowsHeld.{seen_rows}
use Rattle.store_sql.proofs.InDomains.{project_as_seen}
use Rattle.store_sql.proofs.PartsTold.{context_told}

-- ---- what a look shows of a domain's unit it shows of the rows that the domain sees

module _ (domain lang key : List ℕ) (db : Database) where
  -- a suggestion that is shown is a row of the domain
  its_row : (shown : List Row) → ShowsDomainSuggestions domain lang key db shown → (x : Row) → Has shown x
      → (s : Row) × Has (rows_named db (codes "d_suggestion")) s × (has_text 2 domain s ≡ true) × (first_text s ≡ text_at 0 x)
  its_row shown it x there =
      let all = rows_named db (codes "d_suggestion") in
      let cut = columns (1 ∷ 5 ∷ 6 ∷ 7 ∷ []) in
      let from = from_mapped cut (filter (is_on_domain_unit domain lang key) all) x (has_permuted (map cut (filter (is_on_domain_unit domain lang key) all)) shown x it.0 there) in
      let was = has_filtered (is_on_domain_unit domain lang key) all from.0 from.1 in
      (from.0, was.0, (and_parts _ _ was.1).0, ap (text_at 0) (sym from.2))

  each_vote : (rows : List SuggestionRows) → ((x : Row) → Has (map suggestion_of rows) x → (s : Row) × Has (rows_named db (codes "d_suggestion")) s × (has_text 2 domain s ≡ true) × (first_text s ≡ text_at 0 x))
      → All (ShowsDomainVotesOn db) rows → All (ShowsVotesOn (seen_in domain (rows_named db))) rows
  each_vote [] its votes k d within = absurd (omega (arith, within))
  each_vote (r ∷ rows) its votes zero d within =
      let at = its r.suggestion (inl refl) in
      votes_shown_seen domain (text_at 0 r.suggestion) db at.0 at.1 at.2 at.3 r.votes.items (votes 0 d (omega arith))
  each_vote (r ∷ rows) its votes (suc k) d within =
      each_vote rows (λ x there. its x (inr there)) (λ n e low. votes (suc n) e (omega (arith, low))) k d (omega (arith, within))

  unit_rows_seen : (rows : UnitRows) → ShowsDomainUnitRows domain lang key db rows → ShowsUnitRows lang key (seen_in domain (rows_named db)) rows
  unit_rows_seen rows it = record {
    unit = unit_found_seen domain lang key db rows.unit it.unit (seen_in domain (rows_named db) (codes "unit")) refl;
    entry = entry_found_seen domain key db rows.entry it.entry;
    suggestions = suggestions_shown_seen domain lang key db (map suggestion_of rows.suggestions.items) it.suggestions;
    votes = each_vote rows.suggestions.items (its_row (map suggestion_of rows.suggestions.items) it.suggestions) it.votes;
  }

  unit_alone_seen : (rows : UnitRows) → ShowsDomainUnitAlone domain lang key db rows → ShowsUnitAlone lang key (seen_in domain (rows_named db)) rows
  unit_alone_seen rows it = record {
    unit = unit_found_seen domain lang key db rows.unit it.unit (seen_in domain (rows_named db) (codes "unit")) refl;
    entry = entry_found_seen domain key db rows.entry it.entry;
    none = it.none;
  }

-- ---- the view

-- without the unit's suggestions
bare_view_found : (tables : NamedRows) → AreOfficeRows tables → (lang : Text) (key : Key) (rows : UnitRows) → HasStrings key → ShowsUnitAlone lang (key_text key) tables rows
    → option_map bare (view_of (project_of_rows tables) (lang, key)) ≡ shown_view key rows
bare_view_found tables office lang key rows valid shows =
    ap (λ o. option_map bare (option_map (λ unit. record { unit = unit; source = entry_of (template_in tables) key }) o)) (finds_unit tables lang key rows.unit office.keyed.one_unit valid shows.unit) ∙ with_parts rows.unit
  where
    with_parts : (found : Option Row)
        → option_map bare (option_map {U = UnitView} (λ unit. record { unit = unit; source = entry_of (template_in tables) key }) (option_map (shown_unit key (suggestions_in tables lang (key_text key))) found))
        ≡ option_map (λ unit. record { unit = shown_unit key (map suggestion_shown rows.suggestions.items) unit; source = shown_source key rows.entry }) found
    with_parts None = refl
    with_parts (Some unit) =
        let none = sym (ap (map suggestion_shown) shows.none) in
        let source = entry_found tables office key rows.entry valid shows.entry in
        λ i. Some (record { unit = shown_unit key (none i) unit; source = source i })

module _ (s : State) (domain lang : Text) (key : Key) (asked_domain asked_lang column : Text) (rows : UnitRows) (keeps : KeepsOffice s) (valid : HasStrings key)
    (is_domain : asked_domain ≡ domain) (is_lang : asked_lang ≡ lang) (is_key : column ≡ key_text key) (clean : HasCleanDisk s) (is_open : IsTrue s.is_open) where
  reads_view : ShowsDomainUnitRows asked_domain asked_lang column s.now rows → view_of (project_in (office_of_rows (rows_named s.now)) domain) (lang, key) ≡ shown_view key rows
  reads_view shows =
      let asked = subst (λ (asked : Text × Text × Text). ShowsDomainUnitRows asked.0 asked.1 asked.2 s.now rows) (λ i. (is_domain i, is_lang i, is_key i)) shows in
      ap (λ (p : Project). view_of p (lang, key)) (project_as_seen s keeps clean is_open domain)
      ∙ view_found (seen_in domain (rows_named s.now)) (seen_rows s keeps clean is_open domain) lang key rows valid (unit_rows_seen domain lang (key_text key) s.now rows asked)

  reads_bare_view : ShowsDomainUnitAlone asked_domain asked_lang column s.now rows
      → option_map bare (view_of (project_in (office_of_rows (rows_named s.now)) domain) (lang, key)) ≡ shown_view key rows
  reads_bare_view shows =
      let asked = subst (λ (asked : Text × Text × Text). ShowsDomainUnitAlone asked.0 asked.1 asked.2 s.now rows) (λ i. (is_domain i, is_lang i, is_key i)) shows in
      ap (λ (p : Project). option_map bare (view_of p (lang, key))) (project_as_seen s keeps clean is_open domain)
      ∙ bare_view_found (seen_in domain (rows_named s.now)) (seen_rows s keeps clean is_open domain) lang key rows valid (unit_alone_seen domain lang (key_text key) s.now rows asked)

-- ---- beside a part of the office

module _ (s : State) (part : OfficePart) (key : Key) (asked_domain asked_lang column : Text) (rows : UnitRows) (found : Option ActContext) (keeps : KeepsOffice s) (valid : HasStrings key)
    (is_domain : asked_domain ≡ part.domain) (is_lang : asked_lang ≡ part.lang) (is_key : column ≡ key_text key) (clean : HasCleanDisk s) (is_open : IsTrue s.is_open)
    (told : IsPartOf (office_of_rows (rows_named s.now)) part) (is : found ≡ Some (context_with part (shown_view key rows))) where
  abbrev its_project : Project
  its_project = project_in (office_of_rows (rows_named s.now)) part.domain

  pub reads_context_beside : ShowsDomainUnitRows asked_domain asked_lang column s.now rows → found ≡ context_of (project_in (office_of_rows (rows_named s.now)) part.domain) part.lang key part.name
  reads_context_beside shows =
      is ∙ (ap (λ (view : Option UnitView). Some (context_with part view)) (sym (reads_view s part.domain part.lang key asked_domain asked_lang column rows keeps valid is_domain is_lang is_key clean is_open shows))
      ∙ sym (context_told its_project key part told))

  pub reads_unit_beside : ShowsDomainUnitAlone asked_domain asked_lang column s.now rows
      → found ≡ without_suggestions (context_of (project_in (office_of_rows (rows_named s.now)) part.domain) part.lang key part.name)
  reads_unit_beside shows =
      is ∙ (ap (λ (view : Option UnitView). Some (context_with part view)) (sym (reads_bare_view s part.domain part.lang key asked_domain asked_lang column rows keeps valid is_domain is_lang is_key clean is_open shows))
      ∙ sym (ap without_suggestions (context_told its_project key part told)))
