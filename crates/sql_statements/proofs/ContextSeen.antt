-- What a look at a unit of a domain shows is what a look at it would show of the tables that the domain sees.
use Rattle.std.proofs.Common.{◌≡◌, ℕ, true, List, [], ◌∷◌, suc, zero, inl, inr, map, filter, Option, Some, None, option_map, IfSome, codes, refl, sym, ap, arith}
use Rattle.std.specs.List.{All}
use Rattle.std.proofs.lemmas.Bool.{and_parts}
use Rattle.sqlite.specs.Order.{Row}
use Rattle.sqlite.specs.Effect.{Database}
use Rattle.sqlite_rules.specs.Lists.{Has}
use Rattle.sqlite_rules.proofs.ListLemmas.{has_filtered}
use Rattle.sql_laws.proofs.RemovedRows.{from_mapped, has_permuted}
use Rattle.sql_schema.specs.Keys.{text_at, first_text, has_text, columns}
use Rattle.sql_schema.specs.Layouts.{rows_named}
use Rattle.sql_schema.specs.SeenRows.{seen_in}
use Rattle.sql_schema.proofs.DomainsSeen.{is_text, unit_found_seen}
use Rattle.sql_statements.specs.declared.unit_rows.SuggestionRows.{SuggestionRows}
use Rattle.sql_statements.specs.declared.unit_rows.OfficeRows.{OfficeRows}
use Rattle.sql_statements.specs.declared.unit_rows.ContextRows.{ContextRows}
use Rattle.sql_statements.specs.DomainAnswers.{ShowsDomainSuggestions, ShowsDomainUnit, ShowsSuggestionOf}
use Rattle.sql_statements.specs.DomainCleared.{is_on_domain_unit}
use Rattle.sql_statements.specs.DomainUnitRows.{ShowsDomainOfficeRows, ShowsDomainVotesOn, ShowsDomainContextRows, ShowsDomainContextAlone, ShowsOneDomainSuggestion}
use Rattle.sql_statements.specs.UnitRows.{suggestion_of, ShowsOfficeRows, ShowsUnitOf, ShowsVotesOn, ShowsContextRows, ShowsContextAlone, ShowsOneSuggestion}
use Rattle.sql_statements.proofs.SeenAnswers.{entry_found_seen, language_found_seen, suggestions_shown_seen, suggestion_found_seen, votes_shown_seen}

module _ (domain lang key : List ℕ) (db : Database) where
  -- a suggestion that is shown is a row of the domain
  its_row : (shown : List Row) → ShowsDomainSuggestions domain lang key db shown → (x : Row) → Has shown x
      → (s : Row) × Has (rows_named db (codes "d_suggestion")) s × (has_text 2 domain s ≡ true) × (first_text s ≡ text_at 0 x)
  its_row shown it x there =
      let all = rows_named db (codes "d_suggestion") in
      let cut = columns (1 ∷ 5 ∷ 6 ∷ 7 ∷ []) in
      let from = from_mapped cut (filter (is_on_domain_unit domain lang key) all) x (has_permuted (map cut (filter (is_on_domain_unit domain lang key) all)) shown x it.0 there) in
      let was = has_filtered (is_on_domain_unit domain lang key) all from.0 from.1 in
      (from.0, was.0, (and_parts _ _ was.1).0, ap (text_at 0) (sym from.2))

  each_vote : (rows : List SuggestionRows) → ((x : Row) → Has (map suggestion_of rows) x → (s : Row) × Has (rows_named db (codes "d_suggestion")) s × (has_text 2 domain s ≡ true) × (first_text s ≡ text_at 0 x))
      → All (ShowsDomainVotesOn db) rows → All (ShowsVotesOn (seen_in domain (rows_named db))) rows
  each_vote [] its votes k d within = absurd (omega (arith, within))
  each_vote (r ∷ rows) its votes zero d within =
      let at = its r.suggestion (inl refl) in
      votes_shown_seen domain (text_at 0 r.suggestion) db at.0 at.1 at.2 at.3 r.votes.items (votes 0 d (omega arith))
  each_vote (r ∷ rows) its votes (suc k) d within =
      each_vote rows (λ x there. its x (inr there)) (λ n e low. votes (suc n) e (omega (arith, low))) k d (omega (arith, within))

  office_seen : (name : List ℕ) (rows : OfficeRows) → ShowsDomainOfficeRows domain lang name db rows → ShowsOfficeRows lang name (seen_in domain (rows_named db)) rows
  office_seen name rows it = record { language = language_found_seen domain lang db rows.language it.language; policy = it.policy; role = it.role }

  unit_seen_so : (found : Option Row) → ShowsDomainUnit domain lang key db found → ShowsUnitOf lang key (seen_in domain (rows_named db)) found
  unit_seen_so found it = unit_found_seen domain lang key db found it (seen_in domain (rows_named db) (codes "unit")) refl

  pub context_rows_seen : (name : List ℕ) (rows : ContextRows) → ShowsDomainContextRows domain lang key name db rows → ShowsContextRows lang key name (seen_in domain (rows_named db)) rows
  context_rows_seen name rows it = record {
    office = office_seen name rows.office it.office;
    unit = record {
      unit = unit_seen_so rows.unit.unit it.unit.unit;
      entry = entry_found_seen domain key db rows.unit.entry it.unit.entry;
      suggestions = suggestions_shown_seen domain lang key db (map suggestion_of rows.unit.suggestions.items) it.unit.suggestions;
      votes = each_vote rows.unit.suggestions.items (its_row (map suggestion_of rows.unit.suggestions.items) it.unit.suggestions) it.unit.votes;
    };
  }

  -- the same without the suggestions
  pub context_alone_seen : (name : List ℕ) (rows : ContextRows) → ShowsDomainContextAlone domain lang key name db rows → ShowsContextAlone lang key name (seen_in domain (rows_named db)) rows
  context_alone_seen name rows it = record {
    office = office_seen name rows.office it.office;
    unit = record {
      unit = unit_seen_so rows.unit.unit it.unit.unit;
      entry = entry_found_seen domain key db rows.unit.entry it.unit.entry;
      none = it.unit.none;
    };
  }

  -- and of one of them
  pub one_suggestion_seen : (number : List ℕ) (found : Option SuggestionRows) → ShowsOneDomainSuggestion domain lang key number db found
      → ShowsOneSuggestion lang key number (seen_in domain (rows_named db)) found
  one_suggestion_seen number found it =
      record { suggestion = suggestion_found_seen domain lang key number db (option_map suggestion_of found) it.suggestion; votes = by found it.suggestion it.votes }
    where
      by : (found : Option SuggestionRows) → ShowsSuggestionOf domain lang key number db (option_map suggestion_of found) → IfSome found (ShowsDomainVotesOn db)
          → IfSome found (ShowsVotesOn (seen_in domain (rows_named db)))
      by None shows votes = tt
      by (Some rows) (r, there, keyed, shown) votes =
          let name : text_at 2 r ≡ domain = cc in
          votes_shown_seen domain (text_at 0 rows.suggestion) db r there (is_text 2 domain r name) (ap (text_at 0) shown) rows.votes.items votes
