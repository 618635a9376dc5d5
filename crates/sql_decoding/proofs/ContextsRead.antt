-- What a look at a unit finds of the office.
use Rattle.std.proofs.Common.{◌≡◌, suc, List, [], ◌∷◌, Option, Some, None, Result, Ok, Err, IfOk, option_map, refl, sym, ap, ◌∙◌, arith, codes}
use Rattle.std.specs.Prelude.{map, unwrap_or}
use Rattle.std.specs.FinMap as maps
use Rattle.std.specs.List.{All}
use Rattle.sqlite.specs.Order.{Row}
use Rattle.po_text.specs.Texts.{Text}
use Rattle.po_text.specs.declared.entry.Entry.{Entry}
use Rattle.plural_expr.specs.Trees.{number}
use Rattle.plural_expr.specs.Values.{Rule}
use Rattle.units.specs.KeyTexts.{HasStrings}
use Rattle.units.specs.Units.{key_text}
use Rattle.units.specs.Project.{entry_of, role_of, view_of}
use Rattle.units.specs.Rules.{by_result, rule_in, rule_at}
use Rattle.units.specs.declared.unit.Key.{Key}
use Rattle.units.specs.declared.unit.Role.TheVariants.{Guest}
use Rattle.units.specs.declared.unit.UnitView.{UnitView}
use Rattle.office_specification.specs.declared.values.ActContext.{ActContext}
use Rattle.review.specs.Parts.{bare}
use Rattle.office_specification.specs.UnitAccess.{context_of, without_suggestions}
use Rattle.sql_statements.specs.declared.unit_rows.SuggestionRows.{SuggestionRows}
use Rattle.sql_statements.specs.declared.unit_rows.UnitRows.{UnitRows}
use Rattle.sql_statements.specs.declared.unit_rows.ContextRows.{ContextRows}
use Rattle.sql_laws.specs.RowMaps.{IsFound}
use Rattle.sql_statements.specs.Answers.{ShowsPolicyIn}
use Rattle.sql_schema.specs.Keys.{text_at, first_text, columns}
use Rattle.sql_statements.specs.UnitRows.{suggestion_of, ShowsOfficeRows, ShowsVotesOn, ShowsUnitRows, ShowsUnitAlone, ShowsContextRows, ShowsContextAlone}
use Rattle.sql_meaning.specs.Meaning.{project_of_rows, headers_in, policy_in, suggestions_in, template_in}
use Rattle.sql_meaning.specs.Shown.{shown_header, shown_suggestion, shown_unit}
use Rattle.sql_meaning.proofs.OfficeQueries.{policy_found, entry_found, suggestions_found, votes_found}
use Rattle.sql_meaning.proofs.Team.{finds_role, finds_header}
use Rattle.sql_meaning.proofs.Units.{finds_unit}
use Rattle.sql_decoding.specs.ShownContexts.{suggestion_shown, rule_of_header, shown_rule, shown_role, shown_source, shown_view, IsShownWith, IsShownContext}
use Rattle.sql_schema.specs.Layouts.{NamedRows}
use Rattle.sql_meaning.specs.RowKeys.{AreOfficeRows}

-- a language's header and plural rule, and a member's role
abbrev pub ShowsLanguageOf : Text → NamedRows → Option Row → Type 0
ShowsLanguageOf lang tables found = IsFound first_text (columns (2 ∷ 3 ∷ [])) (tables (codes "language")) lang found

abbrev pub ShowsMemberOf : Text → NamedRows → Option Row → Type 0
ShowsMemberOf name tables found = IsFound first_text (columns (2 ∷ [])) (tables (codes "team")) name found

-- ---- the plural rule

-- the rule that is read is that of the header that is shown
pub rule_shown : {E : Type 0} (row : Row) (header : Entry) (read : Result Rule E) → header ≡ shown_header row → IfOk read (λ rule. rule_in (Some header) ≡ Ok rule)
    → IfOk read (λ rule. rule ≡ shown_rule row)
rule_shown row header (Err failure) is none = none
rule_shown row header (Ok rule) is read = sym (ap rule_of_header (sym is) ∙ ap (by_result (λ fault. record { count = 1; tree = number 0 }) (λ r. r)) read)

module _ (tables : NamedRows) (office : AreOfficeRows tables) where
  pub header_found : (lang : Text) (found : Option Row) → ShowsLanguageOf lang tables found → maps.get (headers_in tables) lang ≡ option_map shown_header found
  header_found lang found = finds_header tables lang found office.keyed.one_language

  pub role_found : (name : Text) (found : Option Row) → ShowsMemberOf name tables found → role_of (project_of_rows tables) name ≡ shown_role found
  role_found name found shows =
      ap (λ o. unwrap_or o Guest) (finds_role tables name found office.keyed.one_member shows)

  rule_of_shown : (lang : Text) (language : Row) → ShowsLanguageOf lang tables (Some language) → rule_at (project_of_rows tables) lang ≡ shown_rule language
  unfolding rule_at
  rule_of_shown lang language shows = ap (λ o. by_result (λ fault. record { count = 1; tree = number 0 }) (λ rule. rule) (rule_in o)) (header_found lang (Some language) shows)

  -- ---- the unit

  each_suggestion : (rows : List SuggestionRows) → All (ShowsVotesOn tables) rows → map (shown_suggestion tables) (map suggestion_of rows) ≡ map suggestion_shown rows
  each_suggestion [] votes = refl
  each_suggestion (r ∷ rows) votes =
      let first = votes_found tables office (text_at 0 r.suggestion) r.votes.items (votes 0 r (omega arith)) in
      let more = each_suggestion rows (λ k d within. votes (suc k) d (omega (arith, within))) in
      λ i. record (suggestion_shown r) { votes = first i } ∷ more i

  suggestions_shown : (lang : Text) (key : Key) (rows : UnitRows) → ShowsUnitRows lang (key_text key) tables rows
      → suggestions_in tables lang (key_text key) ≡ map suggestion_shown rows.suggestions.items
  suggestions_shown lang key rows shows =
      suggestions_found tables office lang (key_text key) (map suggestion_of rows.suggestions.items) shows.suggestions.0 shows.suggestions.1 ∙ each_suggestion rows.suggestions.items shows.votes

  pub view_found : (lang : Text) (key : Key) (rows : UnitRows) → HasStrings key → ShowsUnitRows lang (key_text key) tables rows
      → view_of (project_of_rows tables) (lang, key) ≡ shown_view key rows
  view_found lang key rows valid shows =
      let one = office.keyed.one_unit in
      ap (option_map (λ unit. record { unit = unit; source = entry_of (template_in tables) key })) (finds_unit tables lang key rows.unit one valid shows.unit) ∙ with_parts rows.unit
    where
      with_parts : (found : Option Row)
          → option_map {U = UnitView} (λ unit. record { unit = unit; source = entry_of (template_in tables) key }) (option_map (shown_unit key (suggestions_in tables lang (key_text key))) found)
          ≡ option_map (λ unit. record { unit = shown_unit key (map suggestion_shown rows.suggestions.items) unit; source = shown_source key rows.entry }) found
      with_parts None = refl
      with_parts (Some unit) =
          let suggestions = suggestions_shown lang key rows shows in
          let source = entry_found tables office key rows.entry valid shows.entry in
          λ i. Some (record { unit = shown_unit key (suggestions i) unit; source = source i })

  -- the same without the unit's suggestions
  view_alone_found : (lang : Text) (key : Key) (rows : UnitRows) → HasStrings key → ShowsUnitAlone lang (key_text key) tables rows
      → option_map bare (view_of (project_of_rows tables) (lang, key)) ≡ shown_view key rows
  view_alone_found lang key rows valid shows =
      let one = office.keyed.one_unit in
      ap (λ o. option_map bare (option_map (λ unit. record { unit = unit; source = entry_of (template_in tables) key }) o)) (finds_unit tables lang key rows.unit one valid shows.unit) ∙ with_parts rows.unit
    where
      with_parts : (found : Option Row)
          → option_map bare (option_map {U = UnitView} (λ unit. record { unit = unit; source = entry_of (template_in tables) key }) (option_map (shown_unit key (suggestions_in tables lang (key_text key))) found))
          ≡ option_map (λ unit. record { unit = shown_unit key (map suggestion_shown rows.suggestions.items) unit; source = shown_source key rows.entry }) found
      with_parts None = refl
      with_parts (Some unit) =
          let none = sym (ap (map suggestion_shown) shows.none) in
          let source = entry_found tables office key rows.entry valid shows.entry in
          λ i. Some (record { unit = shown_unit key (none i) unit; source = source i })

  -- ---- all of it

  module _ (lang : Text) (key : Key) (name : Text) (view : Option UnitView) where
    abbrev with_header : Entry → ActContext
    with_header header = record {
      rule = rule_at (project_of_rows tables) lang;
      policy = policy_in tables;
      role = role_of (project_of_rows tables) name;
      view = view;
    }

    -- what is found of the office, with the view that is shown
    context_with : (rows : ContextRows) (found : Option ActContext) → ShowsOfficeRows lang name tables rows.office → view ≡ shown_view key rows.unit → IsShownContext key rows found
        → found ≡ option_map with_header (maps.get (headers_in tables) lang)
    context_with rows found shows same_view is = by rows.office.language rows.office.policy shows.language shows.policy is
      where
        by : (language policy : Option Row) → ShowsLanguageOf lang tables language → ShowsPolicyIn tables policy → IsShownWith key rows language policy found
            → found ≡ option_map with_header (maps.get (headers_in tables) lang)
        by None policy shows_language shows_policy none =
            none ∙ sym (ap (option_map with_header) (header_found lang None shows_language))
        by (Some language) None shows_language shows_policy never = absurd never
        by (Some language) (Some policy) shows_language shows_policy same =
            let rule = rule_of_shown lang language shows_language in
            let of_policy = policy_found tables office policy shows_policy in
            let role = role_found name rows.office.role shows.role in
            same ∙ sym (ap (option_map with_header) (header_found lang (Some language) shows_language) ∙ (λ i. Some (record { rule = rule i; policy = of_policy i; role = role i; view = same_view i })))

  pub context_found : (lang : Text) (key : Key) (name : Text) (rows : ContextRows) (found : Option ActContext) → HasStrings key → ShowsContextRows lang (key_text key) name tables rows
      → IsShownContext key rows found → found ≡ context_of (project_of_rows tables) lang key name
  context_found lang key name rows found valid shows is =
      context_with lang key name (view_of (project_of_rows tables) (lang, key)) rows found shows.office (view_found lang key rows.unit valid shows.unit) is

  pub bare_context_found : (lang : Text) (key : Key) (name : Text) (rows : ContextRows) (found : Option ActContext) → HasStrings key → ShowsContextAlone lang (key_text key) name tables rows
      → IsShownContext key rows found → found ≡ without_suggestions (context_of (project_of_rows tables) lang key name)
  bare_context_found lang key name rows found valid shows is =
      context_with lang key name (option_map bare (view_of (project_of_rows tables) (lang, key))) rows found shows.office (view_alone_found lang key rows.unit valid shows.unit) is
      ∙ sym (at_each (maps.get (headers_in tables) lang))
    where
      at_each : (header : Option Entry)
          → without_suggestions (option_map (with_header lang key name (view_of (project_of_rows tables) (lang, key))) header)
          ≡ option_map (with_header lang key name (option_map bare (view_of (project_of_rows tables) (lang, key)))) header
      at_each None = refl
      at_each (Some header) = refl
