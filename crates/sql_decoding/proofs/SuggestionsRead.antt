-- What reads of a unit's suggestions find of the office: of all of them without the votes on them, and of the one of a number.
use Rattle.std.proofs.Common.{◌≡◌, inl, List, [], ◌∷◌, length, map, filter, find, true, Option, Some, None, option_map, option_and_then, IfSome, codes, refl, sym, ap, subst, ◌∙◌, arith}
use Rattle.std.proofs.lemmas.Bool.{and_parts, and_from}
use Rattle.std.proofs.lemmas.List.Sorted.{IsPermutation-refl}
use Rattle.std.specs.Option.{option_map_or}
use Rattle.std.specs.Prelude.{unwrap_or}
use Rattle.std.specs.FinMap as maps
use Rattle.std.specs.FinMap.{int_cmp-IsAntisymmetric}
use Rattle.std.specs.Ordering.{int_cmp}
use Rattle.std.specs.Cmp.{int_cmp_total}
use Rattle.std.specs.Cmp.Lexicographic.{same_text, nat_list_eq_equiv}
use Rattle.std.specs.List.Sorted.{IsPermutation}
use Rattle.sqlite.specs.Order.{Row}
use Rattle.sqlite_rules.specs.Lists.{Has}
use Rattle.sqlite_rules.proofs.ListLemmas.{has_filtered, has_kept}
use Rattle.sql_laws.specs.RowMaps.{IsFound}
use Rattle.sql_laws.proofs.RowMaps.{get-found, texts_are_one}
use Rattle.po_text.specs.Texts.{Text, text_eq}
use Rattle.units.specs.KeyTexts.{HasStrings}
use Rattle.units.specs.Orders.{place_total, place_IsAntisymmetric}
use Rattle.units.specs.Project.{Place, place_cmp}
use Rattle.units.specs.Units.{key_text, has_number, suggestion_of as suggestion_among}
use Rattle.units.specs.declared.unit.Key.{Key}
use Rattle.units.specs.declared.unit.Suggestion.{Suggestion}
use Rattle.units.specs.declared.unit.Unit.{Unit}
use Rattle.request_book.specs.Acts.{IsNumber}
use Rattle.request_book.specs.Words.{number_text}
use Rattle.review.specs.Parts.{without_votes}
use Rattle.office_specification.specs.UnitAccess.{suggestions_at, suggestion_at}
use Rattle.sql_columns.specs.Readings.{number_read, key_parts}
use Rattle.sql_columns.proofs.Keys.{parts_of_text, text_of_parts}
use Rattle.sql_columns.proofs.Readers.{number_found, number_written}
use Rattle.sql_statements.specs.declared.unit_rows.SuggestionRows.{SuggestionRows}
use Rattle.sql_statements.specs.UnitRows.{suggestion_of, ShowsSuggestionsOn, ShowsVotesOn, ShowsOneSuggestion}
use Rattle.sql_schema.specs.Keys.{text_at, key_texts, is_on_unit, columns}
use Rattle.sql_schema.specs.Layouts.{NamedRows}
use Rattle.sql_schema.proofs.DomainsSeen.{is_text}
use Rattle.sql_meaning.specs.RowKeys.{AreOfficeRows}
use Rattle.sql_meaning.specs.Values.{integer_at, texts_at}
use Rattle.sql_meaning.specs.Meaning.{number_at, key_at, place_of_row, unit_of_row, units_in, votes_in, suggestion_of_row, suggestions_in, project_of_rows}
use Rattle.sql_meaning.specs.Shown.{shown_suggestion, shown_votes}
use Rattle.sql_meaning.proofs.MapValues.{one_found, none_found, value_of_row, row_has_value}
use Rattle.sql_meaning.proofs.OfficeQueries.{suggestions_found, votes_found}
use Rattle.sql_meaning.proofs.UniqueKeys.{one_place_each}
use Rattle.sql_decoding.specs.ShownContexts.{suggestion_shown}
use Rattle.sql_decoding.specs.TablesRead.{with_votes}

-- what the text of a number reads back to tells the text
own_text : (text number : Text) → IsNumber number → unwrap_or (number_read text) [] ≡ number → text ≡ number_text number
own_text text number fit is = by (number_read text) refl is
  where
    by : (o : Option Text) → number_read text ≡ o → unwrap_or o [] ≡ number → text ≡ number_text number
    by (Some read) e same = number_written text number (e ∙ ap Some same)
    by None e none = absurd (omega (arith, subst (λ (n : Text). length n ≡ 16) (sym none) fit.0))

module _ (tables : NamedRows) (office : AreOfficeRows tables) (lang : Text) (key : Key) (valid : HasStrings key) where
  abbrev on_unit : List Row
  on_unit = filter (is_on_unit lang (key_text key)) (tables (codes "suggestion"))

  -- ---- where the unit is there, its suggestions are those of the rows; else no row is on it

  abbrev of_unit : Option Unit → List Suggestion
  of_unit unit = option_map_or (λ u. u.suggestions) unit []

  no_row : ((u : Row) → Has (tables (codes "unit")) u → place_of_row u ≡ (lang, key) → ⊥) → (s : Row) → Has on_unit s → ⊥
  no_row none s there =
      let on = has_filtered (is_on_unit lang (key_text key)) (tables (codes "suggestion")) s there in
      let parts = and_parts _ _ on.1 in
      let u = office.has_unit s on.0 in
      let of_lang : text_at 1 u.0 ≡ lang = u.2 ∙ texts_are_one (text_at 2 s) lang parts.0 in
      let of_key : text_at 2 u.0 ≡ key_text key = u.3 ∙ texts_are_one (text_at 3 s) (key_text key) parts.1 in
      let of_parts : key_at 2 u.0 ≡ key = ap key_parts of_key ∙ parts_of_text key valid in
      none u.0 u.1 (λ i. (of_lang i, of_parts i))

  unit_has : of_unit (maps.get (units_in tables) (lang, key)) ≡ suggestions_in tables lang (key_text key)
  unit_has = by (maps.get (units_in tables) (lang, key)) (get-found place_cmp place_total place_IsAntisymmetric place_of_row (unit_of_row tables) (tables (codes "unit")) (lang, key))
    where
      no_rows : (rows : List Row) → ((s : Row) → Has rows s → ⊥) → rows ≡ []
      no_rows [] none = refl
      no_rows (row ∷ rows) none = absurd (none row (inl refl))

      by : (o : Option Unit) → IsFound place_of_row (unit_of_row tables) (tables (codes "unit")) (lang, key) o → of_unit o ≡ suggestions_in tables lang (key_text key)
      by (Some unit) (r, there, at, is) =
          let of_lang : text_at 1 r ≡ lang = ap (λ (p : Place). p.0) at in
          let of_key : text_at 2 r ≡ key_text key = sym (text_of_parts (text_at 2 r)) ∙ ap (λ (p : Place). key_text p.1) at in
          sym (ap (λ (u : Unit). u.suggestions) is) ∙ (λ i. suggestions_in tables (of_lang i) (of_key i))
      by None none =
          let empty = no_rows on_unit (no_row none) in
          sym (suggestions_found tables office lang (key_text key) [] (subst (λ rows. IsPermutation (map (columns (1 ∷ 4 ∷ 5 ∷ 6 ∷ [])) rows) []) (sym empty) (IsPermutation-refl [])) (λ k d low within. absurd (omega (arith, within))))

  -- ---- all of them, without votes

  pub suggestions_read : (rows : List Row) → ShowsSuggestionsOn lang (key_text key) tables rows → map (with_votes maps.empty) rows ≡ suggestions_at (project_of_rows tables) lang key
  suggestions_read rows shows =
      sym (at_unit (maps.get (units_in tables) (lang, key))
      ∙ ap (map without_votes) (unit_has ∙ suggestions_found tables office lang (key_text key) rows shows.0 shows.1) ∙ without rows)
    where
      at_unit : (o : Option Unit) → option_map_or (λ unit. map without_votes unit.suggestions) o [] ≡ map without_votes (of_unit o)
      at_unit None = refl
      at_unit (Some unit) = refl

      without : (rows : List Row) → map without_votes (map (shown_suggestion tables) rows) ≡ map (with_votes maps.empty) rows
      without [] = refl
      without (row ∷ rows) = let rest = without rows in λ i. with_votes maps.empty row ∷ rest i

  -- ---- the one of a number

  module _ (number : Text) (fit : IsNumber number) where
    -- a row's suggestion has the number where the row has its text
    numbered : (r : Row) → text_at 1 r ≡ number_text number → has_number number (suggestion_of_row tables r) ≡ true
    numbered r is =
        let same : number_at 1 r ≡ number = ap (λ o. unwrap_or o []) (number_found (text_at 1 r) number fit is) in
        ap (λ n. text_eq number n) same ∙ nat_list_eq_equiv.refl number

    -- and only there
    own_row : (s : Suggestion) → Has (suggestions_in tables lang (key_text key)) s → has_number number s ≡ true
        → (r : Row) × Has on_unit r × (s ≡ suggestion_of_row tables r) × (text_at 1 r ≡ number_text number)
    own_row s there has =
        let of_row = value_of_row int_cmp int_cmp_total (integer_at 4) (suggestion_of_row tables) on_unit s there in
        let same : number ≡ number_at 1 of_row.0 = same_text number s.number (sym has) ∙ ap (λ (x : Suggestion). x.number) of_row.2 in
        (of_row.0, of_row.1, of_row.2, own_text (text_at 1 of_row.0) number fit (sym same))

    found_among : (found : Option SuggestionRows) → ShowsOneSuggestion lang (key_text key) (number_text number) tables found
        → find (has_number number) (suggestions_in tables lang (key_text key)) ≡ option_map suggestion_shown found
    found_among found shows = by found shows.suggestion shows.votes
      where
        by : (found : Option SuggestionRows)
            → IsFound (key_texts (1 ∷ 2 ∷ 3 ∷ [])) (columns (1 ∷ 4 ∷ 5 ∷ 6 ∷ [])) (tables (codes "suggestion")) (number_text number ∷ lang ∷ key_text key ∷ []) (option_map suggestion_of found)
            → IfSome found (ShowsVotesOn tables) → find (has_number number) (suggestions_in tables lang (key_text key)) ≡ option_map suggestion_shown found
        by None none votes = none_found (has_number number) (suggestions_in tables lang (key_text key)) (λ s there has.
            let own = own_row s there has in
            let on = has_filtered (is_on_unit lang (key_text key)) (tables (codes "suggestion")) own.0 own.1 in
            let parts = and_parts _ _ on.1 in
            let of_lang = texts_are_one (text_at 2 own.0) lang parts.0 in
            let of_key = texts_are_one (text_at 3 own.0) (key_text key) parts.1 in
            let of_number = own.3 in
            none own.0 on.0 (λ i. of_number i ∷ of_lang i ∷ of_key i ∷ []))
        by (Some rows) (r, there, keyed, shown) votes =
            let of_number : text_at 1 r ≡ number_text number = cc in
            let of_lang : text_at 2 r ≡ lang = cc in
            let of_key : text_at 3 r ≡ key_text key = cc in
            let on : is_on_unit lang (key_text key) r ≡ true = and_from _ _ (is_text 2 lang r of_lang) (is_text 3 (key_text key) r of_key) in
            let in_r = has_kept (is_on_unit lang (key_text key)) (tables (codes "suggestion")) r there on in
            let one = one_place_each tables office.keyed.suggested lang (key_text key) in
            let of_votes : votes_in tables (text_at 1 r) ≡ shown_votes rows.votes.items = ap (λ (s : Row). votes_in tables (text_at 0 s)) shown ∙ votes_found tables office (text_at 0 rows.suggestion) rows.votes.items votes in
            one_found (has_number number) (suggestions_in tables lang (key_text key)) (suggestion_of_row tables r)
            (row_has_value int_cmp int_cmp_total (integer_at 4) (suggestion_of_row tables) int_cmp-IsAntisymmetric on_unit r one in_r)
            (numbered r of_number)
            (λ s in_s has.
            let own = own_row s in_s has in
            let was = has_filtered (is_on_unit lang (key_text key)) (tables (codes "suggestion")) own.0 own.1 in
            own.2 ∙ ap (suggestion_of_row tables) (office.keyed.suggested.one_number own.0 r was.0 there (own.3 ∙ sym of_number)))
            ∙ (λ i. Some (record {
              number = number_at 0 (shown i);
              suggester = text_at 2 (shown i);
              forms = texts_at 3 (shown i);
              votes = of_votes i;
            }))

    pub suggestion_read : (found : Option SuggestionRows) → ShowsOneSuggestion lang (key_text key) (number_text number) tables found
        → option_map suggestion_shown found ≡ suggestion_at (project_of_rows tables) lang key number
    suggestion_read found shows = sym (at_unit (maps.get (units_in tables) (lang, key)) ∙ ap (find (has_number number)) unit_has ∙ found_among found shows)
      where
        at_unit : (o : Option Unit) → option_and_then (suggestion_among number) o ≡ find (has_number number) (of_unit o)
        at_unit None = refl
        at_unit (Some unit) = refl
