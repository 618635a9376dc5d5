-- What look-ups by a domain show is what would be shown of the tables that it sees.
use Rattle.std.proofs.Common.{◌≡◌, ℕ, List, [], ◌∷◌, ◌&&◌, map, filter, Bool, true, false, Option, codes, refl, sym, ap, subst, ◌∙◌}
use Rattle.std.proofs.lemmas.Bool.{and_from}
use Rattle.std.specs.Ordering.{nat_cmp, is_eq}
use Rattle.std.specs.Cmp.Lexicographic.{slice_cmp}
use Rattle.std.specs.List.Sorted.{IsPermutation}
use Rattle.sqlite.specs.Order.{Row}
use Rattle.sqlite.specs.Effect.{Database}
use Rattle.sqlite_rules.specs.Lists.{Has}
use Rattle.sqlite_rules.proofs.ListLemmas.{some_from}
use Rattle.sql_laws.specs.RowMaps.{IsFound}
use Rattle.sql_laws.proofs.RowMaps.{texts_are_one, text_ties_itself}
use Rattle.sql_schema.specs.Layouts.{rows_named}
use Rattle.sql_schema.specs.Keys.{text_at, key_texts, first_text, second_text, has_text, is_on_unit, columns}
use Rattle.sql_schema.specs.Inside.{IsInOrder}
use Rattle.sql_schema.specs.SeenRows.{suggestion_seen, is_vote_in, vote_seen, seen_in}
use Rattle.sql_schema.proofs.Queries.{filtered_same}
use Rattle.sql_schema.proofs.SeenRows.{IsKeyedAlike, found_seen}
use Rattle.sql_schema.proofs.DomainsSeen.{is_text, languages_alike}
use Rattle.sql_statements.specs.DomainCleared.{is_on_domain_unit}
use Rattle.sql_statements.specs.DomainAnswers.{ShowsDomainEntry, ShowsDomainLanguage, ShowsDomainSuggestions, ShowsDomainVotes, ShowsSuggestionOf}
use Rattle.sql_statements.proofs.Seen.{mapped_seen, filtered_seen}
use Rattle.sql_statements.proofs.SeenChanges.{entry_keys_alike}

pub entry_found_seen : (domain key : List ℕ) (db : Database) (found : Option Row) → ShowsDomainEntry domain key db found
    → IsFound second_text (columns (3 ∷ 4 ∷ 5 ∷ 6 ∷ [])) (seen_in domain (rows_named db) (codes "template")) key found
entry_found_seen domain key db found it =
    found_seen (entry_keys_alike domain) (columns (4 ∷ 5 ∷ 6 ∷ 7 ∷ [])) (columns (3 ∷ 4 ∷ 5 ∷ 6 ∷ [])) (rows_named db (codes "d_template")) (domain ∷ key ∷ []) key
    (λ r e. let name : text_at 1 r ≡ domain = cc in let of_key : text_at 3 r ≡ key = cc in (is_text 1 domain r name, of_key))
    (λ r passes e. let name = texts_are_one (text_at 1 r) domain passes in let of_key : text_at 3 r ≡ key = e in λ i. name i ∷ of_key i ∷ [])
    (λ r. refl) found it

pub language_found_seen : (domain lang : List ℕ) (db : Database) (found : Option Row) → ShowsDomainLanguage domain lang db found
    → IsFound first_text (columns (2 ∷ 3 ∷ [])) (seen_in domain (rows_named db) (codes "language")) lang found
language_found_seen domain lang db found it =
    found_seen (languages_alike domain) (columns (3 ∷ 4 ∷ [])) (columns (2 ∷ 3 ∷ [])) (rows_named db (codes "d_language")) (domain ∷ lang ∷ []) lang
    (λ r e. let name : text_at 1 r ≡ domain = cc in let of_lang : text_at 2 r ≡ lang = cc in (is_text 1 domain r name, of_lang))
    (λ r passes e. let name = texts_are_one (text_at 1 r) domain passes in let of_lang : text_at 2 r ≡ lang = e in λ i. name i ∷ of_lang i ∷ [])
    (λ r. refl) found it

pub suggestions_shown_seen : (domain lang key : List ℕ) (db : Database) (rows : List Row) → ShowsDomainSuggestions domain lang key db rows
    → IsPermutation (map (columns (1 ∷ 4 ∷ 5 ∷ 6 ∷ [])) (filter (is_on_unit lang key) (seen_in domain (rows_named db) (codes "suggestion")))) rows × IsInOrder 1 rows
suggestions_shown_seen domain lang key db rows it =
    let all = rows_named db (codes "d_suggestion") in (
      subst (λ l. IsPermutation l rows)
          (mapped_seen (columns (1 ∷ 5 ∷ 6 ∷ 7 ∷ [])) (columns (1 ∷ 4 ∷ 5 ∷ 6 ∷ [])) suggestion_seen (filter (is_on_domain_unit domain lang key) all) (λ row there. refl)
          ∙ ap (map (columns (1 ∷ 4 ∷ 5 ∷ 6 ∷ []))) (filtered_seen (has_text 2 domain) (is_on_unit lang key) suggestion_seen all)) it.0,
      it.1,
    )

-- a suggestion by its number and its unit
suggestions_alike : (domain : List ℕ) → IsKeyedAlike (has_text 2 domain) suggestion_seen (key_texts (1 ∷ 2 ∷ 3 ∷ 4 ∷ [])) (key_texts (1 ∷ 2 ∷ 3 ∷ []))
suggestions_alike domain = record {
  alike = λ r s e. let same : text_at 2 r ≡ text_at 2 s = cc in ap (λ t. is_eq (slice_cmp nat_cmp t domain)) same;
  forth = λ r s e.
      let number : text_at 1 r ≡ text_at 1 s = cc in
      let lang : text_at 3 r ≡ text_at 3 s = cc in
      let key : text_at 4 r ≡ text_at 4 s = cc in
      λ i. number i ∷ lang i ∷ key i ∷ [];
  back = λ r s in_r in_s e.
      let same = texts_are_one (text_at 2 r) domain in_r ∙ sym (texts_are_one (text_at 2 s) domain in_s) in
      let number : text_at 1 r ≡ text_at 1 s = cc in
      let lang : text_at 3 r ≡ text_at 3 s = cc in
      let key : text_at 4 r ≡ text_at 4 s = cc in
      λ i. number i ∷ same i ∷ lang i ∷ key i ∷ [];
}

pub suggestion_found_seen : (domain lang key number : List ℕ) (db : Database) (found : Option Row) → ShowsSuggestionOf domain lang key number db found
    → IsFound (key_texts (1 ∷ 2 ∷ 3 ∷ [])) (columns (1 ∷ 4 ∷ 5 ∷ 6 ∷ [])) (seen_in domain (rows_named db) (codes "suggestion")) (number ∷ lang ∷ key ∷ []) found
suggestion_found_seen domain lang key number db found it =
    found_seen (suggestions_alike domain) (columns (1 ∷ 5 ∷ 6 ∷ 7 ∷ [])) (columns (1 ∷ 4 ∷ 5 ∷ 6 ∷ [])) (rows_named db (codes "d_suggestion")) (number ∷ domain ∷ lang ∷ key ∷ []) (number ∷ lang ∷ key ∷ [])
    (λ r e.
    let of_number : text_at 1 r ≡ number = cc in
    let name : text_at 2 r ≡ domain = cc in
    let of_lang : text_at 3 r ≡ lang = cc in
    let of_key : text_at 4 r ≡ key = cc in
    (is_text 2 domain r name, λ i. of_number i ∷ of_lang i ∷ of_key i ∷ []))
    (λ r passes e.
    let of_number : text_at 1 r ≡ number = cc in
    let name = texts_are_one (text_at 2 r) domain passes in
    let of_lang : text_at 3 r ≡ lang = cc in
    let of_key : text_at 4 r ≡ key = cc in
    λ i. of_number i ∷ name i ∷ of_lang i ∷ of_key i ∷ [])
    (λ r. refl) found it

-- the votes on a suggestion of the domain
module _ (domain number : List ℕ) (db : Database) (suggestion : Row) (there : Has (rows_named db (codes "d_suggestion")) suggestion) (own : has_text 2 domain suggestion ≡ true) (numbered : first_text suggestion ≡ number) where
  seen_too : (vote : Row) → (b : Bool) → has_text 1 number vote ≡ b → has_text 1 number vote ≡ (is_vote_in domain (rows_named db (codes "d_suggestion")) vote && has_text 1 number vote)
  seen_too vote true e =
      let same : first_text suggestion ≡ first_text vote = numbered ∙ sym (texts_are_one (first_text vote) number e) in
      let on : has_text 1 (first_text vote) suggestion ≡ true = rw same (text_ties_itself (first_text vote)) in
      let seen : is_vote_in domain (rows_named db (codes "d_suggestion")) vote ≡ true =
      some_from (λ s. has_text 1 (first_text vote) s && has_text 2 domain s) (rows_named db (codes "d_suggestion")) suggestion there (and_from _ _ on own) in
      e ∙ sym (and_from _ _ seen e)
  seen_too vote false e = e ∙ sym (none (is_vote_in domain (rows_named db (codes "d_suggestion")) vote) (has_text 1 number vote) e)
    where
      none : (a b : Bool) → b ≡ false → (a && b) ≡ false
      none true b e = e
      none false b e = refl

  pub votes_shown_seen : (rows : List Row) → ShowsDomainVotes number db rows → IsPermutation (map (columns (2 ∷ 3 ∷ [])) (filter (has_text 1 number) (seen_in domain (rows_named db) (codes "vote")))) rows
  votes_shown_seen rows it =
      let all = rows_named db (codes "d_vote") in
      let seen = λ (vote : Row). is_vote_in domain (rows_named db (codes "d_suggestion")) vote && has_text 1 number vote in
      subst (λ l. IsPermutation l rows)
      (ap (map (columns (2 ∷ 3 ∷ []))) (filtered_same (has_text 1 number) seen all (λ vote listed. seen_too vote (has_text 1 number vote) refl))
      ∙ mapped_seen (columns (2 ∷ 3 ∷ [])) (columns (2 ∷ 3 ∷ [])) vote_seen (filter seen all) (λ vote listed. refl)
      ∙ ap (map (columns (2 ∷ 3 ∷ []))) (filtered_seen (is_vote_in domain (rows_named db (codes "d_suggestion"))) (has_text 1 number) vote_seen all)) it
