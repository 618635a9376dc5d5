-- The suggestions on a domain's unit, one after the other with the votes on each.
use Rattle.std.proofs.Common.{◌≡◌, ℕ, List, [], ◌∷◌, ◌++◌, map, Ok, sym, subst, append_assoc, append-nil, length, arith, Vec, Global}
use Rattle.std.specs.List.{All}
use Rattle.std.proofs.lemmas.List.{map_push}
use Rattle.std.proofs.lemmas.List.Elements.{All-push}
use Rattle.sqlite.specs.Order.{Row}
use Rattle.sqlite.specs.Effect.{Database}
use Rattle.sqlite.specs.State.{State}
use Rattle.sqlite.specs.declared.error.Error.{Error}
use Rattle.sql_statements.specs.declared.unit_rows.SuggestionRows.{SuggestionRows}
use Rattle.sql_statements.specs.DomainAnswers.{ShowsDomainSuggestions}
use Rattle.sql_schema.specs.Inside.{IsReadOf}
use Rattle.sql_schema.specs.Layouts.{by_domain}
use Rattle.sql_statements.specs.UnitRows.{suggestion_of}
use Rattle.sql_statements.specs.DomainUnitRows.{ShowsDomainVotesOn, ShowsWithDomainVotes, ShowsEachWithDomainVotes}
use Rattle.sql_schema.proofs.Sequences.{reads_both, read_mapped}

-- these suggestions have their votes, and the rest are to come
pub record ShowsSoFar (domain lang key : List ℕ) (rest : List Row) (db : Database) (rows : List SuggestionRows) : Type 0 where
  pub suggestions : ShowsDomainSuggestions domain lang key db (map suggestion_of rows ++ rest)
  pub votes : All (ShowsDomainVotesOn db) rows

module _ (domain lang key : List ℕ) where
  one_more : (rest : List Row) (suggestion : Row) (rows : List SuggestionRows) (one : SuggestionRows) (db : Database)
      → ShowsSoFar domain lang key (suggestion ∷ rest) db rows × ShowsWithDomainVotes suggestion db one → ShowsSoFar domain lang key rest db (rows ++ one ∷ [])
  one_more rest suggestion rows one db h =
      let moved : map suggestion_of (rows ++ one ∷ []) ++ rest ≡ map suggestion_of rows ++ (suggestion ∷ rest) = simp (map_push, append_assoc, h.1.same) in
      record {
        suggestions = subst (ShowsDomainSuggestions domain lang key db) (sym moved) h.0.suggestions;
        votes = All-push (ShowsDomainVotesOn db) rows one h.0.votes h.1.votes;
      }

  -- the next suggestion gets its votes
  pub votes_added : (a b c : State) (rest : List Row) (suggestion : Row) (rows : List SuggestionRows) (one : SuggestionRows)
      → IsReadOf {E = Error} by_domain a b (Ok rows) (ShowsSoFar domain lang key (suggestion ∷ rest)) → IsReadOf {E = Error} by_domain b c (Ok one) (ShowsWithDomainVotes suggestion)
      → IsReadOf {E = Error} by_domain a c (Ok (rows ++ one ∷ [])) (ShowsSoFar domain lang key rest)
  votes_added a b c rest suggestion rows one so_far next =
      read_mapped a c one (rows ++ one ∷ []) (λ db y. ShowsSoFar domain lang key (suggestion ∷ rest) db rows × ShowsWithDomainVotes suggestion db y) (ShowsSoFar domain lang key rest) (one_more rest suggestion rows one)
      (reads_both a b c rows (Ok one) (ShowsSoFar domain lang key (suggestion ∷ rest)) (ShowsWithDomainVotes suggestion) so_far next)

  -- all have their votes
  pub votes_of_all : (a b : State) (rest : List Row) (rows : Vec SuggestionRows Global) → length rest ≡ 0
      → IsReadOf {E = Error} by_domain a b (Ok rows.items) (ShowsSoFar domain lang key rest) → IsReadOf {E = Error} by_domain a b (Ok rows) (λ db all. ShowsEachWithDomainVotes domain lang key db all.items)
  votes_of_all a b [] rows none = read_mapped a b rows.items rows (ShowsSoFar domain lang key []) (λ db all. ShowsEachWithDomainVotes domain lang key db all.items) (λ db h. record {
    suggestions = subst (ShowsDomainSuggestions domain lang key db) (append-nil (map suggestion_of rows.items)) h.suggestions;
    votes = h.votes;
  })
  votes_of_all a b (row ∷ rest) rows none = absurd (omega (arith, none))
