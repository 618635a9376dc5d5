-- What the query over the votes on a domain's suggestions answers.
use Rattle.std.proofs.Common.{◌≡◌, ℕ, List, [], ◌∷◌, ◌&&◌, map, filter, get_or, codes, true, Bool, cond, refl, sym, ap, subst, ◌∙◌}
use Rattle.std.proofs.lemmas.Bool.{and_parts}
use Rattle.std.proofs.Math.Bool.{and-true}
use Rattle.std.specs.List.Sorted.{IsPermutation}
use Rattle.sqlite.specs.Collation.TheVariants.{Binary}
use Rattle.sqlite.specs.declared.types.Value.TheVariants.{Null, Text}
use Rattle.sqlite.specs.Order.{Row}
use Rattle.sqlite.specs.Term.{Term, col, op2}
use Rattle.sqlite.specs.Listing.{understood}
use Rattle.sqlite.specs.Program.{overlay}
use Rattle.sqlite.specs.Query.{Query}
use Rattle.sqlite.specs.State.{State, Shown}
use Rattle.sqlite.proofs.Callers.{reads_as}
use Rattle.sqlite_sql.specs.declared.ops.CompareOp.TheVariants as compare
use Rattle.sqlite_sql.specs.declared.ops.BinaryOp.TheVariants as by
use Rattle.sqlite_tied.specs.Compute.{everything}
use Rattle.sqlite_rules.specs.Lists.{Has}
use Rattle.sql_laws.proofs.Comparisons.{texts_compared}
use Rattle.sql_laws.proofs.RowMaps.{texts_are_one}
use Rattle.sql_streams.specs.Joins.{joined_query, pass, show}
use Rattle.sql_streams.proofs.Joins.{joined_permuted, joined_in_order}
use Rattle.sql_schema.specs.Layouts.{by_domain, Layout, made_last, from_first, from_second, schema_of, placed, rows_named}
use Rattle.sql_schema.specs.Schema.{d_vote_table, d_suggestion_table}
use Rattle.sql_schema.specs.Keys.{first_text, has_text, columns}
use Rattle.sql_schema.specs.SeenRows.{is_vote_in, vote_seen, seen_in}
use Rattle.sql_schema.specs.Inside.{IsReadyFor}
use Rattle.sql_schema.proofs.Layouts.{d_vote_placed, d_suggestion_placed}
use Rattle.sql_schema.proofs.Queries.{Asks, ReadsAllOf, queries_inside, rows_read, filtered_same}
use Rattle.sql_schema.proofs.DomainRows.{d_vote_texts, d_suggestion_texts, d_suggestion_units, one_d_number}
use Rattle.sql_statements.specs.Tables.{by_columns, ShowsVotesIn}
use Rattle.sql_statements.proofs.OnePassing.{first_or_none}
use Rattle.sql_statements.proofs.Seen.{mapped_seen}
use Rattle.sql_statements.proofs.ReadsUnread.{IsAcceptedBy, IsUnreadBy, unread_by}

abbrev votes_text : List ℕ
votes_text = codes "SELECT voter, value, d_vote.number FROM d_vote JOIN d_suggestion ON d_suggestion.number = d_vote.number WHERE d_suggestion.domain = ?1 ORDER BY d_vote.number, voter"

-- the suggestion has the vote's number, and is the domain's
abbrev vote_tests : List Term
vote_tests = op2 (by.Compare compare.Eq Binary) (col 2 1) (col 1 1) ∷ op2 (by.Compare compare.Eq Binary) (col 2 2) (col 0 0) ∷ []

abbrev shown_terms : List Term
shown_terms = col 1 2 ∷ col 1 3 ∷ col 1 1 ∷ []

abbrev votes_query : Layout by_domain → Query
votes_query layout = joined_query (placed layout d_vote_table).tree (placed layout d_suggestion_table).tree vote_tests shown_terms (1 ∷ 2 ∷ [])

votes_are : (layout : Layout by_domain) → Asks layout votes_text (votes_query layout) (codes "voter" ∷ codes "value" ∷ codes "number" ∷ [])
unfolding understood everything
votes_are made_last = record { command = refl; own_tables = refl; plain = (refl, refl) }
votes_are from_first = record { command = refl; own_tables = refl; plain = (refl, refl) }
votes_are from_second = record { command = refl; own_tables = refl; plain = (refl, refl) }

votes_accepted : (domain : List ℕ) → IsAcceptedBy by_domain votes_text (Text domain ∷ [])
unfolding understood everything
votes_accepted domain made_last = refl
votes_accepted domain from_first = refl
votes_accepted domain from_second = refl

pub votes_unread : (domain : List ℕ) → IsUnreadBy by_domain votes_text (Text domain ∷ [])
votes_unread domain = unread_by votes_text (Text domain ∷ []) _ _ votes_are (votes_accepted domain)

module _ (domain : List ℕ) where
  abbrev params : Row
  params = Text domain ∷ []

  module _ (s : State) (ready : IsReadyFor by_domain s) where
    abbrev layout : Layout by_domain
    layout = ready.schema.0

    abbrev votes : List Row
    votes = rows_named s.now (codes "d_vote")

    abbrev suggestions : List Row
    suggestions = rows_named s.now (codes "d_suggestion")

    votes_read : overlay s.now.trees [] (placed layout d_vote_table).tree ≡ votes
    votes_read = rows_read layout d_vote_table (d_vote_placed layout) s.now ready.schema.1

    suggestions_read : overlay s.now.trees [] (placed layout d_suggestion_table).tree ≡ suggestions
    suggestions_read = rows_read layout d_suggestion_table (d_suggestion_placed layout) s.now ready.schema.1

    abbrev is_its : Row → Row → Bool
    is_its vote suggestion = has_text 1 (first_text vote) suggestion && has_text 2 domain suggestion

    passes_is : (vote suggestion : Row) → Has votes vote → Has suggestions suggestion → pass params vote_tests vote suggestion ≡ is_its vote suggestion
    passes_is vote suggestion in_votes in_suggestions =
        rw (
          d_suggestion_texts.0 s.now ready.schema ready.sound suggestion in_suggestions,
          d_vote_texts.0 s.now ready.schema ready.sound vote in_votes,
          d_suggestion_units.0 s.now ready.schema ready.sound suggestion in_suggestions,
        ) (rw (texts_compared (first_text suggestion) (first_text vote), texts_compared _ domain) (ap (λ b. has_text 1 (first_text vote) suggestion && b) (and-true _)))

    one : (vote r t : Row) → Has suggestions r → Has suggestions t → is_its vote r ≡ true → is_its vote t ≡ true → r ≡ t
    one vote r t in_r in_t passes_r passes_t =
        one_d_number s.now ready.schema ready.sound (ready.tables (codes "d_suggestion") refl) r t in_r in_t
        (texts_are_one (first_text r) (first_text vote) (and_parts (has_text 1 (first_text vote) r) (has_text 2 domain r) passes_r).0
        ∙ sym (texts_are_one (first_text t) (first_text vote) (and_parts (has_text 1 (first_text vote) t) (has_text 2 domain t) passes_t).0))

    abbrev partner : Row → Row
    partner vote = get_or (filter (is_its vote) suggestions) 0 []

    goes_with : (vote : Row) → Has votes vote → filter (pass params vote_tests vote) suggestions ≡ cond (is_vote_in domain suggestions vote) (partner vote ∷ []) []
    goes_with vote there = filtered_same (pass params vote_tests vote) (is_its vote) suggestions (λ suggestion listed. passes_is vote suggestion there listed)
        ∙ first_or_none (is_its vote) suggestions (ready.tables (codes "d_suggestion") refl).once (one vote)

    shows_votes : (new : State) (rows : List Row) → Shown votes_text params s new rows → ShowsVotesIn (seen_in domain (rows_named s.now)) rows
    shows_votes new rows h =
        let asks = votes_are layout in
        let read = reads_as votes_text params s new (schema_of layout) ready.schema.1 _ asks.command asks.plain asks.own_tables rows h in
        let answer = read.answer Null in
        let vote_tree = (placed layout d_vote_table).tree in
        let suggestion_tree = (placed layout d_suggestion_table).tree in
        let trees = overlay s.now.trees [] in
        let one_in : (vote : Row) → Has (trees vote_tree) vote → filter (pass params vote_tests vote) (trees suggestion_tree) ≡ cond (is_vote_in domain suggestions vote) (partner vote ∷ []) [] =
        λ vote there. ap (filter (pass params vote_tests vote)) suggestions_read ∙ goes_with vote (subst (λ l. Has l vote) votes_read there) in
        record {
          all = subst (λ l. IsPermutation l rows)
              (ap (λ l. map (λ vote. show params shown_terms vote (partner vote)) (filter (is_vote_in domain suggestions) l)) votes_read
              ∙ mapped_seen (λ vote. show params shown_terms vote (partner vote)) (columns (2 ∷ 3 ∷ 1 ∷ [])) vote_seen (filter (is_vote_in domain suggestions) votes) (λ vote there. refl))
              (joined_permuted vote_tree suggestion_tree vote_tests shown_terms (1 ∷ 2 ∷ []) trees params (is_vote_in domain suggestions) partner one_in rows answer);
          in_order = joined_in_order vote_tree suggestion_tree vote_tests shown_terms (1 ∷ 2 ∷ []) trees params (is_vote_in domain suggestions) partner one_in rows answer (by_columns (2 ∷ 0 ∷ [])) (λ r t in_r in_t. refl);
        }

  pub reads_votes : ReadsAllOf by_domain votes_text params (λ db rows. ShowsVotesIn (seen_in domain (rows_named db)) rows)
  reads_votes A rows_of old new r =
      queries_inside votes_text params old new (λ layout. (votes_are layout).plain) rows_of (λ db a. ShowsVotesIn (seen_in domain (rows_named db)) (rows_of a)) (λ a ready h. shows_votes old ready new (rows_of a) h) r
