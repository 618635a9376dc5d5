-- A vote on a suggestion that is looked up on its unit: what its domain sees, and how the sums follow.
use Rattle.std.proofs.Common.{◌≡◌, ◌≢◌, ℤ, List, [], ◌∷◌, ◌&&◌, filter, map, true, false, Option, Some, None, is_some, refl, sym, ap, subst, ◌∙◌, codes}
use Rattle.std.proofs.lemmas.Bool.{and_parts, and_from, false_from_ne_true}
use Rattle.std.proofs.lemmas.List.Sorted.{IsPermutation-refl}
use Rattle.std.specs.FinMap as maps
use Rattle.sqlite.specs.Effect.{Database}
use Rattle.sqlite.specs.Order.{Row}
use Rattle.sqlite_rules.specs.Lists.{Has}
use Rattle.sqlite_rules.proofs.ListLemmas.{some_has, some_from}
use Rattle.sql_laws.specs.RowMaps.{OneEach}
use Rattle.sql_laws.proofs.RowMaps.{texts_are_one}
use Rattle.po_text.specs.Texts.{Text}
use Rattle.units.specs.Units.{key_text, vote_sum}
use Rattle.units.specs.declared.unit.Key.{Key}
use Rattle.units.specs.declared.unit.Suggestion.{Suggestion}
use Rattle.units.specs.declared.votes.VoteValue.{VoteValue}
use Rattle.review.specs.UnitStep.{set_vote}
use Rattle.request_book.specs.Acts.{IsNumber}
use Rattle.request_book.specs.Words.{number_text}
use Rattle.sql_schema.specs.Inside.{AreOfficeTablesOf, Then}
use Rattle.sql_schema.specs.Keys.{text_at, first_text, first_texts, has_text, is_on_unit, columns}
use Rattle.sql_schema.specs.Layouts.{by_domain, rows_named, SparesOthers}
use Rattle.sql_schema.specs.SeenRows.{suggestion_seen}
use Rattle.sql_schema.proofs.DomainRows.{one_d_vote}
use Rattle.sql_schema.proofs.DomainsSeen.{is_text}
use Rattle.sql_schema.proofs.SeenRows.{from_seen, to_seen}
use Rattle.sql_statements.specs.DomainAnswers.{ShowsPlaceOf}
use Rattle.sql_statements.proofs.SeenAnswers.{votes_shown_seen}
use Rattle.sql_meaning.specs.Meaning.{votes_in}
use Rattle.sql_meaning.specs.Values.{vote_at}
use Rattle.sql_meaning.proofs.DomainOfficeRows.{domain_rows}
use Rattle.sql_meaning.proofs.OfficeQueries.{votes_found}
use Rattle.sql_meaning.proofs.OneVote.{vote_put, others_at_put, vote_taken, others_at_taken}
use Rattle.sql_meaning.proofs.ShownVotes.{finds_votes}
use Rattle.sql_meaning.proofs.UnitsKept.{suggestions_stand}
use Rattle.sql_meaning.proofs.UnitValues.{vote_read_back}
use Rattle.sql_figures.specs.KeptSums.{votes_among}
use Rattle.sql_figures.proofs.FigureSteps.{stay_voted}
use Rattle.sql_changes.specs.OnDomains.{OnDomain, MakesIf}
use Rattle.sql_changes.specs.UnitWrites.{is_suggested, PutsVote, WritesVote}
use Rattle.sql_changes.proofs.DomainWrites.{seen, on_domain_as, sum_on_domains, vote_on_domain, vote_taken_on_domain, nothing_on_domain}
use Rattle.sql_changes.proofs.VotesWritten.{row_of_number}
use Rattle.sql_commits.specs.Figures.{PutsSum, project_at, FollowsVoteAt}
use Rattle.sql_commits.specs.Votes.{PutsVoteRow}
use Rattle.sql_commits.proofs.TalliesMoved.{view_parts}
use Rattle.sql_commits.proofs.WritesInTurn.{unseen_last}

-- ---- whether the suggestion is on the unit

suggestion_told : (domain lang key number : Text) (db : Database) (found : Option Row) → ShowsPlaceOf domain lang key (number_text number) db found → is_suggested lang key number (seen domain db) ≡ is_some found
suggestion_told domain lang key number db (Some shown) it =
    let row = suggestion_seen it.0 in
    let of_number : text_at 1 it.0 ≡ number_text number = let e = it.2 in cc in
    let name : text_at 2 it.0 ≡ domain = let e = it.2 in cc in
    let of_lang : text_at 3 it.0 ≡ lang = let e = it.2 in cc in
    let of_key : text_at 4 it.0 ≡ key = let e = it.2 in cc in
    some_from (λ x. has_text 1 (number_text number) x && is_on_unit lang key x) (seen domain db (codes "suggestion")) row
    (to_seen (has_text 2 domain) suggestion_seen (rows_named db (codes "d_suggestion")) it.0 it.1 (is_text 2 domain it.0 name))
    (and_from _ _ (is_text 1 (number_text number) row of_number) (and_from _ _ (is_text 2 lang row of_lang) (is_text 3 key row of_key)))
suggestion_told domain lang key number db None none =
    false_from_ne_true _ (λ there.
    let x = some_has (λ x. has_text 1 (number_text number) x && is_on_unit lang key x) (seen domain db (codes "suggestion")) there in
    let r = from_seen (has_text 2 domain) suggestion_seen (rows_named db (codes "d_suggestion")) x.0 x.1 in
    let parts = and_parts (has_text 1 (number_text number) x.0) (is_on_unit lang key x.0) x.2 in
    let unit = and_parts (has_text 2 lang x.0) (has_text 3 key x.0) parts.1 in
    let of_number : text_at 1 r.0 ≡ number_text number = ap (text_at 1) (sym r.3) ∙ texts_are_one (text_at 1 x.0) (number_text number) parts.0 in
    let name = texts_are_one (text_at 2 r.0) domain r.2 in
    let of_lang : text_at 3 r.0 ≡ lang = ap (text_at 2) (sym r.3) ∙ texts_are_one (text_at 2 x.0) lang unit.0 in
    let of_key : text_at 4 r.0 ≡ key = ap (text_at 3) (sym r.3) ∙ texts_are_one (text_at 3 x.0) key unit.1 in
    none r.0 r.1 (λ i. of_number i ∷ name i ∷ of_lang i ∷ of_key i ∷ []))

-- ---- the votes on a suggestion of the domain are those among all

votes_seen : (db : Database) → AreOfficeTablesOf by_domain db → (domain number : Text) (row : Row) → Has (seen domain db (codes "suggestion")) row → first_text row ≡ number
    → votes_in (seen domain db) number ≡ votes_among (rows_named db (codes "d_vote")) number
votes_seen db ready domain number row there is =
    let all = rows_named db (codes "d_vote") in
    let r = from_seen (has_text 2 domain) suggestion_seen (rows_named db (codes "d_suggestion")) row there in
    let named : first_text r.0 ≡ number = ap first_text (sym r.3) ∙ is in
    let shown : List Row = map (columns (2 ∷ 3 ∷ [])) (filter (has_text 1 number) all) in
    let one : OneEach first_texts all = one_d_vote db ready.schema ready.sound (ready.tables (codes "d_vote") refl) in
    votes_found (seen domain db) (domain_rows db ready domain) number shown (votes_shown_seen domain number db r.0 r.1 r.2 named shown (IsPermutation-refl shown))
    ∙ sym (finds_votes (λ name. all) number shown one (IsPermutation-refl shown))

-- ---- what a vote makes of the votes among all

record LeavesVotes (number voter : Text) (value : Option VoteValue) (old new : Database) : Type 0 where
  own : votes_among (rows_named new (codes "d_vote")) number ≡ set_vote voter value (votes_among (rows_named old (codes "d_vote")) number)
  others : (other : Text) → other ≢ number → votes_among (rows_named new (codes "d_vote")) other ≡ votes_among (rows_named old (codes "d_vote")) other
  spares : SparesOthers (codes "d_vote") (rows_named old) (rows_named new)

leaves_votes : (number voter : Text) (value : Option VoteValue) (old new : Database) → OneEach first_texts (rows_named old (codes "d_vote")) → PutsVoteRow number voter value old new → LeavesVotes number voter value old new
leaves_votes number voter (Some value) old new one put =
    let were = rows_named old (codes "d_vote") in
    let are = rows_named new (codes "d_vote") in
    let at : first_text put.row ≡ number = ap first_text put.is_row.1 in
    let by : text_at 2 put.row ≡ voter = ap (text_at 2) put.is_row.1 in
    let says : vote_at 3 put.row ≡ value = vote_read_back number (voter, value) put.row put.is_row in
    record {
      own = ap (votes_among are) (sym at) ∙ vote_put were are one put.row put.put ∙ (λ i. maps.insert (votes_among were (at i)) (by i) (says i));
      others = λ other apart. others_at_put were are one put.row put.put other (λ e. apart (e ∙ at));
      spares = put.others;
    }
leaves_votes number voter None old new one taken = record {
  own = vote_taken (rows_named old (codes "d_vote")) (rows_named new (codes "d_vote")) one number voter taken.rows;
  others = others_at_taken (rows_named old (codes "d_vote")) (rows_named new (codes "d_vote")) one number voter taken.rows;
  spares = taken.others;
}

-- ---- both, by the texts that are looked up

-- a vote and its sum, behind the look-up
abbrev pub Casts : Text → Text → Option VoteValue → ℤ → Database → Database → Type 0
Casts number voter value sum = Then (PutsVoteRow number voter value) (PutsSum number sum)

module _ (domain lang : Text) (key : Key) (number voter : Text) (value : Option VoteValue) (given code column named : Text) (is_domain : given ≡ domain) (is_lang : code ≡ lang) (is_key : column ≡ key_text key)
    (is_named : named ≡ number_text number) (valid : IsNumber number) (found : Option Row) (old mid : Database)
    (shown : AreOfficeTablesOf by_domain old × ((mid ≡ old) × ShowsPlaceOf given code column named old found)) where
  place : ShowsPlaceOf domain lang (key_text key) (number_text number) old found
  place = subst (λ (x : Text × Text × Text × Text). ShowsPlaceOf x.0 x.1 x.2 x.3 old found) (λ i. (is_domain i, is_lang i, is_key i, is_named i)) shown.1.1

  told : is_suggested lang (key_text key) number (seen domain old) ≡ is_some found
  told = suggestion_told domain lang (key_text key) number old found place

  -- where it isn't on the unit
  pub vote_nowhere : found ≡ None → OnDomain domain (WritesVote lang (key_text key) number voter value) old mid
  vote_nowhere is_found =
      let missing : is_suggested lang (key_text key) number (seen domain old) ≡ false = told ∙ ap is_some is_found in
      subst (OnDomain domain (WritesVote lang (key_text key) number voter value) old) (sym shown.1.0)
      (nothing_on_domain domain (WritesVote lang (key_text key) number voter value) old
      (subst (λ b. MakesIf b (PutsVote number voter value) (λ before after. after ≡ before) (seen domain old) (seen domain old)) (sym missing) refl, valid))

  module _ (row : Row) (is_found : found ≡ Some row) (again by : Text) (sum : ℤ) (new : Database) (is_again : again ≡ number_text number) (is_voter : by ≡ voter) (cast : Casts again by value sum mid new) where
    own : Casts (number_text number) voter value sum old new
    own = subst (λ (x : Text × Text × Database). Casts x.0 x.1 value sum x.2 new) (λ i. (is_again i, is_voter i, shown.1.0 i)) cast

    on_unit : (r : Row) × Has (rows_named old (codes "d_suggestion")) r × (text_at 2 r ≡ domain) × (first_text r ≡ number_text number)
    on_unit = by_row found is_found place
      where
        by_row : (o : Option Row) → o ≡ Some row → ShowsPlaceOf domain lang (key_text key) (number_text number) old o
            → (r : Row) × Has (rows_named old (codes "d_suggestion")) r × (text_at 2 r ≡ domain) × (first_text r ≡ number_text number)
        by_row (Some cells) e it =
            let own_domain : text_at 2 it.0 ≡ domain = let keys = it.2 in cc in
            let own_number : first_text it.0 ≡ number_text number = let keys = it.2 in cc in
            (it.0, it.1, own_domain, own_number)
        by_row None e it = absurd (let none = e in cc)

    vote_on : (o : Option VoteValue) (next : Database) → PutsVoteRow (number_text number) voter o old next → OnDomain domain (PutsVote number voter o) old next
    vote_on (Some value) next put = vote_on_domain shown.0 put on_unit.0 on_unit.1 on_unit.2 (ap first_text put.is_row.1 ∙ sym on_unit.3)
    vote_on None next taken = vote_taken_on_domain shown.0 taken on_unit.0 on_unit.1 on_unit.2 on_unit.3

    pub vote_written : OnDomain domain (WritesVote lang (key_text key) number voter value) old new
    vote_written =
        let there : is_suggested lang (key_text key) number (seen domain old) ≡ true = told ∙ ap is_some is_found in
        on_domain_as domain (PutsVote number voter value) (WritesVote lang (key_text key) number voter value)
        (λ made. (subst (λ b. MakesIf b (PutsVote number voter value) (λ before after. after ≡ before) (seen domain old) (seen domain new)) (sym there) made, valid))
        (unseen_last domain (PutsVote number voter value) (vote_on value own.0 own.1) (sum_on_domains own.2))

    -- if the sum is that of the votes then
    pub vote_follows : FollowsVoteAt domain lang key number voter value sum old new
    vote_follows there is over =
        let unit = there.unit in
        let stands = suggestions_stand (seen domain old) lang key unit (view_parts (project_at domain old) lang key there is).0 in
        let r = row_of_number (seen domain old) lang (key_text key) unit number over.0 stands valid over.1 in
        let votes : over.0.votes ≡ votes_among (rows_named old (codes "d_vote")) (number_text number) =
        ap (λ (s : Suggestion). s.votes) r.4 ∙ ap (votes_in (seen domain old)) r.3 ∙ votes_seen old shown.0 domain (number_text number) r.0 r.1 r.3 in
        let leaves = leaves_votes (number_text number) voter value old own.0 (one_d_vote old shown.0.schema shown.0.sound (shown.0.tables (codes "d_vote") refl)) own.1 in
        stay_voted own.0 (number_text number) sum leaves.spares leaves.others (over.2 ∙ ap (λ v. vote_sum (set_vote voter value v)) votes ∙ ap vote_sum (sym leaves.own)) own.2
