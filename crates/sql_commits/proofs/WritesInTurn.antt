-- Writes one after the other, and rows of a list that are put in its order.
use Rattle.std.proofs.Common.{◌≡◌, inl, inr, ℕ, ℤ, pos, ◌+◌, List, [], ◌∷◌, ◌++◌, length, map, take, get_or, ◌<◌, Some, w64, to_z, of_z, Result, Ok, Err, OnOk, IsTrue, refl, sym, ap, subst, ◌∙◌, arith, codes}
use Rattle.std.proofs.lemmas.List.{take_more, length-take, map-append}
use Rattle.std.specs.Result.{IsErr}
use Rattle.std.specs.FinMap as maps
use Rattle.std.specs.Prelude.{⊤, MatchResult, IsErrAnd}
use Rattle.sqlite.specs.declared.types.Value.TheVariants.{Int, Text as Words}
use Rattle.sqlite.specs.Effect.{Database}
use Rattle.sqlite.specs.Order.{Row}
use Rattle.sqlite.specs.State.{State, HasCleanDisk, Survives, KeepsCommit}
use Rattle.sqlite_rules.proofs.ListLemmas.{has_either}
use Rattle.po_text.specs.Texts.{Text}
use Rattle.units.specs.Units.{key_text}
use Rattle.units.specs.declared.unit.Suggestion.{Suggestion}
use Rattle.units.specs.declared.unit.Unit.{Unit}
use Rattle.request_book.specs.Words.{number_text}
use Rattle.sql_columns.specs.Numbers.{role_number}
use Rattle.sql_columns.specs.Written.{texts_text}
use Rattle.sql_schema.specs.Keys.{first_text, first_texts}
use Rattle.sql_meaning.specs.Cells.{unit_cells, suggestion_cells, vote_cells}
use Rattle.units.specs.declared.unit.Role.{Role}
use Rattle.units.specs.declared.unit.Role.TheVariants.{Guest, Translator, Reviewer, Manager}
use Rattle.units.specs.declared.votes.VoteValue.{VoteValue}
use Rattle.units.specs.declared.votes.VoteValue.TheVariants.{For, Against}
use Rattle.request_book.specs.Acts.{IsNumber, vote_number}
use Rattle.sql_schema.specs.Inside.{IsSteadyOver, IsInsideOf, HoldsValues, Then, PutsIn}
use Rattle.sql_schema.proofs.Sequences.{writes_both}
use Rattle.sql_meaning.specs.Written.{PutsRows}
use Rattle.sql_changes.specs.UnitWrites.{HaveNumbers, AddsSuggestion, AddsSuggestions, AddsNumberedSuggestion, AddsNumberedSuggestions, WritesNumberedUnit}
use Rattle.sql_schema.specs.Layouts.{by_domain, NamedRows}
use Rattle.sql_meaning.specs.RowChanges.{AddsIn, ClearsIn}
use Rattle.sqlite_rules.specs.Lists.{Has}
use Rattle.sql_schema.specs.Inside.{AreOfficeTablesOf, IsReadOf, PutsRow}
use Rattle.sql_schema.specs.Keys.{text_at}
use Rattle.sql_schema.proofs.Layouts.{names_differ}
use Rattle.sql_statements.specs.Added.{AddsRow}
use Rattle.units.specs.Office.{same_domain}
use Rattle.sql_schema.specs.SeenRows.{AreSameByName}
use Rattle.sql_changes.specs.OnDomains.{OnDomain, MakesIf, SparesDomains}
use Rattle.sql_changes.proofs.DomainWrites.{seen, on_domain_then, spares_first, spares_last, nothing_on_domain, suggestion_on_domain, sum_on_domains, vote_on_domain}
use Rattle.sql_commits.specs.Figures.{PutsSum}
use Rattle.sql_commits.specs.Votes.{AddsSummed, PutsVotesOn}

module _ (a b : State) where
  -- a write that succeeded, with another result, and what it made told in other words
  pub write_told : {A B E F : Type 0} (x : A) (y : B) (P Q : Database → Database → Type 0) → (P a.now b.now → Q a.now b.now) → IsInsideOf {E = E} by_domain a b (Ok x) P → IsInsideOf {E = F} by_domain a b (Ok y) Q
  write_told x y P Q tells it = record { made = λ clean. tells (it.made clean); ready = it.ready; stays = it.stays; kept = it.kept; survives = it.survives }

  -- a write whose error is told as another, and what it made told in other words
  pub write_mapped : {A E F : Type 0} (r : Result A E) (told : Result A F) (Tells : E → F → Type 0) (P Q : Database → Database → Type 0)
      → MatchResult r (λ x. told ≡ Ok x) (λ e. IsErrAnd told (Tells e)) → (P a.now b.now → Q a.now b.now) → IsInsideOf by_domain a b r P → IsInsideOf by_domain a b told Q
  write_mapped {A} {E} {F} (Ok x) told Tells P Q is tells it = subst (λ t. IsInsideOf by_domain a b t Q) (sym is) (write_told {A = A} {B = A} {E = E} {F = F} x x P Q tells it)
  write_mapped (Err e) (Ok x) Tells P Q is tells it = absurd is
  write_mapped (Err e) (Err f) Tells P Q is tells it = record { made = λ clean. tt; ready = λ clean. tt; stays = λ clean. tt; kept = it.kept; survives = it.survives }

module _ (a : State) where
  keeps_same : KeepsCommit a a
  keeps_same = record { was_open = λ is_open. is_open; committed = λ is_open. refl }

  survives_same : Survives a a (λ _. ⊥)
  survives_same = record {
    clean = omega arith;
    shield = λ shield. shield;
    counts = omega arith;
    limit = refl;
    closes = λ clean is_open. inl is_open;
    crash = λ clean db left. inl left;
  }

  -- nothing to write
  pub nothing_put : {A E : Type 0} (x : A) (P : Database → Database → Type 0) → IsSteadyOver by_domain a → (HasCleanDisk a → IsTrue a.is_open) → P a.now a.now → IsInsideOf {E = E} by_domain a a (Ok x) P
  nothing_put x P steady is_open made = record {
    made = λ clean. made;
    ready = λ clean. steady.ready clean (is_open clean);
    stays = λ clean. record { inside = steady.inside clean; is_open = is_open clean; committed = refl };
    kept = λ clean. keeps_same;
    survives = survives_same;
  }

pub on_ok : {X E : Type 0} {A B : Type 0} (r : Result X E) → (A → B) → OnOk r A → OnOk r B
on_ok (Ok x) f h = f h
on_ok (Err e) f h = h

-- what a write made, told in other words
pub write_as : (a b : State) {A E : Type 0} (r : Result A E) (P Q : Database → Database → Type 0) → (P a.now b.now → Q a.now b.now) → IsInsideOf by_domain a b r P → IsInsideOf by_domain a b r Q
write_as a b r P Q tells it = record { made = λ clean. on_ok r tells (it.made clean); ready = it.ready; stays = it.stays; kept = it.kept; survives = it.survives }

module _ (a b : State) where
  -- what a write made, told by what the tables are before it and after it
  pub write_over : {A E : Type 0} (r : Result A E) (P Q : Database → Database → Type 0) → IsSteadyOver by_domain a
      → (AreOfficeTablesOf by_domain a.now → AreOfficeTablesOf by_domain b.now → P a.now b.now → Q a.now b.now) → IsInsideOf by_domain a b r P → IsInsideOf by_domain a b r Q
  write_over (Ok x) P Q steady tells it = record {
    made = λ clean. tells (steady.ready (omega (arith, clean, it.survives.clean)) ((it.kept clean).was_open (it.stays clean).is_open)) (it.ready clean) (it.made clean);
    ready = it.ready;
    stays = it.stays;
    kept = it.kept;
    survives = it.survives;
  }
  write_over (Err e) P Q steady tells it = record { made = λ clean. tt; ready = λ clean. tt; stays = λ clean. tt; kept = it.kept; survives = it.survives }

  -- and with it what the tables were
  pub write_ready : {A E : Type 0} (r : Result A E) (P : Database → Database → Type 0) → IsSteadyOver by_domain a → IsInsideOf by_domain a b r P
      → IsInsideOf by_domain a b r (λ before after. AreOfficeTablesOf by_domain before × P before after)
  write_ready r P steady = write_over r P (λ before after. AreOfficeTablesOf by_domain before × P before after) steady (λ ready after made. (ready, made))

  -- by what they are after it
  pub write_left : {A E : Type 0} (r : Result A E) (P Q : Database → Database → Type 0)
      → (AreOfficeTablesOf by_domain b.now → P a.now b.now → Q a.now b.now) → IsInsideOf by_domain a b r P → IsInsideOf by_domain a b r Q
  write_left (Ok x) P Q tells it = record { made = λ clean. tells (it.ready clean) (it.made clean); ready = it.ready; stays = it.stays; kept = it.kept; survives = it.survives }
  write_left (Err e) P Q tells it = record { made = λ clean. tt; ready = λ clean. tt; stays = λ clean. tt; kept = it.kept; survives = it.survives }

  -- a query writes nothing
  pub write_read : {A B E F : Type 0} (x : A) (y : B) (IsAnswer : Database → A → Type 0) → IsReadOf {E = E} by_domain a b (Ok x) IsAnswer → IsInsideOf {E = F} by_domain a b (Ok y) (λ old new. new ≡ old)
  write_read x y IsAnswer it = record { made = λ clean. it.same clean; ready = it.ready; stays = it.stays; kept = it.kept; survives = it.survives }

module _ (a b c : State) where
  -- a write after a write, and what both made told in other words
  pub write_then : {A B E F : Type 0} (x : A) (r : Result B F) (P Q R : Database → Database → Type 0) → (P a.now b.now → Q b.now c.now → R a.now c.now)
      → IsInsideOf {E = E} by_domain a b (Ok x) P → IsInsideOf by_domain b c r Q → IsInsideOf by_domain a c r R
  write_then {A} {B} {E} {F} x r P Q R tells one two =
      let both = writes_both a b c {E = F} x r P Q (write_told a b {F = F} x x P P (λ made. made) one) two in
      record {
        made = λ clean. on_ok r (tells (one.made (omega (arith, clean, two.survives.clean)))) (two.made clean);
        ready = both.ready;
        stays = both.stays;
        kept = both.kept;
        survives = both.survives;
      }

  -- and what the tables are between both
  pub write_between : {A B E F : Type 0} (x : A) (r : Result B F) (P Q R : Database → Database → Type 0) → (AreOfficeTablesOf by_domain b.now → P a.now b.now → Q b.now c.now → R a.now c.now)
      → IsInsideOf {E = E} by_domain a b (Ok x) P → IsInsideOf by_domain b c r Q → IsInsideOf by_domain a c r R
  write_between {A} {B} {E} {F} x r P Q R tells one two =
      write_then {A = A} {B = B} {E = E} {F = F} x r (λ before after. AreOfficeTablesOf by_domain after × P before after) Q R (λ both. tells both.0 both.1)
      (write_left a b (Ok x) P (λ before after. AreOfficeTablesOf by_domain after × P before after) (λ ready made. (ready, made)) one) two

module _ (a b c : State) where
  -- an error behind a write, of the next one or of what follows it
  pub write_fails : {A B D E F G : Type 0} (x : A) (r : Result B F) (given : Result D G) (P Q R : Database → Database → Type 0) → IsErr given
      → IsInsideOf {E = E} by_domain a b (Ok x) P → IsInsideOf by_domain b c r Q → IsInsideOf by_domain a c given R
  write_fails x r (Ok y) P Q R is one two = absurd (let none = is in cc)
  write_fails {A} {B} {D} {E} {F} x r (Err e) P Q R is one two =
      let both = writes_both a b c {E = F} x r P Q (write_told a b {F = F} x x P P (λ made. made) one) two in
      record { made = λ clean. tt; ready = λ clean. tt; stays = λ clean. tt; kept = both.kept; survives = both.survives }

-- ---- one more at the end

pub puts_row_more : {K : Type 0} (name : List ℕ) (key : Row → K) (all : List Row) (cells : Row) (old mid new : NamedRows)
    → PutsRows name key all old mid → PutsIn name key (HoldsValues cells) mid new → PutsRows name key (all ++ cells ∷ []) old new
puts_row_more name key [] cells old mid new is put = (new, subst (λ d. PutsIn name key (HoldsValues cells) d new) is put, refl)
puts_row_more name key (first ∷ more) cells old mid new (next, one, rest) put = (next, one, puts_row_more name key more cells next mid new rest put)

pub adds_suggestion_more : (lang key : Text) (place : ℕ) (ss : List Suggestion) (s : Suggestion) (old mid new : NamedRows)
    → AddsSuggestions lang key place ss old mid → AddsSuggestion lang key (place + length ss) s mid new → AddsSuggestions lang key place (ss ++ s ∷ []) old new
adds_suggestion_more lang key place [] s old mid new is put =
    (new, subst (λ n. AddsSuggestion lang key n s old new) (omega arith) (subst (λ d. AddsSuggestion lang key (place + 0) s d new) is put), refl)
adds_suggestion_more lang key place (t ∷ more) s old mid new (next, one, rest) put =
    (next, one, adds_suggestion_more lang key (place + 1) more s next mid new rest (subst (λ n. AddsSuggestion lang key n s mid new) (omega arith) put))

pub numbers_more : (ss : List Suggestion) (s : Suggestion) → HaveNumbers ss → IsNumber s.number → HaveNumbers (ss ++ s ∷ [])
numbers_more ss s all one t there = elim (has_either ss (s ∷ []) t there) [
  | inl before ↦ all t before
  | inr last ↦ elim last [ inl is ↦ subst (λ (x : Suggestion). IsNumber x.number) (sym is) one | inr none ↦ absurd none ]
]

-- as it goes through 64 bits
pub vote_through : (vote : VoteValue) → to_z w64 (of_z w64 (vote_number (Some vote))) ≡ vote_number (Some vote)
vote_through For = refl
vote_through Against = refl

pub role_through : (role : Role) (column : ℤ) → Some column ≡ role_number role → to_z w64 (of_z w64 column) ≡ column
role_through Guest column is = absurd (let no = is in cc)
role_through Translator column is = let same : column ≡ pos 1 = cc in subst (λ z. to_z w64 (of_z w64 z) ≡ z) (sym same) refl
role_through Reviewer column is = let same : column ≡ pos 2 = cc in subst (λ z. to_z w64 (of_z w64 z) ≡ z) (sym same) refl
role_through Manager column is = let same : column ≡ pos 3 = cc in subst (λ z. to_z w64 (of_z w64 z) ≡ z) (sym same) refl

pub puts_vote_next : (name : List ℕ) (number voter : Text) (value : ℤ) (votes : List (Text × VoteValue)) (i : ℕ) (vote : Text × VoteValue) (old mid new : NamedRows)
    → i < length votes → vote ≡ get_or votes i vote → voter ≡ vote.0 → value ≡ vote_number (Some vote.1)
    → PutsRows name first_texts (map (vote_cells number) (take i votes)) old mid
    → PutsIn name first_texts (HoldsValues (Words number ∷ Words voter ∷ Int value ∷ [])) mid new
    → PutsRows name first_texts (map (vote_cells number) (take (i + 1) votes)) old new
puts_vote_next name number voter value votes i vote old mid new within is is_voter is_value front put =
    let row : Row = Words number ∷ Words voter ∷ Int value ∷ [] in
    let cells : row ≡ vote_cells number vote = cc in
    let taken : take (i + 1) votes ≡ take i votes ++ vote ∷ [] = take_more votes i vote within ∙ ap (λ v. take i votes ++ v ∷ []) (sym is) in
    let all : map (vote_cells number) (take (i + 1) votes) ≡ map (vote_cells number) (take i votes) ++ vote_cells number vote ∷ [] =
    ap (map (vote_cells number)) taken ∙ map-append (vote_cells number) (take i votes) (vote ∷ []) in
    subst (λ rows. PutsRows name first_texts rows old new) (sym all)
    (puts_row_more name first_texts (map (vote_cells number) (take i votes)) (vote_cells number vote) old mid new front (subst (λ c. PutsIn name first_texts (HoldsValues c) mid new) cells put))

pub adds_suggestion_next : (lang key : Text) (ss : List Suggestion) (i : ℕ) (s : Suggestion) (old mid new : NamedRows)
    → i < length ss → s ≡ get_or ss i s → AddsNumberedSuggestions lang key (take i ss) old mid → AddsNumberedSuggestion lang key i s mid new → AddsNumberedSuggestions lang key (take (i + 1) ss) old new
adds_suggestion_next lang key ss i s old mid new within is front put =
    let taken : take (i + 1) ss ≡ take i ss ++ s ∷ [] = take_more ss i s within ∙ ap (λ v. take i ss ++ v ∷ []) (sym is) in
    let place : i ≡ 0 + length (take i ss) = omega (arith, length-take i ss) in
    subst (λ xs. AddsNumberedSuggestions lang key xs old new) (sym taken)
    (adds_suggestion_more lang key 0 (take i ss) s old mid new front.0 (subst (λ n. AddsSuggestion lang key n s mid new) place put.0), numbers_more (take i ss) s front.1 put.1)

-- ---- before and behind what no domain sees

module _ {a b c : Database} (domain : Text) (P : NamedRows → NamedRows → Type 0) where
  pub unseen_first : SparesDomains a b → OnDomain domain P b c → OnDomain domain P a c
  unseen_first = spares_first (λ rows. ⊤) (λ d. MakesIf (same_domain d domain) P AreSameByName)

  pub unseen_last : OnDomain domain P a b → SparesDomains b c → OnDomain domain P a c
  unseen_last = spares_last (λ rows. ⊤) (λ d. MakesIf (same_domain d domain) P AreSameByName)

-- ---- what is written, by the columns that are given

-- behind a suggestion that is added to a domain its sum is put, which no domain sees
pub adds_summed : (number domain lang key : Text) (place sum : ℤ) (suggester forms : Text) (old mid new : Database) → AreOfficeTablesOf by_domain old
    → AddsRow (codes "d_suggestion") first_text (HoldsValues (Words number ∷ Words domain ∷ Words lang ∷ Words key ∷ Int place ∷ Words suggester ∷ Words forms ∷ [])) old mid
    → PutsSum number sum mid new → AddsSummed domain number lang key place suggester forms old new
adds_summed number domain lang key place sum suggester forms old mid new ready added summed =
    let Adds = AddsIn (codes "suggestion") first_text (HoldsValues (Words number ∷ Words lang ∷ Words key ∷ Int place ∷ Words suggester ∷ Words forms ∷ [])) in (
      unseen_last domain Adds (suggestion_on_domain ready added) (sum_on_domains summed),
      (
        added.puts.row,
        subst (λ rows. Has rows added.puts.row) (sym (summed.others (codes "d_suggestion") (names_differ refl))) added.puts.put.here,
        ap (text_at 2) added.puts.is_row.1,
        ap first_text added.puts.is_row.1,
      ),
    )

-- one vote more
pub puts_vote_on : (domain number voter : Text) (value : ℤ) (votes : List (Text × VoteValue)) (i : ℕ) (vote : Text × VoteValue) (old mid new : Database)
    → i < length votes → vote ≡ get_or votes i vote → voter ≡ vote.0 → value ≡ vote_number (Some vote.1) → AreOfficeTablesOf by_domain mid
    → PutsVotesOn domain number (take i votes) old mid → PutsRow (codes "d_vote") first_texts (HoldsValues (Words number ∷ Words voter ∷ Int value ∷ [])) mid new
    → PutsVotesOn domain number (take (i + 1) votes) old new
puts_vote_on domain number voter value votes i vote old mid new within is is_voter is_value ready front put has =
    let before = front has in
    let s = before.1 in
    let one = vote_on_domain ready put s.0 s.1 s.2 (ap first_text put.is_row.1 ∙ sym s.3) in (
      on_domain_then domain (PutsRows (codes "vote") first_texts (map (vote_cells number) (take i votes))) (PutsIn (codes "vote") first_texts (HoldsValues (Words number ∷ Words voter ∷ Int value ∷ [])))
          (PutsRows (codes "vote") first_texts (map (vote_cells number) (take (i + 1) votes)))
          (puts_vote_next (codes "vote") number voter value votes i vote (seen domain old) (seen domain mid) (seen domain new) within is is_voter is_value) before.0 one,
      (s.0, subst (λ rows. Has rows s.0) (sym (put.others (codes "d_suggestion") (names_differ refl))) s.1, s.2, s.3),
    )

pub no_votes_on : (domain number : Text) (db : Database) → PutsVotesOn domain number [] db db
no_votes_on domain number db has = (nothing_on_domain domain (PutsRows (codes "vote") first_texts []) db refl, has)

pub adds_numbered_suggestion : (lang key number again suggester forms : Text) (at : ℤ) (place : ℕ) (s : Suggestion) (old mid new : NamedRows)
    → number ≡ number_text s.number → again ≡ number_text s.number → suggester ≡ s.suggester → forms ≡ texts_text s.forms → at ≡ pos place → IsNumber s.number
    → AddsIn (codes "suggestion") first_text (HoldsValues (Words number ∷ Words lang ∷ Words key ∷ Int at ∷ Words suggester ∷ Words forms ∷ [])) old mid
    → PutsRows (codes "vote") first_texts (map (vote_cells again) (maps.entries s.votes)) mid new → AddsNumberedSuggestion lang key place s old new
adds_numbered_suggestion lang key number again suggester forms at place s old mid new is_number is_again is_suggester is_forms is_at valid row votes =
    let same : Words number ∷ Words lang ∷ Words key ∷ Int at ∷ Words suggester ∷ Words forms ∷ [] ≡ suggestion_cells lang key place s = cc in (
      (
        mid,
        subst (λ cells. AddsIn (codes "suggestion") first_text (HoldsValues cells) old mid) same row,
        subst (λ n. PutsRows (codes "vote") first_texts (map (vote_cells n) (maps.entries s.votes)) mid new) is_again votes,
      ),
      valid,
    )

pub writes_numbered_unit : (lang key key_all : Text) (unit : Unit) (ss : List Suggestion) (old mid new : NamedRows)
    → key ≡ key_text unit.key → key_all ≡ key_text unit.key → ss ≡ unit.suggestions
    → PutsIn (codes "unit") first_texts (HoldsValues (unit_cells lang unit)) old mid → Then (ClearsIn lang key) (AddsNumberedSuggestions lang key_all ss) mid new → WritesNumberedUnit lang unit old new
writes_numbered_unit lang key key_all unit ss old mid new is_key is_key_all are row (next, cleared, all) =
    let gone = subst (λ k. ClearsIn lang k mid next) is_key cleared in
    let put = subst (λ k. AddsNumberedSuggestions lang k unit.suggestions next new) is_key_all (subst (λ xs. AddsNumberedSuggestions lang key_all xs next new) are all) in
    (mid, row, (next, gone, put))

-- a suggestion with its sum, and the votes on it
pub adds_on_domain : (domain lang key number again suggester forms : Text) (at : ℤ) (place : ℕ) (s : Suggestion) (old mid new : Database)
    → number ≡ number_text s.number → again ≡ number_text s.number → suggester ≡ s.suggester → forms ≡ texts_text s.forms → at ≡ pos place → IsNumber s.number
    → AddsSummed domain number lang key at suggester forms old mid → PutsVotesOn domain again (maps.entries s.votes) mid new → OnDomain domain (AddsNumberedSuggestion lang key place s) old new
adds_on_domain domain lang key number again suggester forms at place s old mid new is_number is_again is_suggester is_forms is_at valid added votes =
    let on = subst (λ n. PutsVotesOn domain n (maps.entries s.votes) mid new) (is_again ∙ sym is_number) votes in
    on_domain_then domain (AddsIn (codes "suggestion") first_text (HoldsValues (Words number ∷ Words lang ∷ Words key ∷ Int at ∷ Words suggester ∷ Words forms ∷ [])))
    (PutsRows (codes "vote") first_texts (map (vote_cells number) (maps.entries s.votes))) (AddsNumberedSuggestion lang key place s)
    (adds_numbered_suggestion lang key number number suggester forms at place s (seen domain old) (seen domain mid) (seen domain new) is_number is_number is_suggester is_forms is_at valid)
    added.0 (on added.1).0
