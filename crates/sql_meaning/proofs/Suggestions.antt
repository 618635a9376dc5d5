-- The suggestions that the rows stand for, after a unit's were taken away and put anew: of the unit these, of every other unit those
-- that there were.
use Rattle.std.proofs.Common.{◌≡◌, ◌≢◌, inl, inr, ℕ, ℤ, pos, List, [], ◌∷◌, map, filter, Bool, true, false, refl, sym, ap, subst, ◌∙◌, codes}
use Rattle.std.specs.Prelude.{T}
use Rattle.std.proofs.lemmas.Bool.{and_parts, false_from_ne_true}
use Rattle.std.specs.Ordering.{int_cmp}
use Rattle.std.specs.Cmp.{int_cmp_total}
use Rattle.std.specs.FinMap as maps
use Rattle.std.specs.FinMap.{FinMap, int_cmp-IsAntisymmetric, entries, entries-from_sorted, from_sorted}
use Rattle.sqlite.specs.Order.{Row}
use Rattle.sqlite_rules.specs.Lists.{Has}
use Rattle.sqlite_rules.proofs.ListLemmas.{has_filtered, has_kept}
use Rattle.sql_laws.specs.ApartRows.{IsRemoved}
use Rattle.sql_laws.proofs.RemovedRows.{from_mapped, to_mapped}
use Rattle.sql_laws.proofs.RowMaps.{texts_are_one, text_ties_itself}
use Rattle.po_text.specs.Texts.{Text, text_cmp}
use Rattle.units.specs.Orders.{text_total, text_IsAntisymmetric}
use Rattle.units.specs.declared.unit.Suggestion.{Suggestion}
use Rattle.units.specs.declared.votes.VoteValue.{VoteValue}
use Rattle.request_book.specs.Words.{number_text}
use Rattle.sql_schema.specs.Keys.{text_at, first_text, first_texts, has_text, is_on_unit}
use Rattle.sql_schema.specs.Cleared.{IsOn}
use Rattle.sql_schema.specs.Inside.{HoldsValues}
use Rattle.sql_meaning.specs.Values.{integer_at, vote_at}
use Rattle.sql_meaning.specs.Meaning.{votes_in, suggestion_of_row, suggestions_in}
use Rattle.sql_meaning.specs.Cells.{suggestion_cells, vote_cells}
use Rattle.sql_meaning.proofs.MapEntries.{map_of-entries, map_of-agreeing}
use Rattle.sql_meaning.proofs.RowsInTurn.{ArePut}
use Rattle.sql_meaning.proofs.UniqueKeys.{one_voter, one_place_each}
use Rattle.sql_meaning.proofs.UnitValues.{numbers_apart, suggestion_read_back, is_on_its_unit, vote_read_back}
use Rattle.sql_meaning.proofs.WrittenRows.{placed, placed_has, numbered, numbered_rise, numbered_values, suggestion_rows, vote_rows, from_votes, to_votes, AreNumbers, HaveOwnNumbers, one_number}
use Rattle.sql_schema.specs.Layouts.{NamedRows}
use Rattle.sql_meaning.specs.RowKeys.{AreKeyed}

-- the unit's suggestions went, and the votes on them
pub record AreCleared (lang key : Text) (old new : NamedRows) : Type 0 where
  pub suggestions : IsRemoved (is_on_unit lang key) (old (codes "suggestion")) (new (codes "suggestion"))
  pub votes_only : (v : Row) → Has (new (codes "vote")) v → Has (old (codes "vote")) v × (IsOn old lang key v → ⊥)
  pub votes_kept : (v : Row) → Has (old (codes "vote")) v → (IsOn old lang key v → ⊥) → Has (new (codes "vote")) v

-- no suggestion of another unit has a number of these
abbrev pub AreFree : Text → Text → List Suggestion → NamedRows → Type 0
AreFree lang key ss tables =
    (s : Suggestion) → Has ss s → (row : Row) → Has (tables (codes "suggestion")) row → is_on_unit lang key row ≡ false → first_text row ≢ number_text s.number

text_is : (place : ℕ) (text : Text) (row : Row) → has_text place text row ≡ true → text_at place row ≡ text
text_is place text row e = texts_are_one (text_at place row) text e

has_it : (place : ℕ) (text : Text) (row : Row) → text_at place row ≡ text → has_text place text row ≡ true
has_it place text row e = subst (λ t. has_text place t row ≡ true) e (text_ties_itself (text_at place row))

on_unit : (lang key : Text) (row : Row) → is_on_unit lang key row ≡ true → (text_at 2 row ≡ lang) × (text_at 3 row ≡ key)
on_unit lang key row e = let parts = and_parts _ _ e in (text_is 2 lang row parts.0, text_is 3 key row parts.1)

-- a suggestion on another unit isn't on this one
pub off_unit : (lang key other_lang other_key : Text) → ((other_lang ≡ lang) × (other_key ≡ key) → ⊥) → (row : Row) → is_on_unit other_lang other_key row ≡ true → is_on_unit lang key row ≡ false
off_unit lang key other_lang other_key differ row on = false_from_ne_true (is_on_unit lang key row) (λ e.
    let here = on_unit lang key row e in
    let there = on_unit other_lang other_key row on in
    differ (sym there.0 ∙ here.0, sym there.1 ∙ here.1))

module _ (lang key : Text) (ss : List Suggestion) (fit : AreNumbers ss) (own : HaveOwnNumbers ss) (old cleared new : NamedRows) (were : AreKeyed old)
    (free : AreFree lang key ss old) (clear : AreCleared lang key old cleared)
    (suggestions : ArePut first_text (suggestion_rows lang key 0 ss) (cleared (codes "suggestion")) (new (codes "suggestion")))
    (votes : ArePut first_texts (vote_rows ss) (cleared (codes "vote")) (new (codes "vote"))) where
  -- ---- the votes on a suggestion that was put

  -- a vote that stayed is on none of these
  none_stayed : (s : Suggestion) → Has ss s → (v : Row) → Has (cleared (codes "vote")) v → text_at 1 v ≡ number_text s.number → ⊥
  none_stayed s in_s v there is =
      let was = clear.votes_only v there in
      let on = were.has_suggestion v was.0 in
      by on.0 on.1 on.2 was.1 (is_on_unit lang key on.0) refl
    where
      by : (r : Row) → Has (old (codes "suggestion")) r → first_text v ≡ first_text r → (IsOn old lang key v → ⊥) → (b : Bool) → is_on_unit lang key r ≡ b → ⊥
      by r in_r same out true on = out (r, in_r, on, same)
      by r in_r same out false off = free s in_s r in_r off (sym same ∙ is)

  -- an entry of a map from voters that says what the row says
  abbrev IsVoteOf : Suggestion → Row → Type 0
  IsVoteOf s v = (e : Text × VoteValue) × Has (entries s.votes) e × (text_at 2 v ≡ e.0) × (vote_at 3 v ≡ e.1)

  module _ (s : Suggestion) (in_s : Has ss s) where
    own_vote : (v : Row) → text_at 1 v ≡ number_text s.number → (cells : Row) → Has (vote_rows ss) cells → HoldsValues cells v → IsVoteOf s v
    own_vote v of_s cells at (id, is) =
        let it = from_votes ss cells at in
        let number : text_at 1 v ≡ number_text it.0.number = ap (text_at 1) is ∙ ap (λ c. text_at 0 c) it.4 in
        let same : it.0 ≡ s = one_number ss it.0 s own it.1 in_s (numbers_apart it.0.number s.number (fit it.0 it.1) (fit s in_s) (sym number ∙ of_s)) in (
          it.2,
          subst (λ (x : Suggestion). Has (entries x.votes) it.2) same it.3,
          ap (text_at 2) is ∙ ap (λ c. text_at 1 c) it.4,
          vote_read_back (number_text it.0.number) it.2 v (subst (λ c. HoldsValues c v) it.4 (id, is)),
        )

    each_vote : (v : Row) → Has (filter (has_text 1 (number_text s.number)) (new (codes "vote"))) v → IsVoteOf s v
    each_vote v there =
        let f = has_filtered (has_text 1 (number_text s.number)) (new (codes "vote")) v there in
        let of_s = text_is 1 (number_text s.number) v f.1 in
        elim (votes.only v f.0) [ inl put ↦ own_vote v of_s put.0 put.1 put.2 | inr stayed ↦ absurd (none_stayed s in_s v stayed of_s) ]

    vote_there : (e : Text × VoteValue) → Has (entries s.votes) e → (v : Row) × Has (filter (has_text 1 (number_text s.number)) (new (codes "vote"))) v × (text_at 2 v ≡ e.0)
    vote_there e at =
        let it = votes.here (vote_cells (number_text s.number) e) (to_votes ss s e in_s at) in
        let number : text_at 1 it.0 ≡ number_text s.number = ap (text_at 1) it.2.1 in
        (it.0, has_kept (has_text 1 (number_text s.number)) (new (codes "vote")) it.0 it.1 (has_it 1 (number_text s.number) it.0 number), ap (text_at 2) it.2.1)

    pub votes_put : votes_in new (number_text s.number) ≡ s.votes
    votes_put =
        map_of-entries text_cmp text_total text_IsAntisymmetric (text_at 2) (vote_at 3) (filter (has_text 1 (number_text s.number)) (new (codes "vote"))) s.votes each_vote vote_there

  -- ---- the votes on another suggestion

  module _ (number : Text) (other : (s : Suggestion) → Has ss s → number ≢ number_text s.number)
      (stays : (r : Row) → Has (old (codes "suggestion")) r → is_on_unit lang key r ≡ true → number ≢ first_text r) where
    vote_was : (v : Row) → Has (filter (has_text 1 number) (new (codes "vote"))) v → Has (filter (has_text 1 number) (old (codes "vote"))) v
    vote_was v there =
        let f = has_filtered (has_text 1 number) (new (codes "vote")) v there in
        elim (votes.only v f.0) [
          | inl put ↦
              let it = from_votes ss put.0 put.1 in
              let of_s : text_at 1 v ≡ number_text it.0.number = ap (text_at 1) put.2.1 ∙ ap (λ c. text_at 0 c) it.4 in
              absurd (other it.0 it.1 (sym (text_is 1 number v f.1) ∙ of_s))
          | inr stayed ↦ has_kept (has_text 1 number) (old (codes "vote")) v (clear.votes_only v stayed).0 f.1
        ]

    vote_stays : (v : Row) → Has (filter (has_text 1 number) (old (codes "vote"))) v → Has (filter (has_text 1 number) (new (codes "vote"))) v
    vote_stays v there =
        let f = has_filtered (has_text 1 number) (old (codes "vote")) v there in
        let is = text_is 1 number v f.1 in
        let stayed = clear.votes_kept v f.0 (λ (on : IsOn old lang key v). stays on.0 on.1 on.2 (sym is ∙ on.3)) in
        let later = votes.kept v stayed (λ c at e.
        let it = from_votes ss c at in
        let keys : number_text it.0.number ∷ it.2.0 ∷ [] ≡ first_texts v = sym (ap (λ d. text_at 0 d ∷ text_at 1 d ∷ []) it.4) ∙ e in
        let first : number_text it.0.number ≡ text_at 1 v = cc in
        other it.0 it.1 (sym is ∙ sym first)) in
        has_kept (has_text 1 number) (new (codes "vote")) v later f.1

    votes_kept : votes_in new number ≡ votes_in old number
    votes_kept =
        map_of-agreeing text_cmp text_total text_IsAntisymmetric (text_at 2) (vote_at 3) (vote_at 3) (filter (has_text 1 number) (old (codes "vote"))) (filter (has_text 1 number) (new (codes "vote")))
        (one_voter (old (codes "vote")) number were.one_vote) vote_was vote_stays (λ x there. refl)

  -- ---- the unit's suggestions

  by_place : FinMap int_cmp Suggestion
  by_place = from_sorted (numbered 0 ss)

  by_place_is : entries by_place ≡ numbered 0 ss
  unfolding by_place
  by_place_is = entries-from_sorted int_cmp (numbered 0 ss) (subst T (sym (numbered_rise 0 ss)) tt)

  -- an entry of that map that says what the row says
  abbrev IsPlaced : Row → Type 0
  IsPlaced x = (e : ℤ × Suggestion) × Has (entries by_place) e × (integer_at 4 x ≡ e.0) × (suggestion_of_row new x ≡ e.1)

  put_at : (x : Row) (cells : Row) → Has (suggestion_rows lang key 0 ss) cells → HoldsValues cells x → IsPlaced x
  put_at x cells at holds =
      let m = from_mapped (λ (e : ℕ × Suggestion). suggestion_cells lang key e.0 e.1) (placed 0 ss) cells at in
      let in_s = placed_has 0 ss m.0 m.1 in
      let it : HoldsValues (suggestion_cells lang key m.0.0 m.0.1) x = subst (λ c. HoldsValues c x) m.2 holds in (
        (pos m.0.0, m.0.1),
        subst (λ es. Has es (pos m.0.0, m.0.1)) (sym by_place_is) (to_mapped (λ (e : ℕ × Suggestion). (pos e.0, e.1)) (placed 0 ss) m.0 m.1),
        ap (integer_at 4) it.1,
        suggestion_read_back new lang key m.0.0 m.0.1 x it (fit m.0.1 in_s) (votes_put m.0.1 in_s),
      )

  each_suggestion : (x : Row) → Has (filter (is_on_unit lang key) (new (codes "suggestion"))) x → IsPlaced x
  each_suggestion x there =
      let f = has_filtered (is_on_unit lang key) (new (codes "suggestion")) x there in
      elim (suggestions.only x f.0) [
        | inl put ↦ put_at x put.0 put.1 put.2
        | inr stayed ↦ absurd (let off = (clear.suggestions.only x stayed).1 in let on = f.1 in cc)
      ]

  suggestion_there : (e : ℤ × Suggestion) → Has (entries by_place) e → (x : Row) × Has (filter (is_on_unit lang key) (new (codes "suggestion"))) x × (integer_at 4 x ≡ e.0)
  suggestion_there e at =
      let m = from_mapped (λ (p : ℕ × Suggestion). (pos p.0, p.1)) (placed 0 ss) e (subst (λ es. Has es e) by_place_is at) in
      let it = suggestions.here (suggestion_cells lang key m.0.0 m.0.1) (to_mapped (λ (p : ℕ × Suggestion). suggestion_cells lang key p.0 p.1) (placed 0 ss) m.0 m.1) in
      let on = is_on_its_unit lang key m.0.0 m.0.1 it.0 it.2 in
      (it.0, has_kept (is_on_unit lang key) (new (codes "suggestion")) it.0 it.1 on, ap (integer_at 4) it.2.1 ∙ sym (ap (λ (p : ℤ × Suggestion). p.0) m.2))

  pub suggestions_put : suggestions_in new lang key ≡ ss
  suggestions_put =
      ap maps.values (map_of-entries int_cmp int_cmp_total int_cmp-IsAntisymmetric (integer_at 4) (suggestion_of_row new) (filter (is_on_unit lang key) (new (codes "suggestion"))) by_place
      each_suggestion suggestion_there)
      ∙ ap (map (λ (e : ℤ × Suggestion). e.1)) by_place_is ∙ numbered_values 0 ss

  -- ---- another unit's suggestions

  module _ (other_lang other_key : Text) (differ : (other_lang ≡ lang) × (other_key ≡ key) → ⊥) where
    off : (x : Row) → is_on_unit other_lang other_key x ≡ true → is_on_unit lang key x ≡ false
    off = off_unit lang key other_lang other_key differ

    suggestion_was : (x : Row) → Has (filter (is_on_unit other_lang other_key) (new (codes "suggestion"))) x → Has (filter (is_on_unit other_lang other_key) (old (codes "suggestion"))) x
    suggestion_was x there =
        let f = has_filtered (is_on_unit other_lang other_key) (new (codes "suggestion")) x there in
        elim (suggestions.only x f.0) [
          | inl put ↦
              let m = from_mapped (λ (e : ℕ × Suggestion). suggestion_cells lang key e.0 e.1) (placed 0 ss) put.0 put.1 in
              let on = is_on_its_unit lang key m.0.0 m.0.1 x (subst (λ c. HoldsValues c x) m.2 put.2) in
              absurd (let out = off x f.1 in cc)
          | inr stayed ↦ has_kept (is_on_unit other_lang other_key) (old (codes "suggestion")) x (clear.suggestions.only x stayed).0 f.1
        ]

    suggestion_stays : (x : Row) → Has (filter (is_on_unit other_lang other_key) (old (codes "suggestion"))) x → Has (filter (is_on_unit other_lang other_key) (new (codes "suggestion"))) x
    suggestion_stays x there =
        let f = has_filtered (is_on_unit other_lang other_key) (old (codes "suggestion")) x there in
        let out = off x f.1 in
        let later = suggestions.kept x (clear.suggestions.kept x f.0 out) (λ c at e.
        let m = from_mapped (λ (p : ℕ × Suggestion). suggestion_cells lang key p.0 p.1) (placed 0 ss) c at in
        let number : first_text x ≡ number_text m.0.1.number = sym e ∙ ap (λ d. text_at 0 d) m.2 in
        free m.0.1 (placed_has 0 ss m.0 m.1) x f.0 out number) in
        has_kept (is_on_unit other_lang other_key) (new (codes "suggestion")) x later f.1

    same_suggestion : (x : Row) → Has (filter (is_on_unit other_lang other_key) (old (codes "suggestion"))) x → suggestion_of_row new x ≡ suggestion_of_row old x
    same_suggestion x there =
        let f = has_filtered (is_on_unit other_lang other_key) (old (codes "suggestion")) x there in
        let out = off x f.1 in
        let same = votes_kept (first_text x) (λ s in_s. free s in_s x f.0 out) (λ r in_r on e.
        let is = were.one_number x r f.0 in_r e in
        let on_x = subst (λ z. is_on_unit lang key z ≡ true) (sym is) on in cc) in
        λ i. record (suggestion_of_row new x) { votes = same i }

    pub suggestions_kept : suggestions_in new other_lang other_key ≡ suggestions_in old other_lang other_key
    suggestions_kept =
        ap maps.values (map_of-agreeing int_cmp int_cmp_total int_cmp-IsAntisymmetric (integer_at 4) (suggestion_of_row old) (suggestion_of_row new)
        (filter (is_on_unit other_lang other_key) (old (codes "suggestion"))) (filter (is_on_unit other_lang other_key) (new (codes "suggestion")))
        (one_place_each old were other_lang other_key) suggestion_was suggestion_stays same_suggestion)
