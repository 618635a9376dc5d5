-- The rows that are put for a unit's suggestions and for the votes on them: each table's one after the other, no two with one key.
use Rattle.std.proofs.Common.{◌≡◌, ◌≢◌, inl, inr, ℕ, ◌+◌, ◌<◌, ℤ, pos, List, [], ◌∷◌, ◌++◌, map, true, refl, sym, ap, subst, ◌∙◌, arith, codes}
use Rattle.std.specs.Prelude.{⊤}
use Rattle.std.proofs.lemmas.Int.{ints}
use Rattle.std.proofs.lemmas.Bool.{and_parts, and_from}
use Rattle.std.specs.Ordering.{int_cmp, is_lt}
use Rattle.std.specs.Cmp.{int_cmp_is}
use Rattle.std.specs.FinMap as maps
use Rattle.std.specs.FinMap.{is_sorted, entries, entries_sorted}
use Rattle.std.specs.FinMap.Entries.{below_all}
use Rattle.std.specs.declared.cmp.Ordering.TheVariants.{Less}
use Rattle.sqlite.specs.Order.{Row}
use Rattle.sqlite_rules.specs.Lists.{Has}
use Rattle.sqlite_rules.proofs.ListLemmas.{has_left, has_right, has_either}
use Rattle.sql_laws.proofs.RemovedRows.{from_mapped, to_mapped}
use Rattle.po_text.specs.Texts.{Text, text_cmp}
use Rattle.units.specs.Orders.{text_total}
use Rattle.units.specs.declared.unit.Suggestion.{Suggestion}
use Rattle.units.specs.declared.votes.VoteValue.{VoteValue}
use Rattle.request_book.specs.Acts.{IsNumber}
use Rattle.request_book.specs.Words.{number_text}
use Rattle.sql_schema.specs.Keys.{first_text, first_texts}
use Rattle.sql_meaning.specs.Cells.{suggestion_cells, vote_cells}
use Rattle.sql_meaning.specs.Written.{PutsRows, PutsSuggestions}
use Rattle.sql_meaning.proofs.MapEntries.{apart_keys, true_of}
use Rattle.sql_meaning.proofs.RowsInTurn.{ArePutInTurn, AreDistinct, IsOther, key_of_cells, in_turn_append, distinct_append}
use Rattle.sql_meaning.proofs.UnitValues.{numbers_apart}
use Rattle.sql_schema.proofs.Layouts.{names_differ}
use Rattle.sql_schema.specs.Layouts.{NamedRows}

-- ---- suggestions, each with its place from this one on

abbrev pub placed : ℕ → List Suggestion → List (ℕ × Suggestion)
placed place [] = []
placed place (s ∷ more) = (place, s) ∷ placed (place + 1) more

pub placed_has : (place : ℕ) (ss : List Suggestion) (e : ℕ × Suggestion) → Has (placed place ss) e → Has ss e.1
placed_has place [] e there = absurd there
placed_has place (s ∷ more) e (inl is) = inl (ap (λ (x : ℕ × Suggestion). x.1) is)
placed_has place (s ∷ more) e (inr later) = inr (placed_has (place + 1) more e later)

abbrev pub numbered : ℕ → List Suggestion → List (ℤ × Suggestion)
numbered place ss = map (λ e. (pos e.0, e.1)) (placed place ss)

below_numbered : (k place : ℕ) (ss : List Suggestion) → k < place → below_all int_cmp (pos k) (numbered place ss) ≡ true
below_numbered k place [] less = refl
below_numbered k place (s ∷ more) less =
    and_from _ _ (ap is_lt (sym (int_cmp_is (pos k) (pos place) Less (omega (arith, ints))))) (below_numbered k (place + 1) more (omega arith))

pub numbered_rise : (place : ℕ) (ss : List Suggestion) → is_sorted int_cmp (numbered place ss) ≡ true
numbered_rise place [] = refl
numbered_rise place (s ∷ more) = and_from _ _ (below_numbered place (place + 1) more (omega arith)) (numbered_rise (place + 1) more)

pub numbered_values : (place : ℕ) (ss : List Suggestion) → map (λ (e : ℤ × Suggestion). e.1) (numbered place ss) ≡ ss
numbered_values place [] = refl
numbered_values place (s ∷ more) = ap (λ rest. s ∷ rest) (numbered_values (place + 1) more)

-- ---- the cells of their rows

abbrev pub suggestion_rows : Text → Text → ℕ → List Suggestion → List Row
suggestion_rows lang key place ss = map (λ e. suggestion_cells lang key e.0 e.1) (placed place ss)

abbrev pub votes_of : Suggestion → List Row
votes_of s = map (vote_cells (number_text s.number)) (maps.entries s.votes)

abbrev pub vote_rows : List Suggestion → List Row
vote_rows [] = []
vote_rows (s ∷ more) = votes_of s ++ vote_rows more

pub from_votes : (ss : List Suggestion) (cells : Row) → Has (vote_rows ss) cells
    → (s : Suggestion) × Has ss s × (e : Text × VoteValue) × Has (entries s.votes) e × (cells ≡ vote_cells (number_text s.number) e)
from_votes [] cells there = absurd there
from_votes (s ∷ more) cells there = elim (has_either (votes_of s) (vote_rows more) cells there) [
  | inl own ↦ let m = from_mapped (vote_cells (number_text s.number)) (entries s.votes) cells own in (s, inl refl, m.0, m.1, m.2)
  | inr later ↦ let it = from_votes more cells later in (it.0, inr it.1, it.2, it.3, it.4)
]

pub to_votes : (ss : List Suggestion) (s : Suggestion) (e : Text × VoteValue) → Has ss s → Has (entries s.votes) e → Has (vote_rows ss) (vote_cells (number_text s.number) e)
to_votes [] s e there at = absurd there
to_votes (t ∷ more) s e (inl is) at =
    has_left (votes_of t) (vote_rows more) _ (subst (λ x. Has (votes_of x) (vote_cells (number_text s.number) e)) is (to_mapped (vote_cells (number_text s.number)) (entries s.votes) e at))
to_votes (t ∷ more) s e (inr later) at = has_right (votes_of t) (vote_rows more) _ (to_votes more s e later at)

-- ---- no two have one key

-- no two of the suggestions have one number
abbrev pub HaveOwnNumbers : List Suggestion → Type 0
HaveOwnNumbers [] = ⊤
HaveOwnNumbers (s ∷ more) = ((other : Suggestion) → Has more other → other.number ≢ s.number) × HaveOwnNumbers more

abbrev pub AreNumbers : List Suggestion → Type 0
AreNumbers ss = (s : Suggestion) → Has ss s → IsNumber s.number

pub one_number : (ss : List Suggestion) (s t : Suggestion) → HaveOwnNumbers ss → Has ss s → Has ss t → s.number ≡ t.number → s ≡ t
one_number [] s t own in_s in_t is = absurd in_s
one_number (r ∷ more) s t own (inl is_s) (inl is_t) is = is_s ∙ sym is_t
one_number (r ∷ more) s t own (inl is_s) (inr in_t) is = absurd (own.0 t in_t (sym is ∙ ap (λ (x : Suggestion). x.number) is_s))
one_number (r ∷ more) s t own (inr in_s) (inl is_t) is = absurd (own.0 s in_s (is ∙ ap (λ (x : Suggestion). x.number) is_t))
one_number (r ∷ more) s t own (inr in_s) (inr in_t) is = one_number more s t own.1 in_s in_t is

pub suggestions_distinct : (lang key : Text) (place : ℕ) (ss : List Suggestion) → AreNumbers ss → HaveOwnNumbers ss → AreDistinct first_text (suggestion_rows lang key place ss)
suggestions_distinct lang key place [] fit own = tt
suggestions_distinct lang key place (s ∷ more) fit own = (others, suggestions_distinct lang key (place + 1) more (λ t there. fit t (inr there)) own.1)
  where
    others : IsOther first_text (suggestion_rows lang key (place + 1) more) (number_text s.number)
    others c at is =
        let m = from_mapped (λ (e : ℕ × Suggestion). suggestion_cells lang key e.0 e.1) (placed (place + 1) more) c at in
        let there = placed_has (place + 1) more m.0 m.1 in
        let same : number_text m.0.1.number ≡ number_text s.number = sym (ap (key_of_cells first_text) m.2) ∙ is in
        own.0 m.0.1 there (numbers_apart m.0.1.number s.number (fit m.0.1 (inr there)) (fit s (inl refl)) same)

entries_distinct : (number : Text) (es : List (Text × VoteValue)) → is_sorted text_cmp es ≡ true → AreDistinct first_texts (map (vote_cells number) es)
entries_distinct number [] rise = tt
entries_distinct number (e ∷ es) rise = (others, entries_distinct number es (and_parts _ _ rise).1)
  where
    others : IsOther first_texts (map (vote_cells number) es) (number ∷ e.0 ∷ [])
    others c at is =
        let m = from_mapped (vote_cells number) es c at in
        let keys : number ∷ m.0.0 ∷ [] ≡ number ∷ e.0 ∷ [] = sym (ap (key_of_cells first_texts) m.2) ∙ is in
        let same : m.0.0 ≡ e.0 = cc in
        apart_keys text_cmp text_total e.0 es m.0 (and_parts _ _ rise).0 m.1 same

pub votes_distinct : (ss : List Suggestion) → AreNumbers ss → HaveOwnNumbers ss → AreDistinct first_texts (vote_rows ss)
votes_distinct [] fit own = tt
votes_distinct (s ∷ more) fit own =
    distinct_append first_texts (votes_of s) (vote_rows more) (entries_distinct (number_text s.number) (entries s.votes) (true_of _ (entries_sorted s.votes)))
    (votes_distinct more (λ t there. fit t (inr there)) own.1) apart
  where
    apart : (c d : Row) → Has (votes_of s) c → Has (vote_rows more) d → key_of_cells first_texts d ≡ key_of_cells first_texts c → ⊥
    apart c d at_c at_d is =
        let m = from_mapped (vote_cells (number_text s.number)) (entries s.votes) c at_c in
        let it = from_votes more d at_d in
        let keys : number_text it.0.number ∷ it.2.0 ∷ [] ≡ number_text s.number ∷ m.0.0 ∷ [] = sym (ap (key_of_cells first_texts) it.4) ∙ is ∙ ap (key_of_cells first_texts) m.2 in
        let same : number_text it.0.number ≡ number_text s.number = cc in
        own.0 it.0 it.1 (numbers_apart it.0.number s.number (fit it.0 (inr it.1)) (fit s (inl refl)) same)

-- ---- what is put into which table

module _ (t : List ℕ) where
  rows_spare : {K : Type 0} (name : List ℕ) (key : Row → K) (all : List Row) (old new : NamedRows) → PutsRows name key all old new → t ≢ name → new t ≡ old t
  rows_spare name key [] old new is apart = ap (λ (d : NamedRows). d t) is
  rows_spare name key (cells ∷ more) old new (mid, put, rest) apart = rows_spare name key more mid new rest apart ∙ put.others t apart

  pub suggestions_spare : (lang key : Text) (place : ℕ) (ss : List Suggestion) (old new : NamedRows) → PutsSuggestions lang key place ss old new → t ≢ codes "suggestion" → t ≢ codes "vote"
      → new t ≡ old t
  suggestions_spare lang key place [] old new is no_suggestion no_vote = ap (λ (d : NamedRows). d t) is
  suggestions_spare lang key place (s ∷ more) old new (mid, (after, put, votes), rest) no_suggestion no_vote =
      suggestions_spare lang key (place + 1) more mid new rest no_suggestion no_vote ∙ rows_spare (codes "vote") first_texts (votes_of s) after mid votes no_vote ∙ put.others t no_suggestion

puts_in_turn : {K : Type 0} (name : List ℕ) (key : Row → K) (all : List Row) (old new : NamedRows) → PutsRows name key all old new → ArePutInTurn key all (old name) (new name)
puts_in_turn name key [] old new is = ap (λ (d : NamedRows). d name) is
puts_in_turn name key (cells ∷ more) old new (mid, put, rest) = (mid name, put.row, put.is_row, put.put, puts_in_turn name key more mid new rest)

pub suggestions_in_turn : (lang key : Text) (place : ℕ) (ss : List Suggestion) (old new : NamedRows) → PutsSuggestions lang key place ss old new
    → ArePutInTurn first_text (suggestion_rows lang key place ss) (old (codes "suggestion")) (new (codes "suggestion"))
suggestions_in_turn lang key place [] old new is = ap (λ (d : NamedRows). d (codes "suggestion")) is
suggestions_in_turn lang key place (s ∷ more) old new (mid, (after, put, votes), rest) =
    let same = rows_spare (codes "suggestion") (codes "vote") first_texts (votes_of s) after mid votes (names_differ refl) in (
      after (codes "suggestion"),
      put.row,
      put.is_row,
      put.put,
      subst (λ rows. ArePutInTurn first_text (suggestion_rows lang key (place + 1) more) rows (new (codes "suggestion"))) same (suggestions_in_turn lang key (place + 1) more mid new rest),
    )

pub votes_in_turn : (lang key : Text) (place : ℕ) (ss : List Suggestion) (old new : NamedRows) → PutsSuggestions lang key place ss old new
    → ArePutInTurn first_texts (vote_rows ss) (old (codes "vote")) (new (codes "vote"))
votes_in_turn lang key place [] old new is = ap (λ (d : NamedRows). d (codes "vote")) is
votes_in_turn lang key place (s ∷ more) old new (mid, (after, put, votes), rest) =
    let same = put.others (codes "vote") (names_differ refl) in
    let own = puts_in_turn (codes "vote") first_texts (votes_of s) after mid votes in
    in_turn_append first_texts (votes_of s) (vote_rows more) (old (codes "vote")) (mid (codes "vote")) (new (codes "vote"))
    (subst (λ rows. ArePutInTurn first_texts (votes_of s) rows (mid (codes "vote"))) same own) (votes_in_turn lang key (place + 1) more mid new rest)
