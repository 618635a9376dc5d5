-- A suggestion that is added behind those that are there is its unit's last, and the suggestions on every other unit stay.
use Rattle.std.proofs.Common.{◌≡◌, ◌⊎◌, inl, inr, ℕ, ℤ, pos, int_lt, List, [], ◌∷◌, ◌++◌, map, filter, true, cond, refl, sym, ap, subst, ◌∙◌, codes}
use Rattle.std.specs.declared.cmp.Ordering.TheVariants.{Less, Equal, Greater}
use Rattle.std.specs.Ordering.{int_cmp, ordering_reverse}
use Rattle.std.specs.Cmp.{int_cmp_total, tied_itself}
use Rattle.std.specs.FinMap as maps
use Rattle.std.specs.FinMap.{FinMap, int_cmp-IsAntisymmetric}
use Rattle.sqlite.specs.Order.{Row}
use Rattle.sqlite_rules.specs.Lists.{Has}
use Rattle.sqlite_rules.proofs.ListLemmas.{has_filtered, has_kept}
use Rattle.sql_laws.specs.RowMaps.{IsPut, map_of}
use Rattle.sql_laws.proofs.RowMaps.{texts_are_one}
use Rattle.po_text.specs.Texts.{Text, text_cmp}
use Rattle.units.specs.Orders.{text_total, text_IsAntisymmetric}
use Rattle.units.specs.declared.unit.Suggestion.{Suggestion}
use Rattle.units.specs.declared.votes.VoteValue.{VoteValue}
use Rattle.request_book.specs.Acts.{IsNumber}
use Rattle.request_book.specs.Words.{number_text}
use Rattle.sql_schema.specs.Inside.{HoldsValues}
use Rattle.sql_schema.specs.Keys.{text_at, first_text, first_texts, has_text, is_on_unit}
use Rattle.sql_schema.specs.Layouts.{NamedRows}
use Rattle.sql_schema.proofs.Layouts.{names_differ}
use Rattle.sql_meaning.specs.Cells.{suggestion_cells, vote_cells}
use Rattle.sql_meaning.specs.Meaning.{votes_in, suggestion_of_row, suggestions_in}
use Rattle.sql_meaning.specs.RowChanges.{AddsIn}
use Rattle.sql_meaning.specs.RowKeys.{AreKeyed}
use Rattle.sql_meaning.specs.Values.{integer_at, vote_at}
use Rattle.sql_meaning.specs.Written.{PutsRows}
use Rattle.sql_meaning.proofs.MapEntries.{map_of-entries, map_of-agreeing, map_of-put_agreeing, row_of_entry}
use Rattle.sql_meaning.proofs.MapValues.{value_last}
use Rattle.sql_meaning.proofs.RowsPut.{no_entries}
use Rattle.sql_meaning.proofs.Suggestions.{off_unit}
use Rattle.sql_meaning.proofs.UniqueKeys.{one_place_each}
use Rattle.sql_meaning.proofs.UnitsWritten.{KeepsOthers, kept_others}
use Rattle.sql_meaning.proofs.UnitValues.{suggestion_read_back, is_on_its_unit}
use Rattle.sql_changes.specs.UnitWrites.{AreBefore, AddsLast}

module _ (old new : NamedRows) (lang key : Text) (place : ℕ) (s : Suggestion) (keyed : AreKeyed old) (before : AreBefore lang key place (old (codes "suggestion"))) (unvoted : s.votes ≡ maps.empty)
    (valid : IsNumber s.number) (added : AddsIn (codes "suggestion") first_text (HoldsValues (suggestion_cells lang key place s)) old new) where
  abbrev row : Row
  row = added.puts.row

  number_is : first_text row ≡ number_text s.number
  number_is = ap first_text added.puts.is_row.1

  place_is : integer_at 4 row ≡ pos place
  place_is = ap (integer_at 4) added.puts.is_row.1

  on_it : is_on_unit lang key row ≡ true
  on_it = is_on_its_unit lang key place s row added.puts.is_row

  still : (x : Row) → Has (old (codes "suggestion")) x → Has (new (codes "suggestion")) x
  still x there = added.puts.put.kept x there (added.fresh x there)

  -- ---- the votes

  votes_still : (number : Text) → votes_in new number ≡ votes_in old number
  votes_still number = ap (λ (votes : List Row). votes_in (λ name. votes) number) (added.puts.others (codes "vote") (names_differ refl))

  suggestion_still : (x : Row) → suggestion_of_row new x ≡ suggestion_of_row old x
  suggestion_still x = λ i. record (suggestion_of_row new x) { votes = votes_still (first_text x) i }

  -- nobody has voted on a suggestion that wasn't there
  no_votes : votes_in old (number_text s.number) ≡ maps.empty
  no_votes =
      map_of-entries text_cmp text_total text_IsAntisymmetric (text_at 2) (vote_at 3) (filter (has_text 1 (number_text s.number)) (old (codes "vote"))) maps.empty
      (λ v there.
      let f = has_filtered (has_text 1 (number_text s.number)) (old (codes "vote")) v there in
      let its = keyed.has_suggestion v f.0 in
      absurd (added.fresh its.0 its.1 (sym its.2 ∙ texts_are_one (first_text v) (number_text s.number) f.1 ∙ sym number_is)))
      (λ e there. absurd (subst (λ (es : List (Text × VoteValue)). Has es e) (no_entries text_cmp VoteValue) there))

  row_is : suggestion_of_row new row ≡ s
  row_is = suggestion_read_back new lang key place s row added.puts.is_row valid (votes_still (number_text s.number) ∙ no_votes ∙ sym unvoted)

  -- ---- those on the unit

  abbrev on_unit : NamedRows → List Row
  on_unit rows = filter (is_on_unit lang key) (rows (codes "suggestion"))

  abbrev by_place : FinMap int_cmp Suggestion
  by_place = map_of int_cmp (integer_at 4) (suggestion_of_row old) (on_unit old)

  below : (x : Row) → Has (on_unit old) x → int_cmp (integer_at 4 x) (pos place) ≡ Less
  below x there =
      let f = has_filtered (is_on_unit lang key) (old (codes "suggestion")) x there in
      ap (λ b. cond b Less (cond (int_lt (pos place) (integer_at 4 x)) Greater Equal)) (before x f.0 f.1)

  no_place : (x : Row) → Has (on_unit old) x → integer_at 4 x ≡ integer_at 4 row → ⊥
  no_place x there e =
      let less = subst (λ n. int_cmp n (pos place) ≡ Less) (e ∙ place_is) (below x there) in
      let tied = tied_itself int_cmp_total (pos place) in
      cc

  put : IsPut (integer_at 4) (on_unit old) (on_unit new) row
  put = record {
    only = λ x there.
        let f = has_filtered (is_on_unit lang key) (new (codes "suggestion")) x there in
        elim (added.puts.put.only x f.0) [
          | inl is ↦ inl is
          | inr was ↦ let there_was = has_kept (is_on_unit lang key) (old (codes "suggestion")) x was.0 f.1 in inr (there_was, no_place x there_was)
        ];
    here = has_kept (is_on_unit lang key) (new (codes "suggestion")) row added.puts.put.here on_it;
    kept = λ x there differ.
        let f = has_filtered (is_on_unit lang key) (old (codes "suggestion")) x there in
        has_kept (is_on_unit lang key) (new (codes "suggestion")) x (still x f.0) f.1;
  }

  above : (e : ℤ × Suggestion) → Has (maps.entries by_place) e → int_cmp (pos place) e.0 ≡ Greater
  above e there =
      let r = row_of_entry int_cmp int_cmp_total int_cmp-IsAntisymmetric (integer_at 4) (suggestion_of_row old) (on_unit old) e there in
      subst (λ n. int_cmp (pos place) n ≡ Greater) r.2 (int_cmp_total.antisymm (pos place) (integer_at 4 r.0) ∙ ap ordering_reverse (below r.0 r.1))

  pub is_last : suggestions_in new lang key ≡ suggestions_in old lang key ++ s ∷ []
  is_last =
      ap maps.values (map_of-put_agreeing int_cmp int_cmp_total int_cmp-IsAntisymmetric (integer_at 4) (suggestion_of_row old) (suggestion_of_row new) (on_unit old) (on_unit new) row
      (one_place_each old keyed lang key) put (λ x there differ. suggestion_still x)
      ∙ (λ i. maps.insert by_place (place_is i) (row_is i)))
      ∙ value_last int_cmp int_cmp_total (integer_at 4) (suggestion_of_row old) by_place (pos place) s above

  -- ---- those on another unit

  pub others_stay : (l k : Text) → ((l ≡ lang) × (k ≡ key) → ⊥) → suggestions_in new l k ≡ suggestions_in old l k
  others_stay l k differ =
      ap maps.values (map_of-agreeing int_cmp int_cmp_total int_cmp-IsAntisymmetric (integer_at 4) (suggestion_of_row old) (suggestion_of_row new)
      (filter (is_on_unit l k) (old (codes "suggestion"))) (filter (is_on_unit l k) (new (codes "suggestion"))) (one_place_each old keyed l k)
      (λ x there.
      let f = has_filtered (is_on_unit l k) (new (codes "suggestion")) x there in
      has_kept (is_on_unit l k) (old (codes "suggestion")) x (was x f.1 (added.puts.put.only x f.0)) f.1)
      (λ x there.
      let f = has_filtered (is_on_unit l k) (old (codes "suggestion")) x there in
      has_kept (is_on_unit l k) (new (codes "suggestion")) x (still x f.0) f.1)
      (λ x there. suggestion_still x))
    where
      was : (x : Row) → is_on_unit l k x ≡ true → (x ≡ row) ⊎ (Has (old (codes "suggestion")) x × (first_text x ≡ first_text row → ⊥)) → Has (old (codes "suggestion")) x
      was x on (inl is) = absurd (let out = off_unit lang key l k differ x on in let its = subst (λ z. is_on_unit lang key z ≡ true) (sym is) on_it in cc)
      was x on (inr there) = there.0

-- nothing is written of votes where nobody has voted
no_rows : (all : List Row) (old new : NamedRows) → all ≡ [] → PutsRows (codes "vote") first_texts all old new → new ≡ old
no_rows [] old new none is = is
no_rows (cells ∷ more) old new none made = absurd cc

-- What it leaves of the suggestions, and of all rows but those of units, suggestions and votes.
pub record LeavesLast (lang key : Text) (s : Suggestion) (old new : NamedRows) : Type 0 where
  pub is_last : suggestions_in new lang key ≡ suggestions_in old lang key ++ s ∷ []
  pub others_stay : (l k : Text) → ((l ≡ lang) × (k ≡ key) → ⊥) → suggestions_in new l k ≡ suggestions_in old l k
  pub units : new (codes "unit") ≡ old (codes "unit")
  pub keeps : KeepsOthers old new

pub leaves_last : (lang key : Text) (s : Suggestion) (old new : NamedRows) → AreKeyed old → s.votes ≡ maps.empty → AddsLast lang key s old new → LeavesLast lang key s old new
leaves_last lang key s old new keyed unvoted (place, before, ((mid, adds, votes), valid)) =
    let none : map (vote_cells (number_text s.number)) (maps.entries s.votes) ≡ [] =
    ap (λ (m : FinMap text_cmp VoteValue). map (vote_cells (number_text s.number)) (maps.entries m)) unvoted ∙ ap (map (vote_cells (number_text s.number))) (no_entries text_cmp VoteValue) in
    let same = no_rows (map (vote_cells (number_text s.number)) (maps.entries s.votes)) mid new none votes in
    let added = subst (λ (rows : NamedRows). AddsIn (codes "suggestion") first_text (HoldsValues (suggestion_cells lang key place s)) old rows) (sym same) adds in
    record {
      is_last = is_last old new lang key place s keyed before unvoted valid added;
      others_stay = others_stay old new lang key place s keyed before unvoted valid added;
      units = added.puts.others (codes "unit") (names_differ refl);
      keeps = kept_others old new (λ t no_unit no_suggestion no_vote. added.puts.others t no_suggestion);
    }
