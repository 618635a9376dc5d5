-- Votes that are put on a suggestion, one after the other, into rows of some name: other names stay, and no two votes have one key.
use Rattle.std.proofs.Common.{◌≡◌, ◌≢◌, ℕ, List, [], ◌∷◌, map, true, sym, ap, ◌∙◌}
use Rattle.std.proofs.lemmas.Bool.{and_parts}
use Rattle.std.specs.FinMap as maps
use Rattle.std.specs.FinMap.{is_sorted, entries, entries_sorted}
use Rattle.sqlite.specs.Order.{Row}
use Rattle.sql_laws.proofs.RemovedRows.{from_mapped}
use Rattle.po_text.specs.Texts.{Text, text_cmp}
use Rattle.units.specs.Orders.{text_total}
use Rattle.units.specs.declared.votes.VoteValue.{VoteValue}
use Rattle.sql_schema.specs.Keys.{first_texts}
use Rattle.sql_schema.specs.Layouts.{NamedRows}
use Rattle.sql_meaning.specs.Cells.{vote_cells}
use Rattle.sql_meaning.specs.Written.{PutsRows}
use Rattle.sql_meaning.proofs.MapEntries.{apart_keys, true_of}
use Rattle.sql_meaning.proofs.RowsInTurn.{ArePutInTurn, AreDistinct, IsOther, key_of_cells}

pub rows_beside : {K : Type 0} (t name : List ℕ) (key : Row → K) (all : List Row) (old new : NamedRows) → PutsRows name key all old new → t ≢ name → new t ≡ old t
rows_beside t name key [] old new is apart = ap (λ (d : NamedRows). d t) is
rows_beside t name key (cells ∷ more) old new (mid, put, rest) apart = rows_beside t name key more mid new rest apart ∙ put.others t apart

pub put_in_turn : {K : Type 0} (name : List ℕ) (key : Row → K) (all : List Row) (old new : NamedRows) → PutsRows name key all old new → ArePutInTurn key all (old name) (new name)
put_in_turn name key [] old new is = ap (λ (d : NamedRows). d name) is
put_in_turn name key (cells ∷ more) old new (mid, put, rest) = (mid name, put.row, put.is_row, put.put, put_in_turn name key more mid new rest)

each_apart : (number : Text) (es : List (Text × VoteValue)) → is_sorted text_cmp es ≡ true → AreDistinct first_texts (map (vote_cells number) es)
each_apart number [] rise = tt
each_apart number (e ∷ es) rise = (others, each_apart number es (and_parts _ _ rise).1)
  where
    others : IsOther first_texts (map (vote_cells number) es) (number ∷ e.0 ∷ [])
    others c at is =
        let m = from_mapped (vote_cells number) es c at in
        let keys : number ∷ m.0.0 ∷ [] ≡ number ∷ e.0 ∷ [] = sym (ap (key_of_cells first_texts) m.2) ∙ is in
        let same : m.0.0 ≡ e.0 = cc in
        apart_keys text_cmp text_total e.0 es m.0 (and_parts _ _ rise).0 m.1 same

-- each voter has one vote
pub voters_apart : (number : Text) (votes : maps.FinMap text_cmp VoteValue) → AreDistinct first_texts (map (vote_cells number) (entries votes))
voters_apart number votes = each_apart number (entries votes) (true_of _ (entries_sorted votes))
