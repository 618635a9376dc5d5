-- What records in a map stand for, read at one number, put in and taken out again.
use Rattle.std.proofs.Common.{◌≡◌, List, ◌∷◌, [], Option, Some, None, cond, is_none, IsTrue, option_map, refl, sym, ap, subst, ◌∙◌}
use Rattle.std.specs.FinMap as maps
use Rattle.std.specs.Map.{lookup, remove_entry}
use Rattle.std.specs.BTreeMap.{BTreeMap, get_by, insert_entry, is_at}
use Rattle.std.specs.Ordering.{is_eq, match_ordering}
use Rattle.std.specs.declared.cmp.Ordering.{Ordering}
use Rattle.std.specs.declared.cmp.Ordering.TheVariants.{Less, Equal, Greater}
use Rattle.std.proofs.lemmas.Cmp.{tied_itself}
use Rattle.po_text.specs.Texts.{Text, text_cmp}
use Rattle.units.specs.Orders.{text_total, text_IsAntisymmetric}
use Rattle.request_book.specs.Book.{row_of, with_record}
use Rattle.request_book.specs.declared.book.Record.{Record}
use Rattle.office_maps.specs.MapEntries.{mapped}
use Rattle.office_maps.proofs.MapEntries.{get-mapped, insert-mapped}
use Rattle.tables.specs.declared.record_maps.Maps.{Maps}
use Rattle.tables.specs.declared.record_maps.Kept.{Kept}
use Rattle.tables.specs.MapsMeaning.{meaning, recorded_of}

pub record_at : (t : Maps) (number : Text) → maps.get (meaning t).book number ≡ option_map recorded_of (get_by (λ k. text_cmp number k) t.records)
record_at t number = get-mapped text_cmp (λ k. k) recorded_of text_total t.records number

-- the answer of a read, from what the map has
pub row_at : (t : Maps) (number : Text) (found : Option Kept) → found ≡ get_by (λ k. text_cmp number k) t.records → option_map (λ kept. row_of number (recorded_of kept)) found ≡ option_map (row_of number) (maps.get (meaning t).book number)
row_at t number found e = two found ∙ ap (λ o. option_map (row_of number) (option_map recorded_of o)) e ∙ ap (option_map (row_of number)) (sym (record_at t number))
  where
    two : (o : Option Kept) → option_map (λ kept. row_of number (recorded_of kept)) o ≡ option_map (row_of number) (option_map recorded_of o)
    two None = refl
    two (Some kept) = refl

-- a record put in
pub records-put : (t : Maps) (records : BTreeMap Text Kept) (number : Text) (kept : Kept) → records.entries ≡ insert_entry text_cmp t.records.entries number kept
    → (meaning (record t { records = records })).book ≡ maps.insert (meaning t).book number (recorded_of kept)
records-put t records number kept e = insert-mapped text_cmp (λ k. k) recorded_of text_total text_IsAntisymmetric t.records records number kept e

nothing : {X Y : Type 0} (f : X → Y) (o : Option X) → IsTrue (is_none (option_map f o)) → o ≡ None
nothing f None h = refl
nothing f (Some x) h = cc

-- a number without a record
pub no_record : (t : Maps) (number : Text) → IsTrue (is_none (maps.get (meaning t).book number)) → get_by (λ k. text_cmp number k) t.records ≡ None
no_record t number new = nothing recorded_of _ (subst (λ o. IsTrue (is_none o)) (record_at t number) new)

-- an entry put in and taken out again
pub put_and_removed : {K X : Type 0} (cmp : K → K → Ordering) (k : K) (v : X) (es : List (K × X)) → cmp k k ≡ Equal → lookup (is_at (cmp k)) es ≡ None → remove_entry (is_at (cmp k)) (insert_entry cmp es k v) ≡ es
put_and_removed {K} {X} cmp k v [] tie absent = ap (λ r. cond (is_eq r) [] ((k, v) ∷ [])) tie
put_and_removed {K} {X} cmp k v (e ∷ es) tie absent =
    elim (cmp k e.0) as (λ r. cmp k e.0 ≡ r → remove_entry (is_at (cmp k)) (match_ordering r ((k, v) ∷ e ∷ es) ((e.0, v) ∷ es) (e ∷ insert_entry cmp es k v)) ≡ e ∷ es) [
      | Less ↦ λ p. ap (λ r. cond (is_eq r) (e ∷ es) ((k, v) ∷ remove_entry (is_at (cmp k)) (e ∷ es))) tie
      | Equal ↦ λ p. absurd (there p)
      | Greater ↦ λ p.
          ap (λ r. cond (is_eq r) (insert_entry cmp es k v) (e ∷ remove_entry (is_at (cmp k)) (insert_entry cmp es k v))) p
          ∙ ap (λ xs. e ∷ xs) (put_and_removed cmp k v es tie (rest p))
    ] refl
  where
    there : cmp k e.0 ≡ Equal → ⊥
    there p = let h : ◌≡◌ {A = Option X} (Some e.1) None = sym (ap (λ r. cond (is_eq r) (Some e.1) (lookup (is_at (cmp k)) es)) p) ∙ absent in cc

    rest : cmp k e.0 ≡ Greater → lookup (is_at (cmp k)) es ≡ None
    rest p = sym (ap (λ r. cond (is_eq r) (Some e.1) (lookup (is_at (cmp k)) es)) p) ∙ absent

-- the book with one more record
pub one_more_record : (t : Maps) (records : BTreeMap Text Kept) (kept : Kept) (row : Record) → records.entries ≡ insert_entry text_cmp t.records.entries row.number kept
    → recorded_of kept ≡ record { content = row.content; reply = row.reply } → maps.from_entries {R = text_cmp} (mapped (λ number. number) recorded_of records.entries) ≡ with_record (meaning t).book row
one_more_record t records kept row recorded is = records-put t records row.number kept recorded ∙ ap (maps.insert (meaning t).book row.number) is

-- a new record, taken out again
pub forgotten : (t : Maps) (more left : BTreeMap Text Kept) (number : Text) (kept : Kept) → IsTrue (is_none (maps.get (meaning t).book number))
    → more.entries ≡ insert_entry text_cmp t.records.entries number kept → left.entries ≡ remove_entry (is_at (text_cmp number)) more.entries → left.entries ≡ t.records.entries
forgotten t more left number kept new recorded removed =
    removed ∙ ap (remove_entry (is_at (text_cmp number))) recorded
    ∙ put_and_removed text_cmp number kept t.records.entries (tied_itself text_total number) (no_record t number new)

pub forgotten_book : (t : Maps) (more left : BTreeMap Text Kept) (number : Text) (kept : Kept) → IsTrue (is_none (maps.get (meaning t).book number))
    → more.entries ≡ insert_entry text_cmp t.records.entries number kept → left.entries ≡ remove_entry (is_at (text_cmp number)) more.entries
    → maps.from_entries {R = text_cmp} (mapped (λ number. number) recorded_of left.entries) ≡ (meaning t).book
forgotten_book t more left number kept new recorded removed =
    ap (λ es. maps.from_entries {R = text_cmp} (mapped (λ number. number) recorded_of es)) (forgotten t more left number kept new recorded removed)
