-- The obsolete units that the query shows, in the order of their keys, are those of the language's units with a nonempty form.
use Rattle.std.proofs.Common.{◌≡◌, ◌+◌, zero, suc, inl, inr, List, [], ◌∷◌, ◌&&◌, Bool, true, false, not, map, filter, pos, negsuc, Some, codes, refl, sym, ap, subst, ◌∙◌, arith}
use Rattle.std.proofs.lemmas.Bool.{and_parts, and_from, false_from_ne_true}
use Rattle.std.specs.declared.cmp.Ordering.{Ordering}
use Rattle.std.specs.declared.cmp.Ordering.TheVariants.{Less, Equal, Greater}
use Rattle.std.specs.Ordering.{is_eq, is_lt, eq_by_cmp, ordering_reverse, ordering_then}
use Rattle.std.specs.Cmp.{Equal-is, eq_by_cmp_equiv, tied_itself}
use Rattle.std.specs.List.{IsDistinct}
use Rattle.std.specs.FinMap as maps
use Rattle.std.specs.FinMap.{is_sorted, entries_sorted, int_cmp-IsAntisymmetric}
use Rattle.std.proofs.lemmas.Map.Keys.{IsDistinct-head, IsDistinct-tail, IsDistinct-IsPermutation}
use Rattle.std.proofs.lemmas.List.Sorted.{IsPermutation-map, IsPermutation-sym}
use Rattle.std.proofs.lemmas.Cmp.{nat_list_eq_equiv}
use Rattle.std.specs.Cmp.Lexicographic.{same_text}
use Rattle.sqlite.specs.declared.types.Value.{Value}
use Rattle.sqlite.specs.declared.types.Value.TheVariants.{Null, Int, Real, Text as Words, Blob}
use Rattle.sqlite.specs.Order.{Row, column, value_cmp}
use Rattle.sqlite.specs.Tree.{rowid}
use Rattle.sqlite_value.proofs.OrderLemmas.{value_cmp_total, value_cmp-Text, value_cmp-Int}
use Rattle.sqlite_trees.specs.Tree.{IsAscending}
use Rattle.sqlite_trees.proofs.ListLemmas.{map-map, all-map, filter-map, ascending-filter}
use Rattle.sqlite_rules.specs.Lists.{Has}
use Rattle.sqlite_rules.proofs.ListLemmas.{all_has, all_from, has_filtered, has_kept}
use Rattle.sql_laws.specs.RowMaps.{OneEach, IsFound}
use Rattle.sql_laws.specs.ApartRows.{AreOnce}
use Rattle.sql_laws.proofs.RowMaps.{get-found, get-is, texts_are_one, text_ties_itself}
use Rattle.sql_laws.proofs.RemovedRows.{from_mapped, to_mapped, has_permuted}
use Rattle.po_text.specs.declared.entry.Entry.{Entry}
use Rattle.po_text.specs.Texts.{Text, text_cmp, text_eq}
use Rattle.units.specs.Units.{key_text, key_cmp, all_empty}
use Rattle.units.specs.Project.{Place, place_cmp, units_of}
use Rattle.units.specs.Orders.{text_total, text_IsAntisymmetric, key_total, place_total, place_IsAntisymmetric}
use Rattle.units.specs.declared.unit.Key.{Key}
use Rattle.units.specs.declared.unit.Unit.{Unit}
use Rattle.office_specification.specs.ExportedEntries.{obsolete_entry}
use Rattle.sql_columns.specs.Readings.{key_parts}
use Rattle.sql_columns.proofs.Keys.{text_of_parts}
use Rattle.sql_schema.specs.Keys.{text_at, has_text, columns}
use Rattle.sql_schema.specs.Inside.{IsInOrder}
use Rattle.sql_meaning.specs.Values.{flag_at, integer_at}
use Rattle.sql_meaning.specs.Meaning.{project_of_rows, units_in, unit_of_row, place_of_row}
use Rattle.sql_meaning.proofs.MapEntries.{true_of, below_has, get_entry, entry_of_get}
use Rattle.sql_meaning.proofs.Units.{by_place}
use Rattle.sql_statements.specs.Queries.{ShowsObsoleteIn, is_obsolete_of}
use Rattle.sql_decoding.specs.ShownEntries.{obsolete_shown, is_translated_row}
use Rattle.sql_exports.proofs.OneOrder.{Below, same_list, ascending_mapped, twice}
use Rattle.sql_schema.specs.Layouts.{NamedRows}
use Rattle.sql_meaning.specs.RowKeys.{AreOfficeRows}
use Rattle.sql_exports.proofs.UnitColumns.{HasUnitColumns}

-- a flag that is set is 1
flag_one : (v : Value) → flag_at 0 (v ∷ []) ≡ true → v ≡ Int (pos 1)
flag_one (Int (pos zero)) e = absurd cc
flag_one (Int (pos (suc zero))) e = refl
flag_one (Int (pos (suc (suc n)))) e = absurd cc
flag_one (Int (negsuc n)) e = absurd cc
flag_one Null e = absurd cc
flag_one (Real x) e = absurd cc
flag_one (Words t) e = absurd cc
flag_one (Blob b) e = absurd cc

less_is : (o : Ordering) → is_lt o ≡ true → o ≡ Less
less_is Less e = refl
less_is Equal e = absurd cc
less_is Greater e = absurd cc

-- neither above nor tied
below : (o : Ordering) → is_lt (ordering_reverse o) ≡ false → is_eq o ≡ false → o ≡ Less
below Less up apart = refl
below Equal up apart = absurd cc
below Greater up apart = absurd cc

-- ---- the entries of the map

rising : {X : Type 0} (es : List (Place × X)) → is_sorted place_cmp es ≡ true → IsAscending (λ a b. place_cmp a.0 b.0 ≡ Less) es
rising [] h = tt
rising (e ∷ es) h = (
  all_from (λ f. place_cmp e.0 f.0 ≡ Less) es (λ f there. below_has place_cmp place_total e.0 es f (and_parts _ _ h).0 there),
  rising es (and_parts _ _ h).1,
)

-- a key that is read off a text is so off its own
abbrev IsRead : Key → Type 0
IsRead key = key_parts (key_text key) ≡ key

first_less : (a b : Ordering) → ordering_then a b ≡ Less → (a ≡ Equal → ⊥) → a ≡ Less
first_less Less b e apart = refl
first_less Equal b e apart = absurd (apart refl)
first_less Greater b e apart = absurd cc

-- in one language places are in the order of their key texts
keys_rise : (lang : Text) (a b : Place) → a.0 ≡ lang → b.0 ≡ lang → IsRead a.1 → IsRead b.1 → place_cmp a b ≡ Less → text_cmp (key_text a.1) (key_text b.1) ≡ Less
keys_rise lang a b a_is b_is a_read b_read less =
    let langs : text_cmp a.0 b.0 ≡ Equal = (λ i. text_cmp (a_is i) (b_is i)) ∙ tied_itself text_total lang in
    let keys : key_cmp a.1 b.1 ≡ Less = sym (ap (λ o. ordering_then o (key_cmp a.1 b.1)) langs) ∙ less in
    first_less (text_cmp (key_text a.1) (key_text b.1)) _ keys (λ tied.
    let texts : key_text a.1 ≡ key_text b.1 = text_IsAntisymmetric _ _ tied in
    let same : a.1 ≡ b.1 = sym a_read ∙ ap key_parts texts ∙ b_read in
    let self : key_cmp a.1 b.1 ≡ Equal = subst (λ k. key_cmp a.1 k ≡ Equal) same (tied_itself key_total a.1) in
    cc)

-- ---- the rows that are shown

abbrev cut : Row → Row
cut = columns (3 ∷ 4 ∷ 5 ∷ 8 ∷ 9 ∷ 2 ∷ [])

-- rows of other keys have them apart
each_once : (rows : List Row) → AreOnce rows → ((r s : Row) → Has rows r → Has rows s → text_at 2 r ≡ text_at 2 s → r ≡ s) → IsDistinct (eq_by_cmp text_cmp) (map (text_at 2) rows)
unfolding IsDistinct
each_once [] up one = tt
each_once (row ∷ rows) up one = (
  all-map (λ t. eq_by_cmp text_cmp (text_at 2 row) t ≡ false) (text_at 2) rows (all_from (λ r. eq_by_cmp text_cmp (text_at 2 row) (text_at 2 r) ≡ false) rows apart),
  each_once rows up.1 (λ r s in_r in_s e. one r s (inr in_r) (inr in_s) e),
)
  where
    apart : (r : Row) → Has rows r → eq_by_cmp text_cmp (text_at 2 row) (text_at 2 r) ≡ false
    apart r there = false_from_ne_true _ (λ tied.
        let same : row ≡ r = one row r (inl refl) (inr there) (text_IsAntisymmetric _ _ ((Equal-is _).0 tied)) in
        let differ : is_eq (value_cmp (rowid row) (rowid r)) ≡ false = all_has (λ s. is_eq (value_cmp (rowid row) (rowid s)) ≡ false) rows r up.0 there in
        let itself : value_cmp (rowid row) (rowid r) ≡ Equal = subst (λ s. value_cmp (rowid row) (rowid s) ≡ Equal) same (tied_itself value_cmp_total (rowid row)) in
        cc)

abbrev HoldsTexts : List Row → Type 0
HoldsTexts rows = (row : Row) → Has rows row → column row 5 ≡ Words (text_at 5 row)

abbrev of_shown : Row → Text × Entry
of_shown row = (text_at 5 row, obsolete_shown row)

tail_in_order : (row : Row) (rows : List Row) → IsInOrder 5 (row ∷ rows) → IsInOrder 5 rows
tail_in_order row rows up k d low high = let e : suc k + 1 ≡ suc (k + 1) = omega arith in rw e at (up (suc k) d (omega arith) (omega arith))

next_below : (r s : Row) (rows : List Row) → IsInOrder 5 (r ∷ s ∷ rows) → HoldsTexts (r ∷ s ∷ rows) → IsDistinct (eq_by_cmp text_cmp) (map (text_at 5) (r ∷ s ∷ rows))
    → text_cmp (text_at 5 r) (text_at 5 s) ≡ Less
next_below r s rows up texts once =
    let m = text_at 5 r in
    let n = text_at 5 s in
    let as_texts : value_cmp (column s 5) (column r 5) ≡ text_cmp n m = (λ i. value_cmp (texts s (inr (inl refl)) i) (texts r (inl refl) i)) ∙ value_cmp-Text n m in
    let not_less : is_lt (value_cmp (column s 5) (column r 5)) ≡ false = up 0 r (omega arith) (omega arith) in
    below (text_cmp m n) (ap is_lt (sym (as_texts ∙ text_total.antisymm n m)) ∙ not_less) (IsDistinct-head (eq_by_cmp text_cmp) m _ once).0

abbrev Rises : Row → Row → Type 0
Rises r s = text_cmp (text_at 5 r) (text_at 5 s) ≡ Less

rows_rise : (rows : List Row) → IsInOrder 5 rows → HoldsTexts rows → IsDistinct (eq_by_cmp text_cmp) (map (text_at 5) rows) → IsAscending Rises rows
rows_rise [] up texts once = tt
rows_rise (r ∷ []) up texts once = (tt, tt)
rows_rise (r ∷ s ∷ rows) up texts once =
    let rest = rows_rise (s ∷ rows) (tail_in_order r (s ∷ rows) up) (λ row there. texts row (inr there)) (IsDistinct-tail (eq_by_cmp text_cmp) _ _ once) in
    let step = next_below r s rows up texts once in
    ((step, all_from (Rises r) rows (λ t there. text_total.trans (text_at 5 r) (text_at 5 s) (text_at 5 t) step (all_has (Rises s) rows t rest.0 there))), rest)

-- ---- both

module _ (tables : NamedRows) (office : AreOfficeRows tables) (units : HasUnitColumns tables) (lang : Text) (rows : List Row) (shows : ShowsObsoleteIn lang tables rows) where
  abbrev all : List Row
  all = tables (codes "unit")

  abbrev obsolete : List Row
  obsolete = filter (is_obsolete_of lang) all

  one_each : OneEach place_of_row all
  one_each r s in_r in_s e = office.keyed.one_unit r s in_r in_s (by_place.back r s tt tt e)

  -- which rows are obsolete units of the language
  abbrev Holds : Row → Type 0
  Holds row = (text_at 1 row ≡ lang) × (column row 6 ≡ Int (pos 1))

  holds_then : (row : Row) → Has obsolete row → Has all row × Holds row
  holds_then row there =
      let was = has_filtered (is_obsolete_of lang) all row there in
      let both = and_parts (has_text 1 lang row) (is_eq (value_cmp (column row 6) (Int (pos 1)))) was.1 in
      let is = units.flags row was.0 in
      let tied : value_cmp (column row 6) (Int (pos 1)) ≡ Equal = (Equal-is _).0 both.1 in
      let one = int_cmp-IsAntisymmetric (integer_at 6 row) (pos 1) (sym (value_cmp-Int (integer_at 6 row) (pos 1)) ∙ ap (λ v. value_cmp v (Int (pos 1))) (sym is) ∙ tied) in
      (was.0, (texts_are_one (text_at 1 row) lang both.0, is ∙ ap Int one))

  then_holds : (row : Row) → Has all row → Holds row → Has obsolete row
  then_holds row there holds =
      has_kept (is_obsolete_of lang) all row there
      (and_from _ _ (subst (λ t. is_eq (text_cmp t lang) ≡ true) (sym holds.0) (text_ties_itself lang))
      (subst (λ v. is_eq (value_cmp v (Int (pos 1))) ≡ true) (sym holds.1) ((eq_by_cmp_equiv value_cmp_total).refl (Int (pos 1)))))

  -- ---- the shown rows are in the order of texts

  shown_from : (row : Row) → Has rows row → (r : Row) × Has obsolete r × (row ≡ cut r)
  shown_from row there = from_mapped cut obsolete row (has_permuted (map cut obsolete) rows row shows.all there)

  shown_texts : HoldsTexts rows
  shown_texts row there =
      let from = shown_from row there in
      rw from.2 (units.keys from.0 (holds_then from.0 from.1).0)

  shown_once : IsDistinct (eq_by_cmp text_cmp) (map (text_at 5) rows)
  shown_once = IsDistinct-IsPermutation (eq_by_cmp text_cmp) (eq_by_cmp_equiv text_total).symm (map (text_at 5) (map cut obsolete)) (map (text_at 5) rows)
      (IsPermutation-map (text_at 5) (map cut obsolete) rows shows.all)
      (subst (IsDistinct (eq_by_cmp text_cmp)) (sym (map-map (text_at 5) cut obsolete))
      (each_once obsolete (ascending-filter _ (is_obsolete_of lang) all units.once) (λ r s in_r in_s e.
      let h = holds_then r in_r in
      let k = holds_then s in_s in
      let langs : text_at 1 r ≡ text_at 1 s = h.1.0 ∙ sym k.1.0 in
      one_each r s h.0 k.0 (λ i. (langs i, key_parts (e i))))))

  shown_rise : IsAscending Below (map of_shown rows)
  shown_rise = ascending_mapped Rises Below of_shown rows (rows_rise rows shows.in_order shown_texts shown_once) (λ r s in_r in_s less. less)

  -- ---- the entries of the office are too

  abbrev entries : List (Place × Unit)
  entries = maps.entries (units_in tables)

  abbrev in_lang : Place × Unit → Bool
  in_lang e = text_eq lang e.0.0

  abbrev own : List (Place × Unit)
  own = filter (λ e. in_lang e && e.1.obsolete) entries

  abbrev of_entry : Place × Unit → Text × Entry
  of_entry e = (key_text e.0.1, obsolete_entry e.1)

  row_of : (e : Place × Unit) → Has entries e → (r : Row) × Has all r × (place_of_row r ≡ e.0) × (unit_of_row tables r ≡ e.1)
  row_of e there =
      subst (IsFound place_of_row (unit_of_row tables) all e.0) (get_entry place_cmp place_total (units_in tables) e there)
      (get-found place_cmp place_total place_IsAntisymmetric place_of_row (unit_of_row tables) all e.0)

  is_read : (e : Place × Unit) → Has entries e → IsRead e.0.1
  is_read e there =
      let from = row_of e there in
      subst IsRead (ap (λ (p : Place). p.1) from.2) (ap key_parts (text_of_parts (text_at 2 from.0)))

  lang_is : (e : Place × Unit) → in_lang e ≡ true → e.0.0 ≡ lang
  lang_is e same = sym (same_text lang e.0.0 (sym same))

  is_in_lang : (e : Place × Unit) → e.0.0 ≡ lang → in_lang e ≡ true
  is_in_lang e is = subst (λ t. text_eq lang t ≡ true) (sym is) (nat_list_eq_equiv.refl lang)

  own_is : (e : Place × Unit) → Has own e → Has entries e × (e.0.0 ≡ lang) × (e.1.obsolete ≡ true)
  own_is e there =
      let was = has_filtered (λ f. in_lang f && f.1.obsolete) entries e there in
      let both = and_parts (in_lang e) e.1.obsolete was.1 in
      (was.0, lang_is e both.0, both.1)

  own_rise : IsAscending Below (map of_entry own)
  own_rise = ascending_mapped (λ a b. place_cmp a.0 b.0 ≡ Less) Below of_entry own
      (ascending-filter _ (λ e. in_lang e && e.1.obsolete) entries (rising entries (true_of _ (entries_sorted (units_in tables)))))
      (λ a b in_a in_b less.
      let x = own_is a in_a in
      let y = own_is b in_b in
      keys_rise lang a.0 b.0 x.1 y.1 (is_read a x.0) (is_read b y.0) less)

  -- ---- they are one

  -- a row shows the entry of its place
  shown_is : (r : Row) (e : Place × Unit) → place_of_row r ≡ e.0 → unit_of_row tables r ≡ e.1 → of_shown (cut r) ≡ of_entry e
  shown_is r e place unit =
      let text : text_at 2 r ≡ key_text e.0.1 = sym (text_of_parts (text_at 2 r)) ∙ ap (λ (p : Place). key_text p.1) place in
      λ i. (text i, obsolete_entry (unit i))

  to_entry : (x : Text × Entry) → Has (map of_shown rows) x → Has (map of_entry own) x
  to_entry x there =
      let row = from_mapped of_shown rows x there in
      let from = shown_from row.0 row.1 in
      let r = from.0 in
      let holds = holds_then r from.1 in
      let found = get-is place_cmp place_total place_IsAntisymmetric place_of_row (unit_of_row tables) all (place_of_row r) (Some (unit_of_row tables r)) one_each (r, holds.0, refl, refl) in
      let entry = entry_of_get place_cmp place_total place_IsAntisymmetric (units_in tables) (place_of_row r) (unit_of_row tables r) found in
      let lang_of : entry.0.0.0 ≡ lang = ap (λ (p : Place). p.0) entry.2 ∙ holds.1.0 in
      let flag_of : entry.0.1.obsolete ≡ true = ap (λ (u : Unit). u.obsolete) entry.3 ∙ ap (λ v. flag_at 0 (v ∷ [])) holds.1.1 in
      let is_own : Has own entry.0 = has_kept (λ f. in_lang f && f.1.obsolete) entries entry.0 entry.1 (and_from _ _ (is_in_lang entry.0 lang_of) flag_of) in
      subst (Has (map of_entry own)) (sym (row.2 ∙ ap of_shown from.2 ∙ shown_is r entry.0 (sym entry.2) (sym entry.3))) (to_mapped of_entry own entry.0 is_own)

  to_shown : (x : Text × Entry) → Has (map of_entry own) x → Has (map of_shown rows) x
  to_shown x there =
      let entry = from_mapped of_entry own x there in
      let e = entry.0 in
      let is = own_is e entry.1 in
      let row = row_of e is.0 in
      let r = row.0 in
      let lang_of : text_at 1 r ≡ lang = ap (λ (p : Place). p.0) row.2 ∙ is.1 in
      let flag_of : flag_at 6 r ≡ true = ap (λ (u : Unit). u.obsolete) row.3 ∙ is.2 in
      let is_obsolete : Has obsolete r = then_holds r row.1 (lang_of, flag_one (column r 6) flag_of) in
      let is_shown : Has rows (cut r) = has_permuted rows (map cut obsolete) (cut r) (IsPermutation-sym (map cut obsolete) rows shows.all) (to_mapped cut obsolete r is_obsolete) in
      subst (Has (map of_shown rows)) (sym (entry.2 ∙ sym (shown_is r e row.2 row.3))) (to_mapped of_shown rows (cut r) is_shown)

  both_are : map of_shown rows ≡ map of_entry own
  both_are = same_list (map of_shown rows) (map of_entry own) shown_rise own_rise to_entry to_shown

  abbrev kept : Entry → Bool
  kept entry = not (all_empty entry.forms)

  pub obsolete_are : map obsolete_shown (filter is_translated_row rows)
      ≡ map obsolete_entry (filter (λ unit. unit.obsolete && not (all_empty unit.forms)) (units_of (project_of_rows tables) lang))
  obsolete_are =
      sym (map-map (λ (x : Text × Entry). x.1) of_shown (filter is_translated_row rows))
      ∙ sym (ap (map (λ (x : Text × Entry). x.1)) (filter-map (λ x. kept x.1) of_shown rows))
      ∙ ap (λ xs. map (λ (x : Text × Entry). x.1) (filter (λ x. kept x.1) xs)) both_are
      ∙ ap (map (λ (x : Text × Entry). x.1)) (filter-map (λ x. kept x.1) of_entry own)
      ∙ map-map (λ (x : Text × Entry). x.1) of_entry (filter (λ e. not (all_empty e.1.forms)) own)
      ∙ ap (map (λ (e : Place × Unit). obsolete_entry e.1)) (twice in_lang (λ e. e.1.obsolete) (λ e. not (all_empty e.1.forms)) entries)
      ∙ sym (map-map obsolete_entry (λ (e : Place × Unit). e.1) (filter (λ e. e.1.obsolete && not (all_empty e.1.forms)) (filter in_lang entries)))
      ∙ ap (map obsolete_entry) (sym (filter-map (λ (unit : Unit). unit.obsolete && not (all_empty unit.forms)) (λ (e : Place × Unit). e.1) (filter in_lang entries)))
