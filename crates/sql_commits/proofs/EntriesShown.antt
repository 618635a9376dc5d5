-- Which entries of a template stay, by the rows that show it, and what is left when all others are taken out.
use Rattle.std.proofs.Common.{◌≡◌, ◌≢◌, ◌↔◌, ◌⊎◌, inl, inr, ℕ, zero, suc, ◌+◌, ◌<◌, pos, negsuc, List, [], ◌∷◌, ◌++◌, length, take, get_or, replicate, Bool, true, false, not, ◌&&◌, ◌||◌, Some, None, refl, sym, ap, subst, ◌∙◌, arith, codes, map}
use Rattle.std.specs.Prelude.{slice_get, set}
use Rattle.std.proofs.lemmas.Bool.{and_parts, and_from}
use Rattle.std.proofs.lemmas.List.{take_more, length-take, length-set, length-replicate, set_past, get_or_past, get_or-set_same}
use Rattle.std.proofs.lemmas.Option.{slice_get_within, same_Some, none-some}
use Rattle.std.proofs.lemmas.List.Folds.{list_any-append}
use Rattle.sqlite.specs.declared.types.Value.{Value}
use Rattle.sqlite.specs.declared.types.Value.TheVariants.{Null, Int, Real, Text as Words, Blob}
use Rattle.sqlite.specs.Order.{Row, column}
use Rattle.sqlite_rules.specs.Lists.{Has}
use Rattle.sqlite_rules.proofs.ListLemmas.{some_has, some_from, has_left, has_right, has_either}
use Rattle.sql_laws.specs.ApartRows.{IsRemoved}
use Rattle.sql_laws.proofs.RemovedRows.{from_mapped, to_mapped, has_permuted}
use Rattle.sql_laws.proofs.RowMaps.{texts_are_one, text_ties_itself}
use Rattle.std.proofs.lemmas.List.Sorted.{IsPermutation-sym}
use Rattle.po_text.specs.declared.entry.Entry.{Entry}
use Rattle.po_text.specs.Texts.{Text}
use Rattle.units.specs.KeyTexts.{HasStrings}
use Rattle.units.specs.Units.{key_of}
use Rattle.sql_schema.specs.Keys.{text_at, has_text, columns}
use Rattle.sqlite.specs.Effect.{Database}
use Rattle.sql_schema.specs.Inside.{Then, AreOfficeTablesOf}
use Rattle.sql_schema.specs.Layouts.{by_domain, NamedRows, rows_named}
use Rattle.sql_schema.specs.SeenRows.{seen_in, entry_seen}
use Rattle.sql_schema.proofs.SeenRows.{from_seen}
use Rattle.sql_statements.specs.DomainEntries.{is_entry_of}
use Rattle.sql_statements.specs.Tables.{ShowsTemplateIn}
use Rattle.sql_statements.specs.Taken.{TakesRows}
use Rattle.sql_meaning.specs.RowChanges.{TakesIn}
use Rattle.sql_meaning.specs.RowKeys.{AreOfficeRows}
use Rattle.sql_meaning.specs.Values.{integer_at}
use Rattle.sql_meaning.proofs.DomainOfficeRows.{domain_rows}
use Rattle.sql_changes.specs.Commits.{entry_row, PutsEntry}
use Rattle.sql_changes.specs.EntryWrites.{PutsUnless, PutsOthers, AreThere, stays_at, HoldsEntries}
use Rattle.sql_changes.specs.OnDomains.{OnDomain}
use Rattle.sql_changes.specs.UnitWrites.{LeavesRows}
use Rattle.sql_changes.proofs.Changed.{spares_both, spares_same}
use Rattle.sql_changes.proofs.DomainWrites.{seen, on_domain_as, entry_taken_on_domain}
use Rattle.sql_changes.proofs.EntriesWritten.{written_held}
use Rattle.sql_commits.specs.Entries.{IsShown, IsShownAt, AreShown, stays_by, stays_shown, TakesUnless, is_taken_by, TakesOthers}

-- from marks by their places to marks in turn
in_turn : (place : ℕ) (stays : List Bool) (entries : List Entry) (rows : List Row) → length stays ≡ length entries
    → ((n : ℕ) (entry : Entry) → slice_get entries n ≡ Some entry → get_or stays n false ≡ true → Has rows (entry_row (place + n) entry) × HasStrings (key_of entry)) → AreThere place stays entries rows
in_turn place [] entries rows count each = tt
in_turn place (stay ∷ stays) [] rows count each = absurd (omega arith)
in_turn place (stay ∷ stays) (entry ∷ more) rows count each = (
  λ told. let it = each 0 entry refl told in (subst (λ n. Has rows (entry_row n entry)) (omega arith) it.0, it.1),
  in_turn (place + 1) stays more rows (omega (arith, count)) (λ n e there told. let it = each (suc n) e there told in (subst (λ k. Has rows (entry_row k e)) (omega arith) it.0, it.1)),
)

-- at a place stands one
pub one_entry : (entries : List Entry) (n : ℕ) (first second : Entry) → slice_get entries n ≡ Some first → slice_get entries n ≡ Some second → first ≡ second
one_entry entries n first second is also = let both : Some first ≡ Some second = sym is ∙ also in cc

-- ---- marks

-- a mark is set, and no other changes
marks_after : (stays : List Bool) (place n : ℕ) → get_or (set stays place true) n false ≡ true → (n ≡ place) ⊎ (get_or stays n false ≡ true)
marks_after [] place n told = inr (subst (λ (marks : List Bool). get_or marks n false ≡ true) (set_past [] place true (omega arith)) told)
marks_after (stay ∷ stays) zero zero told = inl refl
marks_after (stay ∷ stays) zero (suc n) told = inr told
marks_after (stay ∷ stays) (suc place) zero told = inr told
marks_after (stay ∷ stays) (suc place) (suc n) told = elim (marks_after stays place n told) [ inl same ↦ inl (ap suc same) | inr was ↦ inr was ]

-- what is marked stays so
marks_before : (stays : List Bool) (place n : ℕ) → get_or stays n false ≡ true → get_or (set stays place true) n false ≡ true
marks_before [] place n told = subst (λ (marks : List Bool). get_or marks n false ≡ true) (sym (set_past [] place true (omega arith))) told
marks_before (stay ∷ stays) zero zero told = refl
marks_before (stay ∷ stays) zero (suc n) told = told
marks_before (stay ∷ stays) (suc place) zero told = told
marks_before (stay ∷ stays) (suc place) (suc n) told = marks_before stays place n told

unset : (count n : ℕ) → get_or (replicate count false) n false ≡ false
unset zero n = get_or_past [] n false (omega arith)
unset (suc count) zero = refl
unset (suc count) (suc n) = unset count n

-- at a place stands one
place_is_one : (entries : List Entry) (row : Row) (first second : ℕ) → IsShownAt entries row first → IsShownAt entries row second → first ≡ second
place_is_one entries row first second is also = let both : Int (pos first) ≡ Int (pos second) = sym is.at ∙ also.at in cc

-- what a row is found to show, where it shows an entry and where it shows none
pub found_at : (entries : List Entry) (row : Row) (place : ℕ) → IsShownAt entries row place → (n : ℕ) → (Some place ≡ Some n) ↔ IsShownAt entries row n
found_at entries row place at n = (λ same. subst (IsShownAt entries row) (same_Some place n same) at, λ it. ap Some (place_is_one entries row place n at it))

pub found_nowhere : (entries : List Entry) (row : Row) → ((n : ℕ) → IsShownAt entries row n → ⊥) → (n : ℕ) → (None ≡ Some n) ↔ IsShownAt entries row n
found_nowhere entries row never n = (λ same. absurd (none-some n same), λ it. absurd (never n it))

-- before any row is looked at
pub none_shown : (entries : List Entry) (stays : List Bool) → stays ≡ replicate (length entries) false → AreShown [] stays entries
none_shown entries stays are = record {
  count = ap length are ∙ length-replicate (length entries) false;
  each = λ n. (λ told. absurd (let clash : true ≡ false = sym told ∙ ap (λ (marks : List Bool). get_or marks n false) are ∙ unset (length entries) n in cc), λ it. absurd it.1);
}

-- one row more: of the places that an entry is shown at, those of the rows before are marked, and one that the row shows is
module _ (rows : List Row) (entries : List Entry) (stays : List Bool) (row : Row) (are : AreShown rows stays entries) where
  abbrev IsIn : List Row → ℕ → Type 0
  IsIn seen n = (shown : Row) × Has seen shown × IsShownAt entries shown n

  still : (n : ℕ) → IsIn rows n → IsIn (rows ++ row ∷ []) n
  still n it = (it.0, has_left rows (row ∷ []) it.0 it.1, it.2)

  either : (n : ℕ) → IsIn (rows ++ row ∷ []) n → IsIn rows n ⊎ IsShownAt entries row n
  either n it = elim (has_either rows (row ∷ []) it.0 it.1) [
    | inl before ↦ inl (it.0, before, it.2)
    | inr last ↦ elim last [ inl same ↦ inr (subst (λ (shown : Row). IsShownAt entries shown n) same it.2) | inr none ↦ absurd none ]
  ]

  -- that place is one of the marks
  pub marked_within : (place : ℕ) → IsShownAt entries row place → place < length stays
  marked_within place at = omega (arith, slice_get_within entries place at.entry at.is_there, are.count)

  -- an entry that the row shows at its place is marked
  pub one_shown : (place : ℕ) → IsShownAt entries row place → AreShown (rows ++ row ∷ []) (set stays place true) entries
  one_shown place at = record {
    count = length-set stays place true ∙ are.count;
    each = λ n. (
      λ told. elim (marks_after stays place n told) [
        | inl same ↦ (row, has_right rows (row ∷ []) row (inl refl), subst (IsShownAt entries row) (sym same) at)
        | inr was ↦ still n ((are.each n).0 was)
      ],
      λ it. elim (either n it) [
        | inl before ↦ marks_before stays place n ((are.each n).1 before)
        | inr here ↦ subst (λ k. get_or (set stays place true) k false ≡ true) (place_is_one entries row place n at here) (get_or-set_same stays place true false (marked_within place at))
      ],
    );
  }

  -- a row that shows none marks none
  pub nothing_shown : ((n : ℕ) → IsShownAt entries row n → ⊥) → AreShown (rows ++ row ∷ []) stays entries
  nothing_shown never = record {
    count = are.count;
    each = λ n. (
      λ told. still n ((are.each n).0 told),
      λ it. elim (either n it) [ inl before ↦ (are.each n).1 before | inr here ↦ absurd (never n here) ],
    );
  }

-- what is at no place doesn't stay
pub none_stays : (stays : List Bool) (cell : Value) → ((place : ℕ) → cell ≢ Int (pos place)) → false ≡ stays_by stays cell
none_stays stays Null never = refl
none_stays stays (Int (pos place)) never = absurd (never place refl)
none_stays stays (Int (negsuc n)) never = refl
none_stays stays (Real x) never = refl
none_stays stays (Words text) never = refl
none_stays stays (Blob b) never = refl

-- ---- what a domain's rows show

module _ (domain : Text) (tables : NamedRows) (shown : List Row) (shows : ShowsTemplateIn (seen_in domain tables) shown) where
  abbrev rows : List Row
  rows = seen_in domain tables (codes "template")

  abbrev places : List ℕ
  places = 3 ∷ 4 ∷ 5 ∷ 6 ∷ 2 ∷ 0 ∷ []

  was_there : (s : Row) → Has shown s → (r : Row) × Has rows r × (s ≡ columns places r)
  was_there s here = from_mapped (columns places) rows s (has_permuted (map (columns places) rows) shown s shows.all here)

  is_shown : (r : Row) → Has rows r → Has shown (columns places r)
  is_shown r there = has_permuted shown (map (columns places) rows) (columns places r) (IsPermutation-sym (map (columns places) rows) shown shows.all) (to_mapped (columns places) rows r there)

  -- a row that is seen is its columns
  whole : (r : Row) → Has rows r → r ≡ column r 0 ∷ Null ∷ column r 2 ∷ column r 3 ∷ column r 4 ∷ column r 5 ∷ column r 6 ∷ []
  whole r there =
      let it = from_seen (has_text 1 domain) entry_seen (tables (codes "d_template")) r there in
      subst (λ (v : Row). v ≡ column v 0 ∷ Null ∷ column v 2 ∷ column v 3 ∷ column v 4 ∷ column v 5 ∷ column v 6 ∷ []) (sym it.3) refl

  -- the row that shows an entry at its place
  entry_there : (entry : Entry) (place : ℕ) (s : Row) → Has shown s → IsShown entry s → column s 5 ≡ Int (pos place) → Has rows (entry_row place entry)
  entry_there entry place s here it at =
      let r = was_there s here in
      let cells : (n : ℕ) → column s n ≡ column (columns places r.0) n = λ n. ap (λ (v : Row). column v n) r.2 in
      subst (Has rows)
      (whole r.0 r.1 ∙ (λ i. (sym (cells 5) ∙ at) i ∷ Null ∷ (sym (cells 4) ∙ it.key) i ∷ (sym (cells 0) ∙ it.plural) i ∷ (sym (cells 1) ∙ it.extracted) i ∷ (sym (cells 2) ∙ it.references) i ∷ (sym (cells 3) ∙ it.flags) i ∷ []))
      r.1

  pub there_of_shown : (stays : List Bool) (entries : List Entry) → AreShown shown stays entries → AreThere 0 stays entries rows
  there_of_shown stays entries are = in_turn 0 stays entries rows are.count
      (λ n entry is told.
      let it = (are.each n).0 told in
      let one = one_entry entries n it.2.entry entry it.2.is_there is in (
        subst (λ k. Has rows (entry_row k entry)) (omega arith) (subst (λ e. Has rows (entry_row n e)) one (entry_there it.2.entry n it.0 it.1 it.2.texts it.2.at)),
        subst (λ e. HasStrings (key_of e)) one it.2.strings,
      ))

  -- a row is taken by its own showing alone, so that those go that don't stay
  pub taken_is : AreOfficeRows (seen_in domain tables) → (stays : List Bool) (row : Row) → Has rows row → is_taken_by stays shown row ≡ not (stays_at stays (integer_at 0 row))
  taken_is ready stays row there = by (is_taken_by stays shown row) (not (stays_at stays (integer_at 0 row))) refl refl
    where
      told : (r : Row) → Has rows r → stays_shown stays (columns places r) ≡ stays_at stays (integer_at 0 r)
      told r here = ap (stays_by stays) (ready.typed.entry_places r here)

      by : (a b : Bool) → is_taken_by stays shown row ≡ a → not (stays_at stays (integer_at 0 row)) ≡ b → a ≡ b
      by true true t n = refl
      by false false t n = refl
      by true false t n =
          let it = some_has (λ s. not (stays_shown stays s) && has_text 2 (text_at 4 s) row) shown t in
          let parts = and_parts (not (stays_shown stays it.0)) (has_text 2 (text_at 4 it.0) row) it.2 in
          let r = was_there it.0 it.1 in
          let key : text_at 2 row ≡ text_at 2 r.0 = texts_are_one (text_at 2 row) (text_at 4 it.0) parts.1 ∙ ap (text_at 4) r.2 in
          let one : row ≡ r.0 = ready.keyed.one_key row r.0 there r.1 key in
          let goes : not (stays_at stays (integer_at 0 row)) ≡ true =
          ap (λ (v : Row). not (stays_at stays (integer_at 0 v))) one ∙ sym (ap not (told r.0 r.1)) ∙ sym (ap (λ (v : Row). not (stays_shown stays v)) r.2) ∙ parts.0 in
          sym goes ∙ n
      by false true t n =
          let own : (not (stays_shown stays (columns places row)) && has_text 2 (text_at 4 (columns places row)) row) ≡ true = and_from _ _ (ap not (told row there) ∙ n) (text_ties_itself (text_at 2 row)) in
          sym t ∙ some_from (λ s. not (stays_shown stays s) && has_text 2 (text_at 4 s) row) shown (columns places row) (is_shown row there) own

-- ---- what is written in all

-- rows are removed by another test that tells the same of those that were there
removed_as : (test other : Row → Bool) (old new : List Row) → ((x : Row) → Has old x → test x ≡ other x) → IsRemoved test old new → IsRemoved other old new
removed_as test other old new same it = record {
  only = λ x there. let was = it.only x there in (was.0, sym (same x was.0) ∙ was.1);
  kept = λ x there out. it.kept x there (same x there ∙ out);
}

pub entries_written : (domain : Text) (tables new : NamedRows) (shown : List Row) (stays : List Bool) (entries : List Entry) → AreOfficeRows (seen_in domain tables) → ShowsTemplateIn (seen_in domain tables) shown
    → AreShown shown stays entries → Then (LeavesRows (TakesOthers stays shown)) (PutsOthers 0 stays entries) (seen_in domain tables) new → LeavesRows (HoldsEntries entries) (seen_in domain tables) new
entries_written domain tables new shown stays entries ready shows are (gone, taken, put) =
    let old = seen_in domain tables in
    let rows = removed_as (is_taken_by stays shown) (λ row. not (stays_at stays (integer_at 0 row))) (old (codes "template")) (gone (codes "template")) (taken_is domain tables shown shows ready stays) taken.0.rows in
    written_held entries old new ready (stays, there_of_shown domain tables shown shows stays entries are, (gone, (record { rows = rows; others = taken.0.others }, taken.1), put))

-- by what a query answers before
pub change_told : (domain name : Text) (shown : List Row) (stays : List Bool) (entries : List Entry) (old mid new : Database) → name ≡ domain → AreShown shown stays entries → (mid ≡ old) × ShowsTemplateIn (seen name old) shown
    → AreOfficeTablesOf by_domain mid × OnDomain domain (Then (LeavesRows (TakesOthers stays shown)) (PutsOthers 0 stays entries)) mid new → OnDomain domain (LeavesRows (HoldsEntries entries)) old new
change_told domain name shown stays entries old mid new is_name are (same, shows) (ready, made) =
    let Both = Then (LeavesRows (TakesOthers stays shown)) (PutsOthers 0 stays entries) in
    let Whole = LeavesRows (HoldsEntries entries) in
    let seen_shows = subst (λ (x : Text × Database). ShowsTemplateIn (seen x.0 x.1) shown) (λ i. (is_name i, sym same i)) shows in
    subst (λ (db : Database). OnDomain domain Whole db new) same
    (on_domain_as domain Both Whole (entries_written domain (rows_named mid) (seen domain new) shown stays entries (domain_rows mid ready domain) seen_shows are) made)

-- ---- what is taken, by the columns that are given

pub taken_told : (domain name key text : Text) (row : Row) (old new : Database) → name ≡ domain → key ≡ text → column row 4 ≡ Words text → AreOfficeTablesOf by_domain old
    → TakesRows (codes "d_template") (is_entry_of name key) old new → OnDomain domain (TakesIn (codes "template") (has_text 2 (text_at 4 row))) old new
taken_told domain name key text row old new is_name is_key shown ready taken =
    let its : key ≡ text_at 4 row = is_key ∙ sym (ap (λ (cell : Value). text_at 0 (cell ∷ [])) shown) in
    entry_taken_on_domain ready (subst (λ (k : Text × Text). TakesRows (codes "d_template") (is_entry_of k.0 k.1) old new) (λ i. (is_name i, its i)) taken)

-- ---- one row more is taken, and one entry more is put

removed_both : (first second both : Row → Bool) (old mid new : List Row) → ((x : Row) → both x ≡ (first x || second x)) → IsRemoved first old mid → IsRemoved second mid new → IsRemoved both old new
removed_both first second both old mid new is one two = record {
  only = λ x there. let later = two.only x there in let before = one.only x later.0 in (before.0, is x ∙ (λ i. before.1 i || later.1 i));
  kept = λ x there out. two.kept x (one.kept x there (left (first x) (second x) (sym (is x) ∙ out))) (right (first x) (second x) (sym (is x) ∙ out));
}
  where
    left : (a b : Bool) → (a || b) ≡ false → a ≡ false
    left true b e = cc
    left false b e = refl

    right : (a b : Bool) → (a || b) ≡ false → b ≡ false
    right true b e = cc
    right false b e = e

puts_more : (place : ℕ) (stays : List Bool) (es : List Entry) (entry : Entry) (old mid new : NamedRows) → PutsOthers place stays es old mid → PutsUnless (get_or stays (length es) false) (place + length es) entry mid new
    → PutsOthers place stays (es ++ entry ∷ []) old new
puts_more place [] [] entry old mid new is one = (new, subst (λ n. PutsEntry n entry old new) (omega arith) (subst (λ d. PutsEntry (place + 0) entry d new) is one), refl)
puts_more place (stay ∷ stays) [] entry old mid new is one = (new, subst (λ n. PutsUnless stay n entry old new) (omega arith) (subst (λ d. PutsUnless stay (place + 0) entry d new) is one), refl)
puts_more place [] (first ∷ more) entry old mid new (next, put, rest) one =
    (next, put, puts_more (place + 1) [] more entry next mid new rest (subst (λ b. PutsUnless b (place + 1 + length more) entry mid new) (sym (get_or_past [] (length more) false (omega arith))) (subst (λ n. PutsEntry n entry mid new) (omega arith) one)))
puts_more place (stay ∷ stays) (first ∷ more) entry old mid new (next, put, rest) one =
    (next, put, puts_more (place + 1) stays more entry next mid new rest (subst (λ n. PutsUnless (get_or stays (length more) false) n entry mid new) (omega arith) one))

pub entries_next : (stays : List Bool) (es : List Entry) (i : ℕ) (entry : Entry) (stay : Bool) (old mid new : NamedRows) → i < length es → entry ≡ get_or es i entry → stay ≡ get_or stays i false
    → PutsOthers 0 stays (take i es) old mid → PutsUnless stay i entry mid new → PutsOthers 0 stays (take (i + 1) es) old new
entries_next stays es i entry stay old mid new within is marked front one =
    let taken : take (i + 1) es ≡ take i es ++ entry ∷ [] = take_more es i entry within ∙ ap (λ v. take i es ++ v ∷ []) (sym is) in
    let before : i ≡ length (take i es) = omega (arith, length-take i es) in
    let place : i ≡ 0 + length (take i es) = omega (arith, length-take i es) in
    let put = subst (λ (at : ℕ × ℕ). PutsUnless (get_or stays at.0 false) at.1 entry mid new) (λ k. (before k, place k)) (subst (λ b. PutsUnless b i entry mid new) marked one) in
    subst (λ us. PutsOthers 0 stays us old new) (sym taken) (puts_more 0 stays (take i es) entry old mid new front put)

or_false : (b : Bool) → (b || false) ≡ b
or_false true = refl
or_false false = refl

-- nothing is taken by no row
pub none_taken : (stays : List Bool) (rows : NamedRows) → TakesOthers stays [] rows rows
none_taken stays rows = record { rows = record { only = λ x there. (there, refl); kept = λ x there out. there }; others = spares_same (codes "template") rows rows refl }

pub taken_next : (stays : List Bool) (shown : List Row) (i : ℕ) (s : Row) (stay : Bool) (old mid new : NamedRows) → i < length shown → s ≡ get_or shown i s → stay ≡ stays_shown stays s
    → TakesOthers stays (take i shown) old mid → TakesUnless stay s mid new → TakesOthers stays (take (i + 1) shown) old new
taken_next stays shown i s stay old mid new within is told front one = by stay told one
  where
    both : (x : Row) → is_taken_by stays (take (i + 1) shown) x ≡ (is_taken_by stays (take i shown) x || ((not (stays_shown stays s) && has_text 2 (text_at 4 s) x) || false))
    both x =
        let taken : take (i + 1) shown ≡ take i shown ++ s ∷ [] = take_more shown i s within ∙ ap (λ v. take i shown ++ v ∷ []) (sym is) in
        ap (λ ss. is_taken_by stays ss x) taken ∙ list_any-append (λ t. not (stays_shown stays t) && has_text 2 (text_at 4 t) x) (take i shown) (s ∷ [])

    by : (b : Bool) → b ≡ stays_shown stays s → TakesUnless b s mid new → TakesOthers stays (take (i + 1) shown) old new
    by true staying same = record {
      rows = subst (λ (d : NamedRows). IsRemoved (is_taken_by stays (take (i + 1) shown)) (old (codes "template")) (d (codes "template"))) (sym same)
          (removed_as (is_taken_by stays (take i shown)) (is_taken_by stays (take (i + 1) shown)) (old (codes "template")) (mid (codes "template"))
          (λ x there. sym (both x ∙ ap (λ b. is_taken_by stays (take i shown) x || ((not b && has_text 2 (text_at 4 s) x) || false)) (sym staying) ∙ or_false (is_taken_by stays (take i shown) x))) front.rows);
      others = spares_both (codes "template") old mid new front.others (spares_same (codes "template") mid new same);
    }
    by false going own = record {
      rows = removed_both (is_taken_by stays (take i shown)) (has_text 2 (text_at 4 s)) (is_taken_by stays (take (i + 1) shown)) (old (codes "template")) (mid (codes "template")) (new (codes "template"))
          (λ x. both x ∙ ap (λ b. is_taken_by stays (take i shown) x || ((not b && has_text 2 (text_at 4 s) x) || false)) (sym going) ∙ ap (λ b. is_taken_by stays (take i shown) x || b) (or_false (has_text 2 (text_at 4 s) x)))
          front.rows own.0.rows;
      others = spares_both (codes "template") old mid new front.others own.0.others;
    }
