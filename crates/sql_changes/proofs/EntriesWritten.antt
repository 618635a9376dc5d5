-- What the entries that are written make of the template, where those that are there at their places stay.
use Rattle.std.proofs.Common.{◌≡◌, ◌≢◌, ◌⊎◌, inl, inr, ℕ, zero, suc, ◌+◌, ◌<◌, ℤ, pos, negsuc, List, [], ◌∷◌, map, Bool, true, false, cond, not, Option, Some, None, refl, sym, ap, subst, ◌∙◌, arith, codes, get_or}
use Rattle.std.specs.Prelude.{T, ◌&&◌}
use Rattle.std.proofs.lemmas.Int.{ints}
use Rattle.std.proofs.lemmas.List.{get_or_past}
use Rattle.std.specs.Cmp.{int_cmp_total, int_cmp_is, tied_itself}
use Rattle.std.specs.Ordering.{int_cmp, eq_by_cmp, is_eq, is_lt}
use Rattle.std.specs.declared.cmp.Ordering.TheVariants.{Less}
use Rattle.std.specs.FinMap as maps
use Rattle.std.specs.FinMap.{int_cmp-IsAntisymmetric}
use Rattle.std.specs.FinMap.Entries.{below_all}
use Rattle.sqlite.specs.declared.types.Value.TheVariants.{Int}
use Rattle.sqlite.specs.Order.{Row}
use Rattle.sqlite_rules.specs.Lists.{Has}
use Rattle.sql_laws.specs.RowMaps.{OneEach, IsFound}
use Rattle.sql_laws.proofs.RowMaps.{get-is}
use Rattle.po_text.specs.declared.entry.Entry.{Entry}
use Rattle.units.specs.Projects.{IsTemplateEntry}
use Rattle.template_update.proofs.Found.{equal}
use Rattle.sql_schema.specs.Keys.{row_number}
use Rattle.sql_schema.specs.Layouts.{NamedRows}
use Rattle.sql_meaning.specs.Values.{integer_at}
use Rattle.sql_meaning.specs.Meaning.{entry_of_row, template_in}
use Rattle.sql_meaning.specs.RowKeys.{AreOfficeRows}
use Rattle.sql_changes.specs.Commits.{entry_row, PutsEntry}
use Rattle.sql_changes.specs.EntryWrites.{PutsOthers, AreThere, stays_at, WritesEntries, IsRowOf, HaveRows, HoldsEntries}
use Rattle.sql_changes.proofs.Changed.{Spares, spares_same, spares_both}
use Rattle.sql_changes.proofs.Template.{entry_back, ByPlace, by_place, numbered, numbered_values}

abbrev entries_of : NamedRows → List Row
entries_of rows = rows (codes "template")

-- ---- rows of the entries, and the template that they stand for

tie : (q k : ℤ) → eq_by_cmp int_cmp q k ≡ true → q ≡ k
tie q k e = int_cmp-IsAntisymmetric q k (equal (int_cmp q k) e)

-- what is found at a place has its row
found_at : (place : ℕ) (es : List Entry) (rows : List Row) (q : ℤ) (x : Entry) → HaveRows place es rows → ((e : Entry) → Has es e → IsTemplateEntry e) → maps.find int_cmp q (numbered place es) ≡ Some x
    → (r : Row) × Has rows r × (integer_at 0 r ≡ q) × (entry_of_row r ≡ x)
found_at place [] rows q x all plain found = cc
found_at place (e ∷ more) rows q x all plain found = by (found_at (place + 1) more rows q x all.2 (λ f there. plain f (inr there))) (eq_by_cmp int_cmp q (pos place)) refl found
  where
    by : (maps.find int_cmp q (numbered (place + 1) more) ≡ Some x → (r : Row) × Has rows r × (integer_at 0 r ≡ q) × (entry_of_row r ≡ x)) → (tied : Bool) → eq_by_cmp int_cmp q (pos place) ≡ tied
        → cond tied (Some e) (maps.find int_cmp q (numbered (place + 1) more)) ≡ Some x → (r : Row) × Has rows r × (integer_at 0 r ≡ q) × (entry_of_row r ≡ x)
    by later true tied is =
        let one : e ≡ x = cc in
        (entry_row place e, all.0, sym (tie q (pos place) tied), entry_back place e all.1 (plain e (inl refl)) ∙ one)
    by later false tied is = later is

-- and where nothing is found, no row is
not_at : (place : ℕ) (es : List Entry) (q : ℤ) → maps.find int_cmp q (numbered place es) ≡ None → (r : Row) → IsRowOf place es r → integer_at 0 r ≡ q → ⊥
not_at place [] q none r is at = absurd is
not_at place (e ∷ more) q none r is at = by (not_at (place + 1) more q) (eq_by_cmp int_cmp q (pos place)) refl none is
  where
    by : (maps.find int_cmp q (numbered (place + 1) more) ≡ None → (r : Row) → IsRowOf (place + 1) more r → integer_at 0 r ≡ q → ⊥) → (tied : Bool) → eq_by_cmp int_cmp q (pos place) ≡ tied
        → cond tied (Some e) (maps.find int_cmp q (numbered (place + 1) more)) ≡ None → (r ≡ entry_row place e) ⊎ IsRowOf (place + 1) more r → ⊥
    by later true tied none is = let no : Some e ≡ None = none in cc
    by later false tied none (inl is) =
        let same : pos place ≡ q = sym (ap (integer_at 0) is) ∙ at in
        let itself : eq_by_cmp int_cmp q q ≡ true = ap is_eq (tied_itself int_cmp_total q) in
        let apart : eq_by_cmp int_cmp q q ≡ false = ap (eq_by_cmp int_cmp q) (sym same) ∙ tied in
        let clash : true ≡ false = sym itself ∙ apart in cc
    by later false tied none (inr is) = later none r is at

-- places rise
both : (a b : Bool) → T a → T b → T (a && b)
both true b first second = second
both false b first second = absurd first

below : (n place : ℕ) → n < place → (es : List Entry) → T (below_all int_cmp (pos n) (numbered place es))
below n place less [] = tt
below n place less (e ∷ more) =
    both (is_lt (int_cmp (pos n) (pos place))) (below_all int_cmp (pos n) (numbered (place + 1) more))
    (subst (λ o. T (is_lt o)) (int_cmp_is (pos n) (pos place) Less (omega (arith, ints, less))) tt) (below n (place + 1) (omega (arith, less)) more)

rising : (place : ℕ) (es : List Entry) → T (maps.is_sorted int_cmp (numbered place es))
rising place [] = tt
rising place (e ∷ more) =
    both (below_all int_cmp (pos place) (numbered (place + 1) more)) (maps.is_sorted int_cmp (numbered (place + 1) more)) (below place (place + 1) (omega arith) more) (rising (place + 1) more)

pub template_held : (es : List Entry) (old new : NamedRows) → AreOfficeRows new → HoldsEntries es old new → ((e : Entry) → Has es e → IsTemplateEntry e) → template_in new ≡ es
template_held es old new ready held plain =
    ap (λ (m : ByPlace). map (λ (e : ℤ × Entry). e.1) (maps.entries m)) placed ∙ ap (map (λ (e : ℤ × Entry). e.1)) (maps.entries-from_sorted int_cmp (numbered 0 es) (rising 0 es)) ∙ numbered_values 0 es
  where
    by : (q : ℤ) (found : Option Entry) → maps.find int_cmp q (numbered 0 es) ≡ found → IsFound (integer_at 0) entry_of_row (entries_of new) q found
    by q (Some x) is = found_at 0 es (entries_of new) q x held.all plain is
    by q None is = λ r there at. not_at 0 es q is r (held.only r there) at

    placed : by_place (entries_of new) ≡ maps.from_sorted (numbered 0 es)
    placed = maps.same_map int_cmp_total int_cmp-IsAntisymmetric _ _
        (λ q. get-is int_cmp int_cmp_total int_cmp-IsAntisymmetric (integer_at 0) entry_of_row (entries_of new) q (maps.find int_cmp q (numbered 0 es)) ready.keyed.one_entry (by q (maps.find int_cmp q (numbered 0 es)) refl)
        ∙ sym (maps.get-from_sorted int_cmp (numbered 0 es) q (rising 0 es)))

-- ---- entries that are put beside those that stay

-- two places
places_differ : (n m : ℕ) → n < m → Int (pos n) ≢ Int (pos m)
places_differ n m less same = let is : n ≡ m = cc in absurd (omega (arith, is, less))

-- a row at another place
other_kept : (place : ℕ) (entry : Entry) (old new : NamedRows) → PutsEntry place entry old new → (row : Row) → Has (entries_of old) row → row_number row ≢ Int (pos place) → Has (entries_of new) row
other_kept place entry old new put row there differs = put.0.0.put.kept row there (λ same. differs (same ∙ ap row_number put.0.0.is_row))

put_here : (place : ℕ) (entry : Entry) (old new : NamedRows) → PutsEntry place entry old new → Has (entries_of new) (entry_row place entry)
put_here place entry old new put = subst (Has (entries_of new)) put.0.0.is_row put.0.0.put.here

put_only : (place : ℕ) (entry : Entry) (old new : NamedRows) → PutsEntry place entry old new → (row : Row) → Has (entries_of new) row → Has (entries_of old) row ⊎ (row ≡ entry_row place entry)
put_only place entry old new put row there = elim (put.0.0.put.only row there) [ inl is ↦ inr (is ∙ put.0.0.is_row) | inr other ↦ inl other.0 ]

puts_only : (place : ℕ) (stays : List Bool) (es : List Entry) (old new : NamedRows) → PutsOthers place stays es old new → (row : Row) → Has (entries_of new) row → Has (entries_of old) row ⊎ IsRowOf place es row
puts_only place stays [] old new is row there = inl (subst (λ (d : NamedRows). Has (entries_of d) row) is there)
puts_only place [] (entry ∷ more) old new (mid, put, rest) row there = elim (puts_only (place + 1) [] more mid new rest row there) [
  | inl was ↦ elim (put_only place entry old mid put row was) [ inl older ↦ inl older | inr is ↦ inr (inl is) ]
  | inr later ↦ inr (inr later)
]
puts_only place (true ∷ stays) (entry ∷ more) old new (mid, same, rest) row there = elim (puts_only (place + 1) stays more mid new rest row there) [
  | inl was ↦ inl (subst (λ (d : NamedRows). Has (entries_of d) row) same was)
  | inr later ↦ inr (inr later)
]
puts_only place (false ∷ stays) (entry ∷ more) old new (mid, put, rest) row there = elim (puts_only (place + 1) stays more mid new rest row there) [
  | inl was ↦ elim (put_only place entry old mid put row was) [ inl older ↦ inl older | inr is ↦ inr (inl is) ]
  | inr later ↦ inr (inr later)
]

-- a row at an earlier place stays
puts_kept : (place : ℕ) (stays : List Bool) (es : List Entry) (old new : NamedRows) → PutsOthers place stays es old new → (row : Row) (n : ℕ) → row_number row ≡ Int (pos n) → n < place → Has (entries_of old) row
    → Has (entries_of new) row
puts_kept place stays [] old new is row n at less there = subst (λ (d : NamedRows). Has (entries_of d) row) (sym is) there
puts_kept place [] (entry ∷ more) old new (mid, put, rest) row n at less there =
    puts_kept (place + 1) [] more mid new rest row n at (omega (arith, less)) (other_kept place entry old mid put row there (λ same. places_differ n place less (sym at ∙ same)))
puts_kept place (true ∷ stays) (entry ∷ more) old new (mid, same, rest) row n at less there =
    puts_kept (place + 1) stays more mid new rest row n at (omega (arith, less)) (subst (λ (d : NamedRows). Has (entries_of d) row) (sym same) there)
puts_kept place (false ∷ stays) (entry ∷ more) old new (mid, put, rest) row n at less there =
    puts_kept (place + 1) stays more mid new rest row n at (omega (arith, less)) (other_kept place entry old mid put row there (λ same. places_differ n place less (sym at ∙ same)))

-- and so do those at later places while one is put
there_kept : (place : ℕ) (entry : Entry) (old new : NamedRows) → PutsEntry place entry old new → (from : ℕ) → place < from → (stays : List Bool) (es : List Entry) → AreThere from stays es (entries_of old)
    → AreThere from stays es (entries_of new)
there_kept place entry old new put from less [] es there = tt
there_kept place entry old new put from less (stay ∷ stays) [] there = absurd there
there_kept place entry old new put from less (stay ∷ stays) (e ∷ more) there = (
  λ told. let it = there.0 told in (other_kept place entry old new put (entry_row from e) it.0 (λ same. places_differ place from less (sym same)), it.1),
  there_kept place entry old new put (from + 1) (omega (arith, less)) stays more there.1,
)

puts_all : (place : ℕ) (stays : List Bool) (es : List Entry) (old new : NamedRows) → PutsOthers place stays es old new → AreThere place stays es (entries_of old) → HaveRows place es (entries_of new)
puts_all place stays [] old new is there = tt
puts_all place [] (entry ∷ more) old new (mid, put, rest) there = (
  puts_kept (place + 1) [] more mid new rest (entry_row place entry) place refl (omega arith) (put_here place entry old mid put),
  put.1,
  puts_all (place + 1) [] more mid new rest tt,
)
puts_all place (true ∷ stays) (entry ∷ more) old new (mid, same, rest) there =
    let it = there.0 refl in (
      puts_kept (place + 1) stays more mid new rest (entry_row place entry) place refl (omega arith) (subst (λ (d : NamedRows). Has (entries_of d) (entry_row place entry)) (sym same) it.0),
      it.1,
      puts_all (place + 1) stays more mid new rest (subst (λ (d : NamedRows). AreThere (place + 1) stays more (entries_of d)) (sym same) there.1),
    )
puts_all place (false ∷ stays) (entry ∷ more) old new (mid, put, rest) there = (
  puts_kept (place + 1) stays more mid new rest (entry_row place entry) place refl (omega arith) (put_here place entry old mid put),
  put.1,
  puts_all (place + 1) stays more mid new rest (there_kept place entry old mid put (place + 1) (omega arith) stays more there.1),
)

puts_spare : (place : ℕ) (stays : List Bool) (es : List Entry) (old new : NamedRows) → PutsOthers place stays es old new → Spares (codes "template") old new
puts_spare place stays [] old new is = spares_same (codes "template") old new is
puts_spare place [] (entry ∷ more) old new (mid, put, rest) = spares_both (codes "template") old mid new put.0.0.others (puts_spare (place + 1) [] more mid new rest)
puts_spare place (true ∷ stays) (entry ∷ more) old new (mid, same, rest) = spares_both (codes "template") old mid new (spares_same (codes "template") old mid same) (puts_spare (place + 1) stays more mid new rest)
puts_spare place (false ∷ stays) (entry ∷ more) old new (mid, put, rest) = spares_both (codes "template") old mid new put.0.0.others (puts_spare (place + 1) stays more mid new rest)

puts_ready : (place : ℕ) (stays : List Bool) (es : List Entry) (old new : NamedRows) → AreOfficeRows old → PutsOthers place stays es old new → AreOfficeRows new
puts_ready place stays [] old new ready is = subst AreOfficeRows (sym is) ready
puts_ready place [] (entry ∷ more) old new ready (mid, put, rest) = puts_ready (place + 1) [] more mid new put.0.1 rest
puts_ready place (true ∷ stays) (entry ∷ more) old new ready (mid, same, rest) = puts_ready (place + 1) stays more mid new (subst AreOfficeRows (sym same) ready) rest
puts_ready place (false ∷ stays) (entry ∷ more) old new ready (mid, put, rest) = puts_ready (place + 1) stays more mid new put.0.1 rest

-- ---- those that stay

-- a row whose place is told to stay is the one that is there
row_of : (place : ℕ) (stays : List Bool) (es : List Entry) (rows : List Row) → AreThere place stays es rows → OneEach (integer_at 0) rows → (row : Row) → Has rows row → (n : ℕ) → integer_at 0 row ≡ pos (place + n)
    → get_or stays n false ≡ true → IsRowOf place es row
row_of place [] es rows there one row in_rows n at told = let no : get_or {A = Bool} [] n false ≡ false = get_or_past [] n false (omega arith) in absurd (let clash : true ≡ false = sym told ∙ no in cc)
row_of place (stay ∷ stays) [] rows there one row in_rows n at told = absurd there
row_of place (stay ∷ stays) (entry ∷ more) rows there one row in_rows zero at told =
    inl (one row (entry_row place entry) in_rows (there.0 told).0 (at ∙ ap pos (omega arith)))
row_of place (stay ∷ stays) (entry ∷ more) rows there one row in_rows (suc n) at told =
    inr (row_of (place + 1) stays more rows there.1 one row in_rows n (at ∙ ap pos (omega arith)) told)

-- those that stay are still there when the others are taken out
still_there : (all : List Bool) (old new : List Row) → ((row : Row) → Has old row → not (stays_at all (integer_at 0 row)) ≡ false → Has new row)
    → (place : ℕ) (stays : List Bool) (es : List Entry) → ((n : ℕ) → get_or all (place + n) false ≡ get_or stays n false) → AreThere place stays es old → AreThere place stays es new
still_there all old new kept place [] es same there = tt
still_there all old new kept place (stay ∷ stays) [] same there = absurd there
still_there all old new kept place (stay ∷ stays) (entry ∷ more) same there = (
  λ told. let it = there.0 told in
      let marked : get_or all place false ≡ true = ap (λ n. get_or all n false) (omega arith) ∙ same 0 ∙ told in
      (kept (entry_row place entry) it.0 (ap not marked), it.1),
  still_there all old new kept (place + 1) stays more (λ n. ap (λ k. get_or all k false) (omega arith) ∙ same (suc n)) there.1,
)

pub written_held : (es : List Entry) (old new : NamedRows) → AreOfficeRows old → WritesEntries es old new → HoldsEntries es old new × AreOfficeRows new
written_held es old new ready (stays, there, (mid, taken, put)) = (
  record {
    only = λ row in_new. elim (puts_only 0 stays es mid new put row in_new) [ inl left ↦ own row (taken.0.rows.only row left).0 (taken.0.rows.only row left).1 | inr is ↦ is ];
    all = puts_all 0 stays es mid new put (still_there stays (entries_of old) (entries_of mid) (λ row was told. taken.0.rows.kept row was told) 0 stays es (λ n. ap (λ k. get_or stays k false) (omega arith)) there);
    others = spares_both (codes "template") old mid new taken.0.others (puts_spare 0 stays es mid new put);
  },
  puts_ready 0 stays es mid new taken.1 put,
)
  where
    marked : (b : Bool) → not b ≡ false → b ≡ true
    marked true e = refl
    marked false e = cc

    own : (row : Row) → Has (entries_of old) row → not (stays_at stays (integer_at 0 row)) ≡ false → IsRowOf 0 es row
    own row was told = by (integer_at 0 row) refl (marked (stays_at stays (integer_at 0 row)) told)
      where
        by : (i : ℤ) → integer_at 0 row ≡ i → stays_at stays (integer_at 0 row) ≡ true → IsRowOf 0 es row
        by (pos n) at told = row_of 0 stays es (entries_of old) there ready.keyed.one_entry row was n (at ∙ ap pos (omega arith)) (ap (stays_at stays) (sym at) ∙ told)
        by (negsuc n) at told = absurd (let clash : false ≡ true = ap (stays_at stays) (sym at) ∙ told in cc)
