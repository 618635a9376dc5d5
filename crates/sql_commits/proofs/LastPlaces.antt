-- A suggestion behind the last on a unit: which place is behind those that a query shows.
use Rattle.std.proofs.Common.{◌≡◌, ℕ, suc, ◌+◌, ◌<◌, ℤ, pos, negsuc, List, [], ◌∷◌, inl, inr, length, filter, map, get_or, ◌-◌, Bool, true, false, Some, None, Result, Ok, Err, refl, sym, ap, subst, ◌∙◌, arith, codes}
use Rattle.std.specs.Prelude.{int_lt, slice_get, IfOk}
use Rattle.std.specs.Ordering.{is_lt, int_cmp}
use Rattle.std.proofs.lemmas.Bool.{and_from, lt-ltb, ltb-false}
use Rattle.std.proofs.lemmas.Option.{slice_get_within, slice_get_cases, get_or_from_slice_get}
use Rattle.std.proofs.lemmas.List.MinMax.{ranks_by}
use Rattle.std.proofs.lemmas.List.Sorted.{sorted_far, IsPermutation-sym}
use Rattle.sqlite.specs.declared.types.Value.TheVariants.{Int}
use Rattle.sqlite.specs.Effect.{Database}
use Rattle.sqlite.specs.Order.{Row, column, value_cmp}
use Rattle.sqlite_value.proofs.OrderLemmas.{value_cmp-Int, value_cmp_total}
use Rattle.sqlite_rules.specs.Lists.{Has}
use Rattle.sqlite_rules.proofs.ListLemmas.{has_kept}
use Rattle.sql_laws.proofs.RemovedRows.{to_mapped, has_permuted}
use Rattle.po_text.specs.Texts.{Text}
use Rattle.units.specs.declared.unit.Suggestion.{Suggestion}
use Rattle.sql_schema.specs.Inside.{AreOfficeTablesOf, IsInOrder}
use Rattle.sql_schema.specs.Keys.{has_text, is_on_unit, columns}
use Rattle.sql_schema.specs.Layouts.{by_domain, rows_named}
use Rattle.sql_schema.specs.SeenRows.{suggestion_seen}
use Rattle.sql_schema.proofs.SeenRows.{from_seen}
use Rattle.sql_statements.specs.DomainAnswers.{ShowsPlaces}
use Rattle.sql_statements.specs.DomainCleared.{is_on_domain_unit}
use Rattle.sql_meaning.specs.Values.{integer_at}
use Rattle.sql_meaning.proofs.DomainOfficeRows.{domain_rows}
use Rattle.sql_changes.specs.OnDomains.{OnDomain}
use Rattle.sql_changes.specs.UnitWrites.{AreBefore, AddsNumberedSuggestion, AddsLast}
use Rattle.sql_changes.proofs.DomainWrites.{seen, on_domain_as}
use Rattle.sql_commits.specs.Votes.{ArePlacesBefore, IsPlaceBehind}

-- ---- the place behind the last that is shown

index_of : (rows : List Row) (row d : Row) → Has rows row → (i : ℕ) × (i < length rows) × (get_or rows i d ≡ row)
index_of [] row d there = absurd there
index_of (r ∷ rows) row d (inl is) = (0, omega arith, sym is)
index_of (r ∷ rows) row d (inr later) = let at = index_of rows row d later in (suc at.0, omega (arith, at.1), at.2)

below_next : (at : ℤ) (n : ℕ) → int_lt (pos n) at ≡ false → int_lt at (pos (n + 1)) ≡ true
below_next (pos m) n e = lt-ltb m (n + 1) (omega (arith, ltb-false n m e))
below_next (negsuc m) n e = refl

not_less : (m n : ℤ) → is_lt (int_cmp m n) ≡ false → int_lt m n ≡ false
not_less m n e = by (int_lt m n) refl
  where
    by : (b : Bool) → int_lt m n ≡ b → b ≡ false
    by true is = absurd (let less : is_lt (int_cmp m n) ≡ true = rw is refl in cc)
    by false is = refl

pub none_before : (place : ℕ) (rows : List Row) → length rows ≡ 0 → ArePlacesBefore place rows
none_before place [] none row there at is = absurd there
none_before place (r ∷ rows) none row there at is = absurd (omega arith)

pub last_before : (rows : List Row) (last : Row) (n : ℕ) → 0 < length rows → get_or rows (length rows - 1) last ≡ last → column last 0 ≡ Int (pos n) → IsInOrder 0 rows → ArePlacesBefore (n + 1) rows
last_before rows last n some is_last shows up row there at is =
    let i = index_of rows row last there in
    let lt = λ (x y : Row). is_lt (value_cmp (column x 0) (column y 0)) in
    let ranked : is_lt (value_cmp (column (get_or rows (length rows - 1) last) 0) (column (get_or rows i.0 last) 0)) ≡ false =
    sorted_far lt (ranks_by value_cmp_total (λ (x : Row). column x 0)) rows up i.0 (length rows - 1) last (omega (arith, i.1)) (omega (arith, some)) in
    let values : is_lt (value_cmp (Int (pos n)) (Int at)) ≡ false =
    (λ k. is_lt (value_cmp (sym (ap (λ (x : Row). column x 0) is_last ∙ shows) k) (sym (ap (λ (x : Row). column x 0) i.2 ∙ is) k))) ∙ ranked in
    below_next at n (not_less (pos n) at (ap is_lt (sym (value_cmp-Int (pos n) at)) ∙ values))

-- as the last of the rows, if there is one, shows it
pub behind_last : (rows : List Row) (row : Row) {E : Type 0} (result : Result ℕ E) → Some row ≡ slice_get rows (length rows - 1) → IfOk result (λ place. IsPlaceBehind row place)
    → IfOk result (λ place. IsInOrder 0 rows → ArePlacesBefore place rows)
behind_last rows row (Ok place) last (at, shows, is) =
    let some : 0 < length rows = omega (arith, slice_get_within rows (length rows - 1) row (sym last)) in
    λ up. subst (λ (n : ℕ). ArePlacesBefore n rows) (sym is) (last_before rows row at some (get_or_from_slice_get rows (length rows - 1) row row (sym last)) shows up)
behind_last rows row (Err e) last it = tt

pub first_of_none : (rows : List Row) → None ≡ slice_get rows (length rows - 1) → IsInOrder 0 rows → ArePlacesBefore 0 rows
first_of_none rows none up = elim (slice_get_cases rows (length rows - 1)).1 [
  | inl some ↦ absurd (let clash : None ≡ Some some.0 = none ∙ some.2 in cc)
  | inr past ↦ none_before 0 rows (omega (arith, past.0))
]

-- ---- on the unit

pub places_before : (db : Database) → AreOfficeTablesOf by_domain db → (domain lang key : Text) (rows : List Row) (place : ℕ) → ShowsPlaces domain lang key db rows → ArePlacesBefore place rows
    → AreBefore lang key place (seen domain db (codes "suggestion"))
places_before db ready domain lang key rows place shown before x there on =
    let all = rows_named db (codes "d_suggestion") in
    let r = from_seen (has_text 2 domain) suggestion_seen all x there in
    let on_it : is_on_unit lang key (suggestion_seen r.0) ≡ true = subst (λ (y : Row). is_on_unit lang key y ≡ true) r.3 on in
    let of_unit : is_on_domain_unit domain lang key r.0 ≡ true = and_from _ _ r.2 on_it in
    let on_unit = filter (is_on_domain_unit domain lang key) all in
    let row = columns (5 ∷ []) r.0 in
    let listed = to_mapped (columns (5 ∷ [])) on_unit r.0 (has_kept (is_on_domain_unit domain lang key) all r.0 r.1 of_unit) in
    let listed_so : Has rows row = has_permuted rows (map (columns (5 ∷ [])) on_unit) row (IsPermutation-sym (map (columns (5 ∷ [])) on_unit) rows shown.0) listed in
    before row listed_so (integer_at 4 x) (ap (λ (y : Row). column y 4) (sym r.3) ∙ (domain_rows db ready domain).typed.suggestion_places x there)

pub adds_last : (domain lang key : Text) (s : Suggestion) (rows : List Row) (place : ℕ) (old mid new : Database) → (IsInOrder 0 rows → ArePlacesBefore place rows)
    → AreOfficeTablesOf by_domain old × ((mid ≡ old) × ShowsPlaces domain lang key old rows) → OnDomain domain (AddsNumberedSuggestion lang key place s) mid new → OnDomain domain (AddsLast lang key s) old new
adds_last domain lang key s rows place old mid new behind shown added =
    on_domain_as domain (AddsNumberedSuggestion lang key place s) (AddsLast lang key s) (λ made. (place, places_before old shown.0 domain lang key rows place shown.1.1 (behind shown.1.1.1), made))
    (subst (λ (db : Database). OnDomain domain (AddsNumberedSuggestion lang key place s) db new) shown.1.0 added)
