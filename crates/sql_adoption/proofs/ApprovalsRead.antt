-- The approved units that SQLite counts are those of the office that the rows stand for.
use Rattle.std.proofs.Common.{◌≡◌, ◌<◌, ◌+◌, ℕ, ℤ, pos, negsuc, zero, suc, List, [], ◌∷◌, map, filter, length, Bool, true, ◌&&◌, inl, inr, refl, sym, ap, subst, ◌∙◌, codes, arith}
use Rattle.std.proofs.lemmas.Bool.{eqb-true, eq-eqb}
use Rattle.std.proofs.lemmas.Bool.Decides.{Decides-int_eq, same_from_decides}
use Rattle.std.proofs.lemmas.Int.{ints}
use Rattle.std.specs.Prelude.{min, sum_by, nat_eq}
use Rattle.std.specs.Cmp.{int_cmp_is}
use Rattle.std.specs.FinMap as maps
use Rattle.std.specs.Ordering.{is_le, int_cmp, int_eq}
use Rattle.std.specs.declared.cmp.Ordering.TheVariants.{Greater}
use Rattle.std.proofs.lemmas.List.Sorted.{sum_by-IsPermutation}
use Rattle.std.proofs.lemmas.List.Sums.{sum_by-cons, length-filter}
use Rattle.sqlite.specs.Effect.{Database}
use Rattle.sqlite.specs.Order.{Row, column}
use Rattle.sqlite.specs.declared.types.Value.TheVariants.{Int}
use Rattle.sqlite_rules.specs.Lists.{Has}
use Rattle.sqlite_rules.proofs.ListLemmas.{has_filtered}
use Rattle.sql_laws.specs.RowMaps.{OneEach}
use Rattle.po_text.specs.Texts.{Text, text_cmp}
use Rattle.units.specs.Limits.{revision_limit}
use Rattle.units.specs.Orders.{text_total, text_IsAntisymmetric, place_total, place_IsAntisymmetric}
use Rattle.units.specs.Project.{Place, place_cmp}
use Rattle.units.specs.Units.{is_approved}
use Rattle.units.specs.declared.unit.Unit.{Unit}
use Rattle.office_specification.specs.Approvals.{count_in, count_of, is_approved_unit, is_last_approved, approvals_in}
use Rattle.office_specification.specs.declared.approvals.Approvals.{Approvals}
use Rattle.sql_schema.specs.Inside.{AreOfficeTablesOf}
use Rattle.sql_schema.specs.Keys.{first_text, has_text}
use Rattle.sql_schema.specs.Layouts.{by_domain, NamedRows, rows_named}
use Rattle.sql_schema.specs.SeenRows.{seen_in, unit_seen}
use Rattle.sql_schema.proofs.DomainRows.{one_domain_name}
use Rattle.sql_schema.proofs.Queries.{filtered_same}
use Rattle.sql_schema.proofs.SeenRows.{to_seen}
use Rattle.sql_statements.specs.ApprovalCounts.{is_approved_row, is_last_row, rows_counted, approvals_counted, ShowsApprovals}
use Rattle.sql_statements.specs.SummedVotes.{is_integer, most_counted}
use Rattle.sql_meaning.specs.Domains.{domain_of_rows, domains_in, office_of_rows}
use Rattle.sql_meaning.specs.Meaning.{place_of_row, unit_of_row, units_in}
use Rattle.sql_meaning.specs.RowKeys.{AreOfficeRows}
use Rattle.sql_meaning.specs.Values.{integer_at, natural, natural_at, state_at}
use Rattle.sql_meaning.proofs.DomainOfficeRows.{domain_rows}
use Rattle.sql_meaning.proofs.Units.{by_place}
use Rattle.sql_adoption.specs.ApprovalsRead.{AreToldBy}
use Rattle.sql_adoption.proofs.CountedValues.{values_permuted, passing_entries, mapped_passing, filtered_both}
use Rattle.sql_adoption.proofs.SuggestionRows.{units_once}

-- ---- one row

-- a state that isn't above that of an approved unit is an approved one's where it is 3
three_is_last : (n : ℤ) → is_le (int_cmp n (pos 3)) ≡ true → is_approved (state_at 0 (Int n ∷ [])) ≡ int_eq n (pos 3)
three_is_last (negsuc m) low = refl
three_is_last (pos zero) low = refl
three_is_last (pos (suc zero)) low = refl
three_is_last (pos (suc (suc zero))) low = refl
three_is_last (pos (suc (suc (suc zero)))) low = refl
three_is_last (pos (suc (suc (suc (suc k))))) low =
    absurd (let above : Greater ≡ int_cmp (pos (suc (suc (suc (suc k))))) (pos 3) = int_cmp_is (pos (suc (suc (suc (suc k))))) (pos 3) Greater (omega (arith, ints)) in let no = ap is_le above ∙ low in cc)

same_number : (n : ℤ) → nat_eq (natural_at 0 (Int n ∷ [])) revision_limit ≡ int_eq n (pos 9000000000000000)
same_number n = same_from_decides (nat_eq (natural n) revision_limit) (int_eq n (pos revision_limit)) (forth n, λ same. eq-eqb (natural n) revision_limit (ap natural same)) (Decides-int_eq n (pos revision_limit))
  where
    forth : (n : ℤ) → nat_eq (natural n) revision_limit ≡ true → n ≡ pos revision_limit
    forth (pos m) e = ap pos (eqb-true m revision_limit e)
    forth (negsuc m) e = let none : 0 ≡ revision_limit = eqb-true 0 revision_limit e in absurd (omega (arith, none))

-- ---- sums

sums_same : {X : Type 0} (f g : X → ℕ) (xs : List X) → ((x : X) → Has xs x → f x ≡ g x) → sum_by f xs ≡ sum_by g xs
sums_same f g [] same = refl
sums_same f g (x ∷ xs) same =
    sum_by-cons f x xs ∙ (ap (λ n. n + sum_by f xs) (same x (inl refl)) ∙ (ap (λ n. g x + n) (sums_same f g xs (λ y there. same y (inr there))) ∙ sym (sum_by-cons g x xs)))

sum_mapped : {X Y : Type 0} (f : Y → ℕ) (g : X → Y) (xs : List X) → sum_by f (map g xs) ≡ sum_by (λ x. f (g x)) xs
sum_mapped f g [] = refl
sum_mapped f g (x ∷ xs) = sum_by-cons f (g x) (map g xs) ∙ (ap (λ n. f (g x) + n) (sum_mapped f g xs) ∙ sym (sum_by-cons (λ y. f (g y)) x xs))

-- counts are told as they are where their sum is small
told_whole : {X : Type 0} (f : X → ℕ) (xs : List X) → sum_by (λ x. min most_counted (f x)) xs < most_counted → sum_by (λ x. min most_counted (f x)) xs ≡ sum_by f xs
told_whole f [] few = refl
told_whole f (x ∷ xs) few =
    let told = sum_by-cons (λ y. min most_counted (f y)) x xs in
    let rest = told_whole f xs (omega (arith, few, told)) in
    let own : min most_counted (f x) ≡ f x = small (f x) (omega (arith, few, told)) in
    told ∙ (ap (λ n. n + sum_by (λ y. min most_counted (f y)) xs) own ∙ (ap (λ n. f x + n) rest ∙ sym (sum_by-cons f x xs)))
  where
    small : (n : ℕ) → min most_counted n < most_counted → min most_counted n ≡ n
    small n few = omega (arith, few)

module _ (db : Database) (ready : AreOfficeTablesOf by_domain db) where
  abbrev tables : NamedRows
  tables = rows_named db

  abbrev rows : List Row
  rows = tables (codes "d_unit")

  abbrev domains : List Row
  domains = tables (codes "domain")

  -- ---- a domain

  module _ (name : Text) where
    abbrev seen : NamedRows
    seen = seen_in name tables

    abbrev own : List Row
    own = filter (has_text 1 name) rows

    are : AreOfficeRows seen
    are = domain_rows db ready name

    is_seen : (row : Row) → Has own row → Has (seen (codes "unit")) (unit_seen row)
    is_seen row there = let its = has_filtered (has_text 1 name) rows row there in to_seen (has_text 1 name) unit_seen rows row its.0 its.1

    approved_is : (row : Row) → Has own row → is_approved_unit (unit_of_row seen (unit_seen row)) ≡ is_integer (pos 3) (column row 6)
    approved_is row there =
        let listed = is_seen row there in
        subst (λ v. is_approved (state_at 0 (v ∷ [])) ≡ is_integer (pos 3) v) (sym (are.typed.unit_states (unit_seen row) listed)) (three_is_last (integer_at 5 (unit_seen row)) (are.typed.last_state (unit_seen row) listed))

    last_is : (row : Row) → Has own row → is_last_approved (unit_of_row seen (unit_seen row)) ≡ (is_integer (pos 3) (column row 6) && is_integer (pos 9000000000000000) (column row 8))
    last_is row there = λ i. approved_is row there i && numbered i
      where
        numbered : nat_eq (natural_at 7 (unit_seen row)) revision_limit ≡ is_integer (pos 9000000000000000) (column row 8)
        numbered = subst (λ v. nat_eq (natural_at 0 (v ∷ [])) revision_limit ≡ is_integer (pos 9000000000000000) v) (sym (are.typed.unit_revisions (unit_seen row) (is_seen row there))) (same_number (integer_at 7 (unit_seen row)))

    one_each : OneEach place_of_row (seen (codes "unit"))
    one_each r s in_r in_s e = are.keyed.one_unit r s in_r in_s (by_place.back r s tt tt e)

    domain_counted : (test : Unit → Bool) (columns : Row → Bool) → ((row : Row) → Has own row → test (unit_of_row seen (unit_seen row)) ≡ columns row)
        → rows_counted (λ row. has_text 1 name row && columns row) tables ≡ count_in test (domain_of_rows tables name)
    domain_counted test columns same =
        filtered_both (has_text 1 name) columns rows
        ∙ (ap length (sym (filtered_same (λ row. test (unit_of_row seen (unit_seen row))) columns own same))
        ∙ (sym (mapped_passing (λ row. test (unit_of_row seen row)) unit_seen own)
        ∙ (sym (passing_entries place_cmp place_total place_IsAntisymmetric place_of_row (unit_of_row seen) (λ (e : Place × Unit). test e.1) (seen (codes "unit")) (units_once db ready name) one_each)
        ∙ length-filter (λ (e : Place × Unit). test e.1) (maps.entries (units_in seen)))))

  -- ---- all of them

  all_counted : (test : Unit → Bool) (passes : Text → Row → Bool) (place : ℕ) (shown : List Row) (sum : ℕ) → ((name : Text) → rows_counted (passes name) tables ≡ count_in test (domain_of_rows tables name))
      → ((domain : Row) → natural_at place (approvals_counted tables domain) ≡ min most_counted (rows_counted (passes (first_text domain)) tables))
      → ShowsApprovals db shown → sum ≡ sum_by (natural_at place) shown → sum < most_counted → sum ≡ count_of test (office_of_rows tables)
  all_counted test passes place shown sum each column_is shows is few =
      let told : sum ≡ sum_by (λ d. min most_counted (rows_counted (passes (first_text d)) tables)) domains =
      is ∙ (sum_by-IsPermutation (natural_at place) (map (approvals_counted tables) domains) shown shows
      ∙ (sum_mapped (natural_at place) (approvals_counted tables) domains
      ∙ sums_same (λ d. natural_at place (approvals_counted tables d)) (λ d. min most_counted (rows_counted (passes (first_text d)) tables)) domains (λ d there. column_is d))) in
      told
      ∙ (told_whole (λ d. rows_counted (passes (first_text d)) tables) domains (subst (λ n. n < most_counted) told few)
      ∙ (sums_same (λ d. rows_counted (passes (first_text d)) tables) (λ d. count_in test (domain_of_rows tables (first_text d))) domains (λ d there. each (first_text d))
      ∙ (sym (sum_mapped (count_in test) (λ d. domain_of_rows tables (first_text d)) domains)
      ∙ sym (sum_by-IsPermutation (count_in test) (map (λ d. domain_of_rows tables (first_text d)) domains) (maps.values (domains_in tables))
      (values_permuted text_cmp text_total text_IsAntisymmetric first_text (λ d. domain_of_rows tables (first_text d)) domains (ready.tables (codes "domain") refl).once
      (one_domain_name db ready.schema ready.sound (ready.tables (codes "domain") refl)))))))

  pub approvals_are : (shown : List Row) (approvals : Approvals) → ShowsApprovals db shown → AreToldBy shown approvals → approvals ≡ approvals_in (office_of_rows tables)
  approvals_are shown approvals shows told = λ i. record {
    approved = all_counted is_approved_unit is_approved_row 0 shown approvals.approved
        (λ name. domain_counted name is_approved_unit (λ row. is_integer (pos 3) (column row 6)) (approved_is name)) (λ d. refl) shows told.approved told.few i;
    at_last_revision = all_counted is_last_approved is_last_row 1 shown approvals.at_last_revision
        (λ name. domain_counted name is_last_approved (λ row. is_integer (pos 3) (column row 6) && is_integer (pos 9000000000000000) (column row 8)) (last_is name)) (λ d. refl) shows told.at_last told.few_at_last i;
  }
