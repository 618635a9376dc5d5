-- The team, the policy, the headers and the template that the rows stand for: what reads of the whole tables show of them.
use Rattle.std.proofs.Common.{◌≡◌, inl, inr, pos, false, List, [], ◌∷◌, map, Option, Some, None, unwrap_or, refl, sym, ap, subst, ◌∙◌, codes}
use Rattle.std.proofs.lemmas.Bool.{false_from_ne_true}
use Rattle.std.specs.declared.cmp.Ordering.TheVariants.{Equal}
use Rattle.std.specs.Ordering.{int_cmp, int_eq, is_eq}
use Rattle.std.specs.Cmp.{int_cmp_total, eq_by_cmp_equiv, Equal-is, tied_itself}
use Rattle.std.specs.Cmp.Lexicographic.{nat_list_cmp_total}
use Rattle.std.specs.List.{IsDistinct}
use Rattle.std.proofs.lemmas.List.Sorted.{IsPermutation-map}
use Rattle.std.proofs.lemmas.Map.Keys.{IsDistinct-IsPermutation}
use Rattle.std.specs.FinMap as maps
use Rattle.std.specs.FinMap.{int_cmp-IsAntisymmetric}
use Rattle.sqlite.specs.declared.types.Value.TheVariants.{Int}
use Rattle.sqlite.specs.Order.{Row, value_cmp}
use Rattle.sqlite.specs.Tree.{rowid}
use Rattle.sqlite_value.proofs.OrderLemmas.{value_cmp_total}
use Rattle.sqlite_trees.proofs.ListLemmas.{map-map, all-map}
use Rattle.sqlite_rules.specs.Lists.{Has}
use Rattle.sqlite_rules.proofs.ListLemmas.{all_has, all_from}
use Rattle.sql_laws.specs.RowMaps.{OneEach}
use Rattle.sql_laws.specs.ApartRows.{AreOnce}
use Rattle.sql_laws.proofs.RowMaps.{get-is}
use Rattle.sql_laws.proofs.RemovedRows.{from_mapped, has_permuted}
use Rattle.po_text.specs.Texts.{text_cmp}
use Rattle.po_text.specs.declared.entry.Entry.{Entry}
use Rattle.units.specs.Openings.{closed_policy}
use Rattle.sql_schema.specs.Keys.{text_at, first_text, columns}
use Rattle.sql_schema.specs.Inside.{IsInOrder}
use Rattle.sql_meaning.specs.Values.{integer_at, role_at}
use Rattle.sql_meaning.specs.Meaning.{team_in, policy_in, policy_of, template_in, entry_of_row, headers_in, header_of_row, key_at}
use Rattle.sql_meaning.specs.Shown.{shown_entry, shown_header}
use Rattle.sql_meaning.proofs.Books.{same_texts}
use Rattle.sql_meaning.proofs.OfficeQueries.{policy_found}
use Rattle.sql_meaning.proofs.RowsInOrder.{in_order, in_order_answers, values_in_order}
use Rattle.sql_meaning.proofs.ShownMaps.{map_is, inserted_answers}
use Rattle.sql_statements.specs.Answers.{ShowsPolicyIn}
use Rattle.sql_statements.specs.Tables.{ShowsTeamIn, ShowsTemplateIn, ShowsLanguagesIn}
use Rattle.sql_meaning.specs.OfficeShown.{team_shown, policy_shown, template_shown, headers_shown}
use Rattle.sql_meaning.proofs.WholeRows.{in_order_of_one}
use Rattle.sql_meaning.specs.RowKeys.{HoldsIntegers, AreOfficeRows}
use Rattle.sql_schema.specs.Layouts.{NamedRows}

-- no row stands twice in a table, so rowids come once
each_once : (rows : List Row) → AreOnce rows → OneEach (integer_at 0) rows → IsDistinct int_eq (map (integer_at 0) rows)
unfolding IsDistinct
each_once [] up one = tt
each_once (row ∷ rows) up one = (
  all-map (λ n. int_eq (integer_at 0 row) n ≡ false) (integer_at 0) rows (all_from (λ r. int_eq (integer_at 0 row) (integer_at 0 r) ≡ false) rows apart),
  each_once rows up.1 (λ r s in_r in_s e. one r s (inr in_r) (inr in_s) e),
)
  where
    apart : (r : Row) → Has rows r → int_eq (integer_at 0 row) (integer_at 0 r) ≡ false
    apart r there = false_from_ne_true _ (λ tied.
        let same : row ≡ r = one row r (inl refl) (inr there) (int_cmp-IsAntisymmetric _ _ ((Equal-is _).0 tied)) in
        let differ : is_eq (value_cmp (rowid row) (rowid r)) ≡ false = all_has (λ s. is_eq (value_cmp (rowid row) (rowid s)) ≡ false) rows r up.0 there in
        let itself : value_cmp (rowid row) (rowid r) ≡ Equal = subst (λ s. value_cmp (rowid row) (rowid s) ≡ Equal) same (tied_itself value_cmp_total (rowid row)) in
        cc)

module _ (tables : NamedRows) (office : AreOfficeRows tables) where
  -- ---- the team, and the languages' headers

  pub whole_team : (rows : List Row) → ShowsTeamIn tables rows → team_in tables ≡ team_shown rows
  whole_team rows shows =
      map_is text_cmp nat_list_cmp_total same_texts first_text (role_at 2) (columns (2 ∷ 1 ∷ [])) (text_at 1) (role_at 0) (tables (codes "team")) rows
      (λ r there. refl) (λ r there. refl) shows.all (team_shown rows) office.keyed.one_member
      (inserted_answers text_cmp nat_list_cmp_total same_texts (text_at 1) (role_at 0) rows)

  pub whole_headers : (rows : List Row) → ShowsLanguagesIn tables rows → headers_in tables ≡ headers_shown rows
  whole_headers rows shows =
      map_is text_cmp nat_list_cmp_total same_texts first_text header_of_row (columns (2 ∷ 3 ∷ 1 ∷ [])) (text_at 2) shown_header (tables (codes "language")) rows
      (λ r there. refl) (λ r there. refl) shows.all (headers_shown rows) office.keyed.one_language
      (inserted_answers text_cmp nat_list_cmp_total same_texts (text_at 2) shown_header rows)

  -- ---- the policy

  pub whole_policy : (found : Option Row) → ShowsPolicyIn tables found → policy_in tables ≡ policy_shown found
  whole_policy (Some shown) it = policy_found tables office shown it
  whole_policy None it =
      ap (λ o. unwrap_or o closed_policy) (get-is int_cmp int_cmp_total int_cmp-IsAntisymmetric (integer_at 0) policy_of (tables (codes "policy")) (pos 1) None office.keyed.one_policy
      (λ r there e. it r there (office.typed.policy_numbers r there ∙ ap Int e)))

  -- ---- the template

  module _ (rows : List Row) (shows : ShowsTemplateIn tables rows) where
    abbrev all : List Row
    all = tables (codes "template")

    abbrev shown : Row → Row
    shown = columns (3 ∷ 4 ∷ 5 ∷ 6 ∷ 2 ∷ 0 ∷ [])

    abbrev entry_shown : Row → Entry
    entry_shown row = shown_entry (key_at 4 row) row

    up : IsInOrder 5 rows
    up = in_order_of_one 5 rows shows.in_order

    shown_places : HoldsIntegers 5 rows
    shown_places row there =
        let from = from_mapped shown all row (has_permuted (map shown all) rows row shows.all there) in
        rw from.2 (office.typed.entry_places from.0 from.1)

    shown_once : IsDistinct int_eq (map (integer_at 5) rows)
    shown_once = IsDistinct-IsPermutation int_eq (eq_by_cmp_equiv int_cmp_total).symm (map (integer_at 5) (map shown all)) (map (integer_at 5) rows)
        (IsPermutation-map (integer_at 5) (map shown all) rows shows.all)
        (subst (IsDistinct int_eq) (sym (map-map (integer_at 5) shown all)) (each_once all office.entries_once office.keyed.one_entry))

    pub whole_template : template_in tables ≡ template_shown rows
    whole_template =
        ap maps.values (map_is int_cmp int_cmp_total int_cmp-IsAntisymmetric (integer_at 0) entry_of_row shown (integer_at 5) entry_shown all rows
        (λ r there. refl) (λ r there. refl) shows.all (in_order 5 entry_shown rows up shown_places shown_once) office.keyed.one_entry
        (in_order_answers 5 entry_shown rows up shown_places shown_once))
        ∙ values_in_order 5 entry_shown rows up shown_places shown_once
