-- Rows that are the same, in whatever order, stand for the same domain.
use Rattle.std.proofs.Common.{◌≡◌, List, filter, Bool, ap, codes}
use Rattle.std.specs.Ordering.{int_cmp}
use Rattle.std.specs.Cmp.{int_cmp_total}
use Rattle.std.specs.FinMap as maps
use Rattle.std.specs.FinMap.{int_cmp-IsAntisymmetric}
use Rattle.sqlite.specs.Order.{Row}
use Rattle.sqlite_rules.proofs.ListLemmas.{has_filtered, has_kept}
use Rattle.sql_laws.proofs.RowMaps.{map_of-same_rows}
use Rattle.po_text.specs.Texts.{Text, text_cmp}
use Rattle.units.specs.Office.{domain_of}
use Rattle.units.specs.Project.{place_cmp}
use Rattle.units.specs.Orders.{text_total, text_IsAntisymmetric, place_total, place_IsAntisymmetric}
use Rattle.sql_schema.specs.Keys.{text_at, first_text, has_text, is_on_unit}
use Rattle.sql_schema.specs.Layouts.{NamedRows}
use Rattle.sql_schema.specs.SeenRows.{AreSame, AreSameByName}
use Rattle.sql_meaning.specs.Values.{integer_at, vote_at}
use Rattle.sql_meaning.specs.Meaning.{entry_of_row, template_in, header_of_row, headers_in, votes_in, suggestion_of_row, suggestions_in, place_of_row, unit_of_row, units_in, project_of_rows}
use Rattle.sql_meaning.proofs.MapEntries.{map_of-agreeing}
use Rattle.sql_meaning.proofs.UniqueKeys.{one_voter, one_place_each}
use Rattle.sql_meaning.proofs.Units.{by_place}
use Rattle.sql_meaning.specs.RowKeys.{AreKeyedRows}

same_filtered : (test : Row → Bool) (old new : List Row) → AreSame old new → AreSame (filter test old) (filter test new)
same_filtered test old new same = record {
  only = λ x there. let f = has_filtered test new x there in has_kept test old x (same.only x f.0) f.1;
  kept = λ x there. let f = has_filtered test old x there in has_kept test new x (same.kept x f.0) f.1;
}

module _ (old new : NamedRows) (keyed : AreKeyedRows old) (same : AreSameByName old new) where
  template_same : template_in new ≡ template_in old
  template_same =
      ap maps.values (map_of-same_rows int_cmp int_cmp_total int_cmp-IsAntisymmetric (integer_at 0) entry_of_row (old (codes "template")) (new (codes "template")) keyed.one_entry
      (same (codes "template")).only (same (codes "template")).kept)

  headers_same : headers_in new ≡ headers_in old
  headers_same =
      map_of-same_rows text_cmp text_total text_IsAntisymmetric first_text header_of_row (old (codes "language")) (new (codes "language")) keyed.one_language
      (same (codes "language")).only (same (codes "language")).kept

  -- ---- the votes on a suggestion

  votes_same : (number : Text) → votes_in new number ≡ votes_in old number
  votes_same number =
      let is = same_filtered (has_text 1 number) (old (codes "vote")) (new (codes "vote")) (same (codes "vote")) in
      map_of-same_rows text_cmp text_total text_IsAntisymmetric (text_at 2) (vote_at 3) (filter (has_text 1 number) (old (codes "vote"))) (filter (has_text 1 number) (new (codes "vote")))
      (one_voter (old (codes "vote")) number keyed.suggested.one_vote) is.only is.kept

  -- ---- the suggestions on a unit

  suggestion_same : (row : Row) → suggestion_of_row new row ≡ suggestion_of_row old row
  suggestion_same row = λ i. record (suggestion_of_row new row) { votes = votes_same (text_at 1 row) i }

  suggestions_same : (lang key : Text) → suggestions_in new lang key ≡ suggestions_in old lang key
  suggestions_same lang key =
      let is = same_filtered (is_on_unit lang key) (old (codes "suggestion")) (new (codes "suggestion")) (same (codes "suggestion")) in
      ap maps.values (map_of-agreeing int_cmp int_cmp_total int_cmp-IsAntisymmetric (integer_at 4) (suggestion_of_row old) (suggestion_of_row new)
      (filter (is_on_unit lang key) (old (codes "suggestion"))) (filter (is_on_unit lang key) (new (codes "suggestion"))) (one_place_each old keyed.suggested lang key) is.only is.kept (λ x there. suggestion_same x))

  -- ---- the units

  units_same : units_in new ≡ units_in old
  units_same =
      map_of-agreeing place_cmp place_total place_IsAntisymmetric place_of_row (unit_of_row old) (unit_of_row new) (old (codes "unit")) (new (codes "unit"))
      (λ r s in_r in_s e. keyed.one_unit r s in_r in_s (by_place.back r s tt tt e)) (same (codes "unit")).only (same (codes "unit")).kept
      (λ x there. λ i. record (unit_of_row new x) { suggestions = suggestions_same (text_at 1 x) (text_at 2 x) i })

  pub domain_same : domain_of (project_of_rows new) ≡ domain_of (project_of_rows old)
  domain_same = λ i. record { template = template_same i; headers = headers_same i; units = units_same i }
