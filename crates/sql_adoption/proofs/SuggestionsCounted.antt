-- The suggestions on a unit that a domain sees, by the rows of those of all domains: how many there are, and what holds of each.
use Rattle.std.proofs.Common.{◌≡◌, ◌&&◌, List, filter, length, true, sym, ap, subst, ◌∙◌, codes, All}
use Rattle.std.specs.Cmp.{int_cmp_total}
use Rattle.std.specs.FinMap.{int_cmp-IsAntisymmetric}
use Rattle.std.specs.Ordering.{int_cmp}
use Rattle.std.proofs.lemmas.Bool.{and_parts, and_from}
use Rattle.std.proofs.lemmas.List.Elements.{All-contains, All-from_recursion}
use Rattle.sqlite.specs.Effect.{Database}
use Rattle.sqlite.specs.Order.{Row}
use Rattle.sqlite_rules.specs.Lists.{Has}
use Rattle.sqlite_rules.proofs.ListLemmas.{all_from, contains_had, has_filtered, has_kept}
use Rattle.po_text.specs.Texts.{Text}
use Rattle.units.specs.declared.unit.Suggestion.{Suggestion}
use Rattle.sql_schema.specs.Inside.{AreOfficeTablesOf}
use Rattle.sql_schema.specs.Keys.{has_text, is_on_unit}
use Rattle.sql_schema.specs.Layouts.{by_domain, NamedRows, rows_named}
use Rattle.sql_schema.specs.SeenRows.{seen_in, suggestion_seen}
use Rattle.sql_schema.proofs.SeenRows.{from_seen, to_seen}
use Rattle.sql_statements.specs.DomainCleared.{is_on_domain_unit}
use Rattle.sql_meaning.specs.Meaning.{suggestion_of_row, suggestions_in}
use Rattle.sql_meaning.specs.RowKeys.{AreOfficeRows}
use Rattle.sql_meaning.specs.Values.{integer_at}
use Rattle.sql_meaning.proofs.DomainOfficeRows.{domain_rows}
use Rattle.sql_meaning.proofs.MapValues.{value_of_row, row_has_value}
use Rattle.sql_meaning.proofs.UniqueKeys.{one_place_each}
use Rattle.sql_adoption.proofs.CountedValues.{all_pass, filtered_both, mapped_passing, once_filtered, passing}

module _ (db : Database) (ready : AreOfficeTablesOf by_domain db) (domain lang key : Text) where
  abbrev tables : NamedRows
  tables = seen_in domain (rows_named db)

  abbrev all : List Row
  all = rows_named db (codes "d_suggestion")

  are : AreOfficeRows tables
  are = domain_rows db ready domain

  abbrev on_it : List Row
  on_it = filter (is_on_unit lang key) (tables (codes "suggestion"))

  pub suggestions_counted : length (suggestions_in tables lang key) ≡ length (filter (is_on_domain_unit domain lang key) all)
  suggestions_counted =
      ap length (sym (all_pass (suggestions_in tables lang key)))
      ∙ passing int_cmp int_cmp_total int_cmp-IsAntisymmetric (integer_at 4) (suggestion_of_row tables) (λ s. true) on_it (once_filtered (is_on_unit lang key) (tables (codes "suggestion")) are.suggestions_once)
      (one_place_each tables are.keyed.suggested lang key)
      ∙ ap length (all_pass on_it)
      ∙ mapped_passing (is_on_unit lang key) suggestion_seen (filter (has_text 2 domain) all)
      ∙ sym (filtered_both (has_text 2 domain) (λ s. has_text 3 lang s && has_text 4 key s) all)

  -- what holds of each row on the unit holds of each suggestion
  pub each_suggestion : (P : Suggestion → Type 0) → ((s : Row) → Has all s → is_on_domain_unit domain lang key s ≡ true → P (suggestion_of_row tables (suggestion_seen s))) → All P (suggestions_in tables lang key)
  each_suggestion P each = All-from_recursion P (suggestions_in tables lang key) (all_from P (suggestions_in tables lang key) (λ t there.
      let x = value_of_row int_cmp int_cmp_total (integer_at 4) (suggestion_of_row tables) on_it t there in
      let kept = has_filtered (is_on_unit lang key) (tables (codes "suggestion")) x.0 x.1 in
      let s = from_seen (has_text 2 domain) suggestion_seen all x.0 kept.0 in
      let on : is_on_unit lang key (suggestion_seen s.0) ≡ true = ap (is_on_unit lang key) (sym s.3) ∙ kept.1 in
      let passes : is_on_domain_unit domain lang key s.0 ≡ true = and_from (has_text 2 domain s.0) (has_text 3 lang s.0 && has_text 4 key s.0) s.2 on in
      subst P (sym (x.2 ∙ ap (suggestion_of_row tables) s.3)) (each s.0 s.1 passes)))

  pub every_row : (P : Suggestion → Type 0) → All P (suggestions_in tables lang key) → (s : Row) → Has all s → is_on_domain_unit domain lang key s ≡ true → P (suggestion_of_row tables (suggestion_seen s))
  every_row P holds s there passes =
      let parts = and_parts (has_text 2 domain s) (has_text 3 lang s && has_text 4 key s) passes in
      let seen = to_seen (has_text 2 domain) suggestion_seen all s there parts.0 in
      All-contains P (suggestions_in tables lang key) (suggestion_of_row tables (suggestion_seen s)) holds
      (contains_had (suggestions_in tables lang key) (suggestion_of_row tables (suggestion_seen s))
      (row_has_value int_cmp int_cmp_total (integer_at 4) (suggestion_of_row tables) int_cmp-IsAntisymmetric on_it (suggestion_seen s) (one_place_each tables are.keyed.suggested lang key)
      (has_kept (is_on_unit lang key) (tables (codes "suggestion")) (suggestion_seen s) seen parts.1)))
