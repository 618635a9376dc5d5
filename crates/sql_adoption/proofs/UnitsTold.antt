-- What was told of a language's units is so of its rows.
use Rattle.std.proofs.Common.{◌≡◌, ◌≤◌, List, map, filter, length, true, false, not, cond, inl, inr, sym, ap, subst, ◌∙◌, codes, arith}
use Rattle.std.proofs.lemmas.List.{length-map}
use Rattle.std.proofs.lemmas.List.Elements.{All-contains}
use Rattle.std.proofs.lemmas.List.Sorted.{IsPermutation-sym, sum_by-IsPermutation, length_permutation}
use Rattle.std.proofs.lemmas.List.Sums.{length-filter}
use Rattle.sqlite.specs.Effect.{Database}
use Rattle.sqlite.specs.Order.{Row}
use Rattle.sqlite_rules.specs.Lists.{Has}
use Rattle.sqlite_rules.proofs.ListLemmas.{contains_had, has_filtered, has_kept}
use Rattle.sql_laws.proofs.RemovedRows.{from_mapped, to_mapped, has_permuted}
use Rattle.po_text.specs.Texts.{Text}
use Rattle.units.specs.Limits.{unit_limit}
use Rattle.units.specs.Project.{Project}
use Rattle.office_specification.specs.Counting.{none_counted}
use Rattle.sql_schema.specs.Layouts.{rows_named}
use Rattle.sql_meaning.specs.Values.{flag_at}
use Rattle.sql_statements.specs.WalkedRows.{unit_counted, is_unit_of, ShowsUnitsOf}
use Rattle.sql_decoding.specs.RowTests.{is_unit_row}
use Rattle.sql_adoption.specs.LanguagesKept.{AreUnitsKept, AreUnitsTold, UnitsKeep, UnitsStand, current_units}
use Rattle.sql_adoption.specs.TookUnits.{row_counts, is_in_use, CountedUnits, BrokenUnits, TookUnits}
use Rattle.sql_adoption.specs.WalkedUnits.{IsKeptUnit}
use Rattle.sql_adoption.specs.declared.unit_sinks.Told.{Told}
use Rattle.sql_adoption.proofs.CountedValues.{filtered_both, mapped_passing}
use Rattle.sql_adoption.proofs.CountsPermuted.{add_all, added_mapped, added_permuted}

module _ (db : Database) (domain lang : Text) (project : Project) (rows : List Row) (shows : ShowsUnitsOf domain lang db rows) (before after : Told) (none : before.units ≡ 0) (no_current : before.current ≡ 0)
    (nothing : before.tally ≡ none_counted) where
  abbrev units : List Row
  units = rows_named db (codes "d_unit")

  abbrev own : List Row
  own = filter (is_unit_of domain lang) units

  abbrev shown : List Row
  shown = map (unit_counted (rows_named db)) own

  shown_of : (u : Row) → Has units u → is_unit_of domain lang u ≡ true → Has rows (unit_counted (rows_named db) u)
  shown_of u there passes =
      has_permuted rows shown (unit_counted (rows_named db) u) (IsPermutation-sym shown rows shows.all) (to_mapped (unit_counted (rows_named db)) own u (has_kept (is_unit_of domain lang) units u there passes))

  long : length rows ≡ length own
  long = length_permutation shown rows shows.all ∙ length-map own (unit_counted (rows_named db))

  module _ (counted : CountedUnits project before rows after) where
    few_units : length own ≤ unit_limit
    few_units = let few = counted.few (omega arith) in let told = counted.units in let n = long in omega arith

    current_told : after.current ≡ length (current_units db domain lang)
    current_told =
        let told = counted.current in
        let in_use : length (filter is_in_use rows) ≡ length (current_units db domain lang) =
        length-filter is_in_use rows ∙ sum_by-IsPermutation (λ row. cond (is_in_use row) 1 0) shown rows shows.all ∙ sym (length-filter is_in_use shown) ∙ mapped_passing is_in_use (unit_counted (rows_named db)) own
        ∙ sym (filtered_both (is_unit_of domain lang) (λ u. not (flag_at 7 u)) units) in
        omega arith

    tally_told : after.tally ≡ add_all (λ u. row_counts project.template (unit_counted (rows_named db) u)) none_counted own
    tally_told =
        counted.tally ∙ ap (λ t. add_all (row_counts project.template) t rows) nothing
        ∙ added_permuted (row_counts project.template) none_counted shown rows shows.all
        ∙ added_mapped (row_counts project.template) (unit_counted (rows_named db)) none_counted own

    all_kept : AreUnitsKept db project domain lang after
    all_kept = record {
      keep = record { each = λ u there passes. All-contains (IsKeptUnit project) rows (unit_counted (rows_named db) u) counted.each (contains_had rows (unit_counted (rows_named db) u) (shown_of u there passes)); few = few_units };
      current = current_told;
      tally = tally_told;
    }

  not_kept : BrokenUnits project before.units rows → ¬ UnitsKeep db project domain lang
  not_kept (inr many) keep = absurd (let few = keep.few in let n = long in omega arith)
  not_kept (inl it) keep =
      let u = from_mapped (unit_counted (rows_named db)) own it.0 (has_permuted shown rows it.0 shows.all it.1) in
      let listed = has_filtered (is_unit_of domain lang) units u.0 u.1 in
      absurd (it.2 (subst (IsKeptUnit project) (sym u.2) (keep.each u.0 listed.0 listed.1)))

  pub units_told : before.kept ≡ true → TookUnits project before rows after → AreUnitsTold db project domain lang after
  units_told was took = record {
    stand = λ u there passes. All-contains (λ row. is_unit_row row ≡ true) rows (unit_counted (rows_named db) u) took.stand (contains_had rows (unit_counted (rows_named db) u) (shown_of u there passes));
    kept = λ kept. all_kept (took.counted kept);
    broken = λ broken. not_kept (took.broken broken was);
  }

-- a row that stands for no unit
pub unit_unread : (db : Database) (domain lang : Text) (rows : List Row) → ShowsUnitsOf domain lang db rows → (row : Row) → Has rows row → is_unit_row row ≡ false → ¬ UnitsStand db domain lang
unit_unread db domain lang rows shows row there not_one stand =
    let own = filter (is_unit_of domain lang) (rows_named db (codes "d_unit")) in
    let u = from_mapped (unit_counted (rows_named db)) own row (has_permuted (map (unit_counted (rows_named db)) own) rows row shows.all there) in
    let listed = has_filtered (is_unit_of domain lang) (rows_named db (codes "d_unit")) u.0 u.1 in
    absurd (let no : true ≡ false = sym (stand u.0 listed.0 listed.1) ∙ sym (ap is_unit_row u.2) ∙ not_one in cc)
