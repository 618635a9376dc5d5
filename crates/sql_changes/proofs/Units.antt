-- What becomes of the units where the rows of approved ones are renewed.
use Rattle.std.proofs.Common.{◌≡◌, inl, inr, ◌+◌, ◌≤◌, ◌^◌, ℤ, pos, negsuc, ◌+ℤ◌, List, [], ◌∷◌, map, Bool, true, false, cond, if◌then◌else◌, Option, Some, None, option_map, refl, sym, ap, subst, ◌∙◌, arith, codes}
use Rattle.std.proofs.lemmas.Bool.{lt-ltb}
use Rattle.std.specs.Ordering.{eq_by_cmp}
use Rattle.std.specs.FinMap as maps
use Rattle.sqlite.specs.declared.types.Value.TheVariants.{Int}
use Rattle.sqlite.specs.Order.{Row, column}
use Rattle.sqlite_sql.specs.Ops.{fits_i64}
use Rattle.sqlite_rules.specs.Edit.{id_in}
use Rattle.sqlite_rules.specs.Lists.{Has}
use Rattle.sql_laws.specs.RowMaps.{OneEach, IsFound}
use Rattle.sql_laws.proofs.RowMaps.{get-found, get-is}
use Rattle.po_text.specs.Texts.{Text}
use Rattle.units.specs.Changes.{unapproved}
use Rattle.units.specs.Limits.{revision_limit}
use Rattle.units.specs.Project.{Place, place_cmp}
use Rattle.units.specs.Projects.{IsUnit}
use Rattle.units.specs.Orders.{place_total, place_IsAntisymmetric}
use Rattle.units.specs.Rules.{rule_at}
use Rattle.units.specs.Units.{is_approved, is_needs_editing, in_state, next_revision, no_previous}
use Rattle.units.specs.declared.unit.Unit.{Unit}
use Rattle.units.specs.declared.unit.UnitState.{UnitState}
use Rattle.units.specs.declared.unit.UnitState.TheVariants.{Untranslated, NeedsEditing, Translated, Approved}
use Rattle.office_specification.specs.OfficeRules.{KeepsRules}
use Rattle.sql_schema.specs.Keys.{text_at}
use Rattle.sql_statements.specs.Renewed.{is_approved_row, unapproved_row, AreRenewed}
use Rattle.sql_meaning.specs.Values.{natural_at, state_at}
use Rattle.sql_meaning.specs.Meaning.{book_in, place_of_row, unit_of_row, units_in, suggestions_in, project_of_rows, meaning_in}
use Rattle.rule_tests.proofs.MainAlone.{project_keeps}
use Rattle.sql_meaning.proofs.Units.{by_place}
use Rattle.sql_changes.proofs.States.{approved_is, revision_is}
use Rattle.sql_schema.specs.Layouts.{NamedRows}
use Rattle.sql_meaning.specs.RowKeys.{AreOfficeRows}

-- ---- a map of which each value becomes another

module _ {X : Type 0} (becomes : X → X) where
  found_mapped : (es : List (Place × X)) (q : Place) → maps.find place_cmp q (map (λ e. (e.0, becomes e.1)) es) ≡ option_map becomes (maps.find place_cmp q es)
  found_mapped [] q = refl
  found_mapped (e ∷ es) q = elim (eq_by_cmp place_cmp q e.0) as (λ b. cond b (Some (becomes e.1)) (maps.find place_cmp q (map (λ e. (e.0, becomes e.1)) es)) ≡ option_map becomes (cond b (Some e.1) (maps.find place_cmp q es))) [
    | true ↦ refl
    | false ↦ found_mapped es q
  ]

  pub mapped_is : (m n : maps.FinMap place_cmp X) → ((q : Place) → maps.get n q ≡ option_map becomes (maps.get m q)) → n ≡ maps.from_entries (map (λ e. (e.0, becomes e.1)) (maps.entries m))
  mapped_is m n each = maps.same_map place_total place_IsAntisymmetric _ _ (λ q.
      each q ∙ ap (option_map becomes) (maps.get-entries m q) ∙ sym (found_mapped (maps.entries m) q) ∙ sym (maps.get-from_entries place_total (map (λ e. (e.0, becomes e.1)) (maps.entries m)) q))

pub entries_back : (m : maps.FinMap place_cmp Unit) → m ≡ maps.from_entries (maps.entries m)
entries_back m = maps.same_map place_total place_IsAntisymmetric _ _ (λ q. maps.get-entries m q ∙ sym (maps.get-from_entries place_total (maps.entries m) q))

-- ---- one row

approved_state : (state : UnitState) → is_approved state ≡ true → state ≡ Approved
approved_state Untranslated h = absurd cc
approved_state NeedsEditing h = absurd cc
approved_state Translated h = absurd cc
approved_state Approved h = refl

left_alone : (unit : Unit) → is_approved unit.state ≡ false → unapproved unit ≡ unit
left_alone unit h = ap (λ b. if b then next_revision (in_state Translated unit) else unit) h

turned : (unit : Unit) → is_approved unit.state ≡ true → unit.previous ≡ no_previous → unapproved unit ≡ record unit { state = Translated; revision = unit.revision + 1 }
turned unit h previous = ap (λ b. if b then next_revision (in_state Translated unit) else unit) h ∙ (λ i. record unit { state = Translated; previous = sym previous i; revision = unit.revision + 1 })

one_more : (n : ℤ) → 1 ≤ natural_at 0 (Int n ∷ []) → natural_at 0 (Int (n +ℤ pos 1) ∷ []) ≡ natural_at 0 (Int n ∷ []) + 1
one_more (pos n) h = refl
one_more (negsuc n) h = absurd (omega arith)

one_of_place : (rows : NamedRows) → AreOfficeRows rows → OneEach place_of_row (rows (codes "unit"))
one_of_place rows ready r s in_r in_s e = ready.keyed.one_unit r s in_r in_s (by_place.back r s tt tt e)

-- ---- what the rules say of a row's unit

next_fits : (n : ℤ) → 1 ≤ natural_at 0 (Int n ∷ []) → natural_at 0 (Int n ∷ []) ≤ revision_limit → fits_i64 (n +ℤ pos 1) ≡ true
next_fits (pos n) low high = lt-ltb (n + 1) (2 ^ 63) (omega arith)
next_fits (negsuc n) low high = absurd (omega arith)

module _ (old : NamedRows) (ready : AreOfficeRows old) (rules : KeepsRules (meaning_in old)) (row : Row) (there : Has (old (codes "unit")) row) where
  stands : maps.get (units_in old) (place_of_row row) ≡ Some (unit_of_row old row)
  stands = get-is place_cmp place_total place_IsAntisymmetric place_of_row (unit_of_row old) (old (codes "unit")) (place_of_row row) (Some (unit_of_row old row)) (one_of_place old ready) (row, there, refl, refl)

  is_unit : IsUnit (rule_at (project_of_rows old) (text_at 1 row)) (unit_of_row old row)
  is_unit = (project_keeps (project_of_rows old) (book_in old) rules).each (place_of_row row) (unit_of_row old row) stands

  -- 64 bits hold its next revision
  pub has_next : fits_i64 (id_in (column row 7) +ℤ pos 1) ≡ true
  has_next =
      let revised = subst (λ v. (1 ≤ natural_at 0 (v ∷ [])) × (natural_at 0 (v ∷ []) ≤ revision_limit)) (revision_is old ready.typed row there) is_unit.revised in
      next_fits (id_in (column row 7)) revised.0 revised.1

-- ---- the units

module _ (old new : NamedRows) (ready : AreOfficeRows old) (is_ready : AreOfficeRows new) (rules : KeepsRules (meaning_in old))
    (renewed : AreRenewed is_approved_row unapproved_row (old (codes "unit")) (new (codes "unit"))) (suggestions : (lang key : Text) → suggestions_in new lang key ≡ suggestions_in old lang key) where
  module _ (row : Row) (there : Has (old (codes "unit")) row) where
    kept_is : is_approved_row row ≡ false → unit_of_row new row ≡ unapproved (unit_of_row old row)
    kept_is out =
        (λ i. record (unit_of_row new row) { suggestions = suggestions (text_at 1 row) (text_at 2 row) i })
        ∙ sym (left_alone (unit_of_row old row) (approved_is old ready.typed row there ∙ out))

    made_is : is_approved_row row ≡ true → unit_of_row new (unapproved_row row) ≡ unapproved (unit_of_row old row)
    made_is passed =
        let approved = approved_is old ready.typed row there ∙ passed in
        let is = approved_state (state_at 5 row) approved in
        let it = is_unit old ready rules row there in
        let previous = it.previous (ap is_needs_editing is) in
        let revision : natural_at 7 (unapproved_row row) ≡ natural_at 7 row + 1 =
        subst (λ v. natural_at 0 (Int (id_in (column row 7) +ℤ pos 1) ∷ []) ≡ natural_at 0 (v ∷ []) + 1) (sym (revision_is old ready.typed row there))
        (one_more (id_in (column row 7)) (subst (λ v. 1 ≤ natural_at 0 (v ∷ [])) (revision_is old ready.typed row there) it.revised.0)) in
        (λ i. record (unit_of_row new (unapproved_row row)) { revision = revision i; suggestions = suggestions (text_at 1 row) (text_at 2 row) i })
        ∙ sym (turned (unit_of_row old row) approved previous)

  -- ---- all of them

  at_place : (q : Place) (found : Option Unit) → IsFound place_of_row (unit_of_row old) (old (codes "unit")) q found
      → IsFound place_of_row (unit_of_row new) (new (codes "unit")) q (option_map unapproved found)
  at_place q None none = λ x there is. elim (renewed.only x there) [
    | inl was ↦ none x was.0 is
    | inr made ↦ none made.0 made.1 (sym (ap place_of_row made.3) ∙ is)
  ]
  at_place q (Some unit) (row, there, at, is) = by (is_approved_row row) refl
    where
      by : (b : Bool) → is_approved_row row ≡ b → IsFound place_of_row (unit_of_row new) (new (codes "unit")) q (Some (unapproved unit))
      by true passed = (unapproved_row row, renewed.made row there passed, at, made_is row there passed ∙ ap unapproved is)
      by false out = (row, renewed.kept row there out, at, kept_is row there out ∙ ap unapproved is)

  pub units_unapproved : units_in new ≡ maps.from_entries (map (λ e. (e.0, unapproved e.1)) (maps.entries (units_in old)))
  units_unapproved = mapped_is unapproved (units_in old) (units_in new) (λ q.
      get-is place_cmp place_total place_IsAntisymmetric place_of_row (unit_of_row new) (new (codes "unit")) q _ (one_of_place new is_ready)
      (at_place q _ (get-found place_cmp place_total place_IsAntisymmetric place_of_row (unit_of_row old) (old (codes "unit")) q)))
