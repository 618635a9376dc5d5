-- Approved units of all domains become translated, each at its next revision, and in each tally what was approved is translated.
use Rattle.std.proofs.Common.{◌≡◌, inl, inr, ℕ, ℤ, pos, ◌+ℤ◌, List, [], ◌∷◌, codes, drop, true, Option, Some, None, refl, sym, ap, subst, ◌∙◌}
use Rattle.std.proofs.Math.Bool.{and-true}
use Rattle.sqlite.specs.Collation.TheVariants.{Binary}
use Rattle.sqlite.specs.declared.types.Value.TheVariants.{Int, Text}
use Rattle.sqlite.specs.Order.{Row, column}
use Rattle.sqlite_value.specs.Order.{bytes}
use Rattle.sqlite_value.specs.Keys.{joined}
use Rattle.sqlite.specs.Ops.{binary}
use Rattle.sqlite_sql.specs.Ops.{fits_i64}
use Rattle.sqlite_sql.specs.declared.ops.ArithOp.TheVariants as arithmetic
use Rattle.sqlite_sql.specs.declared.ops.CompareOp.TheVariants as compare
use Rattle.sqlite_sql.specs.declared.ops.BinaryOp.TheVariants as by
use Rattle.sqlite.specs.Cast.{cast_row}
use Rattle.sqlite.specs.Tree.{rowid}
use Rattle.sqlite.specs.Term.{Term, lit, col, op2}
use Rattle.sqlite.specs.Effect.{Database, IsDatabase}
use Rattle.sqlite.specs.Listing.{understood}
use Rattle.sqlite_tied.specs.Compute.{everything}
use Rattle.sqlite_schema.specs.Names.{same_name}
use Rattle.sqlite_trees.specs.View.{is_int}
use Rattle.sqlite_rules.specs.Edit.{id_in}
use Rattle.sqlite_rules.specs.Lists.{Has}
use Rattle.sqlite_rules.proofs.TableLemmas.{int_is}
use Rattle.sql_laws.specs.PlainQueries.{passes, shows}
use Rattle.sql_laws.proofs.Comparisons.{ints_compared}
use Rattle.sql_schema.specs.Rows.{text_or_null, d_unit_row}
use Rattle.sql_schema.specs.Schema.{d_unit_table, d_tally_table}
use Rattle.sql_schema.specs.Layouts.{by_domain, Layout, made_last, from_first, from_second, schema_of, HasLayoutOf, placed, rows_named}
use Rattle.sql_schema.proofs.Layouts.{d_unit_placed, d_tally_placed}
use Rattle.sql_schema.proofs.Insertions.{cast_int}
use Rattle.sql_schema.proofs.TextKeys.{holds_text, holds_text_or_null, holds_int}
use Rattle.sql_schema.proofs.DomainRows.{d_unit_texts, d_tally_texts}
use Rattle.sql_statements.specs.Renewed.{translated_state, approved_state}
use Rattle.sql_statements.specs.DomainRenewed.{is_approved_in_domain, unapproved_in_domain, HaveNextRevisionsInDomains, unapproved_tally, HaveTallySums}
use Rattle.sql_statements.proofs.Untouched.{none_refers}
use Rattle.sql_statements.proofs.Renewals.{IsRenewal, RenewsOf, RenewsAloneOf, renews_rows, renews_alone_rows}
use Rattle.sql_statements.proofs.DomainUnitPuts.{cast_unit}
use Rattle.sql_statements.proofs.TallyRows.{cast_tally}

-- ---- units

abbrev units_text : List ℕ
units_text = codes "UPDATE d_unit SET state = 2, revision = revision + 1 WHERE state = 3"

abbrev units_terms : List Term
units_terms = op2 (by.Compare compare.Eq Binary) (col 1 6) (lit (Int approved_state)) ∷ []

abbrev unit_becomes : List Term
unit_becomes =
    col 1 0 ∷ col 1 0 ∷ col 1 1 ∷ col 1 2 ∷ col 1 3 ∷ col 1 4 ∷ col 1 5 ∷ lit (Int translated_state) ∷ col 1 7 ∷ op2 (by.Arith arithmetic.Add) (col 1 8) (lit (Int (pos 1))) ∷ col 1 9 ∷ col 1 10 ∷ []

units_are : (layout : Layout by_domain) → IsRenewal layout units_text d_unit_table units_terms unit_becomes
unfolding understood same_name joined everything
units_are made_last = record { is_placed = d_unit_placed made_last; is = refl; plain = (refl, refl); none = none_refers (schema_of made_last) (placed made_last d_unit_table).tree (λ olds news. refl); no_rows = refl }
units_are from_first = record { is_placed = d_unit_placed from_first; is = refl; plain = (refl, refl); none = none_refers (schema_of from_first) (placed from_first d_unit_table).tree (λ olds news. refl); no_rows = refl }
units_are from_second = record { is_placed = d_unit_placed from_second; is = refl; plain = (refl, refl); none = none_refers (schema_of from_second) (placed from_second d_unit_table).tree (λ olds news. refl); no_rows = refl }

-- a sum that 64 bits hold
summed : (m n : ℤ) → fits_i64 (m +ℤ n) ≡ true → binary (by.Arith arithmetic.Add) (Int m) (Int n) ≡ Int (m +ℤ n)
unfolding binary
summed m n fits = rw fits refl

module _ (db : Database) (has : HasLayoutOf by_domain db) (sound : IsDatabase db) (row : Row) (there : Has (rows_named db (codes "d_unit")) row) where
  state_is : column row 6 ≡ Int (id_in (column row 6))
  state_is = holds_int d_unit_table d_unit_placed 5 (codes "state") refl db has sound row there refl

  obsolete_is : column row 7 ≡ Int (id_in (column row 7))
  obsolete_is = holds_int d_unit_table d_unit_placed 6 (codes "obsolete") refl db has sound row there refl

  revision_is : column row 8 ≡ Int (id_in (column row 8))
  revision_is = holds_int d_unit_table d_unit_placed 7 (codes "revision") refl db has sound row there refl

  forms_are : column row 5 ≡ Text (bytes (column row 5))
  forms_are = holds_text d_unit_table d_unit_placed 4 (codes "forms") refl db has sound row there refl

  comment_is : column row 9 ≡ Text (bytes (column row 9))
  comment_is = holds_text d_unit_table d_unit_placed 8 (codes "comment") refl db has sound row there refl

  previous_is : column row 10 ≡ Text (bytes (column row 10))
  previous_is = holds_text d_unit_table d_unit_placed 9 (codes "previous") refl db has sound row there refl

  plural_is : (plural : Option (List ℕ)) × (column row 4 ≡ text_or_null plural)
  plural_is = elim (holds_text_or_null d_unit_table d_unit_placed 3 (codes "plural") refl db has sound row there refl) [
    | inl none ↦ (None, none)
    | inr some ↦ (Some some.0, some.1)
  ]

  -- whether the text tests it is whether it is approved
  unit_tested : passes [] units_terms row ≡ is_approved_in_domain row
  unit_tested = and-true _ ∙ ints_compared (column row 6) (Int approved_state) (subst (λ v. is_int v ≡ true) (sym state_is) refl) refl

  -- the unit's row, column by column
  unit_becomes_it : (whole : is_int (rowid row) ≡ true) → fits_i64 (id_in (column row 8) +ℤ pos 1) ≡ true → cast_row d_unit_table (drop 1 (shows [] unit_becomes row)) ≡ unapproved_in_domain row
  unit_becomes_it whole fits =
      let plus : binary (by.Arith arithmetic.Add) (column row 8) (Int (pos 1)) ≡ Int (id_in (column row 8) +ℤ pos 1) = subst (λ v. binary (by.Arith arithmetic.Add) v (Int (pos 1)) ≡ Int (id_in (column row 8) +ℤ pos 1)) (sym revision_is) (summed _ (pos 1) fits) in
      let cells : unapproved_in_domain row
      ≡ Int (id_in (rowid row)) ∷ d_unit_row (bytes (column row 1)) (bytes (column row 2)) (bytes (column row 3)) plural_is.0 (bytes (column row 5)) translated_state (id_in (column row 7)) (id_in (column row 8) +ℤ pos 1) (bytes (column row 9)) (bytes (column row 10)) =
      λ i. int_is (rowid row) whole i ∷ d_unit_texts.0 db has sound row there i ∷ d_unit_texts.1.0 db has sound row there i ∷ d_unit_texts.1.1.0 db has sound row there i ∷ plural_is.1 i ∷ forms_are i ∷ Int translated_state ∷ obsolete_is i ∷ Int (id_in (column row 8) +ℤ pos 1) ∷ comment_is i ∷ previous_is i ∷ [] in
      let given : drop 1 (shows [] unit_becomes row) ≡ unapproved_in_domain row = λ i. column row 0 ∷ column row 1 ∷ column row 2 ∷ column row 3 ∷ column row 4 ∷ column row 5 ∷ Int translated_state ∷ column row 7 ∷ plus i ∷ column row 9 ∷ column row 10 ∷ [] in
      ap (cast_row d_unit_table) (given ∙ cells) ∙ cast_unit _ _ _ plural_is.0 _ _ _ _ _ _ (Int (id_in (rowid row))) (cast_int (id_in (rowid row))) ∙ sym cells

pub unapproves_units : RenewsOf by_domain units_text [] (codes "d_unit") is_approved_in_domain unapproved_in_domain HaveNextRevisionsInDomains
unapproves_units = renews_rows units_are [] is_approved_in_domain unapproved_in_domain HaveNextRevisionsInDomains (λ row. refl) unit_tested
    (λ db has sound premise row there whole passed. unit_becomes_it db has sound row there whole (premise row there passed))

-- ---- tallies

abbrev tallies_text : List ℕ
tallies_text = codes "UPDATE d_tally SET translated = translated + approved, approved = 0"

abbrev tally_becomes : List Term
tally_becomes = col 1 0 ∷ col 1 0 ∷ col 1 1 ∷ col 1 2 ∷ col 1 3 ∷ col 1 4 ∷ op2 (by.Arith arithmetic.Add) (col 1 5) (col 1 6) ∷ lit (Int (pos 0)) ∷ col 1 7 ∷ col 1 8 ∷ col 1 9 ∷ []

tallies_are : (layout : Layout by_domain) → IsRenewal layout tallies_text d_tally_table [] tally_becomes
unfolding understood same_name joined everything
tallies_are made_last = record { is_placed = d_tally_placed made_last; is = refl; plain = (refl, refl); none = none_refers (schema_of made_last) (placed made_last d_tally_table).tree (λ olds news. refl); no_rows = refl }
tallies_are from_first = record { is_placed = d_tally_placed from_first; is = refl; plain = (refl, refl); none = none_refers (schema_of from_first) (placed from_first d_tally_table).tree (λ olds news. refl); no_rows = refl }
tallies_are from_second = record { is_placed = d_tally_placed from_second; is = refl; plain = (refl, refl); none = none_refers (schema_of from_second) (placed from_second d_tally_table).tree (λ olds news. refl); no_rows = refl }

module _ (db : Database) (has : HasLayoutOf by_domain db) (sound : IsDatabase db) (row : Row) (there : Has (rows_named db (codes "d_tally")) row) where
  untranslated_is : column row 3 ≡ Int (id_in (column row 3))
  untranslated_is = holds_int d_tally_table d_tally_placed 2 (codes "untranslated") refl db has sound row there refl

  needs_editing_is : column row 4 ≡ Int (id_in (column row 4))
  needs_editing_is = holds_int d_tally_table d_tally_placed 3 (codes "needs_editing") refl db has sound row there refl

  translated_is : column row 5 ≡ Int (id_in (column row 5))
  translated_is = holds_int d_tally_table d_tally_placed 4 (codes "translated") refl db has sound row there refl

  approved_is : column row 6 ≡ Int (id_in (column row 6))
  approved_is = holds_int d_tally_table d_tally_placed 5 (codes "approved") refl db has sound row there refl

  read_only_is : column row 7 ≡ Int (id_in (column row 7))
  read_only_is = holds_int d_tally_table d_tally_placed 6 (codes "read_only") refl db has sound row there refl

  suggestions_are : column row 8 ≡ Int (id_in (column row 8))
  suggestions_are = holds_int d_tally_table d_tally_placed 7 (codes "suggestions") refl db has sound row there refl

  tally_obsolete_is : column row 9 ≡ Int (id_in (column row 9))
  tally_obsolete_is = holds_int d_tally_table d_tally_placed 8 (codes "obsolete") refl db has sound row there refl

  tally_becomes_it : (whole : is_int (rowid row) ≡ true) → fits_i64 (id_in (column row 5) +ℤ id_in (column row 6)) ≡ true → cast_row d_tally_table (drop 1 (shows [] tally_becomes row)) ≡ unapproved_tally row
  tally_becomes_it whole fits =
      let sum = id_in (column row 5) +ℤ id_in (column row 6) in
      let plus : binary (by.Arith arithmetic.Add) (column row 5) (column row 6) ≡ Int sum = (λ i. binary (by.Arith arithmetic.Add) (translated_is i) (approved_is i)) ∙ summed _ _ fits in
      let cells : unapproved_tally row ≡ Int (id_in (rowid row)) ∷ Text (bytes (column row 1)) ∷ Text (bytes (column row 2)) ∷ Int (id_in (column row 3)) ∷ Int (id_in (column row 4)) ∷ Int sum ∷ Int (pos 0)
      ∷ Int (id_in (column row 7)) ∷ Int (id_in (column row 8)) ∷ Int (id_in (column row 9)) ∷ [] =
      λ i. int_is (rowid row) whole i ∷ d_tally_texts.0 db has sound row there i ∷ d_tally_texts.1.0 db has sound row there i ∷ untranslated_is i ∷ needs_editing_is i ∷ Int sum ∷ Int (pos 0) ∷ read_only_is i ∷ suggestions_are i ∷ tally_obsolete_is i ∷ [] in
      let given : drop 1 (shows [] tally_becomes row) ≡ unapproved_tally row = λ i. column row 0 ∷ column row 1 ∷ column row 2 ∷ column row 3 ∷ column row 4 ∷ plus i ∷ Int (pos 0) ∷ column row 7 ∷ column row 8 ∷ column row 9 ∷ [] in
      ap (cast_row d_tally_table) (given ∙ cells) ∙ cast_tally _ _ _ _ _ _ _ _ _ (Int (id_in (rowid row))) (cast_int (id_in (rowid row))) ∙ sym cells

pub unapproves_tallies : RenewsAloneOf by_domain tallies_text [] (codes "d_tally") (λ row. true) unapproved_tally HaveTallySums
unapproves_tallies = renews_alone_rows tallies_are [] (λ row. true) unapproved_tally HaveTallySums (λ row. refl) (λ db has sound row there. refl)
    (λ db has sound premise row there whole passed. tally_becomes_it db has sound row there whole (premise row there))
