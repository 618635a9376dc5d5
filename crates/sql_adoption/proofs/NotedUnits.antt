-- What noting one unit more comes to, and one suggestion more.
use Rattle.std.proofs.Common.{◌≡◌, ◌⊎◌, ◌<◌, ◌≤◌, ◌+◌, ◌&&◌, ℕ, Bool, true, false, not, cond, List, [], ◌∷◌, length, inl, inr, refl, sym, ap, subst, ◌∙◌, ◌==◌, arith}
use Rattle.std.specs.Prelude.{◌↔◌, nat_le, sum_by, unwrap_or, Option, Some, None, pos, negsuc}
use Rattle.std.specs.Bool.{Decides}
use Rattle.std.proofs.lemmas.Bool.Decides.{Decides-eqb, Decides-like}
use Rattle.std.proofs.lemmas.List.Elements.{All-nil, All-cons}
use Rattle.sqlite.specs.declared.types.Value.{Value}
use Rattle.sqlite.specs.declared.types.Value.TheVariants.{Null, Int, Real, Text as Words, Blob}
use Rattle.sqlite.specs.Order.{Row, column}
use Rattle.po_text.specs.declared.entry.Entry.{Entry}
use Rattle.units.specs.Limits.{suggestion_limit, unit_limit}
use Rattle.units.specs.Project.{Project, Place, entry_of}
use Rattle.units.specs.declared.unit.Unit.{Unit}
use Rattle.plural_expr.specs.Values.{Rule}
use Rattle.office_specification.specs.Counting.{plus}
use Rattle.office_specification.specs.Tally.{counts_in, current}
use Rattle.office_specification.specs.declared.tally.Tally.{Tally}
use Rattle.rule_tests.proofs.Tests.{three_tell}
use Rattle.rule_tests.proofs.UnitTests.{Decides-le}
use Rattle.rule_tests.specs.Bare.{FitsEntry}
use Rattle.rule_tests.specs.Parts.{IsPlaced}
use Rattle.sql_meaning.specs.Meaning.{key_at}
use Rattle.sql_meaning.specs.OfficeShown.{place_shown}
use Rattle.sql_meaning.specs.Values.{flag_at, integer_of, natural, natural_at}
use Rattle.sql_decoding.specs.RowTests.{is_suggestion_row, is_unit_row}
use Rattle.sql_adoption.specs.TookSuggestions.{TookSuggestions}
use Rattle.sql_adoption.specs.TookUnits.{TookUnits, BrokenUnits, is_in_use, with_counts}
use Rattle.sql_adoption.specs.WalkedUnits.{unit_alone, IsKeptUnit, IsKeptSuggestion, MayHave}
use Rattle.sql_adoption.specs.declared.unit_sinks.Told.{Told}

-- ---- a number in a column

natural_of : (v : Value) (o : Option ℕ) → ((n : ℕ) → (o ≡ Some n) ↔ (v ≡ Int (pos n))) → unwrap_or o 0 ≡ natural (integer_of v)
natural_of v (Some n) told = sym (ap (λ w. natural (integer_of w)) ((told n).0 refl))
natural_of Null None told = refl
natural_of (Int (pos n)) None told = absurd (let no : None ≡ Some n = (told n).1 refl in cc)
natural_of (Int (negsuc n)) None told = refl
natural_of (Real x) None told = refl
natural_of (Words t) None told = refl
natural_of (Blob b) None told = refl

pub natural_told : (place : ℕ) (row : Row) (o : Option ℕ) → ((n : ℕ) → (o ≡ Some n) ↔ (column row place ≡ Int (pos n))) → unwrap_or o 0 ≡ natural_at place row
natural_told place row o told = natural_of (column row place) o told

-- ---- units

pub may_none : (unit : Unit) (n : ℕ) → unit.obsolete ≡ true → Decides (n == 0) (MayHave unit n)
may_none unit n obsolete = Decides-like (n == 0) (λ e. (subst (λ m. m ≤ suggestion_limit) (sym e) (omega arith), λ off. e)) (λ may. may.1 obsolete) (Decides-eqb n 0)

pub may_some : (unit : Unit) (n : ℕ) → unit.obsolete ≡ false → Decides (nat_le n suggestion_limit) (MayHave unit n)
may_some unit n current =
    Decides-like (nat_le n suggestion_limit) (λ few. (few, λ obsolete. absurd (let no : true ≡ false = sym obsolete ∙ current in cc))) (λ may. may.0) (Decides-le n suggestion_limit)

pub kept_told : (project : Project) (row : Row) (place : Place) (unit : Unit) (n : ℕ) (r a b c : Bool) → place ≡ place_shown row → unit ≡ unit_alone row → n ≡ natural_at 9 row → r ≡ (a && (b && c))
    → Decides a (IsPlaced project place unit) → Decides b (FitsEntry project.template place.1 unit) → Decides c (MayHave unit n) → Decides r (IsKeptUnit project row)
kept_told project row place unit n r a b c at is count told placed fits may =
    three_tell {P = IsPlaced project (place_shown row) (unit_alone row)} {Q = FitsEntry project.template (key_at 8 row) (unit_alone row)} {R = MayHave (unit_alone row) (natural_at 9 row)} r a b c told
    (λ h. record { placed = h.0; fits = h.1.0; few = h.1.1.0; none = h.1.1.1 }) (λ keep. (keep.placed, (keep.fits, (keep.few, keep.none))))
    (subst (λ (u : Unit). Decides a (IsPlaced project (place_shown row) u)) is (subst (λ (p : Place). Decides a (IsPlaced project p unit)) at placed))
    (subst (λ (u : Unit). Decides b (FitsEntry project.template (key_at 8 row) u)) is (subst (λ (p : Place). Decides b (FitsEntry project.template p.1 unit)) at fits))
    (subst (λ m. Decides c (MayHave (unit_alone row) m)) count (subst (λ (u : Unit). Decides c (MayHave u n)) is may))

module _ (project : Project) (before : Told) (row : Row) (stands : is_unit_row row ≡ true) where
  pub noted_nothing : before.kept ≡ false → TookUnits project before (row ∷ []) before
  noted_nothing off = record {
    stand = All-cons (λ row. is_unit_row row ≡ true) row [] stands (All-nil (λ row. is_unit_row row ≡ true));
    counted = λ kept. absurd (let no : true ≡ false = sym kept ∙ off in cc);
    broken = λ broken kept. absurd (let no : true ≡ false = sym kept ∙ off in cc);
  }

  pub noted_broken : (after : Told) → after.kept ≡ false → (¬ IsKeptUnit project row) ⊎ (unit_limit ≤ before.units) → TookUnits project before (row ∷ []) after
  noted_broken after off why = record {
    stand = All-cons (λ row. is_unit_row row ≡ true) row [] stands (All-nil (λ row. is_unit_row row ≡ true));
    counted = λ kept. absurd (let no : true ≡ false = sym kept ∙ off in cc);
    broken = λ broken kept. by why;
  }
    where
      by : (¬ IsKeptUnit project row) ⊎ (unit_limit ≤ before.units) → BrokenUnits project before.units (row ∷ [])
      by (inl not_kept) = inl (row, inl refl, not_kept)
      by (inr many) = inr (omega arith)

  pub noted_kept : (after : Told) → before.kept ≡ true → after.kept ≡ true → IsKeptUnit project row → before.units < unit_limit → after.units ≡ before.units + 1
      → after.current ≡ before.current + cond (is_in_use row) 1 0 → after.tally ≡ with_counts project.template before.tally row → TookUnits project before (row ∷ []) after
  noted_kept after was now keeps few units now_current tally = record {
    stand = All-cons (λ row. is_unit_row row ≡ true) row [] stands (All-nil (λ row. is_unit_row row ≡ true));
    counted = λ kept. record {
      kept = was;
      each = All-cons (IsKeptUnit project) row [] keeps (All-nil (IsKeptUnit project));
      units = units;
      few = λ h. omega arith;
      current = now_current ∙ ap (λ n. before.current + n) (sym (one_in_use (is_in_use row)));
      tally = tally;
    };
    broken = λ broken kept. absurd (let no : true ≡ false = sym now ∙ broken in cc);
  }
    where
      one_in_use : (b : Bool) → length (cond b (row ∷ []) []) ≡ cond b 1 0
      one_in_use true = refl
      one_in_use false = refl

-- ---- what a unit counts

no_suggestion : (unit : Unit) → unit.suggestions ≡ [] → sum_by (λ u. length u.suggestions) (current (unit ∷ [])) ≡ 0
no_suggestion unit none = by unit.obsolete
  where
    by : (b : Bool) → sum_by (λ u. length u.suggestions) (cond (not b) (unit ∷ []) []) ≡ 0
    by true = refl
    by false = ap (λ s. 0 + length s) none

module _ (template : List Entry) (tally : Tally) (row : Row) where
  abbrev alone : Tally
  alone = plus tally (counts_in template (unit_alone row ∷ []))

  pub obsolete_counted : flag_at 3 row ≡ true → alone ≡ with_counts template tally row
  obsolete_counted obsolete =
      let none = no_suggestion (unit_alone row) refl in
      let same : tally.suggestions + sum_by (λ u. length u.suggestions) (current (unit_alone row ∷ [])) ≡ tally.suggestions + cond (flag_at 3 row) 0 (natural_at 9 row) =
      ap (λ n. tally.suggestions + n) (none ∙ sym (ap (λ b. cond b 0 (natural_at 9 row)) obsolete)) in
      λ i. record alone { suggestions = same i }

  current_counted : flag_at 3 row ≡ false → record alone { suggestions = alone.suggestions + natural_at 9 row } ≡ with_counts template tally row
  current_counted in_use =
      let none = no_suggestion (unit_alone row) refl in
      let count : cond (flag_at 3 row) 0 (natural_at 9 row) ≡ natural_at 9 row = ap (λ b. cond b 0 (natural_at 9 row)) in_use in
      let same : (tally.suggestions + sum_by (λ u. length u.suggestions) (current (unit_alone row ∷ []))) + natural_at 9 row ≡ tally.suggestions + cond (flag_at 3 row) 0 (natural_at 9 row) = omega arith in
      λ i. record alone { suggestions = same i }

pub counted_more : (template : List Entry) (old mid new : Tally) (row : Row) (n : ℕ) → mid ≡ plus old (counts_in template (unit_alone row ∷ [])) → new ≡ record mid { suggestions = mid.suggestions + n } → n ≡ natural_at 9 row
    → flag_at 3 row ≡ false → new ≡ with_counts template old row
counted_more template old mid new row n alone added count in_use = added ∙ (λ i. record (alone i) { suggestions = (alone i).suggestions + count i }) ∙ current_counted template old row in_use

pub unit_added : (template : List Entry) (old mid : Tally) (row : Row) (place : Place) (unit : Unit) (found : Option Entry) → place ≡ place_shown row → unit ≡ unit_alone row → found ≡ entry_of template place.1
    → ((t : List Entry) → found ≡ entry_of t unit.key → mid ≡ plus old (counts_in t (unit ∷ []))) → mid ≡ plus old (counts_in template (unit_alone row ∷ []))
unit_added template old mid row place unit found at is found_so told =
    told template (found_so ∙ ap (entry_of template) (ap (λ (p : Place). p.1) at ∙ sym (ap (λ (u : Unit). u.key) is))) ∙ ap (λ (u : Unit). plus old (counts_in template (u ∷ []))) is

-- ---- suggestions

pub suggestion_noted : (rule : Rule) (before has after : Bool) (row : Row) → after ≡ (before && has) → is_suggestion_row row ≡ true → (has ≡ true → IsKeptSuggestion rule row) → (IsKeptSuggestion rule row → has ≡ true)
    → TookSuggestions rule before (row ∷ []) after
suggestion_noted rule true true after row told stands forth back = record {
  stand = All-cons (λ row. is_suggestion_row row ≡ true) row [] stands (All-nil (λ row. is_suggestion_row row ≡ true));
  kept = λ kept. (refl, All-cons (IsKeptSuggestion rule) row [] (forth refl) (All-nil (IsKeptSuggestion rule)));
  broken = λ broken kept. absurd (let no : true ≡ false = sym told ∙ broken in cc);
}
suggestion_noted rule true false after row told stands forth back = record {
  stand = All-cons (λ row. is_suggestion_row row ≡ true) row [] stands (All-nil (λ row. is_suggestion_row row ≡ true));
  kept = λ kept. absurd (let no : true ≡ false = sym kept ∙ told in cc);
  broken = λ broken kept. (row, inl refl, λ it. absurd (let no : false ≡ true = back it in cc));
}
suggestion_noted rule false has after row told stands forth back = record {
  stand = All-cons (λ row. is_suggestion_row row ≡ true) row [] stands (All-nil (λ row. is_suggestion_row row ≡ true));
  kept = λ kept. absurd (let no : true ≡ false = sym kept ∙ told in cc);
  broken = λ broken kept. absurd (let no : false ≡ true = kept in cc);
}
