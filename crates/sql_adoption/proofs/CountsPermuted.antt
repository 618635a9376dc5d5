-- What is counted one after the other, in whichever order.
use Rattle.std.proofs.Common.{◌≡◌, Bool, true, false, cond, List, [], ◌∷◌, map, filter, fold, refl, sym, ap, ◌∙◌}
use Rattle.std.specs.Prelude.{sum_by}
use Rattle.std.specs.List.Sorted.{IsPermutation}
use Rattle.std.proofs.lemmas.List.Sorted.{sum_by-IsPermutation}
use Rattle.std.proofs.lemmas.List.Sums.{sum_by-cons}
use Rattle.po_text.specs.declared.entry.Entry.{Entry}
use Rattle.units.specs.declared.unit.Unit.{Unit}
use Rattle.office_specification.specs.Counting.{none_counted, plus}
use Rattle.office_specification.specs.Tally.{counts_in}
use Rattle.office_specification.specs.declared.tally.Tally.{Tally}
use Rattle.office_specification.proofs.tallies.Countings.{and_none, none_and, plus_assoc, counts_more}

-- the counts of each of these, one after the other
abbrev pub add_all : {X : Type 0} → (X → Tally) → Tally → List X → Tally
add_all counts = fold (λ tally x. plus tally (counts x))

module _ {X : Type 0} (counts : X → Tally) where
  abbrev sums : List X → Tally
  sums xs = record {
    approved = sum_by (λ x. (counts x).approved) xs;
    needs_editing = sum_by (λ x. (counts x).needs_editing) xs;
    obsolete = sum_by (λ x. (counts x).obsolete) xs;
    read_only = sum_by (λ x. (counts x).read_only) xs;
    suggestions = sum_by (λ x. (counts x).suggestions) xs;
    translated = sum_by (λ x. (counts x).translated) xs;
    untranslated = sum_by (λ x. (counts x).untranslated) xs;
  }

  more : (x : X) (xs : List X) → plus (counts x) (sums xs) ≡ sums (x ∷ xs)
  more x xs = λ i. record {
    approved = sym (sum_by-cons (λ x. (counts x).approved) x xs) i;
    needs_editing = sym (sum_by-cons (λ x. (counts x).needs_editing) x xs) i;
    obsolete = sym (sum_by-cons (λ x. (counts x).obsolete) x xs) i;
    read_only = sym (sum_by-cons (λ x. (counts x).read_only) x xs) i;
    suggestions = sym (sum_by-cons (λ x. (counts x).suggestions) x xs) i;
    translated = sym (sum_by-cons (λ x. (counts x).translated) x xs) i;
    untranslated = sym (sum_by-cons (λ x. (counts x).untranslated) x xs) i;
  }

  added : (tally : Tally) (xs : List X) → add_all counts tally xs ≡ plus tally (sums xs)
  added tally [] = sym (and_none tally [])
  added tally (x ∷ xs) = added (plus tally (counts x)) xs ∙ plus_assoc tally (counts x) (sums xs) ∙ ap (plus tally) (more x xs)

  pub added_permuted : (tally : Tally) (xs ys : List X) → IsPermutation xs ys → add_all counts tally ys ≡ add_all counts tally xs
  added_permuted tally xs ys same = added tally ys ∙ ap (plus tally) sums_same ∙ sym (added tally xs)
    where
      sums_same : sums ys ≡ sums xs
      sums_same = λ i. record {
        approved = sum_by-IsPermutation (λ x. (counts x).approved) xs ys same i;
        needs_editing = sum_by-IsPermutation (λ x. (counts x).needs_editing) xs ys same i;
        obsolete = sum_by-IsPermutation (λ x. (counts x).obsolete) xs ys same i;
        read_only = sum_by-IsPermutation (λ x. (counts x).read_only) xs ys same i;
        suggestions = sum_by-IsPermutation (λ x. (counts x).suggestions) xs ys same i;
        translated = sum_by-IsPermutation (λ x. (counts x).translated) xs ys same i;
        untranslated = sum_by-IsPermutation (λ x. (counts x).untranslated) xs ys same i;
      }

  -- of those that pass a test, or of all, where the others count nothing
  pub added_passing : (test : X → Bool) (tally : Tally) (xs : List X) → add_all counts tally (filter test xs) ≡ add_all (λ x. cond (test x) (counts x) none_counted) tally xs
  added_passing test tally [] = refl
  added_passing test tally (x ∷ xs) =
      elim (test x) as (λ b. add_all counts tally (cond b (x ∷ filter test xs) (filter test xs)) ≡ add_all (λ x. cond (test x) (counts x) none_counted) (plus tally (cond b (counts x) none_counted)) xs) [
        | true ↦ added_passing test (plus tally (counts x)) xs
        | false ↦ added_passing test tally xs ∙ ap (λ t. add_all (λ x. cond (test x) (counts x) none_counted) t xs) (sym (and_none tally []))
      ]

pub added_mapped : {X Y : Type 0} (counts : Y → Tally) (f : X → Y) (tally : Tally) (xs : List X) → add_all counts tally (map f xs) ≡ add_all (λ x. counts (f x)) tally xs
added_mapped counts f tally [] = refl
added_mapped counts f tally (x ∷ xs) = added_mapped counts f (plus tally (counts (f x))) xs

-- units are counted one after the other
pub units_added : (template : List Entry) (tally : Tally) (units : List Unit) → add_all (λ unit. counts_in template (unit ∷ [])) tally units ≡ plus tally (counts_in template units)
units_added template tally [] = sym (and_none tally template)
units_added template tally (unit ∷ units) =
    units_added template (plus tally (counts_in template (unit ∷ []))) units ∙ plus_assoc tally (counts_in template (unit ∷ [])) (counts_in template units) ∙ ap (plus tally) (sym (counts_more template unit units))

pub units_counted : (template : List Entry) (units : List Unit) → add_all (λ unit. counts_in template (unit ∷ [])) none_counted units ≡ counts_in template units
units_counted template units = units_added template none_counted units ∙ none_and (counts_in template units)
