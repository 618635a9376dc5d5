-- What is counted of a list's units so far, and of what is left.
use Rattle.std.proofs.Common.{◌≡◌, ℕ, ◌+◌, ◌<◌, ◌≤◌, List, [], ◌∷◌, length, drop, get_or, sym, ap, ◌∙◌, add-one}
use Rattle.std.proofs.Math.Seq.{drop-cons}
use Rattle.std.proofs.lemmas.List.{drop_all}
use Rattle.po_text.specs.declared.entry.Entry.{Entry}
use Rattle.units.specs.declared.unit.Unit.{Unit}
use Rattle.office_specification.specs.declared.tally.Tally.{Tally}
use Rattle.office_specification.specs.Tally.{counts_in}
use Rattle.office_specification.specs.Counting.{none_counted, plus}
use Rattle.office_specification.proofs.tallies.Countings.{none_and, and_none, next_counted}

module _ (template : List Entry) (units : List Unit) where
  pub none_yet : (tally : Tally) → tally ≡ none_counted → plus tally (counts_in template units) ≡ counts_in template units
  none_yet tally none = ap (λ t. plus t (counts_in template units)) none ∙ none_and (counts_in template units)

  pub one_more_counted : (i : ℕ) (unit : Unit) (before after : Tally) → i < length units → unit ≡ get_or units i unit → after ≡ plus before (counts_in template (unit ∷ []))
      → plus before (counts_in template (drop i units)) ≡ counts_in template units → plus after (counts_in template (drop (i + 1) units)) ≡ counts_in template units
  one_more_counted i unit before after within is adds so_far =
      let next : drop i units ≡ unit ∷ drop (i + 1) units = drop-cons units i unit within ∙ (λ k. sym is k ∷ drop (sym (add-one i) k) units) in
      ap (λ t. plus t (counts_in template (drop (i + 1) units))) adds ∙ (next_counted before template unit (drop (i + 1) units) (drop i units) next ∙ so_far)

  pub all_counted : (i : ℕ) (tally : Tally) → length units ≤ i → plus tally (counts_in template (drop i units)) ≡ counts_in template units → tally ≡ counts_in template units
  all_counted i tally past so_far = sym (and_none tally template) ∙ (ap (λ us. plus tally (counts_in template us)) (sym (drop_all i units past)) ∙ so_far)
