-- What one unit counts, by the values that are read of it, and what a suggestion more on it does.
use Rattle.std.proofs.Common.{◌≡◌, ℕ, ◌+◌, ◌-◌, [], ◌∷◌, ◌++◌, List, Bool, true, false, length, refl, sym, ap, ◌∙◌, zero-add, arith}
use Rattle.std.proofs.lemmas.List.{length-append}
use Rattle.po_text.specs.declared.entry.Entry.{Entry}
use Rattle.units.specs.Project.{entry_of}
use Rattle.units.specs.Units.{shown_state}
use Rattle.units.specs.declared.unit.Unit.{Unit}
use Rattle.units.specs.declared.unit.ShownState.{ShownState}
use Rattle.units.specs.declared.unit.ShownState.TheVariants.{Untranslated, NeedsEditing, Translated, Approved, ReadOnly}
use Rattle.office_specification.specs.declared.tally.Tally.{Tally}
use Rattle.office_specification.specs.Tally.{counts_in}
use Rattle.office_specification.specs.Counting.{none_counted, one_more}
use Rattle.office_specification.proofs.tallies.Countings.{none_and, adds_obsolete, adds_shown}
use Rattle.tables.specs.Tallies.{counted, moved}
use Rattle.sql_commits.specs.Counted.{CountsOneMore}

pub obsolete_counted : (template : List Entry) (unit : Unit) → unit.obsolete ≡ true → record none_counted { obsolete = 1 } ≡ counted template unit
obsolete_counted template unit is = adds_obsolete none_counted template unit is ∙ none_and (counts_in template (unit ∷ []))

-- it has so many suggestions, and is shown in this state
pub shown_counted : (template : List Entry) (unit : Unit) (n : ℕ) (state : ShownState) → unit.obsolete ≡ false → length unit.suggestions ≡ n → state ≡ shown_state (entry_of template unit.key) unit
    → one_more state (record none_counted { suggestions = n }) ≡ counted template unit
shown_counted template unit n state current are is =
    ap (λ s. one_more s (record none_counted { suggestions = n })) is
    ∙ ap (λ k. one_more (shown_state (entry_of template unit.key) unit) (record none_counted { suggestions = k })) (sym are ∙ sym (zero-add (length unit.suggestions)))
    ∙ adds_shown none_counted template unit current ∙ none_and (counts_in template (unit ∷ []))

-- ---- a suggestion more

-- a count less what it is counted for again is as it was
again : (n m : ℕ) → n + 0 - 0 ≡ n + m - m
again n m = omega arith

one_more_of : (n m : ℕ) → n + 1 - 0 ≡ n + (m + 1) - m
one_more_of n m = omega arith

-- all counts but that of suggestions move as they do by nothing
abbrev so : Tally → Tally → Tally → Type 0
so before was is = moved before none_counted (record none_counted { suggestions = 1 }) ≡ moved before was is

shown_more : (state : ShownState) (n : ℕ) (before : Tally) → so before (one_more state (record none_counted { suggestions = n })) (one_more state (record none_counted { suggestions = n + 1 }))
shown_more Untranslated n before = λ i. record {
  approved = again before.approved 0 i;
  needs_editing = again before.needs_editing 0 i;
  obsolete = again before.obsolete 0 i;
  read_only = again before.read_only 0 i;
  suggestions = one_more_of before.suggestions n i;
  translated = again before.translated 0 i;
  untranslated = again before.untranslated 1 i;
}
shown_more NeedsEditing n before = λ i. record {
  approved = again before.approved 0 i;
  needs_editing = again before.needs_editing 1 i;
  obsolete = again before.obsolete 0 i;
  read_only = again before.read_only 0 i;
  suggestions = one_more_of before.suggestions n i;
  translated = again before.translated 0 i;
  untranslated = again before.untranslated 0 i;
}
shown_more Translated n before = λ i. record {
  approved = again before.approved 0 i;
  needs_editing = again before.needs_editing 0 i;
  obsolete = again before.obsolete 0 i;
  read_only = again before.read_only 0 i;
  suggestions = one_more_of before.suggestions n i;
  translated = again before.translated 1 i;
  untranslated = again before.untranslated 0 i;
}
shown_more Approved n before = λ i. record {
  approved = again before.approved 1 i;
  needs_editing = again before.needs_editing 0 i;
  obsolete = again before.obsolete 0 i;
  read_only = again before.read_only 0 i;
  suggestions = one_more_of before.suggestions n i;
  translated = again before.translated 0 i;
  untranslated = again before.untranslated 0 i;
}
shown_more ReadOnly n before = λ i. record {
  approved = again before.approved 0 i;
  needs_editing = again before.needs_editing 0 i;
  obsolete = again before.obsolete 0 i;
  read_only = again before.read_only 1 i;
  suggestions = one_more_of before.suggestions n i;
  translated = again before.translated 0 i;
  untranslated = again before.untranslated 0 i;
}

-- on a unit that isn't obsolete
pub one_suggestion_counts : CountsOneMore false (record none_counted { suggestions = 1 })
one_suggestion_counts template unit s before current =
    let state = shown_state (entry_of template unit.key) unit in
    let n = length unit.suggestions in
    let was = shown_counted template unit n state current refl refl in
    let is = shown_counted template (record unit { suggestions = unit.suggestions ++ s ∷ [] }) (n + 1) state current (length-append unit.suggestions (s ∷ [])) refl in
    shown_more state n before ∙ (λ i. moved before (was i) (is i))

-- an obsolete one counts no suggestions
pub obsolete_counts : CountsOneMore true none_counted
obsolete_counts template unit s before is =
    let was = obsolete_counted template unit is in
    let now = obsolete_counted template (record unit { suggestions = unit.suggestions ++ s ∷ [] }) is in
    (λ i. record {
      approved = again before.approved 0 i;
      needs_editing = again before.needs_editing 0 i;
      obsolete = again before.obsolete 1 i;
      read_only = again before.read_only 0 i;
      suggestions = again before.suggestions 0 i;
      translated = again before.translated 0 i;
      untranslated = again before.untranslated 0 i;
    }) ∙ (λ i. moved before (was i) (now i))

-- ---- suggestions that count the same before and behind

with_suggestions : (state : ShownState) (n : ℕ) → one_more state (record none_counted { suggestions = n }) ≡ record (one_more state none_counted) { suggestions = n }
with_suggestions Untranslated n = refl
with_suggestions NeedsEditing n = refl
with_suggestions Translated n = refl
with_suggestions Approved n = refl
with_suggestions ReadOnly n = refl

shown_aside : (was is : ShownState) (n : ℕ) (before : Tally)
    → moved before (one_more was (record none_counted { suggestions = 0 })) (one_more is (record none_counted { suggestions = 0 }))
    ≡ moved before (one_more was (record none_counted { suggestions = n })) (one_more is (record none_counted { suggestions = n }))
shown_aside was is n before =
    (λ i. moved before (with_suggestions was 0 i) (with_suggestions is 0 i))
    ∙ (λ i. record (moved before (one_more was none_counted) (one_more is none_counted)) { suggestions = again before.suggestions n i })
    ∙ (λ i. moved before (sym (with_suggestions was n) i) (sym (with_suggestions is n) i))

-- a tally moves from one unit to another that has its suggestions as it does without these, where both are obsolete or neither is
pub suggestions_aside : (template : List Entry) (unit left : Unit) (before : Tally) → unit.obsolete ≡ left.obsolete
    → moved before (counted template (record unit { suggestions = [] })) (counted template (record left { suggestions = [] }))
    ≡ moved before (counted template unit) (counted template (record left { suggestions = unit.suggestions }))
suggestions_aside template unit left before alike = by unit.obsolete refl
  where
    bare_unit : Unit
    bare_unit = record unit { suggestions = [] }

    bare_left : Unit
    bare_left = record left { suggestions = [] }

    suggested : Unit
    suggested = record left { suggestions = unit.suggestions }

    by : (b : Bool) → unit.obsolete ≡ b
        → moved before (counted template (record unit { suggestions = [] })) (counted template (record left { suggestions = [] }))
        ≡ moved before (counted template unit) (counted template (record left { suggestions = unit.suggestions }))
    by true is =
        let also : left.obsolete ≡ true = sym alike ∙ is in
        (λ i. moved before (sym (obsolete_counted template bare_unit is) i) (sym (obsolete_counted template bare_left also) i))
        ∙ (λ i. moved before (obsolete_counted template unit is i) (obsolete_counted template suggested also i))
    by false is =
        let neither : left.obsolete ≡ false = sym alike ∙ is in
        let n = length unit.suggestions in
        let was = shown_state (entry_of template unit.key) unit in
        let now = shown_state (entry_of template left.key) left in
        (λ i. moved before (sym (shown_counted template bare_unit 0 was is refl refl) i) (sym (shown_counted template bare_left 0 now neither refl refl) i))
        ∙ shown_aside was now n before
        ∙ (λ i. moved before (shown_counted template unit n was is refl refl i) (shown_counted template suggested n now neither refl refl i))
