-- What the units of a language count where no unit stays approved: the approved ones are counted as translated.
use Rattle.std.proofs.Common.{◌≡◌, ℕ, ◌+◌, List, [], ◌∷◌, Bool, true, false, map, refl, sym, ap, ◌∙◌, arith}
use Rattle.po_text.specs.declared.entry.Entry.{Entry}
use Rattle.units.specs.Changes.{unapproved}
use Rattle.units.specs.Units.{is_read_only}
use Rattle.units.specs.Project.{entry_of}
use Rattle.units.specs.declared.unit.Unit.{Unit}
use Rattle.units.specs.declared.unit.UnitState.{UnitState}
use Rattle.units.specs.declared.unit.UnitState.TheVariants.{Untranslated, NeedsEditing, Translated, Approved}
use Rattle.office_specification.specs.declared.tally.Tally.{Tally}
use Rattle.office_specification.specs.Tally.{counts_in}
use Rattle.office_specification.specs.Counting.{plus}
use Rattle.tables.specs.Tallies.{none_approved}
use Rattle.office_specification.proofs.tallies.Countings.{counts_more}

one_unapproved : (template : List Entry) (u : Unit) → counts_in template (unapproved u ∷ []) ≡ none_approved (counts_in template (u ∷ []))
one_unapproved template u = by u.obsolete refl (is_read_only (entry_of template u.key)) refl u.state refl
  where
    by : (o : Bool) → u.obsolete ≡ o → (r : Bool) → is_read_only (entry_of template u.key) ≡ r → (s : UnitState) → u.state ≡ s
        → counts_in template (unapproved u ∷ []) ≡ none_approved (counts_in template (u ∷ []))
    by true o true r Untranslated s = rw (s, o) refl
    by true o true r NeedsEditing s = rw (s, o) refl
    by true o true r Translated s = rw (s, o) refl
    by true o true r Approved s = rw (s, o) refl
    by true o false r Untranslated s = rw (s, o) refl
    by true o false r NeedsEditing s = rw (s, o) refl
    by true o false r Translated s = rw (s, o) refl
    by true o false r Approved s = rw (s, o) refl
    by false o true r Untranslated s = rw (s, o, r) refl
    by false o true r NeedsEditing s = rw (s, o, r) refl
    by false o true r Translated s = rw (s, o, r) refl
    by false o true r Approved s = rw (s, o, r) refl
    by false o false r Untranslated s = rw (s, o, r) refl
    by false o false r NeedsEditing s = rw (s, o, r) refl
    by false o false r Translated s = rw (s, o, r) refl
    by false o false r Approved s = rw (s, o, r) refl

both_unapproved : (a b : Tally) → plus (none_approved a) (none_approved b) ≡ none_approved (plus a b)
both_unapproved a b = λ i. record (none_approved (plus a b)) { translated = turned a.translated a.approved b.translated b.approved i }
  where
    turned : (m n p q : ℕ) → (m + n) + (p + q) ≡ (m + p) + (n + q)
    turned m n p q = omega arith

pub counts_unapproved : (template : List Entry) (units : List Unit) → counts_in template (map unapproved units) ≡ none_approved (counts_in template units)
counts_unapproved template [] = refl
counts_unapproved template (u ∷ units) =
    counts_more template (unapproved u) (map unapproved units)
    ∙ (λ i. plus (one_unapproved template u i) (counts_unapproved template units i))
    ∙ both_unapproved (counts_in template (u ∷ [])) (counts_in template units)
    ∙ ap none_approved (sym (counts_more template u units))
