-- What the tests of a template's entry tell.
use Rattle.std.proofs.Common.{◌≡◌, [], ◌∷◌, Bool, true, false, not, ◌&&◌, refl, length}
use Rattle.std.specs.Bool.{Decides}
use Rattle.std.specs.Prelude.{◌==◌, codes}
use Rattle.std.proofs.lemmas.Bool.Decides.{Decides-at}
use Rattle.po_text.specs.declared.entry.Entry.{Entry}
use Rattle.po_text.specs.Entries.{is_header}
use Rattle.units.specs.Projects.{IsTemplateEntry}
use Rattle.units.specs.Units.{has_flag, no_previous}
use Rattle.rule_tests.specs.Parts.{IsUntouched}
use Rattle.rule_tests.proofs.Tests.{holds, three_tell}
use Rattle.rule_tests.proofs.UnitTests.{empty_tells}

pub untouched_told : (entry : Entry) (r a b c : Bool) → r ≡ (a && (b && c)) → Decides a (entry.forms ≡ [] ∷ []) → b ≡ (length entry.translator == 0) → Decides c (entry.previous ≡ no_previous) →
    Decides r (IsUntouched entry)
untouched_told entry r a b c e forms bare previous =
    three_tell {P = entry.forms ≡ [] ∷ []} {Q = entry.translator ≡ []} {R = entry.previous ≡ no_previous} r a b c e
    (λ h. record { unworked = h.0; uncommented = h.1.0; unchanged = h.1.1 }) (λ h. (h.unworked, (h.uncommented, h.unchanged)))
    forms (Decides-at b (length entry.translator == 0) bare (empty_tells entry.translator)) previous

false_tells : (b : Bool) → Decides (not b) (b ≡ false)
false_tells true = (λ e. cc, λ e. cc)
false_tells false = (λ e. refl, λ e. refl)

pub entry_told : (entry : Entry) (r a b : Bool) → r ≡ (a && (b && true)) → a ≡ (not entry.obsolete && (not (is_header entry) && not (has_flag entry.flags (codes "fuzzy")))) → Decides b (IsUntouched entry) →
    Decides r (IsTemplateEntry entry)
entry_told entry r a b e plain untouched =
    three_tell {P = (entry.obsolete ≡ false) × ((is_header entry ≡ false) × (has_flag entry.flags (codes "fuzzy") ≡ false))} {Q = IsUntouched entry} r a b true e
    (λ h. record {
      plain = h.0.1.0;
      current = h.0.0;
      unworked = h.1.0.unworked;
      uncommented = h.1.0.uncommented;
      unchanged = h.1.0.unchanged;
      unmarked = h.0.1.1;
    })
    (λ h. ((h.current, (h.plain, h.unmarked)), (record { unworked = h.unworked; uncommented = h.uncommented; unchanged = h.unchanged }, tt)))
    (three_tell a (not entry.obsolete) (not (is_header entry)) (not (has_flag entry.flags (codes "fuzzy"))) plain (λ h. h) (λ h. h)
    (false_tells entry.obsolete) (false_tells (is_header entry)) (false_tells (has_flag entry.flags (codes "fuzzy"))))
    untouched
    holds
