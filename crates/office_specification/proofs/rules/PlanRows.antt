-- The rows of a plan's units at their places, and what a text gives a template.
use Rattle.std.proofs.Common.{◌≡◌, ◌+◌, ℕ, suc, List, [], ◌∷◌, Bool, true, false, cond, ◌||◌, Ok, Option, Some, None, refl, ◌∙◌, ap, subst, length, map, All, arith}
use Rattle.std.specs.List.{AllByRecursion, list_any}
use Rattle.std.specs.Ordering.{is_eq, eq_by_cmp, ordering_then}
use Rattle.std.specs.Cmp.{tied_itself}
use Rattle.std.proofs.lemmas.List.Elements.{recursion_from_All}
use Rattle.po_text.specs.declared.entry.Entry.{Entry}
use Rattle.po_text.specs.Entries.{is_header}
use Rattle.po_read.specs.Faults.{Fault, fault_of}
use Rattle.po_read.specs.Plain.{entries_of, unless, reading_of}
use Rattle.po_read.specs.Spells.{limits}
use Rattle.po_text.specs.Texts.{Text, text_eq}
use Rattle.po_text.specs.Valid.{IsValid, HasHeaderKey}
use Rattle.po_read.proofs.Accepts.{no_fault}
use Rattle.units.specs.Units.{key_cmp}
use Rattle.units.specs.Project.{Place, place_cmp}
use Rattle.units.specs.Projects.{IsTemplateEntry}
use Rattle.units.specs.declared.unit.Key.{Key}
use Rattle.units.specs.declared.unit.Unit.{Unit}
use Rattle.units.specs.Orders.{text_total, place_total}
use Rattle.template_update.proofs.Listed.{all_from, unheaded}
use Rattle.office_specification.proofs.rules.Rebuilt.{at_lang}
use Rattle.office_specification.proofs.rules.Tallies.{tally}

-- a text that is read is a valid catalogue
pub read_valid : (po : Text) (entries : List Entry) → reading_of limits po ≡ Ok entries → IsValid entries
unfolding reading_of
read_valid po entries e = by (fault_of limits po) refl e
  where
    by : (o : Option Fault) → fault_of limits po ≡ o → unless o (entries_of po) ≡ Ok entries → IsValid entries
    by (Some fault) f e = cc
    by None f e =
        let same : entries_of po ≡ entries = cc in
        subst IsValid same (no_fault limits po f).spells.valid

-- no entry of a template has the header's key
pub template_named : (template : List Entry) → IsValid template → All IsTemplateEntry template → AllByRecursion (λ e. HasHeaderKey e → ⊥) template
template_named template valid plain =
    all_from (λ e. is_header e ≡ false → HasHeaderKey e → ⊥) IsTemplateEntry (λ e. HasHeaderKey e → ⊥) (λ e unlike is. unlike is.plain) template
    (unheaded template valid.header) (recursion_from_All IsTemplateEntry template plain)

-- ---- units at their places in a language

abbrev pub rows_in : Text → List Unit → List (Place × Unit)
rows_in lang units = map (λ unit. ((lang, unit.key), unit)) units

-- the row is at this place
abbrev pub is_at : Place → Place × Unit → Bool
is_at place e = eq_by_cmp place_cmp place e.0

-- a unit's key is there
pub has-rows : (lang : Text) (key : Key) (units : List Unit) → list_any (is_at (lang, key)) (rows_in lang units) ≡ list_any (λ unit. eq_by_cmp key_cmp key unit.key) units
has-rows lang key [] = refl
has-rows lang key (unit ∷ units) = λ i. is_eq (ordering_then (tied_itself text_total lang i) (key_cmp key unit.key)) || has-rows lang key units i

pub tally-rows : (lang other : Text) (c : Bool) → text_eq other lang ≡ c → (units : List Unit) → tally place_cmp place_total (at_lang other) (rows_in lang units) ≡ cond c (length units) 0
tally-rows lang other true e [] = refl
tally-rows lang other false e [] = refl
tally-rows lang other true e (unit ∷ units) = ap (λ b. cond b 1 0 + tally place_cmp place_total (at_lang other) (rows_in lang units)) e ∙ one_more (tally-rows lang other true e units)
  where
    one_more : {n m : ℕ} → n ≡ m → 1 + n ≡ suc m
    one_more h = omega arith
tally-rows lang other false e (unit ∷ units) = ap (λ b. cond b 1 0 + tally place_cmp place_total (at_lang other) (rows_in lang units)) e ∙ no_more (tally-rows lang other false e units)
  where
    no_more : {n : ℕ} → n ≡ 0 → 0 + n ≡ 0
    no_more h = omega arith

-- what holds of each unit holds of each row
pub all-rows : (P : Place → Unit → Type 0) (lang : Text) (units : List Unit) → AllByRecursion (λ unit. P (lang, unit.key) unit) units → AllByRecursion (λ e. P e.0 e.1) (rows_in lang units)
all-rows P lang [] h = tt
all-rows P lang (unit ∷ units) h = (h.0, all-rows P lang units h.1)
