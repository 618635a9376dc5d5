-- A walk over the units of a language, from its first place on.
use Rattle.std.proofs.Common.{◌≡◌, true, false, cond, List, [], ◌∷◌, ap, ◌∙◌, refl, filter}
use Rattle.std.specs.BTreeMap.{BTreeMap, IsOrdered}
use Rattle.std.specs.Ordering.{is_le}
use Rattle.std.specs.Prelude.{◌&&◌}
use Rattle.po_text.specs.Texts.{Text, text_eq}
use Rattle.units.specs.Project.{place_cmp}
use Rattle.units.specs.declared.unit.Unit.{Unit}
use Rattle.office_maps.specs.declared.place.Place.{Place}
use Rattle.office_maps.specs.Rows.{place_of}
use Rattle.office_maps.specs.LanguageUnits.{taken}
use Rattle.office_maps.proofs.Ranges.{own_of, first_key, taken_first}

-- what stands from the first place on begins with all units of the language
pub starts : (units : BTreeMap Place Unit) (lang : Text) (first : Place) (left : List (Place × Unit)) → first.lang ≡ lang → first.key.key ≡ first_key
    → IsOrdered (λ x y. place_cmp (place_of x) (place_of y)) units → left ≡ filter (λ e. is_le (place_cmp (place_of first) (place_of e.0)) && true) units.entries
    → taken lang left ≡ own_of units lang
starts units lang first left lang_is key_is ordered is = taken_first units lang first [] left lang_is key_is ordered refl is

-- the next unit is the language's
pub next_own : (lang : Text) (e : Place × Unit) (left next : List (Place × Unit)) → left ≡ e ∷ next → text_eq lang e.0.lang ≡ true → taken lang left ≡ e.1 ∷ taken lang next
next_own lang e left next is own = ap (taken lang) is ∙ ap (λ b. cond b (e.1 ∷ taken lang next) []) own

-- the next unit is another's
pub next_other : (lang : Text) (e : Place × Unit) (left next : List (Place × Unit)) → left ≡ e ∷ next → text_eq lang e.0.lang ≡ false → taken lang left ≡ []
next_other lang e left next is other = ap (taken lang) is ∙ ap (λ b. cond b (e.1 ∷ taken lang next) []) other

-- there is no next unit
pub none_next : (lang : Text) (left : List (Place × Unit)) → left ≡ [] → taken lang left ≡ []
none_next lang left is = ap (taken lang) is
