-- Rows put into the units that are there leave what a map of them alone has, where each unit that is there has its place in one of them: so a
-- template's plans may be put over the units, and none has to be taken out.
use Rattle.std.proofs.Common.{◌≡◌, List, [], ◌∷◌, Bool, true, false, cond, ◌||◌, Option, Some, None, is_some, refl, sym, ◌∙◌, ap}
use Rattle.std.specs.List.{list_any}
use Rattle.std.specs.FinMap as maps
use Rattle.units.specs.Project.{Place, place_cmp, place_eq}
use Rattle.units.specs.Orders.{place_total, place_IsAntisymmetric}
use Rattle.units.specs.declared.unit.Unit.{Unit}

-- rows put into a map, the last first
abbrev pub put_back : List (Place × Unit) → maps.FinMap place_cmp Unit → maps.FinMap place_cmp Unit
put_back [] units = units
put_back (e ∷ es) units = maps.insert (put_back es units) e.0 e.1

abbrev has : Place → List (Place × Unit) → Bool
has place es = list_any (λ e. place_eq place e.0) es

get_put : (es : List (Place × Unit)) (units : maps.FinMap place_cmp Unit) (place : Place) → maps.get (put_back es units) place ≡ cond (has place es) (maps.find place_cmp place es) (maps.get units place)
get_put [] units place = refl
get_put (e ∷ es) units place = maps.get-insert place_total (put_back es units) e.0 e.1 place ∙ by (get_put es units place) (place_eq place e.0)
  where
    by : maps.get (put_back es units) place ≡ cond (has place es) (maps.find place_cmp place es) (maps.get units place) → (t : Bool)
        → cond t (Some e.1) (maps.get (put_back es units) place) ≡ cond (t || has place es) (cond t (Some e.1) (maps.find place_cmp place es)) (maps.get units place)
    by rest true = refl
    by rest false = rest

not_found : (place : Place) (es : List (Place × Unit)) → has place es ≡ false → maps.find place_cmp place es ≡ None
not_found place [] none = refl
not_found place (e ∷ es) none = by (not_found place es) (place_eq place e.0) none
  where
    by : (has place es ≡ false → maps.find place_cmp place es ≡ None) → (t : Bool) → (t || has place es) ≡ false → cond t (Some e.1) (maps.find place_cmp place es) ≡ None
    by rest true e = cc
    by rest false e = rest e

pub put_over : (units : maps.FinMap place_cmp Unit) (es : List (Place × Unit)) → ((place : Place) → maps.contains_key units place ≡ true → list_any (λ e. place_eq place e.0) es ≡ true)
    → put_back es units ≡ maps.from_entries es
put_over units es all =
    maps.same_map place_total place_IsAntisymmetric (put_back es units) (maps.from_entries es)
    (λ place. get_put es units place ∙ (by place (has place es) (maps.get units place) refl refl ∙ sym (maps.get-from_entries place_total es place)))
  where
    by : (place : Place) (there : Bool) (old : Option Unit) → has place es ≡ there → maps.get units place ≡ old → cond there (maps.find place_cmp place es) old ≡ maps.find place_cmp place es
    by place true old is found = refl
    by place false None is found = sym (not_found place es is)
    by place false (Some unit) is found = absurd (let no : false ≡ true = sym is ∙ all place (ap is_some found) in cc)
