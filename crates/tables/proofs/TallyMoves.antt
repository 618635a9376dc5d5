-- How an act on a unit moves the counts of its language, and that it moves no others.
use Rattle.std.proofs.Common.{◌≡◌, ℕ, ◌+◌, ◌-◌, List, ◌∷◌, Bool, true, false, cond, filter, map, option_map, Option, Some, None, refl, sym, ◌∙◌, ap, add_comm, arith}
use Rattle.std.specs.FinMap as maps
use Rattle.po_text.specs.declared.entry.Entry.{Entry}
use Rattle.po_text.specs.Texts.{Text, text_eq}
use Rattle.units.specs.Project.{Project, Place, place_cmp, units_of, with_unit}
use Rattle.units.specs.Orders.{place_total, place_IsAntisymmetric}
use Rattle.units.specs.declared.unit.Key.{Key}
use Rattle.units.specs.declared.unit.Unit.{Unit}
use Rattle.units.specs.declared.unit.UnitView.{UnitView}
use Rattle.office_specification.specs.UnitAccess.{with_view}
use Rattle.office_specification.proofs.rules.Replaced.{Found}
use Rattle.office_specification.specs.declared.tally.Tally.{Tally}
use Rattle.office_specification.specs.Tally.{counts_in, counts_of}
use Rattle.office_specification.specs.Counting.{plus, none_counted}
use Rattle.office_specification.proofs.tallies.Countings.{counts_more, plus_assoc, none_and}
use Rattle.tables.specs.Tallies.{counted, moved}
use Rattle.tables.proofs.TotalsPut.{total-put}

plus_comm : (a b : Tally) → plus a b ≡ plus b a
plus_comm a b = λ i. record {
  approved = add_comm a.approved b.approved i;
  needs_editing = add_comm a.needs_editing b.needs_editing i;
  obsolete = add_comm a.obsolete b.obsolete i;
  read_only = add_comm a.read_only b.read_only i;
  suggestions = add_comm a.suggestions b.suggestions i;
  translated = add_comm a.translated b.translated i;
  untranslated = add_comm a.untranslated b.untranslated i;
}

-- ---- the counts of a language as a total over all units

-- what the entries of a language's units count
abbrev total_in : List Entry → Text → List (Place × Unit) → Tally
total_in template lang es = counts_in template (map (λ e. e.1) (filter (λ e. text_eq lang e.0.0) es))

abbrev one_in : List Entry → Text → Place × Unit → Tally
one_in template lang e = cond (text_eq lang e.0.0) (counted template e.1) none_counted

next_in : (template : List Entry) (lang : Text) (e : Place × Unit) (es : List (Place × Unit)) → total_in template lang (e ∷ es) ≡ plus (one_in template lang e) (total_in template lang es)
next_in template lang e es = by (text_eq lang e.0.0)
  where
    by : (b : Bool) → counts_in template (map (λ d. d.1) (cond b (e ∷ filter (λ d. text_eq lang d.0.0) es) (filter (λ d. text_eq lang d.0.0) es)))
        ≡ plus (cond b (counted template e.1) none_counted) (total_in template lang es)
    by true = counts_more template e.1 (map (λ d. d.1) (filter (λ d. text_eq lang d.0.0) es))
    by false = sym (none_and (total_in template lang es))

-- ---- one unit becomes another

module _ (project : Project) (place : Place) (old : Unit) (there : maps.get project.units place ≡ Some old) (new : Unit) where
  found : Found place_cmp place_total place old (maps.entries project.units)
  found = (maps.entries_sorted project.units, sym (maps.get-entries project.units place) ∙ there)

  abbrev counts_before : Text → Tally
  counts_before lang = counts_in project.template (units_of project lang)

  abbrev counts_after : Text → Tally
  counts_after lang = counts_in project.template (units_of (with_unit project place new) lang)

  total_moves : (lang : Text) → plus (counts_after lang) (one_in project.template lang (place, old)) ≡ plus (counts_before lang) (one_in project.template lang (place, new))
  total_moves lang =
      ap (λ es. plus (total_in project.template lang es) (one_in project.template lang (place, old))) (maps.entries-insert place_total project.units place new)
      ∙ total-put place_cmp place_total place_IsAntisymmetric plus plus_assoc plus_comm (one_in project.template lang) (total_in project.template lang) (next_in project.template lang) place old new (maps.entries project.units) found

  -- the language's counts lose what the old unit counted and gain what the new one counts
  own_move : text_eq place.0 place.0 ≡ true → plus (counts_after place.0) (counted project.template old) ≡ plus (counts_before place.0) (counted project.template new)
  own_move same = rw same at (total_moves place.0)

  -- those of another language stay
  pub others_stay : (lang : Text) → text_eq lang place.0 ≡ false → counts_after lang ≡ counts_before lang
  others_stay lang other = without (counts_after lang) (counts_before lang) (rw other at (total_moves lang))
    where
      without : (a b : Tally) → plus a none_counted ≡ plus b none_counted → a ≡ b
      without a b e = sym (none_and a) ∙ (plus_comm none_counted a ∙ (e ∙ (plus_comm b none_counted ∙ none_and b)))

  taken_off : (a b c d : ℕ) → a + b ≡ c + d → a ≡ c + d - b
  taken_off a b c d e = omega (arith, e)

  -- so they are what is computed of the kept counts and the two units
  pub moves : text_eq place.0 place.0 ≡ true → counts_after place.0 ≡ moved (counts_before place.0) (counted project.template old) (counted project.template new)
  moves same =
      let e = own_move same in
      let after = counts_after place.0 in
      let before = counts_before place.0 in
      let was = counted project.template old in
      let is = counted project.template new in
      λ i. record {
        approved = taken_off after.approved was.approved before.approved is.approved (ap (λ (c : Tally). c.approved) e) i;
        needs_editing = taken_off after.needs_editing was.needs_editing before.needs_editing is.needs_editing (ap (λ (c : Tally). c.needs_editing) e) i;
        obsolete = taken_off after.obsolete was.obsolete before.obsolete is.obsolete (ap (λ (c : Tally). c.obsolete) e) i;
        read_only = taken_off after.read_only was.read_only before.read_only is.read_only (ap (λ (c : Tally). c.read_only) e) i;
        suggestions = taken_off after.suggestions was.suggestions before.suggestions is.suggestions (ap (λ (c : Tally). c.suggestions) e) i;
        translated = taken_off after.translated was.translated before.translated is.translated (ap (λ (c : Tally). c.translated) e) i;
        untranslated = taken_off after.untranslated was.untranslated before.untranslated is.untranslated (ap (λ (c : Tally). c.untranslated) e) i;
      }

-- ---- the counts of a project with a unit's new view

-- the language's counts, of a unit that is there and gets a view
pub with_view_moves : (project : Project) (lang : Text) (key : Key) (old : Unit) (view : UnitView) → text_eq lang lang ≡ true → maps.get project.units (lang, key) ≡ Some old
    → counts_of (with_view project lang key (Some view)) lang
    ≡ option_map (λ counts. moved counts (counted project.template old) (counted project.template view.unit)) (counts_of project lang)
with_view_moves project lang key old view same there =
    by (maps.get project.headers lang)
  where
    by : (header : Option Entry) → option_map (λ _. counts_in project.template (units_of (with_unit project (lang, key) view.unit) lang)) header
        ≡ option_map (λ counts. moved counts (counted project.template old) (counted project.template view.unit)) (option_map (λ _. counts_in project.template (units_of project lang)) header)
    by None = refl
    by (Some header) = ap Some (moves project (lang, key) old there view.unit same)

-- those of another language stay, and with no view all stay
pub with_view_stays : (project : Project) (lang other : Text) (key : Key) (old : Unit) (view : UnitView) → text_eq other lang ≡ false → maps.get project.units (lang, key) ≡ Some old
    → counts_of (with_view project lang key (Some view)) other ≡ counts_of project other
with_view_stays project lang other key old view differ there =
    ap (λ counts. option_map (λ _. counts) (maps.get project.headers other)) (others_stay project (lang, key) old there view.unit other differ)

pub no_view_stays : (project : Project) (lang other : Text) (key : Key) → counts_of (with_view project lang key None) other ≡ counts_of project other
no_view_stays project lang other key = refl
