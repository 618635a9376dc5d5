-- The rules of a project by the rows that stand for it: each unit's by itself and by its suggestions, and of all units of a language how many there are.
use Rattle.std.proofs.Common.{◌≡◌, ◌≤◌, ◌&&◌, inl, inr, List, [], ◌∷◌, map, filter, length, Bool, true, false, not, Option, Some, None, refl, sym, ap, subst, ◌∙◌, codes, arith}
use Rattle.std.specs.Prelude.{◌≢◌, IsSome, unwrap_or}
use Rattle.std.specs.FinMap as maps
use Rattle.std.specs.Ordering.{eq_by_cmp}
use Rattle.std.proofs.lemmas.Bool.{and_parts, and_from, false_from_ne_true, false≢true}
use Rattle.std.proofs.lemmas.List.{length-map}
use Rattle.std.specs.Cmp.Lexicographic.{bytes_decides}
use Rattle.sqlite.specs.Order.{Row}
use Rattle.sqlite_rules.specs.Lists.{Has}
use Rattle.sqlite_rules.proofs.ListLemmas.{all_has, all_from, has_filtered, has_kept, has_found}
use Rattle.sql_laws.specs.ApartRows.{AreOnce}
use Rattle.sql_laws.specs.RowMaps.{OneEach, IsFound}
use Rattle.sql_laws.proofs.RemovedRows.{from_mapped, to_mapped}
use Rattle.sql_laws.proofs.RowMaps.{get-found, get-is}
use Rattle.po_text.specs.declared.entry.Entry.{Entry}
use Rattle.po_text.specs.Texts.{Text, text_eq}
use Rattle.po_text.specs.Valid.{HasUniqueKeys}
use Rattle.template_update.proofs.Listed.{tied_keys, key_itself, found_each}
use Rattle.units.specs.Limits.{unit_limit}
use Rattle.units.specs.Orders.{place_total, place_IsAntisymmetric}
use Rattle.units.specs.Project.{Project, Place, place_cmp, entry_of, units_of}
use Rattle.units.specs.Projects.{IsProject, IsUnit}
use Rattle.units.specs.Rules.{rule_at}
use Rattle.units.specs.Units.{key_cmp, key_of, is_approved}
use Rattle.units.specs.declared.unit.Key.{Key}
use Rattle.units.specs.declared.unit.Unit.{Unit}
use Rattle.rule_tests.specs.Bare.{bare, SuggestionsKeep, FitsEntry}
use Rattle.rule_tests.specs.Parts.{IsFrame, IsLanguage, IsPlaced}
use Rattle.rule_tests.proofs.BareUnits.{unit_whole, unit_bare, unit_suggestions}
use Rattle.sql_schema.specs.Keys.{text_at}
use Rattle.sql_schema.specs.Layouts.{NamedRows}
use Rattle.sql_statements.proofs.OnePassing.{not_later}
use Rattle.sql_meaning.specs.Meaning.{key_at, suggestions_in, place_of_row, unit_of_row, units_in, project_of_rows}
use Rattle.sql_meaning.specs.RowKeys.{AreOfficeRows}
use Rattle.sql_meaning.specs.Values.{flag_at, text_or_null_at}
use Rattle.sql_meaning.proofs.Units.{by_place}
use Rattle.sql_adoption.proofs.AsMany.{AreAllApart, as_many_is_all, no_more_than}
use Rattle.sql_adoption.proofs.CountedValues.{once_filtered, passing_entries}

-- a language's row of a unit that isn't obsolete
abbrev pub is_current : Text → Row → Bool
is_current lang u = text_eq lang (text_at 1 u) && not (flag_at 6 u)

abbrev same_key : Key → Key → Bool
same_key = eq_by_cmp key_cmp

is_off : (b : Bool) → not b ≡ true → b ≡ false
is_off true e = absurd (let no : false ≡ true = e in cc)
is_off false e = refl

abbrev pair_of : Key → Option Text × Text
pair_of k = (k.ctx, k.id)

unique_apart : (es : List Entry) → HasUniqueKeys es → AreAllApart same_key tied_keys key_itself (map key_of es)
unique_apart [] unique = tt
unique_apart (e ∷ es) unique = (
  all_from (λ k. same_key (key_of e) k ≡ false) (map key_of es) (λ k there.
      let other = from_mapped key_of es k there in
      false_from_ne_true (same_key (key_of e) k) (λ tied. all_has (λ o. pair_of (key_of o) ≢ pair_of (key_of e)) es other.0 unique.0 other.1 (ap pair_of (sym (tied_keys (key_of e) k tied ∙ other.2))))),
  unique_apart es unique.1,
)

module _ (tables : NamedRows) (are : AreOfficeRows tables) (once : AreOnce (tables (codes "unit"))) where
  abbrev project : Project
  project = project_of_rows tables

  abbrev units : List Row
  units = tables (codes "unit")

  -- What is asked of the rows.
  pub record KeepByRows : Type 0 where
    pub frame : IsFrame project
    pub headed : (lang : Text) (header : Entry) → maps.get project.headers lang ≡ Some header → IsLanguage header
    pub alone : (u : Row) → Has units u → IsPlaced project (place_of_row u) (bare (unit_of_row tables u))
    pub fits : (u : Row) → Has units u → FitsEntry project.template (key_at 2 u) (unit_of_row tables u)
    pub suggestions : (u : Row) → Has units u → SuggestionsKeep (rule_at project (text_at 1 u)) (unit_of_row tables u) (suggestions_in tables (text_at 1 u) (text_at 2 u))
    pub few : (lang : Text) → length (filter (λ u. text_eq lang (text_at 1 u)) units) ≤ unit_limit
    pub as_many : (lang : Text) → IsSome (maps.get project.headers lang) → length project.template ≤ length (filter (is_current lang) units)

  -- ---- rows and units

  one_each : OneEach place_of_row units
  one_each r s in_r in_s e = are.keyed.one_unit r s in_r in_s (by_place.back r s tt tt e)

  unit_at : (u : Row) → Has units u → maps.get (units_in tables) (place_of_row u) ≡ Some (unit_of_row tables u)
  unit_at u there =
      get-is place_cmp place_total place_IsAntisymmetric place_of_row (unit_of_row tables) units (place_of_row u) (Some (unit_of_row tables u)) one_each (u, there, refl, refl)

  row_of : (place : Place) (unit : Unit) → maps.get (units_in tables) place ≡ Some unit → (u : Row) × Has units u × (place_of_row u ≡ place) × (unit_of_row tables u ≡ unit)
  row_of place unit is = subst (IsFound place_of_row (unit_of_row tables) units place) is (get-found place_cmp place_total place_IsAntisymmetric place_of_row (unit_of_row tables) units place)

  -- what each row's unit is, each unit is
  each_unit : (P : Place → Unit → Type 0) → ((u : Row) → Has units u → P (place_of_row u) (unit_of_row tables u)) → (place : Place) (unit : Unit) → maps.get (units_in tables) place ≡ Some unit → P place unit
  each_unit P each place unit is =
      let u = row_of place unit is in
      subst (λ (p : Place). P p unit) u.2 (subst (P (place_of_row u.0)) u.3 (each u.0 u.1))

  counted : (lang : Text) → length (units_of project lang) ≡ length (filter (λ u. text_eq lang (text_at 1 u)) units)
  counted lang =
      length-map (filter (λ e. text_eq lang e.0.0) (maps.entries (units_in tables))) (λ e. e.1)
      ∙ passing_entries place_cmp place_total place_IsAntisymmetric place_of_row (unit_of_row tables) (λ e. text_eq lang e.0.0) units once one_each

  -- ---- the keys of a language's current units

  module _ (lang : Text) where
    abbrev current : List Row
    current = filter (is_current lang) units

    abbrev keys : List Key
    keys = map (key_at 2) current

    abbrev entries : List Key
    entries = map key_of project.template

    is_its : (u : Row) → Has current u → Has units u × (text_at 1 u ≡ lang) × (flag_at 6 u ≡ false)
    is_its u there =
        let kept = has_filtered (is_current lang) units u there in
        let parts = and_parts (text_eq lang (text_at 1 u)) (not (flag_at 6 u)) kept.1 in
        (kept.0, sym ((bytes_decides lang (text_at 1 u)).0 parts.0), is_off (flag_at 6 u) parts.1)

    one_key : (u v : Row) → Has current u → Has current v → key_at 2 u ≡ key_at 2 v → u ≡ v
    one_key u v in_u in_v e =
        let of_u = is_its u in_u in
        let of_v = is_its v in_v in
        one_each u v of_u.0 of_v.0 (λ i. ((of_u.1 ∙ sym of_v.1) i, e i))

    apart : (rows : List Row) → AreOnce rows → ((u v : Row) → Has rows u → Has rows v → key_at 2 u ≡ key_at 2 v → u ≡ v) → AreAllApart same_key tied_keys key_itself (map (key_at 2) rows)
    apart [] up one = tt
    apart (u ∷ rows) up one = (
      all_from (λ k. same_key (key_at 2 u) k ≡ false) (map (key_at 2) rows) (λ k there.
          let v = from_mapped (key_at 2) rows k there in
          false_from_ne_true (same_key (key_at 2 u) k) (λ e. not_later u rows up (subst (Has rows) (sym (one u v.0 (inl refl) (inr v.1) (tied_keys (key_at 2 u) k e ∙ v.2))) v.1))),
      apart rows up.1 (λ r s in_r in_s. one r s (inr in_r) (inr in_s)),
    )

    keys_apart : AreAllApart same_key tied_keys key_itself keys
    keys_apart = apart current (once_filtered (is_current lang) units once) one_key

    -- an entry's key is among those of entries
    listed : (key : Key) (entry : Entry) → entry_of project.template key ≡ Some entry → Has entries key
    listed key entry is =
        let found = has_found (λ e. same_key key (key_of e)) project.template entry is in
        subst (Has entries) (sym (tied_keys key (key_of entry) found.1)) (to_mapped key_of project.template entry found.0)

  -- ---- they keep the rules

  module _ (keep : KeepByRows) where
    within : (lang : Text) (k : Key) → Has (keys lang) k → Has (entries lang) k
    within lang k there =
        let u = from_mapped (key_at 2) (current lang) k there in
        let its = is_its lang u.0 u.1 in
        let fit = keep.fits u.0 its.0 its.2 in
        subst (Has (entries lang)) (sym u.2) (listed lang (key_at 2 u.0) fit.0 fit.1)

    complete : (lang : Text) (key : Key) (entry : Entry) → IsSome (maps.get project.headers lang) → entry_of project.template key ≡ Some entry
        → (unit : Unit) × (maps.get project.units (lang, key) ≡ Some unit) × (unit.obsolete ≡ false) × (unit.plural ≡ entry.plural)
    complete lang key entry there is =
        let some = keep.as_many lang there in
        let long = length-map (current lang) (key_at 2) in
        let wide = length-map project.template key_of in
        let k = as_many_is_all same_key tied_keys key_itself (keys lang) (entries lang) (keys_apart lang) (within lang) (omega arith) key (listed lang key entry is) in
        let u = from_mapped (key_at 2) (current lang) key k in
        let its = is_its lang u.0 u.1 in
        let fit = keep.fits u.0 its.0 its.2 in
        let at : maps.get project.units (lang, key) ≡ Some (unit_of_row tables u.0) = (λ i. maps.get (units_in tables) (sym its.1 i, u.2 i)) ∙ unit_at u.0 its.0 in
        let same : fit.0 ≡ entry = ap (λ (o : Option Entry). unwrap_or o entry) (sym fit.1 ∙ ap (entry_of project.template) (sym u.2) ∙ is) in
        (unit_of_row tables u.0, at, its.2, fit.2 ∙ ap (λ (e : Entry). e.plural) same)

    pub kept_by_rows : IsProject project
    kept_by_rows = record {
      managed = keep.frame.team.managed;
      members = keep.frame.team.members;
      accepting = keep.frame.accepting;
      template_valid = keep.frame.template_valid;
      template_plain = keep.frame.template_plain;
      ruled = λ lang header is. let its = keep.headed lang header is in (its.plain, its.valid, its.ruled);
      placed = each_unit (λ place unit. (unit.key ≡ place.1) × IsSome (maps.get project.headers place.0)) (λ u there. ((keep.alone u there).stands.key, (keep.alone u there).language));
      complete = complete;
      exact = each_unit (λ place unit. unit.obsolete ≡ false → IsSome (entry_of project.template place.1)) (λ u there. (keep.alone u there).stands.exact);
      each = each_unit (λ place unit. IsUnit (rule_at project place.0) unit) (λ u there. unit_whole (rule_at project (text_at 1 u)) (unit_of_row tables u) (keep.alone u there).rules (keep.suggestions u there));
      reviewed = λ off place unit is. each_unit (λ place unit. is_approved unit.state ≡ false) (λ u there. (keep.alone u there).stands.reviewed off) place unit is;
      few_languages = keep.frame.few_languages;
      few_names = keep.frame.team.few;
      few_units = λ lang. subst (λ n. n ≤ unit_limit) (sym (counted lang)) (keep.few lang);
    }

  -- ---- and back

  module _ (rules : IsProject project) where
    its_entry : (u : Row) → Has units u → FitsEntry project.template (key_at 2 u) (unit_of_row tables u)
    its_entry u there current = by (entry_of project.template (key_at 2 u)) refl (rules.exact (place_of_row u) (unit_of_row tables u) (unit_at u there) current)
      where
        by : (o : Option Entry) → entry_of project.template (key_at 2 u) ≡ o → IsSome o → (entry : Entry) × (entry_of project.template (key_at 2 u) ≡ Some entry) × (text_or_null_at 3 u ≡ entry.plural)
        by None is some = absurd (false≢true some)
        by (Some entry) is some =
            let it = rules.complete (text_at 1 u) (key_at 2 u) entry (rules.placed (place_of_row u) (unit_of_row tables u) (unit_at u there)).1 is in
            let one : it.0 ≡ unit_of_row tables u = ap (λ (o : Option Unit). unwrap_or o it.0) (sym it.1 ∙ unit_at u there) in
            (entry, is, ap (λ (unit : Unit). unit.plural) (sym one) ∙ it.3)

    alone_so : (u : Row) → Has units u → IsPlaced project (place_of_row u) (bare (unit_of_row tables u))
    alone_so u there = record {
      stands = record {
        key = (rules.placed (place_of_row u) (unit_of_row tables u) (unit_at u there)).0;
        exact = rules.exact (place_of_row u) (unit_of_row tables u) (unit_at u there);
        reviewed = λ off. rules.reviewed off (place_of_row u) (unit_of_row tables u) (unit_at u there);
      };
      language = (rules.placed (place_of_row u) (unit_of_row tables u) (unit_at u there)).1;
      rules = unit_bare (rule_at project (text_at 1 u)) (unit_of_row tables u) (rules.each (place_of_row u) (unit_of_row tables u) (unit_at u there));
    }

    -- an entry's key is that of a current unit
    has_key : (lang : Text) → IsSome (maps.get project.headers lang) → (k : Key) → Has (entries lang) k → Has (keys lang) k
    has_key lang there k at =
        let entry = from_mapped key_of project.template k at in
        let is = all_has (λ e. entry_of project.template (key_of e) ≡ Some e) project.template entry.0 (found_each project.template rules.template_valid.unique) entry.1 in
        let it = rules.complete lang (key_of entry.0) entry.0 there is in
        let u = row_of (lang, key_of entry.0) it.0 it.1 in
        let off : flag_at 6 u.0 ≡ false = ap (λ (unit : Unit). unit.obsolete) u.3 ∙ it.2 in
        let passes : is_current lang u.0 ≡ true = and_from (text_eq lang (text_at 1 u.0)) (not (flag_at 6 u.0)) ((bytes_decides lang (text_at 1 u.0)).1 (ap (λ (p : Place). p.0) (sym u.2))) (ap not off) in
        subst (Has (keys lang)) (ap (λ (p : Place). p.1) u.2 ∙ sym entry.2) (to_mapped (key_at 2) (current lang) u.0 (has_kept (is_current lang) units u.0 u.1 passes))

    pub rows_keep : KeepByRows
    rows_keep = record {
      frame = record {
        team = record { managed = rules.managed; members = rules.members; few = rules.few_names };
        accepting = rules.accepting;
        template_valid = rules.template_valid;
        template_plain = rules.template_plain;
        few_languages = rules.few_languages;
      };
      headed = λ lang header is. let its = rules.ruled lang header is in record { plain = its.0; valid = its.1; ruled = its.2 };
      alone = alone_so;
      fits = its_entry;
      suggestions = λ u there. unit_suggestions (rule_at project (text_at 1 u)) (unit_of_row tables u) (rules.each (place_of_row u) (unit_of_row tables u) (unit_at u there));
      few = λ lang. subst (λ n. n ≤ unit_limit) (counted lang) (rules.few_units lang);
      as_many = λ lang there.
          let long = length-map (current lang) (key_at 2) in
          let wide = length-map project.template key_of in
          let most = no_more_than same_key tied_keys key_itself (entries lang) (keys lang) (unique_apart project.template rules.template_valid.unique) (has_key lang there) in
          omega arith;
    }
