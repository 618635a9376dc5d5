-- The catalogue that a language is exported as is valid, where the project keeps its rules and the entries' texts are what their types keep.
use Rattle.std.proofs.Common.{◌≡◌, ◌≢◌, ◌≤◌, ℕ, ◌+◌, List, [], ◌∷◌, ◌++◌, Bool, true, false, cond, not, ◌&&◌, ◌||◌, Option, Some, None, Result, Ok, Err, refl, sym, ◌∙◌, ap, subst, length, map, drop, arith, lit<, lit≤, All, is_some, is_none, suc, IsTrue}
use Rattle.std.specs.Prelude.{IsUtf8, filter, codes, IsOk, T}
use Rattle.std.specs.Option.{option_map_or}
use Rattle.std.specs.List.{list_any, AllByRecursion}
use Rattle.std.specs.Str.{is_utf8, chars}
use Rattle.std.specs.declared.cmp.Ordering.{Ordering}
use Rattle.std.specs.declared.cmp.Ordering.TheVariants.{Less, Equal, Greater}
use Rattle.std.specs.Ordering.{is_eq, is_lt, eq_by_cmp}
use Rattle.std.specs.Cmp.{eq_by_cmp_equiv}
use Rattle.std.specs.FinMap as maps
use Rattle.std.specs.FinMap.Entries.{below_all, is_sorted}
use Rattle.std.proofs.lemmas.Str.{IsUtf8-from_is_utf8}
use Rattle.std.proofs.lemmas.Slice.Eq.{bytes_eq-Decides}
use Rattle.std.proofs.lemmas.Bool.{false≢true}
use Rattle.po_lex.specs.declared.line.Keyword.TheVariants.{Msgctxt, Msgid, MsgidPlural, Msgstr}
use Rattle.po_lex.specs.Lines.{is_comment_text}
use Rattle.po_text.specs.Entries.{Key as EntryKey, key_of as entry_key, optional, numbered, keyed_forms, is_header}
use Rattle.po_text.specs.Texts.{Text, text_eq, is_empty}
use Rattle.po_text.specs.declared.entry.Entry.{Entry}
use Rattle.po_text.specs.Valid.{IsString, IsCommentLine, IsFlag, AreFlags, AreDistinct, AllStrings, IsValid, IsValidEntry, HasHeaderKey, IsHeader, HasHeaderFirst, HasUniqueKeys, fuzzy}
use Rattle.po_text.proofs.EntryLists.{all_both}
use Rattle.plural_expr.specs.Trees.{number}
use Rattle.plural_expr.specs.Values.{Rule}
use Rattle.plural_expr.specs.Faults.{reading_of}
use Rattle.plural_expr.specs.declared.fault.PluralFault.{PluralFault}
use Rattle.plural_expr.proofs.Readings.{reading_rule}
use Rattle.units.specs.Units.{key_of, forms_needed, is_needs_editing, all_empty}
use Rattle.units.specs.Project.{Project, Place, place_cmp, entry_of}
use Rattle.units.specs.Projects.{IsProject, IsUnit, IsTemplateEntry}
use Rattle.units.specs.Rules.{rule_at, rule_in, rule_of_field, plural_field}
use Rattle.units.specs.declared.unit.Key.{Key}
use Rattle.units.specs.declared.unit.Unit.{Unit}
use Rattle.template_update.proofs.Listed.{clash, all_from, all_mapped, each_one, pair_of, found_each}
use Rattle.units.specs.Orders.{place_total, place_IsAntisymmetric}
use Rattle.office_specification.specs.ExportedEntries.{flags_of, translated, obsolete_entry, catalogue_of}
use Rattle.office_specification.specs.EntryTexts.{with_its_unit}
use Rattle.office_specification.specs.EntryStrings.{HasEntryStrings}

-- ---- lists

mapped_all : {X Y : Type 0} (P : Y → Type 0) (f : X → Y) (xs : List X) → AllByRecursion P (map f xs) → AllByRecursion (λ x. P (f x)) xs
mapped_all P f [] h = tt
mapped_all P f (x ∷ xs) h = (h.0, mapped_all P f xs h.1)

parted : {X : Type 0} (P : X → Type 0) (xs ys : List X) → AllByRecursion P (xs ++ ys) → AllByRecursion P xs × AllByRecursion P ys
parted P [] ys h = (tt, h)
parted P (x ∷ xs) ys h = let rest = parted P xs ys h.1 in ((h.0, rest.0), rest.1)

all_listed : {X : Type 0} (P : X → Type 0) (xs : List X) → All P xs → AllByRecursion P xs
all_listed P [] h = tt
all_listed P (x ∷ xs) h = (h 0 x (omega arith), all_listed P xs (λ k d lt. h (suc k) d (omega arith)))

-- ---- keys

tied : (r : Ordering) → is_eq r ≡ true → r ≡ Equal
tied Less e = cc
tied Equal e = refl
tied Greater e = cc

key_back : (a b : Key) → pair_of a ≡ pair_of b → a ≡ b
key_back a b same = λ i. record { ctx = (same i).0; id = (same i).1 }

-- ---- counts of forms

abbrev IsCounted : Rule → Type 0
IsCounted rule = (1 ≤ rule.count) × (rule.count ≤ 8)

field_counted : (field : Option Text) (rule : Rule) → rule_of_field field ≡ Ok rule → IsCounted rule
field_counted None rule e = cc
field_counted (Some text) rule e = by (reading_of text) refl e
  where
    by : (read : Result Rule PluralFault) → reading_of text ≡ read → elim read as (λ _. Result Rule (Option PluralFault)) [ Ok value ↦ Ok value | Err fault ↦ Err (Some fault) ] ≡ Ok rule → IsCounted rule
    by (Ok found) is same =
        let one : found ≡ rule = cc in
        let counted = (reading_rule text found is).counted.counted in
        subst IsCounted one (omega (arith, counted.0), counted.1)
    by (Err fault) is same = cc

rule_counted : (project : Project) (lang : Text) (header : Entry) → maps.get project.headers lang ≡ Some header → IsOk (rule_in (Some header)) → IsCounted (rule_at project lang)
unfolding rule_at
rule_counted project lang header there ok = rw there (by (rule_in (Some header)) (field_counted (plural_field (Some header))) ok)
  where
    by : (found : Result Rule (Option PluralFault)) → ((rule : Rule) → found ≡ Ok rule → IsCounted rule) → IsOk found
        → IsCounted (elim found as (λ _. Rule) [ Ok value ↦ value | Err fault ↦ record { count = 1; tree = number 0 } ])
    by (Ok rule) h ok = h rule refl
    by (Err fault) h ok = (lit≤ tt, lit≤ tt)

needed_counted : (rule : Rule) (plural : Option Text) → IsCounted rule → (1 ≤ forms_needed rule plural) × (forms_needed rule plural ≤ 8)
needed_counted rule None h = (lit≤ tt, lit≤ tt)
needed_counted rule (Some plural) h = h

-- ---- strings

abbrev Of : (Text → Type 0) → Option Text → Option Text → Text → List Text → Type 0
Of P ctx plural id forms = AllStrings P (optional Msgctxt ctx ++ ((Msgid, id) ∷ (optional MsgidPlural plural ++ keyed_forms plural forms)))

all_plain : (P : Text → Type 0) (forms : List Text) → AllByRecursion P forms → AllStrings P (map (λ form. (Msgstr, form)) forms)
all_plain P [] h = tt
all_plain P (form ∷ forms) h = (h.0, all_plain P forms h.1)

all_numbered : (P : Text → Type 0) (n : ℕ) (forms : List Text) → AllByRecursion P forms → AllStrings P (numbered n forms)
all_numbered P n [] h = tt
all_numbered P n (form ∷ forms) h = (h.0, all_numbered P (n + 1) forms h.1)

with_forms : (P : Text → Type 0) (ctx plural : Option Text) (id : Text) (forms : List Text) → AllStrings P (optional Msgctxt ctx ++ ((Msgid, id) ∷ optional MsgidPlural plural)) → AllByRecursion P forms → Of P ctx plural id forms
with_forms P None None id forms k h = (k.0, all_plain P forms h)
with_forms P None (Some plural) id forms k h = (k.0, (k.1.0, all_numbered P 0 forms h))
with_forms P (Some ctx) None id forms k h = (k.0, (k.1.0, all_plain P forms h))
with_forms P (Some ctx) (Some plural) id forms k h = (k.0, (k.1.0, (k.1.1.0, all_numbered P 0 forms h)))

-- ---- flags

fuzzy_flag : IsFlag fuzzy
unfolding is_utf8 chars lib.Utf8.encode
fuzzy_flag = record { line = (IsUtf8-from_is_utf8 fuzzy refl, refl); some = lit< tt; one = refl; trimmed = refl }

no_fuzzy : (flags : List Text) → list_any (text_eq fuzzy) flags ≡ false → AllByRecursion (λ flag. flag ≢ fuzzy) flags
no_fuzzy [] h = tt
no_fuzzy (flag ∷ flags) h = by (text_eq fuzzy flag) refl h (no_fuzzy flags)
  where
    by : (t : Bool) → text_eq fuzzy flag ≡ t → (t || list_any (text_eq fuzzy) flags) ≡ false → (list_any (text_eq fuzzy) flags ≡ false → AllByRecursion (λ f. f ≢ fuzzy) flags) → AllByRecursion (λ f. f ≢ fuzzy) (flag ∷ flags)
    by true e h rest = cc
    by false e h rest = ((λ same. clash (text_eq fuzzy flag) e ((bytes_eq-Decides fuzzy flag).1 (sym same))), rest h)

first_out : (P : Text → Type 0) (texts : List Text) → AllByRecursion P texts → AllByRecursion P (drop 1 texts)
first_out P [] h = tt
first_out P (text ∷ texts) h = h.1

flags_valid : (unit : Unit) (flags : List Text) → AllByRecursion IsFlag flags → AreDistinct flags → AllByRecursion (λ flag. flag ≢ fuzzy) flags → AreFlags (flags_of unit flags)
flags_valid unit flags each distinct none = by (is_needs_editing unit.state)
  where
    by : (t : Bool) → AreFlags (cond t (codes "fuzzy" ∷ flags) flags)
    by true = record { each = (fuzzy_flag, each); distinct = (none, distinct); fuzzy_first = none }
    by false = record { each = each; distinct = distinct; fuzzy_first = first_out (λ flag. flag ≢ fuzzy) flags none }

-- ---- entries

-- comment lines of a unit, as its entry has them
comment_valid : (comment : List Text) → AllByRecursion (λ line. IsUtf8 line) comment → AllByRecursion (λ line. IsTrue (is_comment_text line)) comment → AllByRecursion IsCommentLine comment
comment_valid comment utf8 commented = all_from (λ line. IsUtf8 line) (λ line. IsTrue (is_comment_text line)) IsCommentLine (λ line u h. (u, h)) comment utf8 commented

translated_valid : (project : Project) (lang : Text) (entry : Entry) (unit : Unit) → IsValidEntry entry → IsTemplateEntry entry → HasEntryStrings (translated entry unit)
    → AllByRecursion (λ line. IsTrue (is_comment_text line)) unit.comment → IsCounted (rule_at project lang)
    → length unit.forms ≡ forms_needed (rule_at project lang) unit.plural → unit.plural ≡ entry.plural → IsValidEntry (translated entry unit)
translated_valid project lang entry unit valid plain texts commented counted forms plural =
    let count = needed_counted (rule_at project lang) unit.plural counted in
    record {
      translator = comment_valid unit.comment texts.translator commented;
      extracted = valid.extracted;
      references = valid.references;
      flags = flags_valid unit entry.flags valid.flags.each valid.flags.distinct (no_fuzzy entry.flags plain.unmarked);
      strings = with_forms IsString entry.ctx entry.plural entry.id unit.forms texts.key texts.forms;
      previous = texts.previous;
      some = omega (arith, count.0);
      most = omega (arith, count.1);
      single = λ none. forms ∙ ap (forms_needed (rule_at project lang)) (plural ∙ none);
    }

obsolete_valid : (unit : Unit) (rule : Rule) → IsUnit rule unit → HasEntryStrings (obsolete_entry unit) → unit.obsolete ≡ true → IsValidEntry (obsolete_entry unit)
obsolete_valid unit rule is texts obsolete =
    let away = is.put_away obsolete in
    record {
      translator = comment_valid unit.comment texts.translator is.commented;
      extracted = tt;
      references = tt;
      flags = flags_valid unit [] tt tt tt;
      strings = with_forms IsString unit.key.ctx unit.plural unit.key.id unit.forms texts.key texts.forms;
      previous = texts.previous;
      some = omega (arith, away.1);
      most = away.2;
      single = away.3;
    }

no_header_key : (unit : Unit) (rule : Rule) → IsUnit rule unit → HasHeaderKey (obsolete_entry unit) → ⊥
no_header_key unit rule is e =
    let id : unit.key.id ≡ [] = ap (λ (k : EntryKey). k.1) e in
    false≢true (ap (λ t. not (is_empty t)) (sym id) ∙ is.named (ap (λ (k : EntryKey). k.0) e))

plain_header : (e : Entry) → IsHeader e → is_header e ≡ true
plain_header e h =
    let ctx : e.ctx ≡ None = ap (λ (k : EntryKey). k.0) h.key in
    let id : e.id ≡ [] = ap (λ (k : EntryKey). k.1) h.key in
    rw (ctx, id, h.plural, h.obsolete) refl

template_keys : (template : List Entry) → HasHeaderFirst template → AllByRecursion IsTemplateEntry template → AllByRecursion (λ e. HasHeaderKey e → ⊥) template
template_keys [] h plain = tt
template_keys (e ∷ es) h plain = ((λ key. clash (is_header e) plain.0.plain (plain_header e (h.0 key))), h.1)

-- ---- the template's entries, each with its unit

-- what stands in the catalogue for a template's entry
record Stands (project : Project) (lang : Text) (entry : Entry) : Type 0 where
  valid : HasEntryStrings (with_its_unit project lang entry) → IsValidEntry (with_its_unit project lang entry)
  same : entry_key (with_its_unit project lang entry) ≡ entry_key entry

stands : (project : Project) (lang : Text) (header : Entry) → IsProject project → maps.get project.headers lang ≡ Some header → IsCounted (rule_at project lang)
    → (entry : Entry) → IsValidEntry entry → IsTemplateEntry entry → entry_of project.template (key_of entry) ≡ Some entry → Stands project lang entry
stands project lang header rules there counted entry valid plain found =
    let unit = rules.complete lang (key_of entry) entry (ap is_some there) found in
    let is = rules.each (lang, key_of entry) unit.0 unit.1 in
    let made : with_its_unit project lang entry ≡ translated entry unit.0 = ap (λ u. option_map_or (translated entry) u entry) unit.1 in
    record {
      valid = λ texts. subst IsValidEntry (sym made) (translated_valid project lang entry unit.0 valid plain (subst HasEntryStrings made texts) is.commented counted (is.current unit.2).0 unit.3);
      same = ap entry_key made;
    }

all_stand : (project : Project) (lang : Text) (header : Entry) → IsProject project → maps.get project.headers lang ≡ Some header → IsCounted (rule_at project lang)
    → AllByRecursion (Stands project lang) project.template
all_stand project lang header rules there counted =
    let plain = all_listed IsTemplateEntry project.template rules.template_plain in
    all_from (λ e. IsValidEntry e × IsTemplateEntry e) (λ e. entry_of project.template (key_of e) ≡ Some e) (Stands project lang)
    (λ e h found. stands project lang header rules there counted e h.0 h.1 found) project.template
    (all_from IsValidEntry IsTemplateEntry (λ e. IsValidEntry e × IsTemplateEntry e) (λ e v p. (v, p)) project.template rules.template_valid.each plain)
    (found_each project.template rules.template_valid.unique)

-- ---- the units that are put away

abbrev away_of : Text → List (Place × Unit) → List Entry
away_of lang es = map obsolete_entry (filter (λ unit. unit.obsolete && not (all_empty unit.forms)) (map (λ e. e.1) (filter (λ e. text_eq lang e.0.0) es)))

-- what holds of each row of an obsolete unit of the language holds of its entry
abbrev IfAway : Text → (Entry → Type 0) → Place × Unit → Type 0
IfAway lang P e = lang ≡ e.0.0 → e.1.obsolete ≡ true → P (obsolete_entry e.1)

away_all : (lang : Text) (P : Entry → Type 0) (es : List (Place × Unit)) → AllByRecursion (IfAway lang P) es → AllByRecursion P (away_of lang es)
away_all lang P [] h = tt
away_all lang P (e ∷ es) h = by_lang (text_eq lang e.0.0) refl (away_all lang P es h.1)
  where
    by_kept : (o k : Bool) → e.1.obsolete ≡ o → lang ≡ e.0.0 → AllByRecursion P (away_of lang es) → AllByRecursion P (map obsolete_entry (cond (o && k)
        (e.1 ∷ filter (λ unit. unit.obsolete && not (all_empty unit.forms)) (map (λ x. x.1) (filter (λ x. text_eq lang x.0.0) es)))
        (filter (λ unit. unit.obsolete && not (all_empty unit.forms)) (map (λ x. x.1) (filter (λ x. text_eq lang x.0.0) es)))))
    by_kept true true o l rest = (h.0 l o, rest)
    by_kept true false o l rest = rest
    by_kept false k o l rest = rest

    by_lang : (t : Bool) → text_eq lang e.0.0 ≡ t → AllByRecursion P (away_of lang es) → AllByRecursion P (map obsolete_entry (filter (λ unit. unit.obsolete && not (all_empty unit.forms)) (map (λ x. x.1)
        (cond t (e ∷ filter (λ x. text_eq lang x.0.0) es) (filter (λ x. text_eq lang x.0.0) es)))))
    by_lang true l rest = by_kept e.1.obsolete (not (all_empty e.1.forms)) refl ((bytes_eq-Decides lang e.0.0).0 l) rest
    by_lang false l rest = rest

-- rows of a map: each is found at its place, and no place comes twice
abbrev Rows : List (Place × Unit) → Type 0
Rows es = AllByRecursion (λ e. maps.find place_cmp e.0 es ≡ Some e.1) es

abbrev AreApart : List (Place × Unit) → Type 0
AreApart [] = Prim.Unit {0}
AreApart (e ∷ es) = AllByRecursion (λ f. f.0 ≢ e.0) es × AreApart es

true_from : (b : Bool) → T b → b ≡ true
true_from true t = refl
true_from false t = absurd t

first : (a b : Bool) → (a && b) ≡ true → a ≡ true
first true b h = refl
first false b h = cc

second : (a b : Bool) → (a && b) ≡ true → b ≡ true
second true b h = h
second false b h = cc

above : (place : Place) (es : List (Place × Unit)) → below_all place_cmp place es ≡ true → AllByRecursion (λ f. f.0 ≢ place) es
above place [] h = tt
above place (f ∷ es) h = (
  (λ same. not_below (place_cmp place f.0) (first (is_lt (place_cmp place f.0)) (below_all place_cmp place es) h) (ap (place_cmp place) same ∙ tied (place_cmp place place) ((eq_by_cmp_equiv place_total).refl place))),
  above place es (second (is_lt (place_cmp place f.0)) (below_all place_cmp place es) h),
)
  where
    not_below : (r : Ordering) → is_lt r ≡ true → r ≡ Equal → ⊥
    not_below r lt eq = let wrong : false ≡ true = ap is_lt (sym eq) ∙ lt in false≢true wrong

rows_apart : (es : List (Place × Unit)) → is_sorted place_cmp es ≡ true → AreApart es
rows_apart [] h = tt
rows_apart (e ∷ es) h =
    (above e.0 es (first (below_all place_cmp e.0 es) (is_sorted place_cmp es) h), rows_apart es (second (below_all place_cmp e.0 es) (is_sorted place_cmp es) h))

other_place : (p q : Place) → p ≢ q → eq_by_cmp place_cmp p q ≡ false
other_place p q differs = by (eq_by_cmp place_cmp p q) refl
  where
    by : (t : Bool) → eq_by_cmp place_cmp p q ≡ t → t ≡ false
    by true e = absurd (differs (place_IsAntisymmetric p q (tied (place_cmp p q) e)))
    by false e = refl

rows_found : (es : List (Place × Unit)) → AreApart es → Rows es
rows_found [] h = tt
rows_found (e ∷ es) h = (
  ap (λ t. cond t (Some e.1) (maps.find place_cmp e.0 es)) ((eq_by_cmp_equiv place_total).refl e.0),
  all_from (λ (f : Place × Unit). f.0 ≢ e.0) (λ (f : Place × Unit). maps.find place_cmp f.0 es ≡ Some f.1) (λ (f : Place × Unit). maps.find place_cmp f.0 (e ∷ es) ≡ Some f.1)
      (λ f differs there. ap (λ t. cond t (Some e.1) (maps.find place_cmp f.0 es)) (other_place f.0 e.0 differs) ∙ there) es h.0 (rows_found es h.1),
)

-- the rows of a project's units
abbrev IsRow : Project → Place × Unit → Type 0
IsRow project e = maps.get project.units e.0 ≡ Some e.1

apart : (project : Project) → AreApart (maps.entries project.units)
apart project = rows_apart (maps.entries project.units) (true_from _ (maps.entries_sorted project.units))

each_row : (project : Project) → AllByRecursion (IsRow project) (maps.entries project.units)
each_row project =
    all_from (λ (e : Place × Unit). maps.find place_cmp e.0 (maps.entries project.units) ≡ Some e.1) (λ (e : Place × Unit). Prim.Unit {0}) (IsRow project)
    (λ e found none. maps.get-entries project.units e.0 ∙ found) (maps.entries project.units) (rows_found (maps.entries project.units) (apart project)) (each_one (λ e. Prim.Unit {0}) (λ e. tt) (maps.entries project.units))

-- what holds of each obsolete unit of a language holds of its entry
away_each : (project : Project) (lang : Text) (P : Entry → Type 0) → ((unit : Unit) → maps.get project.units (lang, unit.key) ≡ Some unit → unit.obsolete ≡ true → P (obsolete_entry unit))
    → IsProject project → AllByRecursion P (away_of lang (maps.entries project.units))
away_each project lang P f rules =
    away_all lang P (maps.entries project.units)
    (all_from (IsRow project) (λ (e : Place × Unit). Prim.Unit {0}) (IfAway lang P)
    (λ e there none is obsolete. f e.1 (at_key e there is) obsolete) (maps.entries project.units) (each_row project) (each_one (λ e. Prim.Unit {0}) (λ e. tt) (maps.entries project.units)))
  where
    at_key : (e : Place × Unit) → maps.get project.units e.0 ≡ Some e.1 → lang ≡ e.0.0 → maps.get project.units (lang, e.1.key) ≡ Some e.1
    at_key e there is =
        let own : e.1.key ≡ e.0.1 = (rules.placed e.0 e.1 there).0 in
        let place : (lang, e.1.key) ≡ e.0 = λ i. (is i, own i) in
        ap (maps.get project.units) place ∙ there

-- no two have one key
away_unique : (project : Project) (lang : Text) → IsProject project → (es : List (Place × Unit)) → AllByRecursion (IsRow project) es → AreApart es → HasUniqueKeys (away_of lang es)
away_unique project lang rules [] rows h = tt
away_unique project lang rules (e ∷ es) rows h = by_lang (text_eq lang e.0.0) refl (away_unique project lang rules es rows.1 h.1)
  where
    others : lang ≡ e.0.0 → AllByRecursion (λ other. entry_key other ≢ entry_key (obsolete_entry e.1)) (away_of lang es)
    others own = away_all lang (λ other. entry_key other ≢ entry_key (obsolete_entry e.1)) es
        (all_from (IsRow project) (λ (f : Place × Unit). f.0 ≢ e.0) (IfAway lang (λ other. entry_key other ≢ entry_key (obsolete_entry e.1)))
        (λ f there differs is obsolete same.
        let keys : f.1.key ≡ e.1.key = key_back f.1.key e.1.key same in
        let langs : f.0.0 ≡ e.0.0 = sym is ∙ own in
        let places : f.0.1 ≡ e.0.1 = sym (rules.placed f.0 f.1 there).0 ∙ keys ∙ (rules.placed e.0 e.1 rows.0).0 in
        differs (λ i. (langs i, places i))) es rows.1 h.0)

    by_kept : (o k : Bool) → lang ≡ e.0.0 → HasUniqueKeys (away_of lang es) → HasUniqueKeys (map obsolete_entry (cond (o && k)
        (e.1 ∷ filter (λ unit. unit.obsolete && not (all_empty unit.forms)) (map (λ x. x.1) (filter (λ x. text_eq lang x.0.0) es)))
        (filter (λ unit. unit.obsolete && not (all_empty unit.forms)) (map (λ x. x.1) (filter (λ x. text_eq lang x.0.0) es)))))
    by_kept true true own rest = (others own, rest)
    by_kept true false own rest = rest
    by_kept false k own rest = rest

    by_lang : (t : Bool) → text_eq lang e.0.0 ≡ t → HasUniqueKeys (away_of lang es) → HasUniqueKeys (map obsolete_entry (filter (λ unit. unit.obsolete && not (all_empty unit.forms)) (map (λ x. x.1)
        (cond t (e ∷ filter (λ x. text_eq lang x.0.0) es) (filter (λ x. text_eq lang x.0.0) es)))))
    by_lang true l rest = by_kept e.1.obsolete (not (all_empty e.1.forms)) ((bytes_eq-Decides lang e.0.0).0 l) rest
    by_lang false l rest = rest

-- ---- the catalogue

unique_both : (xs ys : List Entry) → HasUniqueKeys xs → HasUniqueKeys ys → AllByRecursion (λ x. AllByRecursion (λ y. entry_key y ≢ entry_key x) ys) xs → HasUniqueKeys (xs ++ ys)
unique_both [] ys u v h = v
unique_both (x ∷ xs) ys u v h = (all_both (λ y. entry_key y ≢ entry_key x) xs ys u.0 h.0, unique_both xs ys u.1 v h.1)

mapped_unique : (f : Entry → Entry) (xs : List Entry) → AllByRecursion (λ x. entry_key (f x) ≡ entry_key x) xs → HasUniqueKeys xs → HasUniqueKeys (map f xs)
mapped_unique f [] same u = tt
mapped_unique f (x ∷ xs) same u = (
  all_mapped (λ y. entry_key y ≢ entry_key (f x)) f xs
      (all_from (λ y. entry_key (f y) ≡ entry_key y) (λ y. entry_key y ≢ entry_key x) (λ y. entry_key (f y) ≢ entry_key (f x)) (λ y e differs both. differs (sym e ∙ both ∙ same.0)) xs same.1 u.0),
  mapped_unique f xs same.1 u.1,
)

abbrev IsNothing : EntryKey → Type 0
IsNothing key = key ≡ (None, [])

header_key : (header : Entry) → is_header header ≡ true → HasHeaderKey header
header_key header h = by header.ctx header.id (first (is_none header.ctx) (is_empty header.id) (first _ (is_none header.plural) (first _ (not header.obsolete) h)))
    (second (is_none header.ctx) (is_empty header.id) (first _ (is_none header.plural) (first _ (not header.obsolete) h)))
  where
    by : (ctx : Option Text) (id : Text) → is_none ctx ≡ true → is_empty id ≡ true → IsNothing (ctx, id)
    by None [] c i = refl
    by None (b ∷ id) c i = cc
    by (Some ctx) id c i = cc

pub catalogue_valid : (project : Project) (lang : Text) (header : Entry) → IsProject project → AllByRecursion HasEntryStrings (catalogue_of project lang header) → maps.get project.headers lang ≡ Some header
    → IsValid (catalogue_of project lang header)
unfolding catalogue_of
catalogue_valid project lang header rules strings there =
    let ruled = rules.ruled lang header there in
    let counted = rule_counted project lang header there ruled.2 in
    let made = with_its_unit project lang in
    let template = map made project.template in
    let away = away_of lang (maps.entries project.units) in
    let standing = all_stand project lang header rules there counted in
    let texts = parted HasEntryStrings template away strings.1 in
    let same = all_from (Stands project lang) (λ e. Prim.Unit {0}) (λ e. entry_key (made e) ≡ entry_key e) (λ e s none. s.same) project.template standing (each_one (λ e. Prim.Unit {0}) (λ e. tt) project.template) in
    let plain = all_listed IsTemplateEntry project.template rules.template_plain in
    let template_named : AllByRecursion (λ e. HasHeaderKey e → ⊥) template = all_mapped (λ e. HasHeaderKey e → ⊥) made project.template
    (all_from (λ e. entry_key (made e) ≡ entry_key e) (λ e. HasHeaderKey e → ⊥) (λ e. HasHeaderKey (made e) → ⊥) (λ e s none key. none (sym s ∙ key)) project.template same (template_keys project.template rules.template_valid.header plain)) in
    let away_named : AllByRecursion (λ e. HasHeaderKey e → ⊥) away = away_each project lang (λ e. HasHeaderKey e → ⊥) (λ unit at obsolete. no_header_key unit (rule_at project lang) (rules.each (lang, unit.key) unit at)) rules in
    let named = all_both (λ e. HasHeaderKey e → ⊥) template away template_named away_named in
    record {
      each = (
        ruled.1.each.0,
        all_both IsValidEntry template away
            (all_mapped IsValidEntry made project.template (all_from (Stands project lang) (λ e. HasEntryStrings (made e)) (λ e. IsValidEntry (made e)) (λ e s h. s.valid h) project.template standing (mapped_all HasEntryStrings made project.template texts.0)))
            (all_from (λ e. HasEntryStrings e → IsValidEntry e) HasEntryStrings IsValidEntry (λ e f h. f h) away
            (away_each project lang (λ e. HasEntryStrings e → IsValidEntry e) (λ unit at obsolete texts. obsolete_valid unit (rule_at project lang) (rules.each (lang, unit.key) unit at) texts obsolete) rules) texts.1),
      );
      unique = (
        all_from (λ e. HasHeaderKey e → ⊥) (λ e. Prim.Unit {0}) (λ e. entry_key e ≢ entry_key header) (λ e none t both. none (both ∙ header_key header ruled.0)) (template ++ away) named (each_one (λ e. Prim.Unit {0}) (λ e. tt) (template ++ away)),
        unique_both template away (mapped_unique made project.template same rules.template_valid.unique) (away_unique project lang rules (maps.entries project.units) (each_row project) (apart project))
            (all_mapped (λ x. AllByRecursion (λ y. entry_key y ≢ entry_key x) away) made project.template
            (all_from (λ e. entry_key (made e) ≡ entry_key e) (λ e. entry_of project.template (key_of e) ≡ Some e) (λ e. AllByRecursion (λ y. entry_key y ≢ entry_key (made e)) away)
            (λ e s found. away_each project lang (λ y. entry_key y ≢ entry_key (made e)) (λ unit at obsolete both. not_both e found unit at obsolete (both ∙ s)) rules)
            project.template same (found_each project.template rules.template_valid.unique))),
      );
      header = (ruled.1.header.0, named);
    }
  where
    not_both : (e : Entry) → entry_of project.template (key_of e) ≡ Some e → (unit : Unit) → maps.get project.units (lang, unit.key) ≡ Some unit → unit.obsolete ≡ true → entry_key (obsolete_entry unit) ≡ entry_key e → ⊥
    not_both e found unit at obsolete same =
        let current = rules.complete lang (key_of e) e (ap is_some there) found in
        let keys : unit.key ≡ key_of e = key_back unit.key (key_of e) same in
        let value : Some unit ≡ Some current.0 = sym at ∙ ap (λ k. maps.get project.units (lang, k)) keys ∙ current.1 in
        let one : unit ≡ current.0 = cc in
        clash unit.obsolete (ap (λ (u : Unit). u.obsolete) one ∙ current.2) obsolete
