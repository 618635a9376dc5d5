-- Both openings, with nothing recorded, keep the rules of an office with its book.
use Rattle.std.proofs.Common.{◌≡◌, ◌≤◌, ◌<◌, ℕ, ◌+◌, zero, suc, List, [], ◌∷◌, ◌++◌, Bool, true, false, cond, not, ◌&&◌, Option, Some, None, Result, Ok, Err, refl, sym, ◌∙◌, ap, subst, length, map, All, arith}
use Rattle.std.specs.Prelude.{IsSome, IsOk, is_some, unwrap_or, nat_lt, filter, flat_map, codes, IsUtf8, slice_index}
use Rattle.std.specs.List.{list_any, list_all, IsDistinct}
use Rattle.std.specs.declared.cmp.Ordering.{Ordering}
use Rattle.std.specs.declared.cmp.Ordering.TheVariants.{Less, Equal, Greater}
use Rattle.std.specs.Ordering.{is_eq, eq_by_cmp, ordering_then}
use Rattle.std.specs.Cmp.{IsTotalOrder}
use Rattle.std.specs.FinMap as maps
use Rattle.std.proofs.lemmas.Bool.{ltb-true}
use Rattle.std.proofs.lemmas.List.Elements.{All-nil}
use Rattle.std.proofs.lemmas.Str.{IsUtf8-from_ascii}
use Rattle.std.proofs.lemmas.Str.Ascii.{IsAscii-nil}
use Rattle.po_lex.specs.Lines.{lines_of}
use Rattle.po_text.specs.declared.entry.Entry.{Entry}
use Rattle.po_text.specs.Entries.{Key as EntryKey, is_header}
use Rattle.po_text.specs.Header.{has_charset, field_value}
use Rattle.po_text.specs.Texts.{Text, text_cmp, text_eq}
use Rattle.po_text.specs.Valid.{IsValid, IsValidEntry, HasHeaderKey}
use Rattle.plural_expr.specs.Values.{Rule}
use Rattle.plural_expr.specs.Faults.{reading_of}
use Rattle.plural_expr.specs.declared.fault.PluralFault.{PluralFault}
use Rattle.units.specs.Limits.{unit_limit}
use Rattle.units.specs.Units.{is_below, is_approved, key_cmp}
use Rattle.units.specs.Project.{Place, place_cmp, place_eq, entry_of}
use Rattle.units.specs.Office.{Domain, empty_domain, same_domain, main, Office, as_project, project_in}
use Rattle.units.specs.Projects.{IsUnit, IsTemplateEntry, IsProject}
use Rattle.units.specs.Offices.{IsOffice}
use Rattle.units.specs.Openings.{demo, demo_domain, opening, plain_entry, demo_header, demo_unit}
use Rattle.units.specs.Rules.{rule_in}
use Rattle.units.specs.declared.unit.Key.{Key}
use Rattle.units.specs.declared.unit.Unit.{Unit}
use Rattle.units.specs.declared.unit.Role.{Role}
use Rattle.units.specs.declared.unit.Role.TheVariants.{Guest, Translator, Manager}
use Rattle.units.specs.Orders.{text_total, place_total}
use Rattle.office_specification.specs.OfficeRules.{numbers_in, all_numbers, KeepsRules}
use Rattle.office_specification.proofs.domains.InDomains.{Domains, its_own_domain}
use Rattle.office_specification.proofs.rules.DomainNumbers.{no_entries, no_numbers}
use Rattle.office_specification.proofs.rules.Demo.{no_fault, ruled}
use Rattle.office_specification.proofs.rows.DemoRequests.{begun, demo_project, de, hello, ann, root}
use Rattle.office_specification.proofs.domains.Places.{same_place}
use Rattle.office_specification.proofs.retries.Running.{one_all}

-- ---- maps of no entry and of one

module _ {K X : Type 0} (R : K → K → Ordering) where
  nothing_there : {A : Type 0} (q : K) (u : X) → maps.get (maps.empty {X = X} {R = R}) q ≡ Some u → A
  nothing_there q u e = let wrong : None ≡ Some u = sym (maps.get-empty R q) ∙ e in cc

  module _ (o : IsTotalOrder R) (k : K) (v : X) where
    one_entry : maps.entries (maps.insert (maps.empty {R = R}) k v) ≡ (k, v) ∷ []
    one_entry = maps.entries-insert o maps.empty k v ∙ ap (maps.put R k v) (no_entries R)

    one_long : maps.len (maps.insert (maps.empty {R = R}) k v) ≡ 1
    one_long = maps.len-entries _ ∙ ap length one_entry

    only : (q : K) (u : X) → maps.get (maps.insert (maps.empty {R = R}) k v) q ≡ Some u → (eq_by_cmp R q k ≡ true) × (v ≡ u)
    only q u e = by_test (eq_by_cmp R q k) refl (sym (maps.get-insert o maps.empty k v q ∙ ap (λ g. cond (eq_by_cmp R q k) (Some v) g) (maps.get-empty R q)) ∙ e)
      where
        by_test : (c : Bool) → eq_by_cmp R q k ≡ c → cond c (Some v) None ≡ Some u → (eq_by_cmp R q k ≡ true) × (v ≡ u)
        by_test true t h = let same : v ≡ u = cc in (t, same)
        by_test false t h = cc

    there : (q : K) → IsSome (maps.get (maps.insert (maps.empty {R = R}) k v) q) → eq_by_cmp R q k ≡ true
    there q s = by_test (eq_by_cmp R q k) refl (subst (λ g. is_some g ≡ true) (maps.get-insert o maps.empty k v q ∙ ap (λ g. cond (eq_by_cmp R q k) (Some v) g) (maps.get-empty R q)) s)
      where
        by_test : (c : Bool) → eq_by_cmp R q k ≡ c → is_some (cond c (Some v) None) ≡ true → eq_by_cmp R q k ≡ true
        by_test true t h = t
        by_test false t h = cc

tied : (r : Ordering) → is_eq r ≡ true → r ≡ Equal
tied Less e = cc
tied Equal e = refl
tied Greater e = cc

-- ---- an office with one manager

-- an office with one domain
one_domain : (office : Office) (domain : Domain) → office.domains ≡ maps.insert maps.empty main domain → IsProject (as_project office domain) → IsOffice office
one_domain office domain is kept = record {
  has_main = ap is_some (get-main main) ∙ ap (λ c. is_some (cond c (Some domain) None)) (its_own_domain main);
  few_domains = rw is (rw (one_long text_cmp text_total main domain) (omega arith));
  projects = λ name there. by name (same_domain name main) refl (subst IsSome (get-main name) there);
}
  where
    get-main : (name : Text) → maps.get office.domains name ≡ cond (same_domain name main) (Some domain) None
    get-main name = ap (λ (m : Domains). maps.get m name) is ∙ (maps.get-insert text_total maps.empty main domain name ∙ ap (λ g. cond (same_domain name main) (Some domain) g) (maps.get-empty text_cmp name))

    by : (name : Text) (tie : Bool) → same_domain name main ≡ tie → IsSome (cond tie (Some domain) None) → IsProject (project_in office name)
    by name true t there = subst (λ o. IsProject (as_project office (unwrap_or o empty_domain))) (sym (get-main name ∙ ap (λ c. cond c (Some domain) None) t)) kept
    by name false t there = cc

-- its numbers are those of its domain
one_numbers : (office : Office) (domain : Domain) → office.domains ≡ maps.insert maps.empty main domain → numbers_in domain ≡ [] → all_numbers office ≡ []
one_numbers office domain is none =
    ap (λ (m : Domains). flat_map (λ d. numbers_in d.1) (maps.entries m)) is
    ∙ (ap (λ (es : List (Text × Domain)). flat_map (λ d. numbers_in d.1) es) (one_entry text_cmp text_total main domain) ∙ ap (λ ns. ns ++ []) none)

opening_project : (name : Text) → IsProject (as_project (opening name) empty_domain)
opening_project name = record {
  managed = ap (λ es. list_any (λ role. not (is_below role Manager)) (map (λ e. e.1) es)) (one_entry text_cmp text_total name Manager);
  members = λ n role e. ap (is_below Guest) (sym (only text_cmp text_total name Manager n role e).1);
  accepting = refl;
  template_valid = record { each = tt; unique = tt; header = tt };
  template_plain = All-nil IsTemplateEntry;
  ruled = λ lang header e. nothing_there text_cmp lang header e;
  placed = λ place unit e. nothing_there place_cmp place unit e;
  complete = λ lang key entry there is. cc;
  exact = λ place unit e current. nothing_there place_cmp place unit e;
  each = λ place unit e. nothing_there place_cmp place unit e;
  reviewed = λ off place unit e. nothing_there place_cmp place unit e;
  few_languages = rw (maps.len-empty text_cmp Entry) (omega arith);
  few_names = rw (one_long text_cmp text_total name Manager) (omega arith);
  few_units = λ lang. subst (λ (es : List (Place × Unit)). length (map (λ e. e.1) (filter (λ e. text_eq lang e.0.0) es)) ≤ unit_limit) (sym (no_entries place_cmp)) (omega arith);
}

-- what one domain or none has
in_one : (office : Office) (domain : Domain) → office.domains ≡ maps.insert maps.empty main domain → (name : Text) (place : Place) (unit : Unit) → maps.get (project_in office name).units place ≡ Some unit → maps.get domain.units place ≡ Some unit
in_one office domain is name place unit e = by (same_domain name main) (subst (λ (o : Option Domain). maps.get (unwrap_or o empty_domain).units place ≡ Some unit) get-name e)
  where
    get-name : maps.get office.domains name ≡ cond (same_domain name main) (Some domain) None
    get-name = ap (λ (m : Domains). maps.get m name) is ∙ (maps.get-insert text_total maps.empty main domain name ∙ ap (λ g. cond (same_domain name main) (Some domain) g) (maps.get-empty text_cmp name))

    by : (tie : Bool) → maps.get (unwrap_or (cond tie (Some domain) None) empty_domain).units place ≡ Some unit → maps.get domain.units place ≡ Some unit
    by true h = h
    by false h = nothing_there place_cmp place unit h

pub opening_starts : (name : Text) → KeepsRules (record { office = opening name; book = maps.empty })
unfolding IsDistinct
opening_starts name = record {
  office = one_domain (opening name) empty_domain refl (opening_project name);
  recorded = λ domain place unit e. nothing_there place_cmp place unit (in_one (opening name) empty_domain refl domain place unit e);
  own_numbers = subst (IsDistinct text_eq) (sym (one_numbers (opening name) empty_domain refl no_numbers)) tt;
  statuses = λ number recorded e. nothing_there text_cmp number recorded e;
}

-- ---- the demo office

left_true : (a b : Bool) → (a && b) ≡ true → a ≡ true
left_true true b e = refl
left_true false b e = e

right_true : (a b : Bool) → (a && b) ≡ true → b ≡ true
right_true true b e = e
right_true false b e = cc

below : (text : Text) → list_all (λ b. nat_lt b 128) text ≡ true → (i : ℕ) → slice_index text i < 128
below [] e i = IsAscii-nil i
below (b ∷ text) e zero = ltb-true b 128 (left_true (nat_lt b 128) (list_all (λ b. nat_lt b 128) text) e)
below (b ∷ text) e (suc i) = below text (right_true (nat_lt b 128) (list_all (λ b. nat_lt b 128) text) e) i

ascii : (text : Text) → list_all (λ b. nat_lt b 128) text ≡ true → IsUtf8 text
ascii text e = IsUtf8-from_ascii text (below text e)

valid_hello : IsValidEntry (plain_entry (codes "Hello") [])
valid_hello = record {
  translator = tt;
  extracted = tt;
  references = tt;
  flags = record { each = tt; distinct = tt; fuzzy_first = tt };
  strings = ((ascii (codes "Hello") refl, refl), ((ascii [] refl, refl), tt));
  previous = tt;
  some = omega arith;
  most = omega arith;
  single = λ _. refl;
}

not_header : HasHeaderKey (plain_entry (codes "Hello") []) → ⊥
not_header e = let wrong : codes "Hello" ≡ [] = ap (λ (k : EntryKey). k.1) e in cc

pub valid_template : IsValid (plain_entry (codes "Hello") [] ∷ [])
valid_template = record { each = (valid_hello, tt); unique = (tt, tt); header = ((λ e. absurd (not_header e)), tt) }

plain_hello : IsTemplateEntry (plain_entry (codes "Hello") [])
plain_hello = record { plain = refl; current = refl; unworked = refl; uncommented = refl; unchanged = refl; unmarked = refl }

valid_header : IsValidEntry (plain_entry [] demo_header)
valid_header = record {
  translator = tt;
  extracted = tt;
  references = tt;
  flags = record { each = tt; distinct = tt; fuzzy_first = tt };
  strings = ((ascii [] refl, refl), ((ascii demo_header refl, refl), tt));
  previous = tt;
  some = omega arith;
  most = omega arith;
  single = λ _. refl;
}

charset : has_charset demo_header ≡ true
unfolding has_charset field_value lines_of
charset = refl

header_catalogue : IsValid (plain_entry [] demo_header ∷ [])
header_catalogue = record {
  each = (valid_header, tt);
  unique = (tt, tt);
  header = ((λ _. record { key = refl; plural = refl; obsolete = refl; charset = (charset, tt) }), tt);
}

has_rule : IsOk (rule_in (Some (plain_entry [] demo_header)))
has_rule = by_reading (reading_of (codes "nplurals=2; plural=n != 1;")) refl
  where
    by_reading : (r : Result Rule PluralFault) → reading_of (codes "nplurals=2; plural=n != 1;") ≡ r → IsOk (rule_in (Some (plain_entry [] demo_header)))
    by_reading (Ok rule) e = subst IsOk (sym (ruled (plain_entry [] demo_header) rule refl e)) refl
    by_reading (Err fault) e = absurd (no_fault fault e)

hello_unit : (rule : Rule) → IsUnit rule demo_unit
hello_unit rule = record {
  current = λ _. (refl, All-nil _);
  put_away = λ e. cc;
  named = λ _. refl;
  previous = λ _. refl;
  revised = (omega arith, omega arith);
  commented = tt;
  suggested = omega arith;
  voted = All-nil _;
}

-- what stands in the demo office's one place
hello_only : (place : Place) (unit : Unit) → maps.get demo_domain.units place ≡ Some unit → (place ≡ (de, hello)) × (demo_unit ≡ unit)
hello_only place unit e =
    let h = only place_cmp place_total (de, hello) demo_unit place unit e in
    (same_place place (de, hello) h.0, h.1)

a_member : (name : Text) (role : Role) → maps.get demo.team name ≡ Some role → is_below Guest role ≡ true
a_member name role e =
    by_tests (eq_by_cmp text_cmp name ann) (eq_by_cmp text_cmp name root)
    (sym (maps.get-insert text_total (maps.insert maps.empty root Manager) ann Translator name
    ∙ ap (λ g. cond (eq_by_cmp text_cmp name ann) (Some Translator) g)
    (maps.get-insert text_total maps.empty root Manager name ∙ ap (λ g. cond (eq_by_cmp text_cmp name root) (Some Manager) g) (maps.get-empty text_cmp name))) ∙ e)
  where
    by_tests : (c d : Bool) → cond c (Some Translator) (cond d (Some Manager) None) ≡ Some role → is_below Guest role ≡ true
    by_tests true d e = let same : Translator ≡ role = cc in ap (is_below Guest) (sym same)
    by_tests false true e = let same : Manager ≡ role = cc in ap (is_below Guest) (sym same)
    by_tests false false e = cc

few_members : maps.len demo.team ≤ 1000
few_members = rw (maps.len-insert text_total (maps.insert maps.empty root Manager) ann Translator) (by_test _ _ (one_long text_cmp text_total root Manager))
  where
    by_test : (c : Bool) (n : ℕ) → n ≡ 1 → cond c n (n + 1) ≤ 1000
    by_test true n e = omega arith
    by_test false n e = omega arith

one_or_none : (c : Bool) → length (map (λ (e : Place × Unit). e.1) (cond c (((de, hello), demo_unit) ∷ []) [])) ≤ unit_limit
one_or_none true = omega arith
one_or_none false = omega arith

hello_in : (lang : Text) (key : Key) (entry : Entry) → IsSome (maps.get demo_domain.headers lang) → (t : Bool) → eq_by_cmp key_cmp key hello ≡ t → cond t (Some (plain_entry (codes "Hello") [])) None ≡ Some entry →
    (unit : Unit) × (maps.get demo_domain.units (lang, key) ≡ Some unit) × (unit.obsolete ≡ false) × (unit.plural ≡ entry.plural)
hello_in lang key entry there_is true t e =
    let a : text_cmp lang de ≡ Equal = tied (text_cmp lang de) (there text_cmp text_total de (plain_entry [] demo_header) lang there_is) in
    let b : key_cmp key hello ≡ Equal = tied (key_cmp key hello) t in
    let same : place_eq (lang, key) (de, hello) ≡ true = λ i. is_eq (ordering_then (a i) (b i)) in
    let is : plain_entry (codes "Hello") [] ≡ entry = cc in
    (demo_unit, maps.get-insert place_total maps.empty (de, hello) demo_unit (lang, key) ∙ ap (λ c. cond c (Some demo_unit) (maps.get (maps.empty {X = Unit} {R = place_cmp}) (lang, key))) same, refl, ap (λ (x : Entry). x.plural) is)
hello_in lang key entry there_is false t e = cc

demo_project_kept : IsProject demo_project
demo_project_kept = record {
  managed = ap (λ es. list_any (λ role. not (is_below role Manager)) (map (λ e. e.1) es))
      (maps.entries-insert text_total (maps.insert maps.empty root Manager) ann Translator ∙ ap (maps.put text_cmp ann Translator) (one_entry text_cmp text_total root Manager));
  members = a_member;
  accepting = refl;
  template_valid = valid_template;
  template_plain = one_all IsTemplateEntry (plain_entry (codes "Hello") []) plain_hello;
  ruled = λ lang header e.
      subst (λ (h : Entry). (is_header h ≡ true) × IsValid (h ∷ []) × IsOk (rule_in (Some h))) (only text_cmp text_total de (plain_entry [] demo_header) lang header e).1 (refl, header_catalogue, has_rule);
  placed = λ place unit e.
      let h = hello_only place unit e in
      (ap (λ (u : Unit). u.key) (sym h.1) ∙ ap (λ (p : Place). p.1) (sym h.0), subst (λ (p : Place). IsSome (maps.get demo_domain.headers p.0)) (sym h.0) (ap is_some (maps.get-insert text_total maps.empty de (plain_entry [] demo_header) de)));
  complete = λ lang key entry there_is is. hello_in lang key entry there_is (eq_by_cmp key_cmp key hello) refl is;
  exact = λ place unit e current. subst (λ (p : Place). IsSome (entry_of demo_domain.template p.1)) (sym (hello_only place unit e).0) refl;
  each = λ place unit e. subst (IsUnit _) (hello_only place unit e).1 (hello_unit _);
  reviewed = λ off place unit e. ap (λ (u : Unit). is_approved u.state) (sym (hello_only place unit e).1);
  few_languages = rw (one_long text_cmp text_total de (plain_entry [] demo_header)) (omega arith);
  few_names = few_members;
  few_units = λ lang. subst (λ (es : List (Place × Unit)). length (map (λ e. e.1) (filter (λ e. text_eq lang e.0.0) es)) ≤ unit_limit) (sym (one_entry place_cmp place_total (de, hello) demo_unit)) (one_or_none (text_eq lang de));
}

-- no unit has a suggestion
demo_numbers : numbers_in demo_domain ≡ []
demo_numbers = ap (λ (es : List (Place × Unit)). flat_map (λ e. map (λ s. s.number) e.1.suggestions) es) (one_entry place_cmp place_total (de, hello) demo_unit)

pub demo_starts : KeepsRules begun
unfolding IsDistinct
demo_starts = record {
  office = one_domain demo demo_domain refl demo_project_kept;
  recorded = λ domain place unit e.
      subst (λ (u : Unit). All (λ s. IsSome (maps.get begun.book s.number)) u.suggestions) (hello_only place unit (in_one demo demo_domain refl domain place unit e)).1 (All-nil _);
  own_numbers = subst (IsDistinct text_eq) (sym (one_numbers demo demo_domain refl demo_numbers)) tt;
  statuses = λ number recorded e. nothing_there text_cmp number recorded e;
}
