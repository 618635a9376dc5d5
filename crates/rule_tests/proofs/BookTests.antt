-- What the tests of an office with its book tell.
use Rattle.std.proofs.Common.{◌≡◌, ◌+◌, ◌<◌, ℕ, Bool, true, false, cond, not, ◌&&◌, ◌||◌, List, [], ◌∷◌, ◌++◌, length, map, take, drop, get_or, append_assoc, add-one, Option, Some, None, is_some, option_map, refl, sym, ap, subst, ◌∙◌}
use Rattle.std.specs.Prelude.{IsSome, All, String, string_bytes, unwrap_or, flat_map}
use Rattle.std.specs.Bool.{Decides}
use Rattle.std.specs.List.{list_any, list_all, AllByRecursion, IsDistinct}
use Rattle.std.specs.Map.{values_of, lookup}
use Rattle.std.specs.Ordering.{is_eq, eq_by_cmp}
use Rattle.std.specs.BTreeMap.{BTreeMap, IsOrdered, get_by, get}
use Rattle.std.specs.BTreeMap.{Updates as MapUpdates}
use Rattle.std.specs.BTreeSet.{BTreeSet, contains, Updates}
use Rattle.std.specs.Cmp.{eq_by_cmp_equiv}
use Rattle.std.specs.Cmp.Lexicographic.{texts_ties, nat_list_eq_equiv}
use Rattle.std.specs.FinMap as maps
use Rattle.std.proofs.Math.Seq.{drop-cons}
use Rattle.std.proofs.lemmas.Bool.{false≢true}
use Rattle.std.proofs.lemmas.Bool.Decides.{Decides-at, Decides-like, Decides-and}
use Rattle.std.proofs.lemmas.List.{take_more, take-append-drop, append-nil, map-append}
use Rattle.std.proofs.lemmas.List.Folds.{list_any-append}
use Rattle.std.proofs.lemmas.List.Elements.{recursion_from_All, All-weaker}
use Rattle.std.proofs.lemmas.Map.Keys.{IsDistinct-push}
use Rattle.std.proofs.lemmas.Map.Views.{All-found}
use Rattle.po_text.specs.Texts.{Text, text_cmp, text_eq}
use Rattle.units.specs.Project.{Place as OfficePlace, place_cmp}
use Rattle.units.specs.Office.{Office, Domain, empty_domain, project_in}
use Rattle.units.specs.Offices.{IsOffice}
use Rattle.units.specs.Orders.{text_total, text_IsAntisymmetric, place_total, place_IsAntisymmetric}
use Rattle.units.specs.declared.unit.Suggestion.{Suggestion}
use Rattle.units.specs.declared.unit.Unit.{Unit}
use Rattle.request_book.specs.Book.{Book, Recorded, with_record}
use Rattle.request_book.specs.declared.book.Record.{Record}
use Rattle.office_specification.specs.OfficeRules.{KeepsRules, numbers_in, all_numbers}
use Rattle.office_specification.proofs.rules.Numbers.{differs}
use Rattle.office_maps.specs.declared.domain_maps.DomainMaps.{DomainMaps}
use Rattle.office_maps.specs.declared.office_maps.OfficeMaps.{OfficeMaps}
use Rattle.office_maps.specs.declared.place.Place.{Place}
use Rattle.office_maps.specs.OfficeIn.{domain_in, office_in, place_of}
use Rattle.office_maps.specs.MapEntries.{mapped}
use Rattle.office_maps.proofs.AfterChanges.{unit_entries}
use Rattle.office_maps.proofs.OrderedEntries.{entries-mapped}
use Rattle.rule_tests.specs.Given.{AreStatusesOf}
use Rattle.rule_tests.specs.Books.{is_status, HasStatuses, AreRecorded, HasRecords, HaveRecords, numbers_of, AreSeen}
use Rattle.rule_tests.proofs.MapRows.{each_found, found_each}
use Rattle.rule_tests.proofs.Tests.{three_tell}

-- ---- recorded numbers

abbrev pub HasStatus : BTreeMap Text ℕ → Suggestion → Type 0
HasStatus statuses s = IsSome (get_by (text_cmp s.number) statuses)

abbrev pub IsRow : BTreeMap Text ℕ → Place × Unit → Type 0
IsRow statuses e = AreRecorded statuses e.1

pub all_recorded : (statuses : BTreeMap Text ℕ) (d : DomainMaps) (b : Bool) → IsOrdered (λ x y. place_cmp (place_of x) (place_of y)) d.units → Decides b (AllByRecursion (IsRow statuses) d.units.entries) →
    Decides b (HasRecords statuses (domain_in d))
all_recorded statuses d b ordered tells =
    Decides-like b (each_found place_total place_IsAntisymmetric place_of (λ unit. unit) (λ place unit. AreRecorded statuses unit) d.units)
    (found_each place_total place_IsAntisymmetric place_of (λ unit. unit) (λ place unit. AreRecorded statuses unit) d.units ordered) tells

abbrev pub IsDomainRow : {A : Type 0} → BTreeMap Text ℕ → String A × DomainMaps → Type 0
IsDomainRow statuses e = HasRecords statuses (domain_in e.1)

pub have_recorded : (statuses : BTreeMap Text ℕ) (t : OfficeMaps) (b : Bool) → IsOrdered (λ x y. text_cmp (string_bytes x) (string_bytes y)) t.domains →
    Decides b (AllByRecursion (IsDomainRow statuses) t.domains.entries) → Decides b (HaveRecords statuses (office_in t))
have_recorded statuses t b ordered tells =
    Decides-like b (each_found text_total text_IsAntisymmetric string_bytes domain_in (λ name domain. HasRecords statuses domain) t.domains)
    (found_each text_total text_IsAntisymmetric string_bytes domain_in (λ name domain. HasRecords statuses domain) t.domains ordered) tells

-- ---- statuses

abbrev RowsHave : List (Text × ℕ) → Type 0
RowsHave es = AllByRecursion (λ e. is_status e.1 ≡ true) es

values_tell : (es : List (Text × ℕ)) → Decides (list_all is_status (values_of es)) (RowsHave es)
values_tell [] = (λ e. tt, λ h. refl)
values_tell (e ∷ es) =
    Decides-like (is_status e.1 && list_all is_status (values_of es)) (λ h. (h.0, h.1)) (λ h. (h.0, h.1))
    (Decides-and (is_status e.1) (list_all is_status (values_of es)) ((λ h. h), (λ h. h)) (values_tell es))

-- what a look-up finds is a row's
found_status : (es : List (Text × ℕ)) → RowsHave es → (k : Text) (status : ℕ) → lookup (λ x. is_eq (text_cmp k x)) es ≡ Some status → is_status status ≡ true
found_status [] all k status is = cc
found_status (e ∷ es) all k status is = by (found_status es all.1 k status) (is_eq (text_cmp k e.0)) is
  where
    by : (lookup (λ x. is_eq (text_cmp k x)) es ≡ Some status → is_status status ≡ true) → (t : Bool) → cond t (Some e.1) (lookup (λ x. is_eq (text_cmp k x)) es) ≡ Some status → is_status status ≡ true
    by rest true h =
        let one : e.1 ≡ status = cc in
        subst (λ n. is_status n ≡ true) one all.0
    by rest false h = rest h

status_there : (o : Option Recorded) (status : ℕ) → Some status ≡ option_map (λ (recorded : Recorded). recorded.reply.status) o → (recorded : Recorded) × (o ≡ Some recorded) × (recorded.reply.status ≡ status)
status_there None status e = cc
status_there (Some recorded) status e = (recorded, refl, cc)

each_row : (P Q : Text × ℕ → Type 0) → ((e : Text × ℕ) → P e → Q e) → (es : List (Text × ℕ)) → AllByRecursion P es → AllByRecursion Q es
each_row P Q f [] h = tt
each_row P Q f (e ∷ es) h = (f e h.0, each_row P Q f es h.1)

pub statuses_told : (book : Book) (statuses : BTreeMap Text ℕ) (b : Bool) → IsOrdered text_cmp statuses → AreStatusesOf book statuses → b ≡ list_all is_status (values_of statuses.entries) →
    Decides b (HasStatuses book)
statuses_told book statuses b ordered are is =
    Decides-at b (list_all is_status (values_of statuses.entries)) is
    (Decides-like (list_all is_status (values_of statuses.entries))
    (λ all number recorded there. found_status statuses.entries all number recorded.reply.status (are number ∙ ap (option_map (λ (r : Recorded). r.reply.status)) there))
    (λ have. each_row (λ e. get text_cmp statuses e.0 ≡ Some e.1) (λ e. is_status e.1 ≡ true)
    (λ e found.
    let its = status_there (maps.get book e.0) e.1 (sym found ∙ are e.0) in
    subst (λ n. is_status n ≡ true) its.2 (have e.0 its.0 its.1))
    statuses.entries (recursion_from_All (λ e. get text_cmp statuses e.0 ≡ Some e.1) statuses.entries (All-found text_total statuses ordered)))
    (values_tell statuses.entries))

-- ---- numbers that were seen

pub not_true : (b : Bool) → not b ≡ true → b ≡ false
not_true true h = cc
not_true false h = refl

pub not_false : (b : Bool) → not b ≡ false → b ≡ true
not_false true h = refl
not_false false h = cc

abbrev pub numbers_among : List Suggestion → List Text
numbers_among suggestions = map (λ s. s.number) suggestions

pub record IsAdded (old new : BTreeSet Text) (added : List Suggestion) : Type 0 where
  pub seen : (before : List Text) → AreSeen before old → AreSeen (before ++ numbers_among added) new
  pub own : (before : List Text) → AreSeen before old → IsDistinct text_eq before → IsDistinct text_eq (before ++ numbers_among added)

pub none_added : (seen : BTreeSet Text) → IsAdded seen seen []
none_added seen = record {
  seen = λ before are. subst (λ ns. AreSeen ns seen) (sym (append-nil before)) are;
  own = λ before are distinct. subst (IsDistinct text_eq) (sym (append-nil before)) distinct;
}

or_last : (a b : Bool) → cond a true b ≡ (b || (a || false))
or_last true true = refl
or_last true false = refl
or_last false true = refl
or_last false false = refl

ties : (k q : Text) → is_eq (text_cmp k q) ≡ text_eq q k
ties k q = sym (texts_ties k q) ∙ nat_list_eq_equiv.symm k q

seen_more : (before : List Text) (old new : BTreeSet Text) (n : Text) → AreSeen before old → Updates text_cmp old new n true → AreSeen (before ++ n ∷ []) new
seen_more before old new n are updates q =
    updates.0 q
    ∙ ((λ i. cond (ties n q i) true (are q i))
    ∙ (or_last (text_eq q n) (list_any (text_eq q) before)
    ∙ sym (list_any-append (text_eq q) before (n ∷ []))))

next_taken : (xs : List Suggestion) (i : ℕ) (x : Suggestion) → i < length xs → x ≡ get_or xs i x → take (i + 1) xs ≡ take i xs ++ x ∷ []
next_taken xs i x within is = take_more xs i x within ∙ ap (λ y. take i xs ++ y ∷ []) (sym is)

one_later : (before : List Text) (added : List Suggestion) (x : Suggestion) → (before ++ numbers_among added) ++ x.number ∷ [] ≡ before ++ numbers_among (added ++ x ∷ [])
one_later before added x = append_assoc before (numbers_among added) (x.number ∷ []) ∙ ap (λ ns. before ++ ns) (sym (map-append (λ (s : Suggestion). s.number) added (x ∷ [])))

pub one_added : (old now new : BTreeSet Text) (xs : List Suggestion) (i : ℕ) (x : Suggestion) (number : Text) → i < length xs → x ≡ get_or xs i x → number ≡ x.number → contains text_cmp now number ≡ false →
    Updates text_cmp now new number true → IsAdded old now (take i xs) → IsAdded old new (take (i + 1) xs)
one_added old now new xs i x number within is named fresh updates so_far = subst (IsAdded old new) (sym (next_taken xs i x within is)) (record {
  seen = λ before are.
      subst (λ ns. AreSeen ns new) (ap (λ n. (before ++ numbers_among (take i xs)) ++ n ∷ []) named ∙ one_later before (take i xs) x)
      (seen_more (before ++ numbers_among (take i xs)) now new number (so_far.seen before are) updates);
  own = λ before are distinct.
      subst (IsDistinct text_eq) (ap (λ n. (before ++ numbers_among (take i xs)) ++ n ∷ []) named ∙ one_later before (take i xs) x)
      (IsDistinct-push nat_list_eq_equiv (before ++ numbers_among (take i xs)) number (so_far.own before are distinct) (sym (so_far.seen before are number) ∙ fresh));
})

-- a number that stands in front stands twice
twice : (front back : List Text) (n : Text) → list_any (text_eq n) front ≡ true → IsDistinct text_eq (front ++ n ∷ back) → ⊥
unfolding IsDistinct
twice [] back n there distinct = false≢true there
twice (f ∷ front) back n there distinct = by (text_eq n f) refl there (twice front back n) distinct
  where
    at_end : (P : Text → Type 0) (xs ys : List Text) (y : Text) → AllByRecursion P (xs ++ y ∷ ys) → P y
    at_end P [] ys y h = h.0
    at_end P (x ∷ xs) ys y h = at_end P xs ys y h.1

    by : (t : Bool) → text_eq n f ≡ t → (t || list_any (text_eq n) front) ≡ true → (list_any (text_eq n) front ≡ true → IsDistinct text_eq (front ++ n ∷ back) → ⊥) →
        AllByRecursion (λ y. text_eq f y ≡ false) (front ++ n ∷ back) × IsDistinct text_eq (front ++ n ∷ back) → ⊥
    by true e h rest d = false≢true (sym (differs f n (at_end (λ y. text_eq f y ≡ false) front back n d.0)) ∙ e)
    by false e h rest d = rest h d.1

pub number_twice : (old now : BTreeSet Text) (xs : List Suggestion) (i : ℕ) (x : Suggestion) (number : Text) → i < length xs → x ≡ get_or xs i x → number ≡ x.number → contains text_cmp now number ≡ true →
    IsAdded old now (take i xs) → (before : List Text) → AreSeen before old → IsDistinct text_eq before → Decides false (IsDistinct text_eq (before ++ numbers_among xs))
number_twice old now xs i x number within is named there so_far before are distinct = (
  λ e. absurd (false≢true e),
  λ whole. absurd (twice (before ++ numbers_among (take i xs)) (numbers_among (drop (i + 1) xs)) x.number
      (sym (so_far.seen before are x.number) ∙ (ap (contains text_cmp now) (sym named) ∙ there)) (subst (IsDistinct text_eq) cut whole)),
)
  where
    parts : xs ≡ take i xs ++ x ∷ drop (i + 1) xs
    parts = sym (take-append-drop i xs) ∙ ap (λ ys. take i xs ++ ys) (drop-cons xs i x within ∙ (λ k. sym is k ∷ drop (sym (add-one i) k) xs))

    cut : before ++ numbers_among xs ≡ (before ++ numbers_among (take i xs)) ++ x.number ∷ numbers_among (drop (i + 1) xs)
    cut =
        ap (λ ys. before ++ numbers_among ys) parts
        ∙ (ap (λ ns. before ++ ns) (map-append (λ (s : Suggestion). s.number) (take i xs) (x ∷ drop (i + 1) xs))
        ∙ sym (append_assoc before (numbers_among (take i xs)) (x.number ∷ numbers_among (drop (i + 1) xs))))

-- ---- the numbers of all rows

-- what is told of numbers that are added to those that were seen
abbrev pub TellsNew : BTreeSet Text → List Text → Bool → Type 0
TellsNew old added new = (before : List Text) → AreSeen before old → IsDistinct text_eq before → Decides new (IsDistinct text_eq (before ++ added))

abbrev pub TellsSeen : BTreeSet Text → BTreeSet Text → List Text → Bool → Type 0
TellsSeen old now added new = (before : List Text) → AreSeen before old → new ≡ true → AreSeen (before ++ added) now

-- the numbers of the rows that were met differ from one another and from those before, and stand in the set with them
pub record IsGathered {X : Type 0} (numbers : X → List Text) (all left : List X) (old seen : BTreeSet Text) : Type 0 where
  pub met : List Text
  pub rest : met ++ flat_map numbers left ≡ flat_map numbers all
  pub are : (before : List Text) → AreSeen before old → AreSeen (before ++ met) seen
  pub own : (before : List Text) → AreSeen before old → IsDistinct text_eq before → IsDistinct text_eq (before ++ met)

front_distinct : (xs ys : List Text) → IsDistinct text_eq (xs ++ ys) → IsDistinct text_eq xs
unfolding IsDistinct
front_distinct [] ys d = tt
front_distinct (x ∷ xs) ys d = (front xs d.0, front_distinct xs ys d.1)
  where
    front : (zs : List Text) → AllByRecursion (λ y. text_eq x y ≡ false) (zs ++ ys) → AllByRecursion (λ y. text_eq x y ≡ false) zs
    front [] h = tt
    front (z ∷ zs) h = (h.0, front zs h.1)

module _ {X : Type 0} (numbers : X → List Text) (all : List X) (old : BTreeSet Text) where
  pub begun : (left : List X) → left ≡ all → IsGathered numbers all left old old
  begun left is = record {
    met = [];
    rest = ap (flat_map numbers) is;
    are = λ before are. subst (λ ns. AreSeen ns old) (sym (append-nil before)) are;
    own = λ before are distinct. subst (IsDistinct text_eq) (sym (append-nil before)) distinct;
  }

  next_rows : (met : List Text) (left next : List X) (e : X) → left ≡ e ∷ next → met ++ flat_map numbers left ≡ flat_map numbers all → (met ++ numbers e) ++ flat_map numbers next ≡ flat_map numbers all
  next_rows met left next e is rest = append_assoc met (numbers e) (flat_map numbers next) ∙ (sym (ap (λ es. met ++ flat_map numbers es) is) ∙ rest)

  pub gathered_more : (left next : List X) (e : X) (seen now : BTreeSet Text) (new : Bool) → left ≡ e ∷ next → TellsNew seen (numbers e) new → TellsSeen seen now (numbers e) new → new ≡ true →
      IsGathered numbers all left old seen → IsGathered numbers all next old now
  gathered_more left next e seen now new is tells adds passed so_far = record {
    met = so_far.met ++ numbers e;
    rest = next_rows so_far.met left next e is so_far.rest;
    are = λ before are. subst (λ ns. AreSeen ns now) (append_assoc before so_far.met (numbers e)) (adds (before ++ so_far.met) (so_far.are before are) passed);
    own = λ before are distinct.
        subst (IsDistinct text_eq) (append_assoc before so_far.met (numbers e)) ((tells (before ++ so_far.met) (so_far.are before are) (so_far.own before are distinct)).0 passed);
  }

  pub shared : (left next : List X) (e : X) (seen : BTreeSet Text) (new : Bool) → left ≡ e ∷ next → TellsNew seen (numbers e) new → new ≡ false → IsGathered numbers all left old seen →
      TellsNew old (flat_map numbers all) false
  shared left next e seen new is tells failed so_far before are distinct = (
    λ h. absurd (false≢true h),
    λ whole. absurd (false≢true (sym failed ∙ (tells (before ++ so_far.met) (so_far.are before are) (so_far.own before are distinct)).1
        (subst (IsDistinct text_eq) (sym (append_assoc before so_far.met (numbers e)))
        (front_distinct (before ++ (so_far.met ++ numbers e)) (flat_map numbers next) (subst (IsDistinct text_eq) (sym cut) whole))))),
  )
    where
      cut : (before ++ (so_far.met ++ numbers e)) ++ flat_map numbers next ≡ before ++ flat_map numbers all
      cut = append_assoc before (so_far.met ++ numbers e) (flat_map numbers next) ∙ ap (λ ns. before ++ ns) (next_rows so_far.met left next e is so_far.rest)

  all_met : (left : List X) (seen : BTreeSet Text) → left ≡ [] → (so_far : IsGathered numbers all left old seen) → so_far.met ≡ flat_map numbers all
  all_met left seen is so_far = sym (append-nil so_far.met) ∙ (sym (ap (λ es. so_far.met ++ flat_map numbers es) is) ∙ so_far.rest)

  pub all_own : (left : List X) (seen : BTreeSet Text) → left ≡ [] → IsGathered numbers all left old seen → TellsNew old (flat_map numbers all) true
  all_own left seen is so_far before are distinct =
      (λ h. subst (λ ns. IsDistinct text_eq (before ++ ns)) (all_met left seen is so_far) (so_far.own before are distinct), λ h. refl)

  pub all_seen : (left : List X) (seen : BTreeSet Text) → left ≡ [] → IsGathered numbers all left old seen → TellsSeen old seen (flat_map numbers all) true
  all_seen left seen is so_far before are h = subst (λ ns. AreSeen (before ++ ns) seen) (all_met left seen is so_far) (so_far.are before are)

-- ---- the numbers of all suggestions

viewed_rows : {K X B Y : Type 0} (f : K → B) (g : X → Y) (numbers : Y → List Text) (es : List (K × X)) → flat_map (λ e. numbers e.1) (mapped f g es) ≡ flat_map (λ e. numbers (g e.1)) es
viewed_rows f g numbers [] = refl
viewed_rows f g numbers (e ∷ es) = ap (λ ns. numbers (g e.1) ++ ns) (viewed_rows f g numbers es)

-- those of a row of units, and of a row of domains
abbrev pub unit_numbers : Place × Unit → List Text
unit_numbers e = numbers_of e.1

abbrev pub domain_numbers : {A : Type 0} → String A × DomainMaps → List Text
domain_numbers e = numbers_in (domain_in e.1)

pub in_units : (d : DomainMaps) → IsOrdered (λ x y. place_cmp (place_of x) (place_of y)) d.units → flat_map unit_numbers d.units.entries ≡ numbers_in (domain_in d)
in_units d ordered = sym (ap (flat_map (λ (e : OfficePlace × Unit). numbers_of e.1)) (unit_entries d.units ordered) ∙ viewed_rows place_of (λ unit. unit) numbers_of d.units.entries)

in_domains : (t : OfficeMaps) → IsOrdered (λ x y. text_cmp (string_bytes x) (string_bytes y)) t.domains → flat_map domain_numbers t.domains.entries ≡ all_numbers (office_in t)
in_domains t ordered =
    sym (ap (flat_map (λ (e : Text × Domain). numbers_in e.1)) (entries-mapped text_total text_IsAntisymmetric string_bytes domain_in t.domains ordered)
    ∙ viewed_rows string_bytes domain_in numbers_in t.domains.entries)

-- all of them, where none was seen before
none_seen : (seen : BTreeSet Text) → seen.keys ≡ [] → AreSeen [] seen
none_seen seen none q = ap (λ ks. list_any (λ k. is_eq (text_cmp q k)) ks) none

pub own_told : (t : OfficeMaps) (seen : BTreeSet Text) (b : Bool) → seen.keys ≡ [] → IsOrdered (λ x y. text_cmp (string_bytes x) (string_bytes y)) t.domains →
    TellsNew seen (flat_map domain_numbers t.domains.entries) b → Decides b (IsDistinct text_eq (all_numbers (office_in t)))
unfolding IsDistinct
own_told t seen b none ordered tells = subst (λ ns. Decides b (IsDistinct text_eq ns)) (in_domains t ordered) (tells [] (none_seen seen none) tt)

-- ---- all rules

some_map : {X Y : Type 0} (f : X → Y) (o : Option X) → is_some (option_map f o) ≡ is_some o
some_map f None = refl
some_map f (Some x) = refl

module _ (office : Office) (book : Book) (statuses : BTreeMap Text ℕ) (are : AreStatusesOf book statuses) where
  is_there : (number : Text) → is_some (get_by (text_cmp number) statuses) ≡ is_some (maps.get book number)
  is_there number = ap is_some (are number) ∙ some_map (λ (recorded : Recorded). recorded.reply.status) (maps.get book number)

  abbrev Kept : Type 0
  Kept = KeepsRules (record { office = office; book = book })

  -- where there is no such domain there is no unit
  recorded_of : HaveRecords statuses office → (name : Text) (place : OfficePlace) (unit : Unit) → maps.get (project_in office name).units place ≡ Some unit → All (λ s. IsSome (maps.get book s.number)) unit.suggestions
  recorded_of have name place unit is =
      All-weaker (HasStatus statuses) (λ s. IsSome (maps.get book s.number)) (λ s there. sym (is_there s.number) ∙ there) unit.suggestions (found (maps.get office.domains name) refl is)
    where
      found : (o : Option Domain) → maps.get office.domains name ≡ o → maps.get (unwrap_or o empty_domain).units place ≡ Some unit → AreRecorded statuses unit
      found None none there =
          let wrong : None ≡ Some unit = sym (maps.get-empty place_cmp place) ∙ there in
          cc
      found (Some domain) own there = have name domain own place unit there

  records_of : Kept → HaveRecords statuses office
  records_of rules name domain own place unit there =
      All-weaker (λ s. IsSome (maps.get book s.number)) (HasStatus statuses) (λ s is. is_there s.number ∙ is) unit.suggestions
      (rules.recorded name place unit (ap (λ (o : Option Domain). maps.get (unwrap_or o empty_domain).units place) own ∙ there))

  pub rules_told : (k r a b c : Bool) → Decides k (IsOffice office) → k ≡ true → r ≡ (a && (b && c)) → Decides a (HaveRecords statuses office) → Decides b (IsDistinct text_eq (all_numbers office)) →
      Decides c (HasStatuses book) → Decides r Kept
  rules_told k r a b c tells keeps e recorded own have =
      three_tell {P = HaveRecords statuses office} {Q = IsDistinct text_eq (all_numbers office)} {R = HasStatuses book} r a b c e
      (λ h. record { office = tells.0 keeps; recorded = recorded_of h.0; own_numbers = h.1.0; statuses = h.1.1 })
      (λ rules. (records_of rules, (rules.own_numbers, rules.statuses)))
      recorded own have

  pub no_rules : (k : Bool) → Decides k (IsOffice office) → k ≡ false → Decides false Kept
  no_rules k tells failed = (λ e. absurd (false≢true e), λ rules. absurd (false≢true (sym failed ∙ tells.1 rules.office)))

-- ---- one more record

pub noted : (book : Book) (old new : BTreeMap Text ℕ) (r : Record) (status : ℕ) → AreStatusesOf book old → status ≡ r.reply.status → MapUpdates text_cmp old new r.number (Some status) →
    AreStatusesOf (with_record book r) new
noted book old new r status are is updates q =
    updates.0 q
    ∙ ((λ i. cond ((eq_by_cmp_equiv text_total).symm r.number q i) (Some (is i)) (are q i))
    ∙ (by (eq_by_cmp text_cmp q r.number)
    ∙ sym (ap (option_map (λ (recorded : Recorded). recorded.reply.status)) (maps.get-insert text_total book r.number (record { content = r.content; reply = r.reply }) q))))
  where
    by : (b : Bool) → cond b (Some r.reply.status) (option_map (λ (recorded : Recorded). recorded.reply.status) (maps.get book q))
        ≡ option_map (λ (recorded : Recorded). recorded.reply.status) (cond b (Some (record { content = r.content; reply = r.reply })) (maps.get book q))
    by true = refl
    by false = refl
