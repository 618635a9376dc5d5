-- What the tests of a valid catalogue answer, and what they say of it.
use Rattle.std.proofs.Common.{◌≡◌, ◌≢◌, ℕ, ◌+◌, ◌<◌, ◌≤◌, List, [], ◌∷◌, ◌++◌, Bool, true, false, not, ◌&&◌, ◌||◌, cond, length, take, drop, get_or, refl, sym, ◌∙◌, ap, subst, Option, Some, None, is_some, is_none, nat_lt, add-one, map}
use Rattle.std.specs.Prelude.{◌↔◌, ◌==◌, IsUtf8, IsTrue}
use Rattle.std.specs.Cmp.{unsigned_Decides}
use Rattle.std.specs.List.{list_any, list_all, AllByRecursion}
use Rattle.std.specs.Option.{IfSome}
use Rattle.std.specs.Str.{byte, bytes_eq}
use Rattle.std.specs.BTreeSet.{BTreeSet, contains, Updates}
use Rattle.std.proofs.Math.Seq.{drop-cons}
use Rattle.std.proofs.lemmas.Bool.{and_from, false≢true, ltb-true, lt-ltb}
use Rattle.std.proofs.lemmas.List.{take_more, take_all, take-append-drop}
use Rattle.std.proofs.lemmas.List.Folds.{list_any-append}
use Rattle.std.proofs.lemmas.Slice.Eq.{bytes_eq-Decides}
use Rattle.po_lex.specs.Reading.{trim}
use Rattle.po_lex.specs.Lines.{is_comment_text}
use Rattle.po_lex.specs.declared.line.Keyword.TheVariants.{Msgctxt, Msgid, MsgidPlural, Msgstr}
use Rattle.po_lex.specs.declared.line.Keyword.{Keyword}
use Rattle.po_text.specs.Entries.{Key, key_of, Keyed, optional, numbered, keyed_forms, entry_strings, previous_strings, is_header_key, same_key}
use Rattle.po_text.specs.Texts.{Text}
use Rattle.po_text.specs.Header.{has_charset}
use Rattle.po_text.specs.Keys.{entry_key_cmp}
use Rattle.po_text.specs.Flags.{has_text, add_once}
use Rattle.po_text.specs.Valid.{fuzzy, IsString, IsFlag, AreDistinct, AreFlags, AllStrings, IsValidEntry, HasHeaderKey, IsHeader, HasHeaderFirst, HasUniqueKeys, IsValid}
use Rattle.po_text.specs.Checked.{is_flag, lacks_fuzzy, is_single, AreCommentLines, AreStrings, is_header_like, has_header_first}
use Rattle.po_text.specs.declared.entry.Entry.{Entry}
use Rattle.po_text.specs.declared.key.EntryKey.{EntryKey}
use Rattle.po_text.proofs.EntryLists.{all_push, or_false, all_right, all_both, none_of, distinct_push, same_key_self, unique_push, unique_cut, key_same, header_key, cmp_same, or_last}

-- ---- lists

pub next_taken : {X : Type 0} (xs : List X) (i : ℕ) (x : X) → i < length xs → x ≡ get_or xs i x → take (i + 1) xs ≡ take i xs ++ x ∷ []
next_taken xs i x within is = take_more xs i x within ∙ ap (λ y. take i xs ++ y ∷ []) (sym is)

-- a list around one of it
pub around : {X : Type 0} (xs : List X) (i : ℕ) (x : X) → i < length xs → x ≡ get_or xs i x → xs ≡ take i xs ++ x ∷ drop (i + 1) xs
around xs i x within is =
    sym (take-append-drop i xs) ∙ ap (λ ys. take i xs ++ ys) (drop-cons xs i x within ∙ (λ k. sym is k ∷ drop (sym (add-one i) k) xs))

pub all_next : {X : Type 0} (P : X → Type 0) (xs : List X) (i : ℕ) (x : X) → i < length xs → x ≡ get_or xs i x → AllByRecursion P (take i xs) → P x → AllByRecursion P (take (i + 1) xs)
all_next P xs i x within is h p = subst (AllByRecursion P) (sym (next_taken xs i x within is)) (all_push P (take i xs) x h p)

pub all_whole : {X : Type 0} (P : X → Type 0) (xs : List X) (i : ℕ) → length xs ≤ i → AllByRecursion P (take i xs) → AllByRecursion P xs
all_whole P xs i past h = subst (AllByRecursion P) (take_all i xs past) h

pub all_one : {X : Type 0} (P : X → Type 0) (xs : List X) (i : ℕ) (x : X) → i < length xs → x ≡ get_or xs i x → AllByRecursion P xs → P x
all_one P xs i x within is h = (all_right P (take i xs) (x ∷ drop (i + 1) xs) (subst (AllByRecursion P) (around xs i x within is) h)).0

pub no_true : {P : Type 0} → (P → ⊥) → (let b : Bool = false in b ≡ true) ↔ P
no_true never = (λ e. absurd (false≢true e), λ p. absurd (never p))

pub is_not : {P : Type 0} (b : Bool) → ((b ≡ true) ↔ P) → b ≡ false → P → ⊥
is_not b d f p = false≢true (sym f ∙ d.1 p)

-- one of the list fails the test
pub refused : {X : Type 0} (P : X → Type 0) (xs : List X) (i : ℕ) (x : X) (b : Bool) → i < length xs → x ≡ get_or xs i x → ((b ≡ true) ↔ P x) → b ≡ false → (let r : Bool = false in r ≡ true) ↔ AllByRecursion P xs
refused P xs i x b within is d f = no_true (λ all. is_not b d f (all_one P xs i x within is all))

pub accepted : {X : Type 0} (P : X → Type 0) (xs : List X) (i : ℕ) → length xs ≤ i → AllByRecursion P (take i xs) → (let r : Bool = true in r ≡ true) ↔ AllByRecursion P xs
accepted P xs i past h = (λ e. all_whole P xs i past h, λ all. refl)

pub all_tested : {X : Type 0} (test : X → Bool) (P : X → Type 0) → ((x : X) → test x ≡ true → P x) → (xs : List X) → list_all test xs ≡ true → AllByRecursion P xs
all_tested test P imp [] h = tt
all_tested test P imp (x ∷ xs) h = let r = both_true (test x) (list_all test xs) h in (imp x r.0, all_tested test P imp xs r.1)
  where
    both_true : (a b : Bool) → (a && b) ≡ true → (a ≡ true) × (b ≡ true)
    both_true true b h = (refl, h)
    both_true false b h = cc

pub tests_all : {X : Type 0} (test : X → Bool) (P : X → Type 0) → ((x : X) → P x → test x ≡ true) → (xs : List X) → AllByRecursion P xs → list_all test xs ≡ true
tests_all test P imp [] h = refl
tests_all test P imp (x ∷ xs) h = ap (λ b. b && list_all test xs) (imp x h.0) ∙ tests_all test P imp xs h.1

pub not_true : (b : Bool) → not b ≡ true → b ≡ false
not_true true h = cc
not_true false h = refl

first_true : (a b : Bool) → (a && b) ≡ true → a ≡ true
first_true true b h = refl
first_true false b h = h

second_true : (a b : Bool) → (a && b) ≡ true → b ≡ true
second_true true b h = h
second_true false b h = cc

-- an answer that is such a test
pub told : {P : Type 0} (result test : Bool) → result ≡ test → ((test ≡ true) ↔ P) → (result ≡ true) ↔ P
told result test same d = (λ e. d.0 (sym same ∙ e), λ p. same ∙ d.1 p)

-- ---- flags

abbrev no_comma : Text → Bool
no_comma text = list_all (λ b. not (b == byte ",")) text

pub flag_is : (text : Text) → IsUtf8 text → (is_flag text ≡ true) ↔ IsFlag text
flag_is text u = (there, back)
  where
    there : is_flag text ≡ true → IsFlag text
    there e =
        let rest = second_true (nat_lt 0 (length text)) _ e in
        let behind = second_true (is_comment_text text) _ rest in
        record {
          line = (u, first_true (is_comment_text text) _ rest);
          some = ltb-true 0 (length text) (first_true (nat_lt 0 (length text)) _ e);
          one = first_true (no_comma text) _ behind;
          trimmed = (bytes_eq-Decides (trim text) text).0 (second_true (no_comma text) _ behind);
        }

    back : IsFlag text → is_flag text ≡ true
    back f =
        and_from (nat_lt 0 (length text)) _ (lt-ltb 0 (length text) f.some)
        (and_from (is_comment_text text) _ f.line.1 (and_from (no_comma text) _ f.one ((bytes_eq-Decides (trim text) text).1 f.trimmed)))

pub flag_told : (text flag : Text) (b : Bool) → IsUtf8 text → text ≡ flag → b ≡ is_flag text → (b ≡ true) ↔ IsFlag flag
flag_told text flag b u same e = subst (λ (f : Text). (b ≡ true) ↔ IsFlag f) same (subst (λ (r : Bool). (r ≡ true) ↔ IsFlag text) (sym e) (flag_is text u))

distinct_cut : (done more : List Text) (text : Text) → AreDistinct (done ++ text ∷ more) → AllByRecursion (λ other. text ≢ other) done
distinct_cut [] more text d = tt
distinct_cut (t ∷ done) more text d = ((all_right (λ (other : Text). other ≢ t) done (text ∷ more) d.0).0, distinct_cut done more text d.1)

neither : (a b : Bool) → a ≡ false → b ≡ false → (a || b) ≡ false
neither true b h k = cc
neither false b h k = k

not_there : (text : Text) (texts : List Text) → AllByRecursion (λ other. text ≢ other) texts → has_text text texts ≡ false
not_there text [] h = refl
not_there text (t ∷ texts) h = neither (bytes_eq text t) (has_text text texts) (by (bytes_eq text t) refl) (not_there text texts h.1)
  where
    by : (b : Bool) → bytes_eq text t ≡ b → b ≡ false
    by true e = absurd (h.0 ((bytes_eq-Decides text t).0 e))
    by false e = refl

pub kept_next : (texts : List Text) (i : ℕ) (flag text : Text) (before after : List Text) → i < length texts → flag ≡ get_or texts i flag → text ≡ flag → before ≡ take i texts → has_text text before ≡ false → after ≡ add_once before text
    → after ≡ take (i + 1) texts
kept_next texts i flag text before after within is same kept new added =
    added ∙ ap (λ (b : Bool). cond b before (before ++ text ∷ [])) new ∙ (λ k. kept k ++ same k ∷ []) ∙ sym (next_taken texts i flag within is)

pub distinct_next : (texts : List Text) (i : ℕ) (text : Text) → i < length texts → text ≡ get_or texts i text → AreDistinct (take i texts) → has_text text (take i texts) ≡ false → AreDistinct (take (i + 1) texts)
distinct_next texts i text within is d new = subst AreDistinct (sym (next_taken texts i text within is)) (distinct_push (take i texts) text d (none_of text (take i texts) new))

pub twice : (texts : List Text) (i : ℕ) (text : Text) → i < length texts → text ≡ get_or texts i text → has_text text (take i texts) ≡ true → (let r : Bool = false in r ≡ true) ↔ AreDistinct texts
twice texts i text within is old = no_true (λ d. false≢true (sym (not_there text (take i texts) (distinct_cut (take i texts) (drop (i + 1) texts) text (subst AreDistinct (around texts i text within is) d))) ∙ old))

pub all_distinct : (texts : List Text) (i : ℕ) → length texts ≤ i → AreDistinct (take i texts) → (let r : Bool = true in r ≡ true) ↔ AreDistinct texts
all_distinct texts i past d = (λ e. subst AreDistinct (take_all i texts past) d, λ all. refl)

abbrev not_fuzzy : Text → Bool
not_fuzzy text = not (bytes_eq text fuzzy)

pub fuzzy_first : (flags : List Text) → (lacks_fuzzy flags ≡ true) ↔ AllByRecursion (λ flag. flag ≢ fuzzy) (drop 1 flags)
fuzzy_first [] = (λ e. tt, λ h. refl)
fuzzy_first (flag ∷ flags) = (all_tested not_fuzzy (λ text. text ≢ fuzzy) there flags, tests_all not_fuzzy (λ text. text ≢ fuzzy) back flags)
  where
    there : (text : Text) → not (bytes_eq text fuzzy) ≡ true → text ≢ fuzzy
    there text h e = false≢true (ap not (sym ((bytes_eq-Decides text fuzzy).1 e)) ∙ h)

    back : (text : Text) → text ≢ fuzzy → not (bytes_eq text fuzzy) ≡ true
    back text other = by (bytes_eq text fuzzy) refl
      where
        by : (b : Bool) → bytes_eq text fuzzy ≡ b → not b ≡ true
        by true e = absurd (other ((bytes_eq-Decides text fuzzy).0 e))
        by false e = refl

pub flags_are : (flags : List Text) (distinct each : Bool) → ((distinct ≡ true) ↔ AreDistinct flags) → ((each ≡ true) ↔ AllByRecursion IsFlag flags) → ((distinct && (each && lacks_fuzzy flags)) ≡ true) ↔ AreFlags flags
flags_are flags distinct each d f =
    let l = fuzzy_first flags in (
      λ e. let rest = second_true distinct _ e in record { each = f.0 (first_true each _ rest); distinct = d.0 (first_true distinct _ e); fuzzy_first = l.0 (second_true each _ rest) },
      λ h. and_from distinct _ (d.1 h.distinct) (and_from each _ (f.1 h.each) (l.1 h.fuzzy_first)),
    )

pub flags_told : (flags : List Text) (result distinct each lacks : Bool) → result ≡ (distinct && (each && lacks)) → lacks ≡ lacks_fuzzy flags → ((distinct ≡ true) ↔ AreDistinct flags) → ((each ≡ true) ↔ AllByRecursion IsFlag flags) → (result ≡ true) ↔ AreFlags flags
flags_told flags result distinct each lacks same last d f = told result _ (same ∙ ap (λ (b : Bool). distinct && (each && b)) last) (flags_are flags distinct each d f)

-- ---- strings

maybe_string : (keyword : Keyword) (text : Option Text) → IfSome text IsString → AllStrings IsString (optional keyword text)
maybe_string keyword None h = tt
maybe_string keyword (Some text) h = (h, tt)

single_forms : (forms : List Text) → AllByRecursion IsString forms → AllStrings IsString (map (λ form. (Msgstr, form)) forms)
single_forms [] h = tt
single_forms (form ∷ forms) h = (h.0, single_forms forms h.1)

numbered_forms : (n : ℕ) (forms : List Text) → AllByRecursion IsString forms → AllStrings IsString (numbered n forms)
numbered_forms n [] h = tt
numbered_forms n (form ∷ forms) h = (h.0, numbered_forms (n + 1) forms h.1)

all_forms : (plural : Option Text) (forms : List Text) → AllByRecursion IsString forms → AllStrings IsString (keyed_forms plural forms)
all_forms None forms h = single_forms forms h
all_forms (Some plural) forms h = numbered_forms 0 forms h

abbrev Holds : Keyed → Type 0
Holds keyed = IsString keyed.1

entry_holds : (e : Entry) → AreStrings e → AllStrings IsString (entry_strings e)
entry_holds e h =
    all_both Holds (optional Msgctxt e.ctx) _ (maybe_string Msgctxt e.ctx h.ctx)
    (h.id, all_both Holds (optional MsgidPlural e.plural) _ (maybe_string MsgidPlural e.plural h.plural) (all_forms e.plural e.forms h.forms))

previous_holds : (e : Entry) → AreStrings e → AllStrings IsString (previous_strings e.previous)
previous_holds e h =
    all_both Holds (optional Msgctxt e.previous.ctx) _ (maybe_string Msgctxt e.previous.ctx h.previous_ctx)
    (all_both Holds (optional Msgid e.previous.id) _ (maybe_string Msgid e.previous.id h.previous_id) (maybe_string MsgidPlural e.previous.plural h.previous_plural))

-- ---- entries

single_is : (e : Entry) → (is_single e ≡ true) ↔ (e.plural ≡ None → length e.forms ≡ 1)
single_is e = by e.plural
  where
    some_none : (plural : Text) → (let o : Option Text = Some plural in o) ≡ None → length e.forms ≡ 1
    some_none plural none = cc

    by : (plural : Option Text) → ((is_some plural || (length e.forms == 1)) ≡ true) ↔ (plural ≡ None → length e.forms ≡ 1)
    by None = (λ h none. (unsigned_Decides (length e.forms) 1).0 h, λ h. (unsigned_Decides (length e.forms) 1).1 (h refl))
    by (Some plural) = (λ h none. some_none plural none, λ h. refl)

pub entry_is : (e : Entry) (flagged commented : Bool) → AreStrings e → ((flagged ≡ true) ↔ AreFlags e.flags) → ((commented ≡ true) ↔ AreCommentLines e) → ((flagged && (commented && is_single e)) ≡ true) ↔ IsValidEntry e
entry_is e flagged commented h f c =
    let s = single_is e in (
      λ t. let rest = second_true flagged _ t in
          let lines = c.0 (first_true commented _ rest) in
          record {
            translator = lines.translator;
            extracted = lines.extracted;
            references = lines.references;
            flags = f.0 (first_true flagged _ t);
            strings = entry_holds e h;
            previous = previous_holds e h;
            some = h.some;
            most = h.most;
            single = s.0 (second_true commented _ rest);
          },
      λ v. and_from flagged _ (f.1 v.flags) (and_from commented _ (c.1 (record { translator = v.translator; extracted = v.extracted; references = v.references })) (s.1 v.single)),
    )

pub entry_told : (e : Entry) (result flagged commented single : Bool) (flags : List Text) → result ≡ (flagged && (commented && single)) → single ≡ is_single e → flags ≡ e.flags → AreStrings e
    → ((flagged ≡ true) ↔ AreFlags flags) → ((commented ≡ true) ↔ AreCommentLines e) → (result ≡ true) ↔ IsValidEntry e
entry_told e result flagged commented single flags same last own h f c =
    told result _ (same ∙ ap (λ (b : Bool). flagged && (commented && b)) last) (entry_is e flagged commented h (subst (λ (fs : List Text). (flagged ≡ true) ↔ AreFlags fs) own f) c)

-- ---- keys

-- the set has exactly the keys of these entries
abbrev pub HasKeysOf : BTreeSet EntryKey → List Entry → Type 0
HasKeysOf keys es = (key : EntryKey) → contains entry_key_cmp keys key ≡ list_any (λ e. same_key (key_of e) (key.ctx, key.id)) es

pub keys_more : (old new : BTreeSet EntryKey) (es : List Entry) (e : Entry) (key : EntryKey) → key.ctx ≡ e.ctx → key.id ≡ e.id → HasKeysOf old es → Updates entry_key_cmp old new key true → HasKeysOf new (es ++ e ∷ [])
keys_more old new es e key ctx id h u = λ k.
    u.0 k
    ∙ (λ i. cond (cmp_same key k i) true (h k i))
    ∙ (λ i. cond (same_key (ctx i, id i) (k.ctx, k.id)) true (list_any (λ x. same_key (key_of x) (k.ctx, k.id)) es))
    ∙ or_last (same_key (key_of e) (k.ctx, k.id)) (list_any (λ x. same_key (key_of x) (k.ctx, k.id)) es)
    ∙ sym (list_any-append (λ x. same_key (key_of x) (k.ctx, k.id)) es (e ∷ []))

others_apart : (es : List Entry) (key : Key) → list_any (λ x. same_key (key_of x) key) es ≡ false → AllByRecursion (λ other. key_of other ≢ key) es
others_apart [] key h = tt
others_apart (x ∷ es) key h =
    let r = or_false (same_key (key_of x) key) (list_any (λ y. same_key (key_of y) key) es) h in
    (λ e. false≢true (sym r.0 ∙ ap (λ (k : Key). same_key k key) e ∙ same_key_self key), others_apart es key r.1)

apart_none : (es : List Entry) (key : Key) → AllByRecursion (λ x. key ≢ key_of x) es → list_any (λ x. same_key (key_of x) key) es ≡ false
apart_none [] key h = refl
apart_none (x ∷ es) key h = neither (same_key (key_of x) key) (list_any (λ y. same_key (key_of y) key) es) (by (same_key (key_of x) key) refl) (apart_none es key h.1)
  where
    by : (b : Bool) → same_key (key_of x) key ≡ b → b ≡ false
    by true e = absurd (h.0 (sym (key_same (key_of x) key e)))
    by false e = refl

found_of : (keys : BTreeSet EntryKey) (es : List Entry) (e : Entry) (key : EntryKey) (b : Bool) → key.ctx ≡ e.ctx → key.id ≡ e.id → HasKeysOf keys es → contains entry_key_cmp keys key ≡ b → list_any (λ x. same_key (key_of x) (key_of e)) es ≡ b
found_of keys es e key b ctx id h found = (λ i. list_any (λ x. same_key (key_of x) (sym ctx i, sym id i)) es) ∙ sym (h key) ∙ found

pub unique_next : (es : List Entry) (i : ℕ) (e : Entry) (keys : BTreeSet EntryKey) (key : EntryKey) → i < length es → e ≡ get_or es i e → key.ctx ≡ e.ctx → key.id ≡ e.id → HasKeysOf keys (take i es) → contains entry_key_cmp keys key ≡ false
    → HasUniqueKeys (take i es) → HasUniqueKeys (take (i + 1) es)
unique_next es i e keys key within is ctx id h new u =
    subst HasUniqueKeys (sym (next_taken es i e within is)) (unique_push (take i es) e u (others_apart (take i es) (key_of e) (found_of keys (take i es) e key false ctx id h new)))

pub keys_next : (es : List Entry) (i : ℕ) (e : Entry) (old new : BTreeSet EntryKey) (key : EntryKey) → i < length es → e ≡ get_or es i e → key.ctx ≡ e.ctx → key.id ≡ e.id → HasKeysOf old (take i es) → Updates entry_key_cmp old new key true
    → HasKeysOf new (take (i + 1) es)
keys_next es i e old new key within is ctx id h u = subst (HasKeysOf new) (sym (next_taken es i e within is)) (keys_more old new (take i es) e key ctx id h u)

pub key_twice : (es : List Entry) (i : ℕ) (e : Entry) (keys : BTreeSet EntryKey) (key : EntryKey) → i < length es → e ≡ get_or es i e → key.ctx ≡ e.ctx → key.id ≡ e.id → HasKeysOf keys (take i es) → contains entry_key_cmp keys key ≡ true
    → (let r : Bool = false in r ≡ true) ↔ HasUniqueKeys es
key_twice es i e keys key within is ctx id h old =
    no_true (λ u. false≢true (sym (apart_none (take i es) (key_of e) (unique_cut (take i es) (drop (i + 1) es) e (subst HasUniqueKeys (around es i e within is) u))) ∙ found_of keys (take i es) e key true ctx id h old))

pub all_unique : (es : List Entry) (i : ℕ) → length es ≤ i → HasUniqueKeys (take i es) → (let r : Bool = true in r ≡ true) ↔ HasUniqueKeys es
all_unique es i past u = (λ e. subst HasUniqueKeys (take_all i es past) u, λ all. refl)

-- ---- the header

has_key : (e : Entry) → HasHeaderKey e → is_header_key e.ctx e.id ≡ true
has_key e key = ap (λ (k : Key). is_header_key k.0 k.1) key

abbrev header_rest : Entry → Bool
header_rest e = is_none e.plural && (not e.obsolete && list_all has_charset e.forms)

like_header : (e : Entry) → (is_header_like e ≡ true) ↔ (HasHeaderKey e → IsHeader e)
like_header e = (λ h. there h, λ h. by (is_header_key e.ctx e.id) refl h)
  where
    is_here : (b : Bool) → b ≡ true → (not b || header_rest e) ≡ true → header_rest e ≡ true
    is_here true k h = h
    is_here false k h = cc

    none : (o : Option Text) → is_none o ≡ true → o ≡ None
    none None k = refl
    none (Some text) k = cc

    is_false : (b : Bool) → not b ≡ true → b ≡ false
    is_false true k = cc
    is_false false k = refl

    there : is_header_like e ≡ true → HasHeaderKey e → IsHeader e
    there h key =
        let r = is_here (is_header_key e.ctx e.id) (has_key e key) h in
        let behind = second_true (is_none e.plural) _ r in
        record {
          key = key;
          plural = none e.plural (first_true (is_none e.plural) _ r);
          obsolete = is_false e.obsolete (first_true (not e.obsolete) _ behind);
          charset = all_tested has_charset (λ form. IsTrue (has_charset form)) (λ form t. t) e.forms (second_true (not e.obsolete) _ behind);
        }

    whole : IsHeader e → header_rest e ≡ true
    whole header =
        and_from (is_none e.plural) _ (ap is_none header.plural)
        (and_from (not e.obsolete) _ (ap not header.obsolete) (tests_all has_charset (λ form. IsTrue (has_charset form)) (λ form t. t) e.forms header.charset))

    by : (b : Bool) → is_header_key e.ctx e.id ≡ b → (HasHeaderKey e → IsHeader e) → (not b || header_rest e) ≡ true
    by true k h = whole (h (header_key e.ctx e.id k))
    by false k h = refl

abbrev no_header_key : Entry → Bool
no_header_key e = not (is_header_key e.ctx e.id)

pub header_first : (es : List Entry) → (has_header_first es ≡ true) ↔ HasHeaderFirst es
header_first [] = (λ e. tt, λ h. refl)
header_first (x ∷ es) =
    let l = like_header x in (
      λ t. (l.0 (first_true (is_header_like x) _ t), all_tested no_header_key (λ e. HasHeaderKey e → ⊥) there es (second_true (is_header_like x) _ t)),
      λ h. and_from (is_header_like x) _ (l.1 h.0) (tests_all no_header_key (λ e. HasHeaderKey e → ⊥) back es h.1),
    )
  where
    there : (e : Entry) → not (is_header_key e.ctx e.id) ≡ true → HasHeaderKey e → ⊥
    there e h key = false≢true (ap not (sym (has_key e key)) ∙ h)

    back : (e : Entry) → (HasHeaderKey e → ⊥) → not (is_header_key e.ctx e.id) ≡ true
    back e other = by (is_header_key e.ctx e.id) refl
      where
        by : (b : Bool) → is_header_key e.ctx e.id ≡ b → not b ≡ true
        by true k = absurd (other (header_key e.ctx e.id k))
        by false k = refl

pub catalogue_is : (es : List Entry) (unique each : Bool) → ((unique ≡ true) ↔ HasUniqueKeys es) → ((each ≡ true) ↔ AllByRecursion IsValidEntry es) → ((unique && (each && has_header_first es)) ≡ true) ↔ IsValid es
catalogue_is es unique each u v =
    let h = header_first es in (
      λ t. let rest = second_true unique _ t in record { each = v.0 (first_true each _ rest); unique = u.0 (first_true unique _ t); header = h.0 (second_true each _ rest) },
      λ valid. and_from unique _ (u.1 valid.unique) (and_from each _ (v.1 valid.each) (h.1 valid.header)),
    )

pub catalogue_told : (es : List Entry) (result unique each first : Bool) → result ≡ (unique && (each && first)) → first ≡ has_header_first es → ((unique ≡ true) ↔ HasUniqueKeys es) → ((each ≡ true) ↔ AllByRecursion IsValidEntry es) → (result ≡ true) ↔ IsValid es
catalogue_told es result unique each first same last u v = told result _ (same ∙ ap (λ (b : Bool). unique && (each && b)) last) (catalogue_is es unique each u v)
