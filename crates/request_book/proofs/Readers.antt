-- Each reader of a field answers exactly what the field was written from.
use Rattle.std.proofs.Common.{◌≡◌, ℕ, ◌==◌, List, [], ◌∷◌, Bool, true, false, Option, Some, None, option_map, option_and_then, ℤ, negsuc, true≢false, inl, refl, sym, ap, ap₂, ◌∙◌, subst}
use Rattle.std.specs.Prelude.{⊤, codes, if◌then◌else◌}
use Rattle.std.specs.Ordering.{int_eq}
use Rattle.std.proofs.lemmas.Bool.{eqb-true}
use Rattle.std.proofs.lemmas.Bool.Decides.{Decides-int_eq}
use Rattle.std.specs.List.{list_all}
use Rattle.std.specs.Str.{bytes_eq}
use Rattle.std.proofs.lemmas.Slice.Eq.{bytes_eq-Decides}
use Rattle.serde_json.specs.Data.{Num, unsigned, negative, float, Data, null, boolean, number, string, array, object, Items, no_items, item, Members, no_members, member}
use Rattle.serde_json.specs.Find.{as_bool, as_str, as_number, as_array, as_u64}
use Rattle.po_text.specs.Strings.{is_string, is_forms}
use Rattle.units.specs.Limits.{is_revision, is_accept_at, is_comment_lines}
use Rattle.units.specs.declared.votes.VoteValue.{VoteValue}
use Rattle.units.specs.declared.votes.VoteValue.TheVariants.{Against, For}
use Rattle.units.specs.declared.unit.Role.{Role}
use Rattle.units.specs.declared.unit.Role.TheVariants.{Guest, Translator, Reviewer, Manager}
use Rattle.uuid.specs.Text.{parsed, lower}
use Rattle.uuid.proofs.RoundTrips.{parses_hyphenated}
use Rattle.request_book.specs.Acts.{IsNumber, vote_data}
use Rattle.request_book.specs.Words.{natural, with_member, string_items, strings, number_text, number_data}
use Rattle.units.specs.Words.{role_text, role_named}
use Rattle.request_book.specs.Fields.{only, text_of, revision_of, accept_at_of, role_of, each_of, forms_of, lines_of, vote_of_numbers, vote_of, take, take_optional, number_of}
use Rattle.request_book.proofs.Parsed.{both, is_number}

-- ---- options

pub and_then_some : {A B : Type 0} (f : A → Option B) (o : Option A) (y : B) → option_and_then f o ≡ Some y
    → (x : A) × (o ≡ Some x) × (f x ≡ Some y)
and_then_some f None y e = absurd cc
and_then_some f (Some x) y e = (x, refl, e)

pub and_then_at : {A B : Type 0} (f : A → Option B) (o : Option A) (x : A) (r : Option B) → o ≡ Some x → f x ≡ r → option_and_then f o ≡ r
and_then_at f o x r here next = rw here next

pub map_some : {A B : Type 0} (f : A → B) (o : Option A) (y : B) → option_map f o ≡ Some y → (x : A) × (o ≡ Some x) × (f x ≡ y)
map_some f None y e = absurd cc
map_some f (Some x) y e = (x, refl, cc)

pub some_is : {A : Type 0} (x y : A) → Some x ≡ Some y → x ≡ y
some_is x y e = cc

only_at : {A : Type 0} (b : Bool) (x y : A) → (if b then Some x else None) ≡ Some y → (x ≡ y) × (b ≡ true)
only_at true x y e = (cc, refl)
only_at false x y e = absurd cc

pub only_some : {A : Type 0} (p : A → Bool) (x y : A) → only p x ≡ Some y → (x ≡ y) × (p y ≡ true)
only_some p x y e = let h = only_at (p x) x y e in (h.0, subst (λ z. p z ≡ true) h.0 h.1)

pub only_fit : {A : Type 0} (p : A → Bool) (x : A) → p x ≡ true → only p x ≡ Some x
only_fit p x fit = rw fit refl

-- ---- what a reader f and a writer w of values that are fit have in common

abbrev pub Sound : {A : Type 0} → (Data → Option A) → (A → Data) → (A → Type 0) → Type 0
Sound {A} f w Fit = (d : Data) (x : A) → f d ≡ Some x → (d ≡ w x) × Fit x

abbrev pub Complete : {A : Type 0} → (Data → Option A) → (A → Data) → (A → Type 0) → Type 0
Complete {A} f w Fit = (x : A) → Fit x → f (w x) ≡ Some x

pub as_str_is : (d : Data) (s : List ℕ) → as_str d ≡ Some s → d ≡ string s
as_str_is null s e = absurd cc
as_str_is (boolean b) s e = absurd cc
as_str_is (number n) s e = absurd cc
as_str_is (string t) s e = cc
as_str_is (array ds) s e = absurd cc
as_str_is (object ms) s e = absurd cc

as_number_is : (d : Data) (n : Num) → as_number d ≡ Some n → d ≡ number n
as_number_is null n e = absurd cc
as_number_is (boolean b) n e = absurd cc
as_number_is (number m) n e = cc
as_number_is (string t) n e = absurd cc
as_number_is (array ds) n e = absurd cc
as_number_is (object ms) n e = absurd cc

as_array_is : (d : Data) (ds : Items) → as_array d ≡ Some ds → d ≡ array ds
as_array_is null ds e = absurd cc
as_array_is (boolean b) ds e = absurd cc
as_array_is (number m) ds e = absurd cc
as_array_is (string t) ds e = absurd cc
as_array_is (array es) ds e = cc
as_array_is (object ms) ds e = absurd cc

as_u64_is : (n : Num) (k : ℕ) → as_u64 n ≡ Some k → n ≡ unsigned k
as_u64_is (unsigned m) k e = cc
as_u64_is (negative z) k e = absurd cc
as_u64_is (float x) k e = absurd cc

-- a string that passes a test
pub text_sound : (p : List ℕ → Bool) → Sound (λ d. option_and_then (only p) (as_str d)) string (λ s. p s ≡ true)
text_sound p d x e =
    let h = and_then_some (only p) (as_str d) x e in
    let k = only_some p h.0 x h.2 in
    (as_str_is d h.0 h.1 ∙ ap string k.0, k.1)

pub text_complete : (p : List ℕ → Bool) → Complete (λ d. option_and_then (only p) (as_str d)) string (λ s. p s ≡ true)
text_complete p x fit = rw fit refl

-- any string, and any truth value
pub str_sound : Sound as_str string (λ s. ⊤)
str_sound d s e = (as_str_is d s e, tt)

as_bool_is : (d : Data) (b : Bool) → as_bool d ≡ Some b → d ≡ boolean b
as_bool_is null b e = absurd cc
as_bool_is (boolean c) b e = cc
as_bool_is (number n) b e = absurd cc
as_bool_is (string t) b e = absurd cc
as_bool_is (array ds) b e = absurd cc
as_bool_is (object ms) b e = absurd cc

pub bool_sound : Sound as_bool boolean (λ b. ⊤)
bool_sound d b e = (as_bool_is d b e, tt)

-- a whole number that passes a test
natural_sound : (p : ℕ → Bool) → Sound (λ d. option_and_then (only p) (option_and_then as_u64 (as_number d))) natural (λ n. p n ≡ true)
natural_sound p d x e =
    let h = and_then_some (only p) (option_and_then as_u64 (as_number d)) x e in
    let k = only_some p h.0 x h.2 in
    let m = and_then_some as_u64 (as_number d) h.0 h.1 in
    (as_number_is d m.0 m.1 ∙ ap number (as_u64_is m.0 h.0 m.2 ∙ ap unsigned k.0), k.1)

natural_complete : (p : ℕ → Bool) → Complete (λ d. option_and_then (only p) (option_and_then as_u64 (as_number d))) natural (λ n. p n ≡ true)
natural_complete p x fit = rw fit refl

pub revision_sound : Sound revision_of natural (λ n. is_revision n ≡ true)
revision_sound = natural_sound is_revision

pub revision_complete : Complete revision_of natural (λ n. is_revision n ≡ true)
revision_complete = natural_complete is_revision

pub accept_at_sound : Sound accept_at_of natural (λ n. is_accept_at n ≡ true)
accept_at_sound = natural_sound is_accept_at

pub accept_at_complete : Complete accept_at_of natural (λ n. is_accept_at n ≡ true)
accept_at_complete = natural_complete is_accept_at

-- ---- words

pub same_bytes : (xs ys : List ℕ) → bytes_eq xs ys ≡ true → xs ≡ ys
same_bytes xs ys e = (bytes_eq-Decides xs ys).0 e

-- the one of this word, or else the one of another
pub chosen : {A : Type 0} (Goal : List ℕ → Type 0) (word own : List ℕ) (here others : Option A) (x : A) → (here ≡ Some x → Goal own) → (others ≡ Some x → Goal word)
    → (if bytes_eq word own then here else others) ≡ Some x → Goal word
chosen {A} Goal word own here others x is later e = by_test (bytes_eq word own) refl e
  where
    by_test : (b : Bool) → bytes_eq word own ≡ b → (if b then here else others) ≡ Some x → Goal word
    by_test true same h = subst Goal (sym (same_bytes word own same)) (is h)
    by_test false same h = later h

role_named_is : (word : List ℕ) (role : Role) → role_named word ≡ Some role → word ≡ role_text role
role_named_is word role e =
    let Goal : List ℕ → Type 0 = λ w. w ≡ role_text role in
    chosen Goal word (codes "guest") (Some Guest) _ role (λ h. ap role_text (some_is Guest role h))
    (chosen Goal word (codes "translator") (Some Translator) _ role (λ h. ap role_text (some_is Translator role h))
    (chosen Goal word (codes "reviewer") (Some Reviewer) _ role (λ h. ap role_text (some_is Reviewer role h))
    (chosen Goal word (codes "manager") (Some Manager) None role (λ h. ap role_text (some_is Manager role h)) (λ h. absurd cc)))) e

pub role_sound : Sound role_of (λ role. string (role_text role)) (λ role. ⊤)
role_sound d role e =
    let h = and_then_some role_named (as_str d) role e in
    (as_str_is d h.0 h.1 ∙ ap string (role_named_is h.0 role h.2), tt)

pub role_complete : Complete role_of (λ role. string (role_text role)) (λ role. ⊤)
role_complete Guest fit = refl
role_complete Translator fit = refl
role_complete Reviewer fit = refl
role_complete Manager fit = refl

-- lists of strings, each read by f
each_is : (f : Data → Option (List ℕ)) (Fit : List ℕ → Type 0) → Sound f string Fit → (ds : Items) (ts : List (List ℕ)) → each_of f ds ≡ Some ts → ds ≡ string_items ts
each_is f Fit sound no_items ts e = let h : ts ≡ [] = cc in rw h refl
each_is f Fit sound (item d ds) ts e =
    let h = and_then_some (λ t. option_map (λ us. t ∷ us) (each_of f ds)) (f d) ts e in
    let m = map_some (λ us. h.0 ∷ us) (each_of f ds) ts h.2 in
    let first = (sound d h.0 h.1).0 in
    let rest = each_is f Fit sound ds m.0 m.1 in
    ap₂ item first rest ∙ ap string_items m.2

list_sound : (f : Data → Option (List ℕ)) (Fit : List ℕ → Type 0) (p : List (List ℕ) → Bool) → Sound f string Fit
    → Sound (λ d. option_and_then (only p) (option_and_then (each_of f) (as_array d))) strings (λ ts. p ts ≡ true)
list_sound f Fit p sound d x e =
    let h = and_then_some (only p) (option_and_then (each_of f) (as_array d)) x e in
    let k = only_some p h.0 x h.2 in
    let m = and_then_some (each_of f) (as_array d) h.0 h.1 in
    (as_array_is d m.0 m.1 ∙ ap array (each_is f Fit sound m.0 h.0 m.2 ∙ ap string_items k.0), k.1)

pub forms_sound : Sound forms_of strings (λ ts. is_forms ts ≡ true)
forms_sound = list_sound text_of (λ s. is_string s ≡ true) is_forms (text_sound is_string)

pub lines_sound : Sound lines_of strings (λ ts. is_comment_lines ts ≡ true)
lines_sound = list_sound as_str (λ s. ⊤) is_comment_lines (λ d s h. (as_str_is d s h, tt))

texts_of_strings : (ts : List (List ℕ)) → list_all is_string ts ≡ true → each_of text_of (string_items ts) ≡ Some ts
texts_of_strings [] fit = refl
texts_of_strings (t ∷ ts) fit =
    let h = both (is_string t) (list_all is_string ts) fit in
    rw (text_complete is_string t h.0, texts_of_strings ts h.1) refl

pub forms_complete : Complete forms_of strings (λ ts. is_forms ts ≡ true)
forms_complete x fit = and_then_at (only is_forms) (each_of text_of (string_items x)) x (Some x) (texts_of_strings x (both _ _ fit).1) (only_fit is_forms x fit)

lines_of_strings : (ts : List (List ℕ)) → each_of as_str (string_items ts) ≡ Some ts
lines_of_strings [] = refl
lines_of_strings (t ∷ ts) = rw (lines_of_strings ts) refl

pub lines_complete : Complete lines_of strings (λ ts. is_comment_lines ts ≡ true)
lines_complete x fit = and_then_at (only is_comment_lines) (each_of as_str (string_items x)) x (Some x) (lines_of_strings x) (only_fit is_comment_lines x fit)

-- ---- votes

vote_of_natural : (n : ℕ) (z : Option ℤ) (value : Option VoteValue) → vote_of_numbers (Some n) z ≡ Some value → number (unsigned n) ≡ vote_data value
vote_of_natural n z value e = at_zero (n == 0) refl e
  where
    at_one : (c : Bool) → (n == 1) ≡ c → (if c then Some (Some For) else None) ≡ Some value → number (unsigned n) ≡ vote_data value
    at_one true is h =
        let same : Some For ≡ value = cc in
        ap (λ k. number (unsigned k)) (eqb-true n 1 is) ∙ ap vote_data same
    at_one false is h = absurd cc

    at_zero : (c : Bool) → (n == 0) ≡ c → (if c then Some None else if n == 1 then Some (Some For) else None) ≡ Some value → number (unsigned n) ≡ vote_data value
    at_zero true is h =
        let same : None ≡ value = cc in
        ap (λ k. number (unsigned k)) (eqb-true n 0 is) ∙ ap vote_data same
    at_zero false is h = at_one (n == 1) refl h

vote_of_negative : (z : ℤ) (value : Option VoteValue) → (if int_eq z (negsuc 0) then Some (Some Against) else None) ≡ Some value → number (negative z) ≡ vote_data value
vote_of_negative z value e = by_test (int_eq z (negsuc 0)) refl e
  where
    by_test : (c : Bool) → int_eq z (negsuc 0) ≡ c → (if c then Some (Some Against) else None) ≡ Some value → number (negative z) ≡ vote_data value
    by_test true is h =
        let same : Some Against ≡ value = cc in
        ap (λ y. number (negative y)) ((Decides-int_eq z (negsuc 0)).0 is) ∙ ap vote_data same
    by_test false is h = absurd cc

vote_of_number : (n : Num) (value : Option VoteValue) → vote_of (number n) ≡ Some value → number n ≡ vote_data value
vote_of_number (unsigned n) value e = vote_of_natural n None value e
vote_of_number (negative z) value e = vote_of_negative z value e
vote_of_number (float x) value e = absurd cc

pub vote_sound : Sound vote_of vote_data (λ value. ⊤)
vote_sound null value e = absurd cc
vote_sound (boolean b) value e = absurd cc
vote_sound (number n) value e = (vote_of_number n value e, tt)
vote_sound (string t) value e = absurd cc
vote_sound (array es) value e = absurd cc
vote_sound (object ms) value e = absurd cc

pub vote_complete : Complete vote_of vote_data (λ value. ⊤)
vote_complete None fit = refl
vote_complete (Some For) fit = refl
vote_complete (Some Against) fit = refl

-- ---- numbers

pub number_sound : Sound number_of number_data IsNumber
number_sound d u e =
    let h = and_then_some (λ s. option_and_then (only (λ v. bytes_eq (number_text v) s)) (parsed s)) (as_str d) u e in
    let m = and_then_some (only (λ v. bytes_eq (number_text v) h.0)) (parsed h.0) u h.2 in
    let k = only_some (λ v. bytes_eq (number_text v) h.0) m.0 u m.2 in
    (as_str_is d h.0 h.1 ∙ ap string (sym (same_bytes _ _ k.1)), subst IsNumber k.0 (is_number h.0 m.0 m.1))

only_same : (xs : List ℕ) → bytes_eq xs xs ≡ true
only_same xs = (bytes_eq-Decides xs xs).1 refl

pub number_complete : Complete number_of number_data IsNumber
number_complete u fit = rw (sym (parses_hyphenated lower u (inl refl) fit.0 fit.1), only_same (number_text u)) refl

-- ---- members

take_at : (b : Bool) (l k : List ℕ) (d : Data) (ms : Members) (p : Data × Members) → bytes_eq l k ≡ b → (if b then Some (d, ms) else None) ≡ Some p
    → member l d ms ≡ member k p.0 p.1
take_at true l k d ms p same e =
    let h : (d, ms) ≡ p = cc in
    rw (same_bytes l k same, ← h) refl
take_at false l k d ms p same e = absurd cc

pub take_is : (k : List ℕ) (ms : Members) (p : Data × Members) → take k ms ≡ Some p → ms ≡ member k p.0 p.1
take_is k no_members p e = absurd cc
take_is k (member l d ms) p e = take_at (bytes_eq l k) l k d ms p refl e

pub take_here : (k : List ℕ) (d : Data) (ms : Members) → take k (member k d ms) ≡ Some (d, ms)
take_here k d ms = rw (only_same k) refl

optional_at : (b : Bool) (l k : List ℕ) (d : Data) (ms : Members) → bytes_eq l k ≡ b
    → member l d ms ≡ with_member k (if b then Some d else None) (if b then ms else member l d ms)
optional_at true l k d ms same = rw (same_bytes l k same) refl
optional_at false l k d ms same = refl

abbrev Taken : Type 0
Taken = Option Data × Members

split_if : (b : Bool) (k : List ℕ) (d : Data) (ms other : Members) (p : Taken) → (let hit : Taken = (Some d, ms) in let miss : Taken = (None, other) in if b then hit else miss) ≡ p
    → with_member k (if b then Some d else None) (if b then ms else other) ≡ with_member k p.0 p.1
split_if true k d ms other p e = let h : (let hit : Taken = (Some d, ms) in hit) ≡ p = e in rw (← h) refl
split_if false k d ms other p e = let h : (let miss : Taken = (None, other) in miss) ≡ p = e in rw (← h) refl

pub take_optional_is : (k : List ℕ) (ms : Members) (p : Taken) → take_optional k ms ≡ p → ms ≡ with_member k p.0 p.1
take_optional_is k no_members p e = let h : (let miss : Taken = (None, no_members) in miss) ≡ p = e in rw (← h) refl
take_optional_is k (member l d ms) p e = optional_at (bytes_eq l k) l k d ms refl ∙ split_if (bytes_eq l k) k d ms (member l d ms) p e

other_at : (b : Bool) (d : Data) (ms other : Members) (p : Taken) → (let found : Data × Members = (d, ms) in if b then Some found else None) ≡ None → (let miss : Taken = (None, other) in p ≡ miss)
    → (let hit : Taken = (Some d, ms) in if b then hit else p) ≡ p
other_at true d ms other p e q = absurd cc
other_at false d ms other p e q = refl

-- the first member has another name
pub take_optional_other : (k : List ℕ) (ms : Members) (p : Taken) → take k ms ≡ None → (let miss : Taken = (None, ms) in p ≡ miss) → take_optional k ms ≡ p
take_optional_other k no_members p e q = sym q
take_optional_other k (member l d ms) p e q = rw (← q) (other_at (bytes_eq l k) d ms (member l d ms) p e q)

hit_at : (b : Bool) (d : Data) (ms other : Members) (p : Taken) → b ≡ true → (let hit : Taken = (Some d, ms) in p ≡ hit)
    → (let hit : Taken = (Some d, ms) in let miss : Taken = (None, other) in if b then hit else miss) ≡ p
hit_at true d ms other p e q = sym q
hit_at false d ms other p e q = absurd (true≢false (sym e))

pub take_optional_here : (k : List ℕ) (d : Data) (ms : Members) (p : Taken) → (let hit : Taken = (Some d, ms) in p ≡ hit) → take_optional k (member k d ms) ≡ p
take_optional_here k d ms p q = hit_at (bytes_eq k k) d ms (member k d ms) p (only_same k) q
