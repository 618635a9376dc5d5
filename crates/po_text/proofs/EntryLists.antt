-- Lists of texts and of entries with one more, cut in two, and by their keys.
use Rattle.std.proofs.Common.{◌≡◌, ◌≢◌, List, [], ◌∷◌, ◌++◌, Bool, true, false, not, ◌&&◌, ◌||◌, cond, refl, sym, ◌∙◌, ap, Option, Some, None}
use Rattle.std.specs.List.{AllByRecursion}
use Rattle.std.specs.Cmp.{tied_then}
use Rattle.std.specs.Cmp.Lexicographic.{slice_cmp}
use Rattle.std.specs.Option.{option_cmp}
use Rattle.std.specs.Ordering.{nat_cmp, is_eq}
use Rattle.std.specs.Str.{bytes_eq}
use Rattle.std.proofs.lemmas.Bool.{false≢true}
use Rattle.std.proofs.lemmas.Map.Text.{is_eq-slice_cmp}
use Rattle.std.proofs.lemmas.Slice.Eq.{bytes_eq-Decides}
use Rattle.po_text.specs.Entries.{Key, key_of, is_header_key, same_context, same_key}
use Rattle.po_text.specs.Flags.{has_text}
use Rattle.po_text.specs.Keys.{entry_key_cmp}
use Rattle.po_text.specs.Texts.{Text}
use Rattle.po_text.specs.Valid.{AreDistinct, HasUniqueKeys}
use Rattle.po_text.specs.declared.entry.Entry.{Entry}
use Rattle.po_text.specs.declared.key.EntryKey.{EntryKey}

pub both_true : (a b : Bool) → (a && b) ≡ true → (a ≡ true) × (b ≡ true)
both_true true b h = (refl, h)
both_true false b h = cc

pub or_false : (a b : Bool) → (a || b) ≡ false → (a ≡ false) × (b ≡ false)
or_false true b h = cc
or_false false b h = (refl, h)

pub not_false : (b : Bool) → not b ≡ false → b ≡ true
not_false true h = refl
not_false false h = cc

pub all_push : {A : Type 0} (P : A → Type 0) (xs : List A) (x : A) → AllByRecursion P xs → P x → AllByRecursion P (xs ++ x ∷ [])
all_push P [] x h p = (p, tt)
all_push P (y ∷ xs) x h p = (h.0, all_push P xs x h.1 p)

pub all_left : {A : Type 0} (P : A → Type 0) (xs ys : List A) → AllByRecursion P (xs ++ ys) → AllByRecursion P xs
all_left P [] ys h = tt
all_left P (x ∷ xs) ys h = (h.0, all_left P xs ys h.1)

pub all_right : {A : Type 0} (P : A → Type 0) (xs ys : List A) → AllByRecursion P (xs ++ ys) → AllByRecursion P ys
all_right P [] ys h = h
all_right P (x ∷ xs) ys h = all_right P xs ys h.1

pub all_both : {A : Type 0} (P : A → Type 0) (xs ys : List A) → AllByRecursion P xs → AllByRecursion P ys → AllByRecursion P (xs ++ ys)
all_both P [] ys h k = k
all_both P (x ∷ xs) ys h k = (h.0, all_both P xs ys h.1 k)

-- none of these is the text
abbrev pub AreOthers : Text → List Text → Type 0
AreOthers text texts = AllByRecursion (λ other. other ≢ text) texts

other_text : (a b : Text) → bytes_eq a b ≡ false → b ≢ a
other_text a b h e = false≢true (sym h ∙ (bytes_eq-Decides a b).1 (sym e))

pub none_of : (text : Text) (texts : List Text) → has_text text texts ≡ false → AreOthers text texts
none_of text [] h = tt
none_of text (other ∷ texts) h = let r = or_false (bytes_eq text other) (has_text text texts) h in (other_text text other r.0, none_of text texts r.1)

pub distinct_push : (texts : List Text) (text : Text) → AreDistinct texts → AreOthers text texts → AreDistinct (texts ++ text ∷ [])
distinct_push [] text d o = (tt, tt)
distinct_push (t ∷ texts) text d o = (all_push (λ (other : Text). other ≢ t) texts text d.0 (λ e. o.0 (sym e)), distinct_push texts text d.1 o.1)

pub same_key_self : (k : Key) → same_key k k ≡ true
same_key_self k = by k.0
  where
    text : bytes_eq k.1 k.1 ≡ true
    text = (bytes_eq-Decides k.1 k.1).1 refl

    by : (ctx : Option Text) → (same_context ctx ctx && bytes_eq k.1 k.1) ≡ true
    by None = text
    by (Some ctx) = ap (λ b. b && bytes_eq k.1 k.1) ((bytes_eq-Decides ctx ctx).1 refl) ∙ text

pub unique_push : (es : List Entry) (e : Entry) → HasUniqueKeys es → AllByRecursion (λ other. key_of other ≢ key_of e) es → HasUniqueKeys (es ++ e ∷ [])
unique_push [] e u o = (tt, tt)
unique_push (x ∷ es) e u o = (all_push (λ (other : Entry). key_of other ≢ key_of x) es e u.0 (λ q. o.0 (sym q)), unique_push es e u.1 o.1)

pub unique_cut : (done es : List Entry) (e : Entry) → HasUniqueKeys (done ++ e ∷ es) → AllByRecursion (λ x. key_of e ≢ key_of x) done
unique_cut [] es e u = tt
unique_cut (x ∷ done) es e u = ((all_right (λ (other : Entry). key_of other ≢ key_of x) done (e ∷ es) u.0).0, unique_cut done es e u.1)

context_same : (a b : Option Text) → same_context a b ≡ true → a ≡ b
context_same None None h = refl
context_same None (Some b) h = cc
context_same (Some a) None h = cc
context_same (Some a) (Some b) h = ap Some ((bytes_eq-Decides a b).0 h)

pub key_same : (a b : Key) → same_key a b ≡ true → a ≡ b
key_same a b h =
    let r = both_true (same_context a.0 b.0) (bytes_eq a.1 b.1) h in
    let first : a.0 ≡ b.0 = context_same a.0 b.0 r.0 in
    let second : a.1 ≡ b.1 = (bytes_eq-Decides a.1 b.1).0 r.1 in
    ap (λ (x : Option Text). (x, a.1)) first ∙ ap (λ (x : Text). (b.0, x)) second

pub header_key : (ctx : Option Text) (id : Text) → is_header_key ctx id ≡ true → (let k : Key = (ctx, id) in k) ≡ (None, [])
header_key None [] h = refl
header_key None (b ∷ id) h = cc
header_key (Some ctx) id h = cc

text_same : (a b : Text) → is_eq (slice_cmp nat_cmp a b) ≡ bytes_eq a b
text_same = is_eq-slice_cmp

contexts_tied : (a b : Option Text) → is_eq (option_cmp (slice_cmp nat_cmp) a b) ≡ same_context a b
contexts_tied None None = refl
contexts_tied None (Some b) = refl
contexts_tied (Some a) None = refl
contexts_tied (Some a) (Some b) = text_same a b

pub cmp_same : (a b : EntryKey) → is_eq (entry_key_cmp a b) ≡ same_key (a.ctx, a.id) (b.ctx, b.id)
cmp_same a b = sym (tied_then (option_cmp (slice_cmp nat_cmp) a.ctx b.ctx) (slice_cmp nat_cmp a.id b.id)) ∙ (λ i. contexts_tied a.ctx b.ctx i && text_same a.id b.id i)

pub or_last : (a b : Bool) → cond a true b ≡ (b || (a || false))
or_last true true = refl
or_last true false = refl
or_last false true = refl
or_last false false = refl
