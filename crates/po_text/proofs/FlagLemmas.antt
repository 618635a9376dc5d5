-- Flags one by one.
use Rattle.std.proofs.Common.{◌≡◌, ◌≢◌, ◌==◌, ℕ, ◌<◌, List, [], ◌∷◌, ◌++◌, Bool, true, false, not, ◌||◌, cond, map, length, get_or, take, append_assoc, ◌+◌, refl, sym, ◌∙◌, ap, suc, arith}
use Rattle.std.specs.Prelude.{filter}
use Rattle.std.specs.List.{list_any, slice_split, onto_first}
use Rattle.std.specs.BTreeSet.{BTreeSet, contains, Updates, IsUnchanged}
use Rattle.std.specs.BTreeMap.{is_at}
use Rattle.std.specs.Cmp.Lexicographic.{slice_cmp}
use Rattle.std.specs.Ordering.{nat_cmp}
use Rattle.std.specs.Str.{bytes_eq}
use Rattle.std.proofs.lemmas.Bool.{ne_eqb}
use Rattle.std.proofs.lemmas.List.{take_more, append-nil}
use Rattle.std.proofs.lemmas.List.Elements.{filter-append}
use Rattle.std.proofs.lemmas.Map.Text.{is_eq-slice_cmp}
use Rattle.std.proofs.lemmas.Slice.Eq.{bytes_eq-Decides}
use Rattle.std.proofs.lemmas.List.Folds.{list_any-append}
use denote.Ref.{Bor}
use Rattle.po_lex.specs.Reading.{trim}
use Rattle.po_lex.specs.Lines.{items_of}
use Rattle.po_text.specs.Texts.{Text}
use Rattle.po_text.specs.Valid.{fuzzy}
use Rattle.po_text.specs.Flags.{has_text, with_fuzzy_first, AreSeen}
use Rattle.po_text.proofs.HeaderLemmas.{Without}

bytes_eq_flip : (a b : Text) → bytes_eq a b ≡ bytes_eq b a
bytes_eq_flip a b = by (bytes_eq a b) (bytes_eq b a) refl refl
  where
    by : (x y : Bool) → bytes_eq a b ≡ x → bytes_eq b a ≡ y → x ≡ y
    by true true e f = refl
    by false false e f = refl
    by true false e f = sym ((bytes_eq-Decides b a).1 (sym ((bytes_eq-Decides a b).0 e))) ∙ f
    by false true e f = sym e ∙ (bytes_eq-Decides a b).1 (sym ((bytes_eq-Decides b a).0 f))

or_swap : (a b : Bool) → cond a true b ≡ (b || (a || false))
or_swap true true = refl
or_swap true false = refl
or_swap false true = refl
or_swap false false = refl

pub seen_added : (old new : BTreeSet (Bor (List ℕ))) (flag : Bor (List ℕ)) (texts : List Text) → AreSeen old texts → Updates (λ x y. slice_cmp nat_cmp x.now y.now) old new flag true → AreSeen new (texts ++ flag.now ∷ [])
seen_added old new flag texts seen u = λ q.
    u.0 q
    ∙ ap (λ b. cond b true (contains (λ x y. slice_cmp nat_cmp x.now y.now) old q)) (is_eq-slice_cmp flag.now q.now ∙ bytes_eq_flip flag.now q.now)
    ∙ ap (λ b. cond (bytes_eq q.now flag.now) true b) (seen q)
    ∙ or_swap (bytes_eq q.now flag.now) (has_text q.now texts)
    ∙ sym (list_any-append (bytes_eq q.now) texts (flag.now ∷ []))

pub seen_same : (old new : BTreeSet (Bor (List ℕ))) (texts : List Text) → AreSeen old texts → IsUnchanged old new → AreSeen new texts
seen_same old new texts seen same = λ q. ap (λ ks. list_any (is_at (λ y. slice_cmp nat_cmp q.now y.now)) ks) same ∙ seen q

pub map_push : (flags : List (Bor (List ℕ))) (flag : Bor (List ℕ)) → map (λ (f : Bor (List ℕ)). f.now) (flags ++ flag ∷ []) ≡ map (λ (f : Bor (List ℕ)). f.now) flags ++ flag.now ∷ []
map_push [] flag = refl
map_push (f ∷ flags) flag = ap (λ ts. f.now ∷ ts) (map_push flags flag)

-- ---- items between commas

rest_without : (b c : ℕ) (text : List ℕ) → Without b (c ∷ text) → Without b text
rest_without b c text h i lt = h (suc i) (omega arith)

abbrev is_comma : ℕ → Bool
is_comma b = b == 44

split_cut : (front rest : List ℕ) → Without 44 front → slice_split is_comma (front ++ 44 ∷ rest) ≡ front ∷ slice_split is_comma rest
split_cut [] rest h = refl
split_cut (b ∷ front) rest h = let other : b ≢ 44 = h 0 (omega arith) in rw (ne_eqb b 44 other) (ap (onto_first b) (split_cut front rest (rest_without 44 b front h)))

split_none : (text : List ℕ) → Without 44 text → slice_split is_comma text ≡ text ∷ []
split_none [] h = refl
split_none (b ∷ text) h = let other : b ≢ 44 = h 0 (omega arith) in rw (ne_eqb b 44 other) (ap (onto_first b) (split_none text (rest_without 44 b text h)))

pub items_cut : (text front rest : List ℕ) → (text ≡ front ++ 44 ∷ rest) × Without 44 front → items_of text ≡ trim front ∷ items_of rest
items_cut text front rest h = ap items_of h.0 ∙ ap (map trim) (split_cut front rest h.1)

pub items_last : (text : List ℕ) → Without 44 text → items_of text ≡ trim text ∷ []
items_last text h = ap (map trim) (split_none text h)

-- ---- other flags

no_fuzzy : (texts : List Text) → has_text fuzzy texts ≡ false → filter (λ text. not (bytes_eq fuzzy text)) texts ≡ texts
no_fuzzy [] h = refl
no_fuzzy (text ∷ texts) h = by (bytes_eq fuzzy text) refl h (λ k. no_fuzzy texts k)
  where
    by : (b : Bool) → bytes_eq fuzzy text ≡ b → (b || has_text fuzzy texts) ≡ false → (has_text fuzzy texts ≡ false → filter (λ t. not (bytes_eq fuzzy t)) texts ≡ texts)
        → cond (not b) (text ∷ filter (λ t. not (bytes_eq fuzzy t)) texts) (filter (λ t. not (bytes_eq fuzzy t)) texts) ≡ text ∷ texts
    by true e k rest = cc
    by false e k rest = ap (λ ts. text ∷ ts) (rest k)

abbrev pub is_other : Text → Bool
is_other text = not (bytes_eq fuzzy text)

pub fuzzy_first : (texts front : List Text) (b : Bool) → b ≡ has_text fuzzy texts → front ≡ cond b (fuzzy ∷ []) [] → front ++ filter is_other texts ≡ with_fuzzy_first texts
fuzzy_first texts front true h e = ap (λ ts. ts ++ filter is_other texts) e ∙ ap (λ b. cond b (fuzzy ∷ filter is_other texts) texts) h
fuzzy_first texts front false h e = ap (λ ts. ts ++ filter is_other texts) e ∙ no_fuzzy texts (sym h) ∙ ap (λ b. cond b (fuzzy ∷ filter is_other texts) texts) h

abbrev pub others : List (Bor (List ℕ)) → List Text
others flags = filter is_other (map (λ (f : Bor (List ℕ)). f.now) flags)

others_next : (flags : List (Bor (List ℕ))) (i : ℕ) (d : Bor (List ℕ)) (b : Bool) → i < length flags → is_other (get_or flags i d).now ≡ b → others (take (i + 1) flags) ≡ others (take i flags) ++ cond b ((get_or flags i d).now ∷ []) []
others_next flags i d b lt e =
    ap others (take_more flags i d lt) ∙ ap (filter is_other) (map_push (take i flags) (get_or flags i d)) ∙ filter-append is_other (map (λ (f : Bor (List ℕ)). f.now) (take i flags)) ((get_or flags i d).now ∷ [])
    ∙ ap (λ t. others (take i flags) ++ cond t ((get_or flags i d).now ∷ []) []) e

is_other_flip : (text : Text) (b : Bool) → not (bytes_eq text fuzzy) ≡ b → is_other text ≡ b
is_other_flip text b e = ap not (bytes_eq_flip fuzzy text) ∙ e

pub others_yes : (all new texts : List Text) (flags : List (Bor (List ℕ))) (i : ℕ) (d : Bor (List ℕ)) → i < length flags → not (bytes_eq (get_or flags i d).now fuzzy) ≡ true → all ≡ texts ++ others (take i flags) → new ≡ all ++ (get_or flags i d).now ∷ []
    → new ≡ texts ++ others (take (i + 1) flags)
others_yes all new texts flags i d lt other a e =
    e ∙ ap (λ t. t ++ (get_or flags i d).now ∷ []) a ∙ append_assoc texts (others (take i flags)) ((get_or flags i d).now ∷ []) ∙ ap (λ t. texts ++ t) (sym (others_next flags i d true lt (is_other_flip (get_or flags i d).now true other)))

pub others_no : (all new texts : List Text) (flags : List (Bor (List ℕ))) (i : ℕ) (d : Bor (List ℕ)) → i < length flags → not (bytes_eq (get_or flags i d).now fuzzy) ≡ false → all ≡ texts ++ others (take i flags) → new ≡ all → new ≡ texts ++ others (take (i + 1) flags)
others_no all new texts flags i d lt other a e =
    e ∙ a ∙ ap (λ t. texts ++ t) (sym (others_next flags i d false lt (is_other_flip (get_or flags i d).now false other) ∙ append-nil (others (take i flags))))
