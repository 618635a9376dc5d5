-- The charset that a header names.
use Rattle.std.proofs.Common.{◌≡◌, ◌≢◌, ℕ, ◌+◌, ◌<◌, ◌≤◌, List, [], ◌∷◌, ◌++◌, Bool, true, false, cond, length, drop, refl, sym, ◌∙◌, ap, Some, None, zero, suc, arith}
use Rattle.std.specs.List.{starts_with}
use Rattle.std.specs.Bool.{nat_eq}
use Rattle.std.specs.Str.Pattern.{LacksTextAt}
use Rattle.std.proofs.lemmas.Bool.{ne_eqb}
use Rattle.std.proofs.lemmas.Bool.Decides.{Decides-eqb}
use Rattle.std.proofs.lemmas.Slice.Eq.{starts_is}
use Rattle.po_text.specs.Header.{after_word, up_to_semicolon}
use Rattle.po_text.proofs.HeaderLemmas.{Without}

rest_without : (b c : ℕ) (text : List ℕ) → Without b (c ∷ text) → Without b text
rest_without b c text h i lt = h (suc i) (omega arith)

pub semicolon_cut : (text front rest : List ℕ) → (text ≡ front ++ 59 ∷ rest) × Without 59 front → front ≡ up_to_semicolon text
semicolon_cut text front rest h = sym (ap up_to_semicolon h.0 ∙ at front h.1)
  where
    at : (f : List ℕ) → Without 59 f → up_to_semicolon (f ++ 59 ∷ rest) ≡ f
    at [] w = refl
    at (b ∷ f) w = let other : b ≢ 59 = w 0 (omega arith) in rw (ne_eqb b 59 other) (ap (λ t. b ∷ t) (at f (rest_without 59 b f w)))

pub semicolon_none : (text : List ℕ) → Without 59 text → text ≡ up_to_semicolon text
semicolon_none [] w = refl
semicolon_none (b ∷ text) w = let other : b ≢ 59 = w 0 (omega arith) in rw (ne_eqb b 59 other) (ap (λ t. b ∷ t) (semicolon_none text (rest_without 59 b text w)))

starts : (text word : List ℕ) → (starts_with nat_eq text word ≡ true → text ≡ word ++ drop (length word) text) × ((rest : List ℕ) → text ≡ word ++ rest → starts_with nat_eq text word ≡ true)
starts text word = starts_is Decides-eqb text word (starts_with nat_eq text word) refl

-- the word isn't at the front
lacks : (text word : List ℕ) → LacksTextAt word text 0 → starts_with nat_eq text word ≡ false
lacks text word none = by (starts_with nat_eq text word) refl
  where
    by : (b : Bool) → starts_with nat_eq text word ≡ b → b ≡ false
    by true e = absurd (none (drop (length word) text) ((starts text word).0 e))
    by false e = refl

pub no_word : (word text : List ℕ) → ((i : ℕ) → i ≤ length text → LacksTextAt word text i) → None ≡ after_word word text
no_word word [] none = refl
no_word word (b ∷ text) none =
    sym (ap (λ t. cond t (Some (drop (length word) (b ∷ text))) (after_word word text)) (lacks (b ∷ text) word (none 0 (omega arith))) ∙ sym (no_word word text (λ i le. none (suc i) (omega arith))))

pub word_found : (word text : List ℕ) (i j : ℕ) → 0 < length word → ((k : ℕ) → k < i → LacksTextAt word text k) → drop i text ≡ word ++ drop j text → j ≡ i + length word → Some (drop j text) ≡ after_word word text
word_found [] text i j some none split ends = absurd (omega arith)
word_found (w ∷ word) [] zero j some none split ends = cc
word_found (w ∷ word) [] (suc i) j some none split ends = cc
word_found (w ∷ word) (b ∷ text) zero j some none split ends =
    let e : j ≡ length (w ∷ word) = omega arith in
    sym (ap (λ t. cond t (Some (drop (length (w ∷ word)) (b ∷ text))) (after_word (w ∷ word) text)) ((starts (b ∷ text) (w ∷ word)).1 (drop j (b ∷ text)) split) ∙ ap (λ n. Some (drop n (b ∷ text))) (sym e))
word_found (w ∷ word) (b ∷ text) (suc i) j some none split ends =
    let e : j ≡ suc (i + length (w ∷ word)) = omega arith in
    let back : drop j (b ∷ text) ≡ drop (i + length (w ∷ word)) text = ap (λ n. drop n (b ∷ text)) e in
    ap Some back
    ∙ word_found (w ∷ word) text i (i + length (w ∷ word)) some (λ k lt. none (suc k) (omega arith)) (split ∙ ap (λ t. (w ∷ word) ++ t) back) refl
    ∙ sym (ap (λ t. cond t (Some (drop (length (w ∷ word)) (b ∷ text))) (after_word (w ∷ word) text)) (lacks (b ∷ text) (w ∷ word) (none 0 (omega arith))))
