-- Lemmas on the cut of a text into tokens.
use Rattle.std.proofs.Common.{◌≡◌, ℕ, zero, suc, ◌+◌, ◌-◌, ◌*◌, ◌<◌, ◌≤◌, List, [], ◌∷◌, ◌++◌, length, take, drop, get_or, nat_eq, nat_lt, Bool, true, false, ◌⊎◌, Option, Some, None, IfSome, option_map, refl, sym, ap, subst, ◌∙◌, arith, add-one, drop-cons, append_assoc, append-nil, inl, inr}
use Rattle.std.specs.Prelude.{if◌then◌else◌}
use Rattle.std.specs.List.{find, fold, starts_with, prefix_len, list_all}
use Rattle.std.specs.Char.{is_ascii_digit}
use Rattle.std.proofs.lemmas.Bool.{and_parts, ltb-true, ne_eqb}
use lib.Pointwise.{pointwise_long}
use Rattle.std.proofs.lemmas.List.{length-take, length-take-le, take_rest}
use Rattle.std.proofs.lemmas.List.Sums.{prefix_len-le-length}
use Rattle.plural_expr.specs.declared.token.Token.{Token}
use Rattle.plural_expr.specs.Tokens.{◌>>=◌, Written, with_length, fixed, digits_at, digits_written, digits_token, or_else, token_at, tokens_behind, tokens_of}

-- ---- digits

abbrev pub value_from : ℕ → List ℕ → ℕ
value_from n ds = fold (λ n d. n * 10 + (d - 48)) n ds

pub value_grows : (n : ℕ) (ds : List ℕ) → n ≤ value_from n ds
value_grows n [] = omega arith
value_grows n (d ∷ ds) = omega (arith, value_grows (n * 10 + (d - 48)) ds)

pub value_next : (n : ℕ) (ds : List ℕ) (i : ℕ) → i < length ds → value_from n (drop i ds) ≡ value_from (n * 10 + (get_or ds i 0 - 48)) (drop (i + 1) ds)
value_next n ds i low = rw (add-one i) (rw (drop-cons ds i 0 low) refl)

-- what the value comes to with one more digit is no more than the whole
pub value_over : (n : ℕ) (ds : List ℕ) (i total : ℕ) → value_from n (drop i ds) ≡ total → i < length ds → n * 10 + (get_or ds i 0 - 48) ≤ total
value_over n ds i total e low =
    let next = value_next n ds i low in
    let grows = value_grows (n * 10 + (get_or ds i 0 - 48)) (drop (i + 1) ds) in
    omega arith

digits_of_some : (ds : List ℕ) → 0 < length ds → digits_written ds ≡ Some (ds, digits_token ds)
digits_of_some [] h = absurd (omega arith)
digits_of_some (d ∷ ds) h = refl

length_digits : (text : List ℕ) → length (digits_at text) ≡ prefix_len is_ascii_digit text
length_digits text = length-take-le (prefix_len is_ascii_digit text) text (prefix_len-le-length is_ascii_digit text)

token_of_digits : (text : List ℕ) → 0 < prefix_len is_ascii_digit text → token_at text ≡ Some (digits_at text, digits_token (digits_at text))
unfolding token_at
token_of_digits text h = ap (λ o. or_else o (find (λ written. starts_with nat_eq text written.0) fixed)) (digits_of_some (digits_at text) (omega (arith, length_digits text)))

-- ---- the token at the front

begins_len : (text needle : List ℕ) → starts_with nat_eq text needle ≡ true → length needle ≤ length text
begins_len text needle e = omega (arith, pointwise_long nat_eq needle (take (length needle) text) e, length-take (length needle) text)

chosen_one : (b : Bool) (v w : Written) (o : Option Written) → (if b then Some v else o) ≡ Some w → ((b ≡ true) × (v ≡ w)) ⊎ (o ≡ Some w)
chosen_one true v w o e = inl (refl, cc)
chosen_one false v w o e = inr e

-- what the table has at the front is not empty, and stands in the text
found_len : (text : List ℕ) (table : List Written) (w : Written)
    → list_all (λ (v : Written). nat_lt 0 (length v.0)) table ≡ true
    → find (λ (v : Written). starts_with nat_eq text v.0) table ≡ Some w → (0 < length w.0) × (length w.0 ≤ length text)
found_len text [] w all e = cc
found_len text (v ∷ table) w all e =
    let parts = and_parts (nat_lt 0 (length v.0)) (list_all (λ (u : Written). nat_lt 0 (length u.0)) table) all in
    elim (chosen_one (starts_with nat_eq text v.0) v w (find (λ (u : Written). starts_with nat_eq text u.0) table) e) [
      | inl here ↦ subst (λ (u : Written). (0 < length u.0) × (length u.0 ≤ length text)) here.1 (ltb-true 0 (length v.0) parts.0, begins_len text v.0 here.0)
      | inr later ↦ found_len text table w parts.1 later
    ]

either : (o p : Option Written) (w : Written) → or_else o p ≡ Some w → (o ≡ Some w) ⊎ (p ≡ Some w)
either None p w e = inr e
either (Some v) p w e = inl e

digits_len : (ds : List ℕ) (w : Written) → digits_written ds ≡ Some w → (ds ≡ w.0) × (0 < length ds)
digits_len [] w e = cc
digits_len (d ∷ ds) w e = (ap (λ (o : Option Written). elim o as (λ _. List ℕ) [ Some v ↦ v.0 | None ↦ [] ]) e, omega arith)

token_len : (text : List ℕ) (w : Written) → token_at text ≡ Some w → (0 < length w.0) × (length w.0 ≤ length text)
unfolding token_at
token_len text w e =
    elim (either (digits_written (digits_at text)) (find (λ written. starts_with nat_eq text written.0) fixed) w e) [
      | inl digits ↦
          let same = digits_len (digits_at text) w digits in
          subst (λ (ds : List ℕ). (0 < length ds) × (length ds ≤ length text)) same.0 (same.1, omega (arith, length_digits text, prefix_len-le-length is_ascii_digit text))
      | inr found ↦ found_len text fixed w refl found
    ]

-- ---- the tokens of a text

abbrev pub after_tokens : List Token → Option (List Token) → Option (List Token)
after_tokens front None = None
after_tokens front (Some tokens) = Some (front ++ tokens)

-- bytes of a token are passed by
skipped : (k : ℕ) (text : List ℕ) → tokens_behind k text ≡ tokens_of (drop k text)
unfolding tokens_behind
skipped zero text = refl
skipped (suc k) [] = refl
skipped (suc k) (b ∷ text) = skipped k text

space_next : (b : ℕ) (text : List ℕ) → b ≡ 32 → tokens_of (b ∷ text) ≡ tokens_of text
unfolding tokens_behind
space_next b text e = rw e refl

dropped : (k b : ℕ) (text : List ℕ) → 0 < k → drop k (b ∷ text) ≡ drop (k - 1) text
dropped zero b text h = absurd (omega arith)
dropped (suc k) b text h = let same : k ≡ suc k - 1 = omega arith in ap (λ n. drop n text) same

added : (token : Token) (o : Option (List Token)) → (o >>= λ tokens. Some (token ∷ tokens)) ≡ after_tokens (token ∷ []) o
added token None = refl
added token (Some tokens) = refl

token_next : (b : ℕ) (text : List ℕ) (w : Written) → (b ≡ 32 → ⊥) → token_at (b ∷ text) ≡ Some w
    → tokens_of (b ∷ text) ≡ after_tokens (w.1 ∷ []) (tokens_of (drop (length w.0) (b ∷ text)))
unfolding tokens_behind
token_next b text w other e =
    let size = token_len (b ∷ text) w e in
    rw (ne_eqb b 32 other) (rw e (
    added w.1 (tokens_behind (length w.0 - 1) text)
    ∙ ap (after_tokens (w.1 ∷ [])) (skipped (length w.0 - 1) text ∙ ap tokens_of (sym (dropped (length w.0) b text size.0)))))

no_token : (b : ℕ) (text : List ℕ) → (b ≡ 32 → ⊥) → token_at (b ∷ text) ≡ None → tokens_of (b ∷ text) ≡ None
unfolding tokens_behind
no_token b text other e = rw (ne_eqb b 32 other) (rw e refl)

after_more : (front : List Token) (token : Token) (o : Option (List Token)) → after_tokens front (after_tokens (token ∷ []) o) ≡ after_tokens (front ++ token ∷ []) o
after_more front token None = refl
after_more front token (Some tokens) = simp append_assoc

-- ---- a step of the cut; the text that is left is never empty there

written_of : (o : Option Written) (len : ℕ) (token : Token) → Some (len, token) ≡ option_map with_length o → (w : Written) × ((o ≡ Some w) × ((length w.0 ≡ len) × (w.1 ≡ token)))
written_of None len token e = cc
written_of (Some w) len token e =
    let pair : (len, token) ≡ with_length w = cc in
    (w, (refl, (ap (λ (p : ℕ × Token). p.0) (sym pair), ap (λ (p : ℕ × Token). p.1) (sym pair))))

nothing_of : (o : Option Written) → None ≡ option_map with_length o → o ≡ None
nothing_of None e = refl
nothing_of (Some w) e = cc

cut_fits : (text : List ℕ) (len : ℕ) (token : Token) → Some (len, token) ≡ option_map with_length (token_at text) → (0 < len) × (len ≤ length text)
cut_fits text len token e =
    let (w, parts) = written_of (token_at text) len token e in
    let size = token_len text w parts.0 in
    (omega (arith, parts.1.0), omega (arith, parts.1.0))

pub cut_of_digits : (text : List ℕ) (len : ℕ) (token : Token) → len ≡ prefix_len is_ascii_digit text → (len ≡ 0 → ⊥) → token ≡ digits_token (take len text)
    → Some (len, token) ≡ option_map with_length (token_at text)
cut_of_digits text len token e some number =
    let size = length_digits text in
    let same = number ∙ ap (λ n. digits_token (take n text)) e in
    rw (token_of_digits text (omega arith)) (cc)

no_digits : (text : List ℕ) → prefix_len is_ascii_digit text ≡ 0 → digits_written (digits_at text) ≡ None
no_digits text e = ap (λ n. digits_written (take n text)) e

pub cut_of_fixed : (text : List ℕ) (found : Option (ℕ × Token)) (len : ℕ) → len ≡ prefix_len is_ascii_digit text → len ≡ 0
    → found ≡ option_map with_length (find (λ (w : Written). starts_with nat_eq text w.0) fixed) → found ≡ option_map with_length (token_at text)
unfolding token_at
cut_of_fixed text found len e none cut = cut ∙ ap (λ o. option_map with_length (or_else o (find (λ (w : Written). starts_with nat_eq text w.0) fixed))) (sym (no_digits text (sym e ∙ none)))

pub cut_some : (text : List ℕ) (found : Option (ℕ × Token)) → found ≡ option_map with_length (token_at text) → IfSome found (λ cut. 0 < cut.0)
cut_some text None e = tt
cut_some text (Some (len, token)) e = (cut_fits text len token e).0

pub cut_within : (text : List ℕ) (found : Option (ℕ × Token)) → found ≡ option_map with_length (token_at text) → IfSome found (λ cut. cut.0 ≤ length text)
cut_within text None e = tt
cut_within text (Some (len, token)) e = (cut_fits text len token e).1

pub space_step : (front : List Token) (rest whole : List ℕ) → after_tokens front (tokens_of rest) ≡ tokens_of whole → 1 ≤ length rest → get_or rest 0 0 ≡ 32
    → after_tokens front (tokens_of (take (length rest - 1) (drop 1 rest))) ≡ tokens_of whole
space_step front [] whole e some space = absurd (omega arith)
space_step front (b ∷ rest) whole e some space = ap (λ xs. after_tokens front (tokens_of xs)) (take_rest (b ∷ rest) 1) ∙ (ap (after_tokens front) (sym (space_next b rest space)) ∙ e)

pub token_step : (front : List Token) (rest whole : List ℕ) (len : ℕ) (token : Token)
    → after_tokens front (tokens_of rest) ≡ tokens_of whole → 1 ≤ length rest → (get_or rest 0 0 ≡ 32 → ⊥) → Some (len, token) ≡ option_map with_length (token_at rest)
    → after_tokens (front ++ token ∷ []) (tokens_of (take (length rest - len) (drop len rest))) ≡ tokens_of whole
token_step front [] whole len token e some other cut = absurd (omega arith)
token_step front (b ∷ rest) whole len token e some other cut =
    let (w, parts) = written_of (token_at (b ∷ rest)) len token cut in
    ap (λ xs. after_tokens (front ++ token ∷ []) (tokens_of xs)) (take_rest (b ∷ rest) len)
    ∙ (sym (after_more front token (tokens_of (drop len (b ∷ rest))))
    ∙ (ap (after_tokens front) (sym (subst (λ t. tokens_of (b ∷ rest) ≡ after_tokens (t ∷ []) (tokens_of (drop len (b ∷ rest)))) parts.1.1
    (subst (λ n. tokens_of (b ∷ rest) ≡ after_tokens (w.1 ∷ []) (tokens_of (drop n (b ∷ rest)))) parts.1.0 (token_next b rest w other parts.0))))
    ∙ e))

pub none_step : (front : List Token) (rest whole : List ℕ) → after_tokens front (tokens_of rest) ≡ tokens_of whole → 1 ≤ length rest → (get_or rest 0 0 ≡ 32 → ⊥)
    → None ≡ option_map with_length (token_at rest) → ◌≡◌ {A = Option (List Token)} None (tokens_of whole)
none_step front [] whole e some other cut = absurd (omega arith)
none_step front (b ∷ rest) whole e some other cut = sym (ap (after_tokens front) (no_token b rest other (nothing_of (token_at (b ∷ rest)) cut))) ∙ e

pub end_step : (front : List Token) (rest whole : List ℕ) → after_tokens front (tokens_of rest) ≡ tokens_of whole → length rest ≡ 0 → Some front ≡ tokens_of whole
unfolding tokens_behind
end_step front [] whole e none = ap Some (sym (append-nil front)) ∙ e
end_step front (b ∷ rest) whole e none = absurd (omega arith)
