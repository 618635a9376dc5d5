use Rattle.std.proofs.Common.{◌≡◌, ℕ, zero, suc, ◌+◌, ◌≤◌, nat_le, nat_eq, Bool, true, false, cond, not, ◌&&◌, ◌||◌, List, [], ◌∷◌, length, take, find, Some, refl, sym, ap, subst, ◌∙◌, arith, inl, inr, leb-false}
use Rattle.std.specs.Char.{is_ascii_digit}
use Rattle.std.specs.Cmp.Lexicographic.{pointwise, same_text, nat_list_eq_equiv}
use Rattle.std.specs.List.{AllByRecursion, list_all, prefix_len, starts_with}
use Rattle.std.proofs.lemmas.Bool.{and_parts, or_cases, leb-true, eqb-true}
use Rattle.plural_expr.specs.Tokens.{Written, fixed, digits_at, digits_written, or_else, token_at}
use Rattle.office_laws.specs.Tokens.{IsLongest}
use Rattle.office_laws.proofs.tokens.tokens_are_longest.Goals as goal

-- ---- texts at the front of a text

abbrev stands : List ℕ → List ℕ → Bool
stands text part = starts_with nat_eq text part

take_less : (m n : ℕ) (xs : List ℕ) → m ≤ n → take m (take n xs) ≡ take m xs
take_less zero n xs le = refl
take_less (suc m) zero xs le = absurd (omega arith)
take_less (suc m) (suc n) [] le = refl
take_less (suc m) (suc n) (x ∷ xs) le = ap (λ l. x ∷ l) (take_less m n xs (omega arith))

-- of two texts that stand there the shorter begins the longer
begins_longer : (text short long : List ℕ) → stands text short ≡ true → stands text long ≡ true → length short ≤ length long → stands long short ≡ true
begins_longer text short long one two le =
    let is_short : short ≡ take (length short) text = same_text short (take (length short) text) (sym one) in
    let is_long : long ≡ take (length long) text = same_text long (take (length long) text) (sym two) in
    let same : take (length short) long ≡ short = ap (take (length short)) is_long ∙ take_less (length short) (length long) text le ∙ sym is_short in
    subst (λ t. pointwise nat_eq short t ≡ true) (sym same) (nat_list_eq_equiv.refl short)

-- ---- the table: no spelling begins a longer one behind it

abbrev is_clear_of : Written → Written → Bool
is_clear_of first later = nat_le (length later.0) (length first.0) || not (stands later.0 first.0)

is_clear : List Written → Bool
is_clear [] = true
is_clear (w ∷ ws) = list_all (is_clear_of w) ws && is_clear ws

table_clear : is_clear fixed ≡ true
unfolding is_clear
table_clear = refl

denied : (b : Bool) → b ≡ true → not b ≡ true → ⊥
denied true e f = cc
denied false e f = cc

module _ (text : List ℕ) where
  no_longer : (first later : Written) → is_clear_of first later ≡ true → stands text first.0 ≡ true → stands text later.0 ≡ true → length later.0 ≤ length first.0
  no_longer first later clear one two = elim (or_cases (nat_le (length later.0) (length first.0)) (not (stands later.0 first.0)) clear) [
    | inl le ↦ leb-true (length later.0) (length first.0) le
    | inr apart ↦ by (nat_le (length later.0) (length first.0)) refl apart
  ]
    where
      by : (b : Bool) → nat_le (length later.0) (length first.0) ≡ b → not (stands later.0 first.0) ≡ true → length later.0 ≤ length first.0
      by true le apart = leb-true (length later.0) (length first.0) le
      by false less apart = absurd (denied (stands later.0 first.0) (begins_longer text first.0 later.0 one two (omega (arith, leb-false (length later.0) (length first.0) less))) apart)

  all_no_longer : (first : Written) (ws : List Written) → stands text first.0 ≡ true → list_all (is_clear_of first) ws ≡ true
      → AllByRecursion (λ other. stands text other.0 ≡ true → length other.0 ≤ length first.0) ws
  all_no_longer first [] one clear = tt
  all_no_longer first (w ∷ ws) one clear =
      let parts = and_parts (is_clear_of first w) (list_all (is_clear_of first) ws) clear in
      (λ two. no_longer first w parts.0 one two, all_no_longer first ws one parts.1)

  longest : (ws : List Written) → is_clear ws ≡ true → (written : Written) → find (λ w. stands text w.0) ws ≡ Some written
      → AllByRecursion (λ other. stands text other.0 ≡ true → length other.0 ≤ length written.0) ws
  unfolding is_clear
  longest [] clear written found = cc
  longest (w ∷ ws) clear written found =
      by (longest ws (and_parts (list_all (is_clear_of w) ws) (is_clear ws) clear).1 written) (stands text w.0) refl found
    where
      by : (find (λ v. stands text v.0) ws ≡ Some written → AllByRecursion (λ other. stands text other.0 ≡ true → length other.0 ≤ length written.0) ws)
          → (b : Bool) → stands text w.0 ≡ b → cond b (Some w) (find (λ v. stands text v.0) ws) ≡ Some written
          → AllByRecursion (λ other. stands text other.0 ≡ true → length other.0 ≤ length written.0) (w ∷ ws)
      by rest true one is =
          let same : w ≡ written = cc in
          subst (λ (x : Written). AllByRecursion (λ other. stands text other.0 ≡ true → length other.0 ≤ length x.0) (w ∷ ws)) same
          (λ _. omega arith, all_no_longer w ws one (and_parts (list_all (is_clear_of w) ws) (is_clear ws) clear).0)
      by rest false other is = (λ two. absurd (let wrong : true ≡ false = sym two ∙ other in cc), rest is)

-- ---- digits

within_prefix : (p : ℕ → Bool) (text : List ℕ) (n : ℕ) → n ≤ length text → list_all p (take n text) ≡ true → n ≤ prefix_len p text
within_prefix p text zero le all = omega arith
within_prefix p [] (suc n) le all = absurd (omega arith)
within_prefix p (b ∷ text) (suc n) le all =
    let parts = and_parts (p b) (list_all p (take n text)) all in
    let rest = within_prefix p text n (omega arith) parts.1 in
    subst (λ t. suc n ≤ cond t (1 + prefix_len p text) 0) (sym parts.0) (omega (arith, rest))

length-digits : (p : ℕ → Bool) (text : List ℕ) → length (take (prefix_len p text) text) ≡ prefix_len p text
length-digits p [] = refl
length-digits p (b ∷ text) = by (p b) (length-digits p text)
  where
    by : (t : Bool) → length (take (prefix_len p text) text) ≡ prefix_len p text → length (take (cond t (1 + prefix_len p text) 0) (b ∷ text)) ≡ cond t (1 + prefix_len p text) 0
    by true e =
        let one : suc (prefix_len p text) ≡ 1 + prefix_len p text = omega arith in
        subst (λ n. length (take n (b ∷ text)) ≡ n) one (ap suc e)
    by false e = refl

-- no spelling of the table begins with a digit
begins_otherwise : List ℕ → Bool
begins_otherwise [] = false
begins_otherwise (b ∷ s) = not (is_ascii_digit b)

all_otherwise : list_all (λ (w : Written). begins_otherwise w.0) fixed ≡ true
unfolding begins_otherwise
all_otherwise = refl

not_true : (b : Bool) → not b ≡ true → b ≡ false
not_true true e = cc
not_true false e = refl

no_digits : (text s : List ℕ) → begins_otherwise s ≡ true → stands text s ≡ true → digits_at text ≡ []
unfolding begins_otherwise
no_digits text [] other here = cc
no_digits [] (b ∷ s) other here = cc
no_digits (a ∷ text) (b ∷ s) other here =
    let same : b ≡ a = eqb-true b a (and_parts (nat_eq b a) (pointwise nat_eq s (take (length s) text)) here).0 in
    let none : is_ascii_digit a ≡ false = ap is_ascii_digit (sym same) ∙ not_true (is_ascii_digit b) other in
    ap (λ t. take (cond t (1 + prefix_len is_ascii_digit text) 0) (a ∷ text)) none

module _ (text : List ℕ) (d : ℕ) (ds : List ℕ) (some : digits_at text ≡ d ∷ ds) (len : ℕ) where
  none_stands : (ws : List Written) → list_all (λ (w : Written). begins_otherwise w.0) ws ≡ true
      → AllByRecursion (λ other. stands text other.0 ≡ true → length other.0 ≤ len) ws
  none_stands [] all = tt
  none_stands (w ∷ ws) all =
      let parts = and_parts (begins_otherwise w.0) (list_all (λ (w : Written). begins_otherwise w.0) ws) all in
      (λ here. absurd (let wrong : d ∷ ds ≡ [] = sym some ∙ no_digits text w.0 parts.0 here in cc), none_stands ws parts.1)

is_longest : (text : List ℕ) (written : Written) → (run : List ℕ) → digits_at text ≡ run
    → or_else (digits_written run) (find (λ w. stands text w.0) fixed) ≡ Some written → IsLongest text written
is_longest text written [] none is = record {
  spelled = longest text fixed table_clear written is;
  digits = λ n le all.
      let within = within_prefix is_ascii_digit text n le all in
      let empty : prefix_len is_ascii_digit text ≡ 0 = sym (length-digits is_ascii_digit text) ∙ ap length none in
      omega (arith, within, empty);
}
is_longest text written (d ∷ ds) some is =
    let own : written.0 ≡ d ∷ ds = cc in
    record {
      spelled = none_stands text d ds some (length written.0) fixed all_otherwise;
      digits = λ n le all.
          let within = within_prefix is_ascii_digit text n le all in
          let long : prefix_len is_ascii_digit text ≡ length written.0 = sym (length-digits is_ascii_digit text) ∙ ap length some ∙ ap length (sym own) in
          omega (arith, within, long);
    }

pub returns : goal.returns
unfolding token_at
returns c = λ text written is. is_longest text written (digits_at text) refl is
