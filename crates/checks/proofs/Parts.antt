-- A directive is made of bytes below 128, and stands whole at the front of its text.
use Rattle.std.proofs.Common.{◌≡◌, ℕ, suc, ◌-◌, ◌<◌, ◌≤◌, [], ◌∷◌, Bool, true, false, ◌||◌, cond, length, take, drop, refl, subst, arith, nat_lt, ◌==◌, Option, Some, None, codes, inl, inr, add_comm, add-one}
use Rattle.std.specs.List.{list_all, prefix_len}
use Rattle.std.specs.Option.{IfSome}
use Rattle.std.specs.Char.{is_ascii_digit}
use Rattle.std.specs.Str.{IsAscii}
use Rattle.std.proofs.lemmas.Str.Ascii.{IsAscii-nil, IsAscii-cons}
use Rattle.std.proofs.lemmas.Bool.{and_parts, or_cases, ltb-true, eqb-true, cases_Bool, cases_eq, eq-eqb, ne_eqb}
use Rattle.std.proofs.lemmas.Bool.Decides.{nat_tests}
use Rattle.po_text.specs.Texts.{Text}
use Rattle.units.specs.Limits.{starts}
use Rattle.checks.specs.Directives.{begins_with, is_one_of, after_all, has_number, after_number, is_flag, after_flags, after_width, after_precision, after_length, is_conversion, after_conversion, after_percent, after_directive}

-- what stands in front of the rest is made of bytes below 128
pub data Passes : Text → Text → Type 0 where
  here : {text : Text} → Passes text text
  past : {b : ℕ} {text rest : Text} → b < 128 → Passes text rest → Passes (b ∷ text) rest

pub joined : {a b c : Text} → Passes a b → Passes b c → Passes a c
joined here q = q
joined (past small p) q = past small (joined p q)

-- ---- parts

abbrev is_small : ℕ → Bool
is_small b = nat_lt b 128

one_of-small : (choices : Text) (b : ℕ) → list_all is_small choices ≡ true → is_one_of choices b ≡ true → b < 128
one_of-small [] b s e = cc
one_of-small (c ∷ choices) b s e =
    let small = and_parts (is_small c) (list_all is_small choices) s in
    elim (or_cases (c == b) (is_one_of choices b) e) [
      | inl now ↦ omega (arith, ltb-true c 128 small.0, eqb-true c b now)
      | inr later ↦ one_of-small choices b small.1 later
    ]

part-Passes : (part text : Text) → list_all is_small part ≡ true → begins_with text part ≡ true → Passes text (drop (length part) text)
part-Passes [] text s e = here
part-Passes (c ∷ part) [] s e = cc
part-Passes (c ∷ part) (b ∷ text) s e =
    let small = and_parts (is_small c) (list_all is_small part) s in
    let same = and_parts (c == b) (begins_with text part) e in
    past (omega (arith, ltb-true c 128 small.0, eqb-true c b same.0)) (part-Passes part text small.1 same.1)

pub all-Passes : (test : ℕ → Bool) → ((b : ℕ) → test b ≡ true → b < 128) → (text : Text) → Passes text (after_all test text)
all-Passes test small [] = here
all-Passes test small (b ∷ text) =
    elim (cases_Bool (test b)) [
      | inl e ↦ rw (e, add_comm 1 (prefix_len test text), add-one) (past (small b e) (all-Passes test small text))
      | inr e ↦ rw e here
    ]

digit-small : (b : ℕ) → is_ascii_digit b ≡ true → b < 128
digit-small b e = grind (arith, nat_tests)

digits-Passes : (text : Text) → Passes text (after_all is_ascii_digit text)
digits-Passes = all-Passes is_ascii_digit digit-small

if-Passes : (t : Bool) (text rest : Text) → (t ≡ true → Passes text rest) → Passes text (cond t rest text)
if-Passes true text rest p = p refl
if-Passes false text rest p = here

number-Passes : (text : Text) → Passes text (after_number text)
number-Passes text =
    let digits = after_all is_ascii_digit text in
    if-Passes (has_number text) text _ (λ _. joined (digits-Passes text) (if-Passes (begins_with digits (codes "$")) digits _ (part-Passes (codes "$") digits refl)))

flags-Passes : (text : Text) → Passes text (after_flags text)
flags-Passes = all-Passes is_flag (λ b. one_of-small (codes "-+ #0") b refl)

width-Passes : (text : Text) → Passes text (after_width text)
width-Passes text =
    elim (cases_Bool (begins_with text (codes "*"))) [
      | inl e ↦ rw e (part-Passes (codes "*") text refl e)
      | inr e ↦ rw e (digits-Passes text)
    ]

precision-Passes : (text : Text) → Passes text (after_precision text)
precision-Passes text = if-Passes (begins_with text (codes ".")) text _ (λ e. joined (part-Passes (codes ".") text refl e) (width-Passes (drop 1 text)))

one-Passes : (text choices : Text) → list_all is_small choices ≡ true → starts (is_one_of choices) text ≡ true → Passes text (drop 1 text)
one-Passes [] choices s e = cc
one-Passes (b ∷ text) choices s e = past (one_of-small choices b s e) here

length-Passes : (text : Text) → Passes text (after_length text)
length-Passes text =
    elim (cases_Bool (begins_with text (codes "hh") || begins_with text (codes "ll"))) [
      | inl e ↦ rw e (elim (or_cases (begins_with text (codes "hh")) (begins_with text (codes "ll")) e) [
        | inl h ↦ part-Passes (codes "hh") text refl h
        | inr l ↦ part-Passes (codes "ll") text refl l
      ])
      | inr e ↦ rw e (if-Passes (starts (is_one_of (codes "hlLjzt")) text) text _ (one-Passes text (codes "hlLjzt") refl))
    ]

conversion-Passes : (text : Text) → IfSome (after_conversion text) (Passes text)
conversion-Passes [] = tt
conversion-Passes (b ∷ text) =
    elim (cases_Bool (is_conversion b)) [
      | inl e ↦ rw e (past (one_of-small (codes "diouxXcspfFeEgGaA") b refl e) here)
      | inr e ↦ rw e tt
    ]

pub further : {a b : Text} → Passes a b → (o : Option Text) → IfSome o (Passes b) → IfSome o (Passes a)
further p None q = tt
further p (Some rest) q = joined p q

percent-Passes : (text : Text) → IfSome (after_percent text) (Passes text)
percent-Passes text =
    let numbered = after_number text in
    let flagged = after_flags numbered in
    let wide = after_width flagged in
    let precise = after_precision wide in
    let modified = after_length precise in
    let number = joined (number-Passes text) (flags-Passes numbered) in
    let width = joined number (width-Passes flagged) in
    let precision = joined width (precision-Passes wide) in
    further (joined precision (length-Passes precise)) (after_conversion modified) (conversion-Passes modified)

pub directive-Passes : (text : Text) → IfSome (after_directive text) (Passes text)
directive-Passes [] = tt
directive-Passes (b ∷ text) =
    elim (cases_eq b 37) [
      | inl e ↦ rw (eq-eqb b 37 e) (further (past (omega (arith, e)) here) _ (percent-Passes text))
      | inr e ↦ rw (ne_eqb b 37 e) tt
    ]

-- ---- what stands in front

pub length-Passes_le : {text rest : Text} → Passes text rest → length rest ≤ length text
length-Passes_le here = omega arith
length-Passes_le (past small p) = omega (arith, length-Passes_le p)

pub front-IsAscii : {text rest : Text} → Passes text rest → IsAscii (take (length text - length rest) text)
front-IsAscii {text} here =
    let none : 0 ≡ length text - length text = omega arith in
    subst (λ n. IsAscii (take n text)) none IsAscii-nil
front-IsAscii (past {b} {text} {rest} small p) =
    let within = length-Passes_le p in
    let more : suc (length text - length rest) ≡ suc (length text) - length rest = omega arith in
    subst (λ n. IsAscii (take n (b ∷ text))) more (IsAscii-cons b _ small (front-IsAscii p))

-- what stands after a directive is shorter than the text
shorter : (text : Text) → IfSome (after_directive text) (λ rest. length rest < length text)
shorter [] = tt
shorter (b ∷ text) =
    elim (cases_eq b 37) [
      | inl e ↦ rw (eq-eqb b 37 e) (shorter_past (after_percent text) (percent-Passes text))
      | inr e ↦ rw (ne_eqb b 37 e) tt
    ]
  where
    shorter_past : (o : Option Text) → IfSome o (Passes text) → IfSome o (λ rest. length rest < suc (length text))
    shorter_past None p = tt
    shorter_past (Some rest) p = omega (arith, length-Passes_le p)

pub after_directive_lt : (text rest : Text) → after_directive text ≡ Some rest → length rest < length text
after_directive_lt text rest e = rw e at (shorter text)
