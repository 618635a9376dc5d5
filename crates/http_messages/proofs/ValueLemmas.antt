-- The values of a name, line by line.
use Rattle.std.proofs.Common.{◌≡◌, ◌<◌, ◌≤◌, ℕ, ◌+◌, ◌-◌, ◌*◌, Bool, true, false, List, [], ◌∷◌, ◌++◌, length, map, take, get_or, refl, sym, ap, ◌∙◌, arith}
use Rattle.std.specs.Prelude.{◌&&◌, ◌||◌, nat_le, filter, if◌then◌else◌}
use Rattle.std.specs.List.{list_any, list_all}
use Rattle.std.specs.Char.{is_ascii_digit, digit_value}
use Rattle.std.specs.Str.Parse.{digits_value}
use Rattle.std.specs.Str.{str_eq_ignore_ascii_case, all_ascii_digits}
use Rattle.std.proofs.lemmas.List.{take_more, map-append, length-take-le, take_all}
use Rattle.std.proofs.lemmas.List.Folds.{list_any_at}
use Rattle.std.proofs.lemmas.Int.Digits.{digits_value_push}
use Rattle.std.proofs.lemmas.Str.{digit_value_digit}
use Rattle.std.proofs.lemmas.Bool.{leb-true}
use Rattle.http_messages.proofs.LineLemmas.{and_true}
use Rattle.std.proofs.lemmas.Str.Parse.{IsNumeralModel, numerals_by_value, tells_all_ascii_digits, digits_value_short}
use Rattle.std.proofs.lemmas.List.Elements.{filter-append}
use Rattle.httparse.specs.declared.spans.HeaderSpan.{HeaderSpan}
use Rattle.httparse.specs.Spans.{header_bytes}
use Rattle.http_messages.specs.Heads.{FieldLine}
use Rattle.http_messages.specs.Framing.{has_name, values_of}

-- whether a line has this name and this value, in any case of letters
abbrev pub is_line : List ℕ → List ℕ → List ℕ → HeaderSpan → Bool
is_line bytes name value line =
    has_name name (header_bytes bytes line) && str_eq_ignore_ascii_case (header_bytes bytes line).1 value

any_here : (t : Bool) (q : List ℕ → Bool) (v : List ℕ) (vs : List FieldLine) (more : Bool) → list_any q (map (λ (field : FieldLine). field.1) vs) ≡ more
    → (n : List ℕ) → list_any q (map (λ (field : FieldLine). field.1) (if t then (n, v) ∷ vs else vs)) ≡ ((t && q v) || more)
any_here true q v vs more e n = ap (λ m. q v || m) e
any_here false q v vs more e n = e

module _ {X : Type 0} where
  pub values_more : (name : List ℕ) (f : X → FieldLine) (xs : List X) (i : ℕ) (d : X) → i < length xs
      → values_of name (map f (take (i + 1) xs)) ≡ values_of name (map f (take i xs)) ++ values_of name (f (get_or xs i d) ∷ [])
  values_more name f xs i d within =
      rw (take_more xs i d within, map-append f (take i xs) (get_or xs i d ∷ []), filter-append (has_name name) (map f (take i xs)) (f (get_or xs i d) ∷ []))
      (map-append (λ (field : FieldLine). field.1) (filter (has_name name) (map f (take i xs))) (filter (has_name name) (f (get_or xs i d) ∷ [])))

  pub any_value : (q : List ℕ → Bool) (name : List ℕ) (f : X → FieldLine) (xs : List X)
      → list_any q (values_of name (map f xs)) ≡ list_any (λ x. has_name name (f x) && q (f x).1) xs
  any_value q name f [] = refl
  any_value q name f (x ∷ xs) = any_here (has_name name (f x)) q (f x).1 (filter (has_name name) (map f xs)) _ (any_value q name f xs) (f x).0

abbrev pub no_span : HeaderSpan
no_span = record { name = record { start = 0; end = 0 }; value = record { start = 0; end = 0 } }

module _ (bytes name value : List ℕ) (lines : List HeaderSpan) where
  abbrev pub HasValue : Bool → Type 0
  HasValue b = b ≡ list_any (λ (v : List ℕ). str_eq_ignore_ascii_case v value) (values_of name (map (header_bytes bytes) lines))

  pub found_here : (i : ℕ) → i < length lines → is_line bytes name value (get_or lines i no_span) ≡ true → HasValue true
  found_here i within here =
      sym (any_value (λ (v : List ℕ). str_eq_ignore_ascii_case v value) name (header_bytes bytes) lines ∙ list_any_at (is_line bytes name value) lines i no_span within here)

  pub found_nowhere : (i : ℕ) → length lines ≤ i → list_any (is_line bytes name value) (take i lines) ≡ false → HasValue false
  found_nowhere i past none =
      sym (any_value (λ (v : List ℕ). str_eq_ignore_ascii_case v value) name (header_bytes bytes) lines ∙ ap (list_any (is_line bytes name value)) (sym (take_all i lines past)) ∙ none)

-- ---- numbers

same_digits : (ds : List ℕ) → list_all is_ascii_digit ds ≡ all_ascii_digits ds
same_digits [] = refl
same_digits (c ∷ cs) = ap (λ t. is_ascii_digit c && t) (same_digits cs)

model : IsNumeralModel (λ (ds : List ℕ). all_ascii_digits ds ≡ true) (digits_value 10)
model = numerals_by_value (λ (ds : List ℕ). all_ascii_digits ds ≡ true) tells_all_ascii_digits

pub digits_below : (ds : List ℕ) (i : ℕ) → list_all is_ascii_digit (take i ds) ≡ true → i < length ds → length ds ≤ 9 → digits_value 10 (take i ds) < 100000000
digits_below ds i digits within few =
    digits_value_short model (take i ds) 8 (sym (same_digits (take i ds)) ∙ digits) (omega (arith, length-take-le i ds))

pub digits_more : (ds : List ℕ) (i : ℕ) → i < length ds → digits_value 10 (take (i + 1) ds) ≡ digits_value 10 (take i ds) * 10 + digit_value (get_or ds i 0)
digits_more ds i within = ap (digits_value 10) (take_more ds i 0 within) ∙ digits_value_push 10 (take i ds) (get_or ds i 0)

pub digit_is : (c : ℕ) → is_ascii_digit c ≡ true → (c - 48 ≡ digit_value c) × (digit_value c < 10)
digit_is c h =
    let both = and_true (nat_le 48 c) (nat_le c 57) h in
    let low : 48 ≤ c = leb-true 48 c both.0 in
    let high : c ≤ 57 = leb-true c 57 both.1 in
    let same : digit_value c + 48 ≡ c = digit_value_digit c (low, high) in
    (omega arith, omega arith)
