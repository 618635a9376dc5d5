-- Scanning a text from the front.
use Rattle.std.proofs.Common.{◌≡◌, ℕ, zero, suc, ◌-◌, ◌<◌, ◌≤◌, List, [], ◌∷◌, ◌++◌, Bool, true, false, if◌then◌else◌, length, take, drop, refl, arith, Option, Some, None, option_map, option_to_list, unwrap_or, codes, take_all, ◌==◌}
use Rattle.std.proofs.lemmas.List.{length-drop}
use Rattle.std.proofs.lemmas.Bool.{eqb-true}
use Rattle.po_text.specs.Texts.{Text}
use Rattle.checks.specs.Directives.{begins_with, directive_len, directives, directives_after}
use Rattle.checks.specs.BracePlaceholders.{begins_doubled, brace_len, brace_placeholders, braces_after}

-- ---- any scan, which skips a pair whole, takes a placeholder, and skips any other byte

abbrev taken : (Text → Bool) → (Text → Option ℕ) → Text → ℕ
taken pair len text = if pair text then 2 else unwrap_or (len text) 1

abbrev found : (Text → Bool) → (Text → Option ℕ) → Text → Option Text
found pair len text = if pair text then None else option_map (λ n. take n text) (len text)

-- the placeholders of what stands after so many bytes
record Scans (pair : Text → Bool) (len : Text → Option ℕ) (after : ℕ → Text → List Text) : Type 0 where
  ended : (k : ℕ) → after k [] ≡ []
  skips : (k b : ℕ) (text : Text) → after (suc k) (b ∷ text) ≡ after k text
  finds : (b : ℕ) (text : Text) → after 0 (b ∷ text) ≡ option_to_list (found pair len (b ∷ text)) ++ after (taken pair len (b ∷ text) - 1) text

skipped : (pair : Text → Bool) (len : Text → Option ℕ) (after : ℕ → Text → List Text) → Scans pair len after → (k : ℕ) (text : Text) → after k text ≡ after 0 (drop k text)
skipped pair len after s zero text = refl
skipped pair len after s (suc k) [] = cc (s.ended (suc k), s.ended 0)
skipped pair len after s (suc k) (b ∷ text) = cc (s.skips k b text, skipped pair len after s k text)

-- one step, where so many bytes are taken and so many placeholders found
step : (pair : Text → Bool) (len : Text → Option ℕ) (after : ℕ → Text → List Text) → Scans pair len after →
    (b : ℕ) (text : Text) (n : ℕ) (some : Option Text) → taken pair len (b ∷ text) ≡ suc n → found pair len (b ∷ text) ≡ some →
    after 0 (b ∷ text) ≡ option_to_list some ++ after 0 (drop n text)
step pair len after s b text n some t f =
    let less : suc n - 1 ≡ n = omega arith in
    let first : after 0 (b ∷ text) ≡ option_to_list some ++ after (suc n - 1) text = rw (t, f) at (s.finds b text) in
    cc (less, first, skipped pair len after s n text)

pair_skipped : (pair : Text → Bool) (len : Text → Option ℕ) (after : ℕ → Text → List Text) → Scans pair len after →
    (text : Text) → pair text ≡ true → after 0 text ≡ after 0 (drop 2 text)
pair_skipped pair len after s [] e = refl
pair_skipped pair len after s (b ∷ text) e = step pair len after s b text 1 None (rw e refl) (rw e refl)

placeholder_taken : (pair : Text → Bool) (len : Text → Option ℕ) (after : ℕ → Text → List Text) → Scans pair len after →
    (text : Text) (n : ℕ) → pair text ≡ false → len text ≡ Some n → 0 < n → n ≤ length text → after 0 text ≡ take n text ∷ after 0 (drop n text)
placeholder_taken pair len after s [] n e d some within = absurd (omega arith)
placeholder_taken pair len after s (b ∷ text) zero e d some within = absurd (omega arith)
placeholder_taken pair len after s (b ∷ text) (suc n) e d some within = step pair len after s b text n (Some (take (suc n) (b ∷ text))) (rw (e, d) refl) (rw (e, d) refl)

other_skipped : (pair : Text → Bool) (len : Text → Option ℕ) (after : ℕ → Text → List Text) → Scans pair len after →
    (text : Text) → 0 < length text → pair text ≡ false → len text ≡ None → after 0 text ≡ after 0 (drop 1 text)
other_skipped pair len after s [] some e d = absurd (omega arith)
other_skipped pair len after s (b ∷ text) some e d = step pair len after s b text 0 None (rw (e, d) refl) (rw (e, d) refl)

none_found : (pair : Text → Bool) (len : Text → Option ℕ) (after : ℕ → Text → List Text) → Scans pair len after →
    (text : Text) → (length text == 0) ≡ true → after 0 text ≡ []
none_found pair len after s [] e = s.ended 0
none_found pair len after s (b ∷ text) e = absurd (omega (arith, eqb-true (length (b ∷ text)) 0 e))

-- ---- directives

abbrev both_percents : Text → Bool
both_percents text = begins_with text (codes "%%")

scans_directives : Scans both_percents directive_len directives_after
unfolding directives_after
scans_directives = record {
  ended = λ k. elim k [
    | zero ↦ refl
    | suc k ↦ refl
  ];
  skips = λ k b text. refl;
  finds = λ b text. refl;
}

pub at_both : (text : Text) → begins_with text (codes "%%") ≡ true → directives text ≡ directives (drop 2 text)
at_both = pair_skipped both_percents directive_len directives_after scans_directives

pub at_directive : (text : Text) (n : ℕ) → begins_with text (codes "%%") ≡ false → directive_len text ≡ Some n → 0 < n → n ≤ length text → directives text ≡ take n text ∷ directives (drop n text)
at_directive = placeholder_taken both_percents directive_len directives_after scans_directives

pub at_other : (text : Text) → 0 < length text → begins_with text (codes "%%") ≡ false → directive_len text ≡ None → directives text ≡ directives (drop 1 text)
at_other = other_skipped both_percents directive_len directives_after scans_directives

-- an empty text has none
pub at_end : (text : Text) → (length text == 0) ≡ true → directives text ≡ []
at_end = none_found both_percents directive_len directives_after scans_directives

-- ---- brace placeholders

scans_braces : Scans begins_doubled brace_len braces_after
unfolding braces_after
scans_braces = record {
  ended = λ k. elim k [
    | zero ↦ refl
    | suc k ↦ refl
  ];
  skips = λ k b text. refl;
  finds = λ b text. refl;
}

pub at_doubled : (text : Text) → begins_doubled text ≡ true → brace_placeholders text ≡ brace_placeholders (drop 2 text)
at_doubled = pair_skipped begins_doubled brace_len braces_after scans_braces

pub at_brace : (text : Text) (n : ℕ) → begins_doubled text ≡ false → brace_len text ≡ Some n → 0 < n → n ≤ length text → brace_placeholders text ≡ take n text ∷ brace_placeholders (drop n text)
at_brace = placeholder_taken begins_doubled brace_len braces_after scans_braces

pub beside_braces : (text : Text) → 0 < length text → begins_doubled text ≡ false → brace_len text ≡ None → brace_placeholders text ≡ brace_placeholders (drop 1 text)
beside_braces = other_skipped begins_doubled brace_len braces_after scans_braces

pub behind_braces : (text : Text) → (length text == 0) ≡ true → brace_placeholders text ≡ []
behind_braces = none_found begins_doubled brace_len braces_after scans_braces

-- ---- slices

-- a slice up to the end
pub to_end : (text : Text) (k : ℕ) → take (length text - k) (drop k text) ≡ drop k text
to_end text k = take_all (length text - k) (drop k text) (omega (arith, length-drop k text))
