-- A placeholder of either format is made of bytes below 128, and stands whole at the front of its text.
use Rattle.std.proofs.Common.{◌≡◌, ℕ, ◌-◌, ◌<◌, [], ◌∷◌, Bool, true, false, cond, ◌||◌, length, take, drop, arith, Option, Some, None, inl, inr}
use Rattle.std.specs.List.{prefix_len}
use Rattle.std.specs.Option.{IfSome}
use Rattle.std.specs.Str.{IsAscii}
use Rattle.std.proofs.lemmas.Bool.{cases_eq, eq-eqb, ne_eqb}
use Rattle.std.proofs.lemmas.Bool.Decides.{nat_tests}
use Rattle.po_text.specs.Texts.{Text}
use Rattle.checks.specs.declared.format.Format.{Format}
use Rattle.checks.specs.declared.format.Format.TheVariants.{C, Brace}
use Rattle.checks.specs.BracePlaceholders.{is_name_byte, is_name, is_number, after_close, after_open, after_brace}
use Rattle.checks.specs.Formats.{after_placeholder}
use Rattle.checks.proofs.Parts.{Passes, here, past, all-Passes, further, length-Passes_le, front-IsAscii, directive-Passes, after_directive_lt}

name_byte-small : (b : ℕ) → is_name_byte b ≡ true → b < 128
name_byte-small b e = grind (arith, nat_tests)

close-Passes : (text : Text) → IfSome (after_close text) (Passes text)
close-Passes [] = tt
close-Passes (b ∷ text) =
    elim (cases_eq b 125) [
      | inl e ↦ rw (eq-eqb b 125 e) (past {b = b} (omega (arith, e)) here)
      | inr e ↦ rw (ne_eqb b 125 e) tt
    ]

if-Some : (t : Bool) (o : Option Text) (text : Text) → IfSome o (Passes text) → IfSome (cond t o None) (Passes text)
if-Some true o text p = p
if-Some false o text p = tt

open-Passes : (text : Text) → IfSome (after_open text) (Passes text)
open-Passes text =
    let n = prefix_len is_name_byte text in
    if-Some (is_name (take n text) || is_number (take n text)) (after_close (drop n text)) text (further (all-Passes is_name_byte name_byte-small text) (after_close (drop n text)) (close-Passes (drop n text)))

-- what stands after a placeholder is shorter than the text
brace_past : (b : ℕ) (text rest : Text) → after_brace (b ∷ text) ≡ Some rest → (b < 128) × Passes text rest
brace_past b text rest e =
    elim (cases_eq b 123) [
      | inl is ↦ (omega (arith, is), opened (rw (eq-eqb b 123 is) at e))
      | inr is ↦ let none = rw (ne_eqb b 123 is) at e in absurd cc
    ]
  where
    opened : after_open text ≡ Some rest → Passes text rest
    opened o = rw o at (open-Passes text)

brace-Passes : (text rest : Text) → after_brace text ≡ Some rest → Passes text rest
brace-Passes [] rest e = cc
brace-Passes (b ∷ text) rest e = let parts = brace_past b text rest e in past parts.0 parts.1

after_brace_lt : (text rest : Text) → after_brace text ≡ Some rest → length rest < length text
after_brace_lt [] rest e = cc
after_brace_lt (b ∷ text) rest e = let parts = brace_past b text rest e in omega (arith, length-Passes_le parts.1)

pub after_placeholder_lt : (format : Format) (text rest : Text) → after_placeholder format text ≡ Some rest → length rest < length text
after_placeholder_lt C = after_directive_lt
after_placeholder_lt Brace = after_brace_lt

placeholder-Passes : (format : Format) (text rest : Text) → after_placeholder format text ≡ Some rest → Passes text rest
placeholder-Passes C text rest e = rw e at (directive-Passes text)
placeholder-Passes Brace text rest e = brace-Passes text rest e

-- the bytes of a placeholder are below 128
pub placeholder-IsAscii : (format : Format) (text rest : Text) → after_placeholder format text ≡ Some rest → IsAscii (take (length text - length rest) text)
placeholder-IsAscii format text rest e = front-IsAscii (placeholder-Passes format text rest e)
