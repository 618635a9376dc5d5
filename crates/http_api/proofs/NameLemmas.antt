-- What is no text names no caller.
use Rattle.std.proofs.Common.{◌≡◌, ◌<◌, ℕ, Bool, true, false, List, [], ◌∷◌, All, None, Some, refl, arith}
use Rattle.std.specs.Prelude.{IsUtf8, if◌then◌else◌}
use Rattle.std.specs.List.{list_all}
use Rattle.std.proofs.lemmas.Bool.Decides.{nat_tests}
use Rattle.std.proofs.lemmas.Str.{IsUtf8-from_ascii}
use Rattle.std.proofs.lemmas.Str.Ascii.{IsAscii-from_all}
use Rattle.std.proofs.lemmas.List.Elements.{All-cons, All-nil}
use Rattle.http_messages.proofs.LineLemmas.{and_true}
use Rattle.units.specs.Limits.{is_name_byte, is_name}

name_byte : (b : ℕ) → is_name_byte b ≡ true → b < 128
name_byte b h = grind (arith, nat_tests)

name_bytes : (bytes : List ℕ) → list_all is_name_byte bytes ≡ true → All (λ b. b < 128) bytes
name_bytes [] h = All-nil (λ b. b < 128)
name_bytes (b ∷ bytes) h = let both = and_true (is_name_byte b) (list_all is_name_byte bytes) h in All-cons (λ b. b < 128) b bytes (name_byte b both.0) (name_bytes bytes both.1)

pub name_text : (bytes : List ℕ) → is_name bytes ≡ true → IsUtf8 bytes
name_text bytes h = IsUtf8-from_ascii bytes (IsAscii-from_all bytes (name_bytes bytes (and_true _ _ h).1))

none_of : (t : Bool) (bytes : List ℕ) → is_name bytes ≡ t → ¬ IsUtf8 bytes → None ≡ (if is_name bytes then Some bytes else None)
none_of true bytes is foreign = absurd (foreign (name_text bytes is))
none_of false bytes is foreign = rw is refl

pub no_name : (bytes : List ℕ) → ¬ IsUtf8 bytes → None ≡ (if is_name bytes then Some bytes else None)
no_name bytes foreign = none_of (is_name bytes) bytes refl foreign
