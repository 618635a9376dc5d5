-- Scanning a text of either format.
use Rattle.std.proofs.Common.{◌≡◌, ℕ, ◌<◌, ◌≤◌, [], ◌∷◌, true, false, length, take, drop, Some, None, ◌==◌}
use Rattle.po_text.specs.Texts.{Text}
use Rattle.checks.specs.declared.format.Format.{Format}
use Rattle.checks.specs.declared.format.Format.TheVariants.{C, Brace}
use Rattle.checks.specs.Formats.{begins_with_pair, placeholder_len, placeholders_of}
use Rattle.checks.proofs.Scanning.{at_both, at_directive, at_other, at_end, at_doubled, at_brace, beside_braces, behind_braces}

pub pair_at : (format : Format) (text : Text) → begins_with_pair format text ≡ true → placeholders_of format text ≡ placeholders_of format (drop 2 text)
pair_at C = at_both
pair_at Brace = at_doubled

pub placeholder_at : (format : Format) (text : Text) (n : ℕ) → begins_with_pair format text ≡ false → placeholder_len format text ≡ Some n → 0 < n → n ≤ length text → placeholders_of format text ≡ take n text ∷ placeholders_of format (drop n text)
placeholder_at C = at_directive
placeholder_at Brace = at_brace

pub other_at : (format : Format) (text : Text) → 0 < length text → begins_with_pair format text ≡ false → placeholder_len format text ≡ None → placeholders_of format text ≡ placeholders_of format (drop 1 text)
other_at C = at_other
other_at Brace = beside_braces

pub none_at_end : (format : Format) (text : Text) → (length text == 0) ≡ true → placeholders_of format text ≡ []
none_at_end C = at_end
none_at_end Brace = behind_braces
