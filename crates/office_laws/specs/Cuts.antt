-- A text cut from left to right into directives, which are taken, and what is skipped. Directives are those of `printf` in ISO C and
-- POSIX; what is skipped is this project's own rule.
use Rattle.std.specs.Prelude.{◌≡◌, ℕ, List, [], ◌∷◌, ◌++◌, false, Some, None, codes}
use Rattle.po_text.specs.Texts.{Text}
use Rattle.checks.specs.Directives.{begins_with, after_directive}

pub data IsCut : Text → List Text → Type 0 where
  ended : IsCut [] []
  -- `%%` is skipped whole
  percents : (text rest : Text) (found : List Text) → text ≡ codes "%%" ++ rest → IsCut rest found → IsCut text found
  -- a directive stands in front of the rest
  taken : (text directive rest : Text) (found : List Text) → begins_with text (codes "%%") ≡ false → after_directive text ≡ Some rest
      → text ≡ directive ++ rest → IsCut rest found → IsCut text (directive ∷ found)
  -- nothing begins here
  skipped : (b : ℕ) (rest : Text) (found : List Text) → begins_with (b ∷ rest) (codes "%%") ≡ false → after_directive (b ∷ rest) ≡ None
      → IsCut rest found → IsCut (b ∷ rest) found
