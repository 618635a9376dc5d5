-- A text of bytes as lines. This project's own rule: a line ends at each U+000A (LF) and nowhere else; what stands behind the last
-- line end is a line too, if it isn't empty.
use Rattle.std.specs.Prelude.{◌≡◌, ◌≢◌, ℕ, List, [], ◌∷◌, ◌++◌, flat_map}
use Rattle.std.specs.List.{AllByRecursion}

abbrev pub HasNoEnd : List ℕ → Type 0
HasNoEnd line = AllByRecursion (λ b. b ≢ 10) line

abbrev pub with_end : List ℕ → List ℕ
with_end line = line ++ 10 ∷ []

-- the text is these lines, each with its line end, and a rest that has none
pub record IsCut (text : List ℕ) (lines : List (List ℕ)) (rest : List ℕ) : Type 0 where
  pub whole : text ≡ flat_map with_end lines ++ rest
  pub each : AllByRecursion HasNoEnd lines
  pub last : HasNoEnd rest

abbrev pub with_rest : List (List ℕ) → List ℕ → List (List ℕ)
with_rest lines [] = lines
with_rest lines (b ∷ rest) = lines ++ (b ∷ rest) ∷ []

pub record AreLinesOf (text : List ℕ) (lines : List (List ℕ)) : Type 0 where
  pub ended : List (List ℕ)
  pub rest : List ℕ
  pub cut : IsCut text ended rest
  pub all : lines ≡ with_rest ended rest
