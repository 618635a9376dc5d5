-- What sinks take and sources give: this project's own, in std's words for bytes that are known (`Some`) or not (`None`,
-- as for a socket or a terminal, of which nothing is claimed).
use Rattle.std.specs.Prelude.{◌≡◌, ◌<◌, ◌-◌, ◌^◌, ◌⊎◌, ℕ, ◌+◌, List, ◌++◌, min, Option}
pub use Rattle.std.specs.Io.KnownBytes.{append_known, prepend_known, IsAtEnd}

-- a count that stops at the greatest u64
abbrev pub one_more : ℕ → ℕ
one_more n = min (n + 1) (2 ^ 64 - 1)

-- the count rose, or stands at its end
abbrev pub RoseOrStands : ℕ → ℕ → Type 0
RoseOrStands old new = (old < new) ⊎ (new ≡ 2 ^ 64 - 1)

-- the whole text came behind what was taken before
abbrev pub Took : Option (List ℕ) → Option (List ℕ) → List ℕ → Type 0
Took old new text = new ≡ append_known old text

-- a beginning of the text came behind what was taken before
pub record TookBeginning (old new : Option (List ℕ)) (text : List ℕ) : Type 0 where
  pub front : List ℕ
  pub rest : List ℕ
  pub whole : text ≡ front ++ rest
  pub taken : new ≡ append_known old front
