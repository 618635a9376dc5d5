-- A writer, by what it took, where that is known, and how often it failed. This project's own words.
use Rattle.std.specs.Prelude.{ℕ, List, Option}
use Rattle.byte_streams.specs.Sending.{TookAll, TookPart}

pub record Writer : Type 0 where
  pub taken : Option (List ℕ)
  pub failed : ℕ

abbrev pub writer_at : {W : Type 0} → (W → Option (List ℕ)) → (W → ℕ) → W → Writer
writer_at taken failed w = record { taken = taken w; failed = failed w }

abbrev pub TakesAll : Writer → Writer → List ℕ → Type 0
TakesAll old new text = TookAll old.taken new.taken old.failed new.failed text

-- a beginning, after which a write failed
abbrev pub TakesPart : Writer → Writer → List ℕ → Type 0
TakesPart old new text = TookPart old.taken new.taken old.failed new.failed text
