-- What a sink took of a text that was sent to it: all of it, or after a failed write a beginning. This project's own rule.
use Rattle.std.specs.Prelude.{◌≡◌, ℕ, List, ◌++◌, Option, Result, MatchResult}
use Rattle.byte_streams.specs.Streams.{Took, TookBeginning, RoseOrStands}

-- All of the text came behind what was taken before, and no write failed.
pub record TookAll (old new : Option (List ℕ)) (failed_old failed_new : ℕ) (text : List ℕ) : Type 0 where
  pub taken : Took old new text
  pub count : failed_new ≡ failed_old

-- A write failed, and a beginning of the text came.
pub record TookPart (old new : Option (List ℕ)) (failed_old failed_new : ℕ) (text : List ℕ) : Type 0 where
  pub beginning : TookBeginning old new text
  pub count : RoseOrStands failed_old failed_new

-- the outcome of sending a text to a sink, which is told by what it took and by how often it failed
abbrev pub Sends : {W T E : Type 0} → (W → Option (List ℕ)) → (W → ℕ) → W → W → List ℕ → Result T E → Type 0
Sends taken failed old new text outcome =
    MatchResult outcome
    (λ _. TookAll (taken old) (taken new) (failed old) (failed new) text)
    (λ _. TookPart (taken old) (taken new) (failed old) (failed new) text)

-- What was sent so far of a whole text, and the rest of it; no write failed.
pub record SoFar (old now : Option (List ℕ)) (failed_old failed_now : ℕ) (whole rest : List ℕ) : Type 0 where
  pub front : List ℕ
  pub cut : whole ≡ front ++ rest
  pub taken : Took old now front
  pub count : failed_now ≡ failed_old
