-- That tables run on unless the disk fails, over any calls. This project's own words.
use Rattle.std.specs.Prelude.{◌≡◌, ◌≤◌, ◌⊎◌, ℕ, Bool, false}
use Rattle.tables.specs.Stops.{HasFailed}

-- Since so many failures of the disk were counted, tables have run on and no failure has shut them, or the disk has failed.
pub record RunsSince {S : Type 0} (is_honest is_whole : S → Type 0) (faults : S → ℕ) (is_stopped : S → Bool) (since : ℕ) (tables : S) : Type 0 where
  pub counts : since ≤ faults tables
  pub runs : is_honest tables → (is_whole tables × (is_stopped tables ≡ false)) ⊎ HasFailed since (faults tables)

-- calls that tables go through so
abbrev pub RunsOn : {S : Type 0} → (S → Type 0) → (S → Type 0) → (S → ℕ) → (S → Bool) → S → S → Type 0
RunsOn is_honest is_whole faults is_stopped old new = (since : ℕ) → RunsSince is_honest is_whole faults is_stopped since old → RunsSince is_honest is_whole faults is_stopped since new
