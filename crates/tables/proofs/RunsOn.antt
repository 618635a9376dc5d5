-- Tables run on over a call, and over calls one after the other, unless the disk fails.
use Rattle.std.proofs.Common.{◌≡◌, ◌⊎◌, inl, inr, ℕ, Bool, true, false, Result, refl, arith}
use Rattle.request_book.specs.Book.{OfficeWithBook}
use Rattle.tables.specs.Stops.{HasFailed}
use Rattle.tables.specs.KeptByCalls.{IsKept}
use Rattle.tables.specs.RunsOn.{RunsSince, RunsOn}

module _ {S : Type 0} {H W : S → Type 0} {F : S → ℕ} {D : S → Bool} where
  -- they ran at the beginning
  pub runs_since : (tables : S) → (H tables → W tables) → D tables ≡ false → RunsSince H W F D (F tables) tables
  runs_since tables whole ran = record { counts = omega arith; runs = λ honest. inl (whole honest, ran) }

  -- a call
  pub kept_runs_on : {means : S → OfficeWithBook} {L : S → OfficeWithBook → Type 0} {A E : Type 0} {old new : S} {r : Result A E} {gone : E} {Writes : OfficeWithBook → Type 0} → IsKept H W means L F D old new r gone Writes
      → RunsOn H W F D old new
  kept_runs_on {old = old} {new = new} {r = r} {gone = gone} kept since before = record {
    counts = omega (arith, before.counts, kept.counts);
    runs = λ honest. runs honest (before.runs (kept.honest honest));
  }
    where
      later : HasFailed (F old) (F new) → HasFailed since (F new)
      later failed = omega (arith, failed, before.counts)

      by_stop : (b : Bool) → D new ≡ b → (D new ≡ true → HasFailed since (F new)) → W new ⊎ HasFailed since (F new) → (W new × (D new ≡ false)) ⊎ HasFailed since (F new)
      by_stop true stopped failed whole = inr (failed stopped)
      by_stop false ran failed (inl whole) = inl (whole, ran)
      by_stop false ran failed (inr shut) = inr shut

      closed : W new ⊎ HasFailed (F old) (F new) → W new ⊎ HasFailed since (F new)
      closed (inl whole) = inl whole
      closed (inr failed) = inr (later failed)

      runs : H new → (W old × (D old ≡ false)) ⊎ HasFailed since (F old) → (W new × (D new ≡ false)) ⊎ HasFailed since (F new)
      runs honest (inr failed) = inr (omega (arith, failed, kept.counts))
      runs honest (inl ran) = by_stop (D new) refl (λ stopped. later (kept.blamed honest ran.0 ran.1 (kept.runs stopped))) (closed (kept.closes honest ran.0))

  -- tables that are stopped then were so by a disk that failed since
  pub stopped_by_disk : (since : ℕ) (tables : S) → RunsSince H W F D since tables → H tables → D tables ≡ true → HasFailed since (F tables)
  stopped_by_disk since tables runs honest stopped = by (runs.runs honest)
    where
      by : (W tables × (D tables ≡ false)) ⊎ HasFailed since (F tables) → HasFailed since (F tables)
      by (inl ran) = absurd (let no = ran.1 in let yes = stopped in cc)
      by (inr failed) = failed
