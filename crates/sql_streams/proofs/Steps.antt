-- One step of a walk after another.
use Rattle.std.proofs.Common.{◌≡◌, ◌⊎◌, inl, inr, true, false, ℕ, List, [], ◌∷◌, ◌++◌, None, Some, IsTrue, refl, arith}
use Rattle.sqlite.specs.Order.{Row}
use Rattle.sqlite.specs.Held.{Held, state}
use Rattle.sqlite.specs.Given.{HasGiven, HasBegun, Advances, FailsToAdvance}
use Rattle.sqlite.specs.Listing.{understood}
use Rattle.sqlite.specs.State.{HasCleanDisk, Survives, IsUnchanged, Fails, FailsToQuery, CommitsShowing}
use Rattle.sqlite.specs.declared.error.Error.{Error}
use Rattle.sqlite.proofs.Callers.{IsPlain, unchanged_then, begun_plain, given_begin, never_commits}
use Rattle.sqlite.proofs.StateLemmas.{survives_then, survives_weaker}
use Rattle.sqlite_trees.specs.declared.store.Store as store
use Rattle.sql_laws.specs.DiskErrors.{is_of_disk, HasFailed}
use Rattle.sql_laws.proofs.DiskErrors.{failed_behind, query_of_disk}
use Rattle.sql_streams.specs.Walks.{TookAll, TookSome, RefusedOne, StaysPut}
use Rattle.sql_streams.proofs.Connections.{unchanged_stays, undone_stays, stays_then, begins_before, shown_before, failed_from_before}

-- So far the query has given some rows, and the sink has taken them.
pub record HasWalked {S K : Type 0} (g : store.Ghosts S) (Took : K → List Row → K → Type 0) (sql : List ℕ) (params : Row) (old new : Held S) (first last : K) : Type 0 where
  pub given : List Row
  pub took : Took first given last
  pub survives : Survives (state g old) (state g new) (λ _. ⊥)
  pub mode : old.in_transaction ≡ false → new.in_transaction ≡ false
  pub reads : HasCleanDisk (state g new) → HasGiven g sql params new given × IsUnchanged (state g old) (state g new)

module _ {S K : Type 0} (g : store.Ghosts S) (Took : K → List Row → K → Type 0) (sql : List ℕ) (params : Row) (old : Held S) (plain : HasCleanDisk (state g old) → IsPlain (understood old.schema sql)) (first : K) where
  pub commits_nothing : (new : Held S) → Survives (state g old) (state g new) (CommitsShowing sql params (state g old)) → Survives (state g old) (state g new) (λ _. ⊥)
  commits_nothing new survives = survives_weaker (state g old) (state g new) _ _ (λ clean db. never_commits sql params (state g old) db (plain (omega (arith, clean, survives.clean)))) survives

  pub walk_begun : (new : Held S) → Took first [] first → (HasCleanDisk (state g new) → HasBegun g sql params old new) → (old.in_transaction ≡ false → new.in_transaction ≡ false)
      → Survives (state g old) (state g new) (CommitsShowing sql params (state g old)) → HasWalked g Took sql params old new first first
  walk_begun new none begun mode survives = record {
    given = [];
    took = none;
    survives = commits_nothing new survives;
    mode = mode;
    reads = λ clean. begun_plain g sql params old new (plain (omega (arith, clean, survives.clean))) (begun clean);
  }

  module _ (mid new : Held S) (last : K) (walked : HasWalked g Took sql params old mid first last) (step : Survives (state g mid) (state g new) (λ _. ⊥)) where
    early : HasCleanDisk (state g new) → HasCleanDisk (state g mid)
    early clean = omega (arith, step.clean)

    pub survives_still : Survives (state g old) (state g new) (λ _. ⊥)
    survives_still = survives_then (state g old) (state g mid) (state g new) _ _ (λ _. ⊥) (λ _ db none. none) (λ _ db none. none) walked.survives step

    -- one more row came, and the sink took it
    pub walk_on : (row : Row) (next : K) → Took first (walked.given ++ row ∷ []) next → (mid.in_transaction ≡ false → new.in_transaction ≡ false)
        → (HasCleanDisk (state g new) → Advances g mid new (Some row)) → (HasCleanDisk (state g new) → IsUnchanged (state g mid) (state g new))
        → HasWalked g Took sql params old new first next
    walk_on row next took mode moved same = record {
      given = walked.given ++ row ∷ [];
      took = took;
      survives = survives_still;
      mode = λ was. mode (walked.mode was);
      reads = λ clean. let was = walked.reads (early clean) in (moved clean sql params walked.given was.0, unchanged_then (state g old) (state g mid) (state g new) was.1 (same clean));
    }

    -- it refused it
    pub walk_refused : {R : Type 0} (Refuses : K → Row → R → K → Type 0) (row : Row) (next : K) (refusal : R) → Refuses last row refusal next
        → (HasCleanDisk (state g new) → Advances g mid new (Some row)) → (HasCleanDisk (state g new) → IsUnchanged (state g mid) (state g new))
        → HasCleanDisk (state g new) → RefusedOne Took Refuses sql params (state g old) first next refusal
    walk_refused Refuses row next refusal refused moved same clean =
        let was = walked.reads (early clean) in record {
          front = walked.given;
          row = row;
          mid = last;
          begins = begins_before sql params (state g old) (state g new) _ (unchanged_then (state g old) (state g mid) (state g new) was.1 (same clean))
              (given_begin g sql params new _ (moved clean sql params walked.given was.0));
          took = walked.took;
          refused = refused;
        }

    -- no row was left
    pub walk_ended : (HasCleanDisk (state g new) → Advances g mid new None) → HasCleanDisk (state g new) → TookAll Took sql params (state g old) first last
    walk_ended moved clean =
        let was = walked.reads (early clean) in record {
          rows = walked.given;
          shown = shown_before sql params (state g old) (state g mid) (state g new) walked.given (plain (omega (arith, clean, survives_still.clean))) was.1 (moved clean sql params walked.given was.0);
          took = walked.took;
        }

    pub stays_unchanged : (HasCleanDisk (state g new) → IsUnchanged (state g mid) (state g new)) → HasCleanDisk (state g new) → StaysPut (state g old) (state g new)
    stays_unchanged same clean = let was = walked.reads (early clean) in unchanged_stays (state g old) (state g new) (unchanged_then (state g old) (state g mid) (state g new) was.1 (same clean))

    pub stays_failed : (e : Error) → (HasCleanDisk (state g new) → Fails (state g mid) (state g new) ⊥ e ⊎ IsUnchanged (state g mid) (state g new)) → HasCleanDisk (state g new) → IsTrue (state g new).is_open
        → StaysPut (state g old) (state g new)
    stays_failed e kept clean is_open =
        let was = walked.reads (early clean) in
        stays_then (state g old) (state g mid) (state g new) was.1
        (elim (kept clean) [ inl failed ↦ undone_stays _ (state g mid) (state g new) e failed is_open | inr same ↦ unchanged_stays (state g mid) (state g new) same ])

    -- the next row could not be read
    pub failed_truly : (e : Error) → (HasCleanDisk (state g new) → FailsToAdvance g mid new e) → HasCleanDisk (state g new) → is_of_disk e ≡ true → HasFailed (state g old) (state g new)
    failed_truly e fails clean blamed =
        failed_behind (state g old) (state g mid) (state g new) (λ _. ⊥) (λ _. ⊥) walked.survives step clean
        (query_of_disk (state g mid) (state g new) e sql params (inl (fails clean sql params walked.given (walked.reads (early clean)).0)) blamed)

    -- and it failed as the query may from before its first
    pub failed_as_query : (e : Error) → (HasCleanDisk (state g new) → FailsToAdvance g mid new e) → HasCleanDisk (state g new) → FailsToQuery sql params (state g old) (state g new) e
    failed_as_query e fails clean =
        let was = walked.reads (early clean) in
        failed_from_before (state g old) (state g mid) (state g new) was.1 walked.survives sql params e (plain (omega (arith, clean, survives_still.clean)))
        (fails clean sql params walked.given was.0)

    pub open_still : (HasCleanDisk (state g new) → IsUnchanged (state g mid) (state g new)) → HasCleanDisk (state g new) → IsTrue (state g new).is_open
    open_still same clean = (same clean).0.is_open

  -- what the sink took until now begins an answer
  pub walk_failed : (mid : Held S) (last : K) → HasWalked g Took sql params old mid first last → HasCleanDisk (state g mid) → TookSome Took sql params (state g old) first last
  walk_failed mid last walked clean =
      let was = walked.reads clean in record {
        front = walked.given;
        begins = inr (begins_before sql params (state g old) (state g mid) walked.given was.1 (given_begin g sql params mid walked.given was.0));
        took = walked.took;
      }

  pub walk_not_begun : Took first [] first → TookSome Took sql params (state g old) first first
  walk_not_begun none = record { front = []; begins = inl refl; took = none }
