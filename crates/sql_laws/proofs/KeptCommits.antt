-- Queries leave the connection as it was, and no statement inside a transaction commits, however it ends.
use Rattle.std.proofs.Common.{◌≡◌, List, ℕ, Result, Ok, Err, Option, None, Some, ◌⊎◌, inl, inr, true, if◌then◌else◌, IsTrue, subst}
use Rattle.sqlite.specs.Order.{Row}
use Rattle.sqlite.specs.Listing.{understood}
use Rattle.sqlite.specs.Clock.{timed}
use Rattle.sqlite.specs.State.{State, IsUnchanged, Survives, Shown, ShowsRows, CommitsShowing, ExecutesInside, KeepsCommit, Fails, FailsToQuery, FailsToShow, IsNotRun, IsTooLate}
use Rattle.sqlite_schema.specs.declared.command.Returning.{Returning}
use Rattle.sqlite.specs.declared.error.Error.{Error}
use Rattle.sqlite.proofs.StateLemmas.{survives_weaker}
use Rattle.sqlite.proofs.Callers.{IsPlain, never_commits}

pub query_commits_nothing : (sql : List ℕ) (params : Row) (old new : State) → IsPlain (understood old.now.schema sql)
    → Survives old new (CommitsShowing sql params old) → Survives old new (λ _. ⊥)
query_commits_nothing sql params old new plain = survives_weaker old new _ _ (λ _ db. never_commits sql params old db plain)

pub query_unchanged : (sql : List ℕ) (params : Row) (old new : State) (rows : List Row) → IsPlain (understood old.now.schema sql)
    → Shown sql params old new rows → IsUnchanged old new
unfolding Shown
query_unchanged sql params old new rows plain h =
    let none = (subst IsPlain h.1.is plain).0 in
    let it = subst (ShowsRows old new sql h.0 (timed params h.0.formats h.1.now) rows) none h.2 in
    it.3

-- a statement inside a transaction commits nothing, however it ends
pub execute_keeps_commit : (sql : List ℕ) (params : Row) (old new : State) (r : Result ℕ Error)
    → ExecutesInside 0 sql params old new r → KeepsCommit old new
execute_keeps_commit sql params old new (Ok count) h = record { was_open = λ _. h.1.was_open; committed = λ _. h.1.committed_is }
execute_keeps_commit sql params old new (Err e) (inl h) = elim h.1 [
  | inl same ↦ record { was_open = λ _. same.0.was_open; committed = λ _. same.0.committed_is }
  | inr undone ↦ record { was_open = undone.was_open; committed = λ is_open. (undone.undone is_open).1 }
]
execute_keeps_commit sql params old new (Err e) (inr h) = record { was_open = λ _. h.2.0.was_open; committed = λ _. h.2.0.committed_is }

undone_keeps : (too_big : Type 0) (old new : State) (e : Error) → Fails old new too_big e → KeepsCommit old new
undone_keeps too_big old new e h = record { was_open = h.3.was_open; committed = λ is_open. (h.3.undone is_open).1 }

same_keeps : (old new : State) → IsUnchanged old new → KeepsCommit old new
same_keeps old new h = record { was_open = λ _. h.0.was_open; committed = λ _. h.0.committed_is }

-- a query that fails inside a transaction commits nothing
pub failed_query_keeps_commit : (sql : List ℕ) (params : Row) (old new : State) (e : Error)
    → FailsToQuery sql params old new e ⊎ IsTooLate sql params old new e → KeepsCommit old new
unfolding FailsToQuery IsNotRun
failed_query_keeps_commit sql params old new e (inl (inl (inl h))) = same_keeps old new h.1
failed_query_keeps_commit sql params old new e (inl (inl (inr h))) = undone_keeps _ old new e h
failed_query_keeps_commit sql params old new e (inl (inr (c, it, h))) = shows c.returning h
  where
    shows : (r : Option Returning) → FailsToShow old new sql c (timed params c.formats it.now) e r → KeepsCommit old new
    shows None h = same_keeps old new h.3
    shows (Some what) (inl h) = same_keeps old new h.1
    shows (Some what) (inr h) = undone_keeps _ old new e h
failed_query_keeps_commit sql params old new e (inr h) = same_keeps old new h.5

-- what shows rows was open, and still is
pub query_open : (sql : List ℕ) (params : Row) (old new : State) (rows : List Row) → Shown sql params old new rows
    → IsTrue old.is_open × (old.in_transaction ≡ true → KeepsCommit old new)
unfolding Shown
query_open sql params old new rows (c, it, h) = opens c.returning h
  where
    opens : (r : Option Returning) → ShowsRows old new sql c (timed params c.formats it.now) rows r
        → IsTrue old.is_open × (old.in_transaction ≡ true → KeepsCommit old new)
    opens None h = (h.3.0.was_open, λ _. same_keeps old new h.3)
    opens (Some what) (count, w, is) = (w.shown.was_open, λ e. record { was_open = λ _. w.shown.was_open; committed = λ _. subst (λ b. new.committed ≡ (if b then old.committed else new.now)) e w.shown.committed_is })
