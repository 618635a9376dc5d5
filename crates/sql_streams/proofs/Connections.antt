-- What a query that only reads leaves of a connection, and its answers seen from before it began.
use Rattle.std.proofs.Common.{◌≡◌, inl, inr, ℕ, List, Option, None, Some, true, false, Ok, Err, IsTrue, sym, subst, ◌∙◌, arith}
use Rattle.sqlite.specs.Order.{Row}
use Rattle.sqlite.specs.Effect.{Database}
use Rattle.sqlite.specs.Clock.{timed}
use Rattle.sqlite.specs.Listing.{understood, reads_listing, IsSourceOf}
use Rattle.sqlite.specs.State.{State, IsUnchanged, IsRolledBack, Survives, Shown, ShowsRows, Begins, HasCause, Fails, FailsToQuery, FailsToShow, IsNotRun, IsNoStatement}
use Rattle.sqlite.specs.declared.error.Error.{Error}
use Rattle.sqlite.proofs.Callers.{IsPlain, unchanged_then}
use Rattle.sqlite.proofs.StateLemmas.{unchanged}
use Rattle.sqlite.specs.Effect.{RefusesToRead}
use Rattle.sqlite_trees.specs.declared.error.StoreError.{StoreError}
use Rattle.sqlite_trees.specs.declared.error.StoreError.TheVariants.{OutOfMemory, Io, Corrupt, Full, Broken, Unstorable}
use Rattle.sqlite_schema.specs.declared.command.Returning.{Returning}
use Rattle.sql_streams.specs.Walks.{StaysPut}

pub unchanged_stays : (old new : State) → IsUnchanged old new → StaysPut old new
unchanged_stays old new h = record { was_open = h.0.was_open; now = inl h.0.now_is; committed = h.0.committed_is }

pub undone_stays : (too_big : Type 0) (old new : State) (e : Error) → Fails old new too_big e → IsTrue new.is_open → StaysPut old new
undone_stays too_big old new e h is_open = record { was_open = h.3.was_open is_open; now = inr (h.3.undone is_open).0; committed = (h.3.undone is_open).1 }

pub stays_then : (a b c : State) → IsUnchanged a b → StaysPut b c → StaysPut a c
stays_then a b c p q = record {
  was_open = p.0.was_open;
  now = elim q.now [ inl same ↦ inl (same ∙ p.0.now_is) | inr back ↦ inr (back ∙ p.0.committed_is) ];
  committed = q.committed ∙ p.0.committed_is;
}

pub failed_stays : (sql : List ℕ) (params : Row) (old new : State) (e : Error) → FailsToQuery sql params old new e → IsTrue new.is_open → StaysPut old new
unfolding FailsToQuery IsNotRun
failed_stays sql params old new e (inl (inl h)) is_open = unchanged_stays old new h.1
failed_stays sql params old new e (inl (inr h)) is_open = undone_stays _ old new e h is_open
failed_stays sql params old new e (inr (c, it, h)) is_open = shows c.returning h
  where
    shows : (r : Option Returning) → FailsToShow old new sql c (timed params c.formats it.now) e r → StaysPut old new
    shows None h = unchanged_stays old new h.3
    shows (Some what) (inl h) = unchanged_stays old new h.1
    shows (Some what) (inr h) = undone_stays _ old new e h is_open

-- a beginning of an answer is one of the database that was there before
pub begins_before : (sql : List ℕ) (params : Row) (old new : State) (rows : List Row) → IsUnchanged old new → Begins sql params new rows → Begins sql params old rows
unfolding Begins
begins_before sql params old new rows same h =
    let was = same.0.now_is in (
      h.0,
      record { is = subst (λ (d : Database). understood d.schema sql ≡ Ok h.0) was h.1.is; whole = h.1.whole; given = h.1.given; now = h.1.now },
      h.2,
      h.3,
      subst (λ (d : Database). IsSourceOf (reads_listing d.schema sql) d h.3) was h.4,
      h.5,
    )

-- and so is a whole answer
pub shown_before : (sql : List ℕ) (params : Row) (old mid new : State) (rows : List Row) → IsPlain (understood old.now.schema sql) → IsUnchanged old mid → Shown sql params mid new rows → Shown sql params old old rows
unfolding Shown
shown_before sql params old mid new rows plain same h =
    let was = same.0.now_is in
    let is : understood old.now.schema sql ≡ Ok h.0 = subst (λ (d : Database). understood d.schema sql ≡ Ok h.0) was h.1.is in
    let none = (subst IsPlain is plain).0 in
    let full = timed params h.0.formats h.1.now in
    let it = subst (ShowsRows mid new sql h.0 full rows) none h.2 in (
      h.0,
      record { is = is; whole = h.1.whole; given = h.1.given; now = h.1.now },
      subst (ShowsRows old old sql h.0 full rows) (sym none) (it.0, subst (λ (d : Database). IsSourceOf (reads_listing d.schema sql) d it.0) was it.1, it.2, unchanged old same.0.was_open),
    )

-- ---- what fails behind a read that changed nothing fails as it may from before it

module _ (old mid new : State) (same : IsUnchanged old mid) (between : Survives old mid (λ _. ⊥)) where
  rolled_back : IsRolledBack mid new → IsRolledBack old new
  rolled_back h = record {
    was_open = λ is_open. same.0.was_open;
    undone = λ is_open. ((h.undone is_open).0 ∙ same.0.committed_is, (h.undone is_open).1 ∙ same.0.committed_is);
    autocommit = h.autocommit;
    unmarked = h.unmarked;
    counts = record { changes = h.counts.changes ∙ same.1.changes; last_rowid = h.counts.last_rowid ∙ same.1.last_rowid };
  }

  caused : (cause : StoreError) → HasCause mid new ⊥ cause → HasCause old new ⊥ cause
  caused OutOfMemory h = tt
  caused Io h = omega (arith, h, between.counts)
  caused Corrupt h = omega (arith, h, between.counts)
  caused Full h = omega (arith, h, between.counts)
  caused Broken h = absurd (let both : true ≡ false = sym same.0.is_open ∙ h in cc)
  caused Unstorable h = h

  module _ (sql : List ℕ) (params : Row) (e : Error) where
    was_no_statement : IsNoStatement mid sql params e → IsNoStatement old sql params e
    was_no_statement (inl (fault, bad, told)) = inl (fault, subst (λ (d : Database). understood d.schema sql ≡ Err fault) same.0.now_is bad, told)
    was_no_statement (inr (c, is, fault)) = inr (c, subst (λ (d : Database). understood d.schema sql ≡ Ok c) same.0.now_is is, fault)

    pub failed_from_before : IsPlain (understood old.now.schema sql) → FailsToQuery sql params mid new e → FailsToQuery sql params old new e
    unfolding FailsToQuery IsNotRun
    failed_from_before plain (inl (inl h)) = inl (inl (was_no_statement h.0, unchanged_then old mid new same h.1))
    failed_from_before plain (inl (inr (cause, told, h, back, tells))) = inl (inr (cause, told, caused cause h, rolled_back back, tells))
    failed_from_before plain (inr (c, it, h)) =
        let is : understood old.now.schema sql ≡ Ok c = subst (λ (d : Database). understood d.schema sql ≡ Ok c) same.0.now_is it.is in
        let none = (subst IsPlain is plain).0 in
        let full = timed params c.formats it.now in
        let shows = subst (FailsToShow mid new sql c full e) none h in
        inr (
          c,
          record { is = is; whole = it.whole; given = it.given; now = it.now },
          subst (FailsToShow old new sql c full e) (sym none) (
            shows.0,
            subst (λ (d : Database). IsSourceOf (reads_listing d.schema sql) d shows.0) same.0.now_is shows.1,
            subst (λ limit. RefusesToRead limit c.command shows.0 full e) between.limit shows.2,
            unchanged_then old mid new same shows.3,
          ),
        )
