-- A query that nothing refuses: an error is want of memory, a failure of the disk, or a limit on steps that was met.
use Rattle.std.proofs.Common.{◌≡◌, ◌⊎◌, inl, inr, ℕ, List, [], length, append-nil, true, false, Result, Ok, Err, IsTrue, refl, sym, ap, subst, subst₂, ◌∙◌, arith}
use Rattle.std.specs.Prelude.{IsSome}
use Rattle.std.specs.Result.{IsErrAnd}
use Rattle.std.specs.List.{Any}
use Rattle.sqlite.specs.Order.{Row}
use Rattle.sqlite.specs.Tree.{Trees}
use Rattle.sqlite.specs.Schema.{Schema}
use Rattle.sqlite.specs.Query.{Query}
use Rattle.sqlite.specs.Command.TheVariants.{Select}
use Rattle.sqlite.specs.Program.{QueryOverflows}
use Rattle.sqlite.specs.Effect.{RefusesToRead}
use Rattle.sqlite.specs.Listing.{understood, reads_listing, IsSourceOf}
use Rattle.sqlite.specs.declared.error.Error.{Error}
use Rattle.sqlite.specs.Held.{Held, state}
use Rattle.sqlite.specs.State.{State, HasCleanDisk, Survives, FailsToQuery, IsTooLate}
use Rattle.sqlite.specs.Steps.{FailsToCommit}
use Rattle.sqlite.proofs.Callers.{IsPlain, command_of, survives_begin}
use Rattle.sqlite_typing.specs.Types.{accepts}
use Rattle.sqlite_rules.proofs.ListLemmas.{any_has}
use Rattle.sqlite_trees.specs.declared.store.Store as store
use Rattle.sql_laws.specs.DiskErrors.{is_of_disk, HasFailed, BlamesTruly}
use Rattle.sql_laws.proofs.DiskErrors.{failed_behind, failed_before}
use Rattle.sql_schema.specs.Errors.{is_whole, IsUnread, RefusesNoRead}
use Rattle.sql_schema.proofs.Losses.{IsLost, failed_lost, not_run}

of_lost : (old new : State) (e : Error) → IsLost old new e → IsUnread old new e
of_lost old new e (inl memory) = inl memory
of_lost old new e (inr failed) = inr (inl failed)

module _ (text : List ℕ) (params : Row) (schema : Schema) (query : Query) (names : List (List ℕ)) (asks : command_of (understood schema text) ≡ Select (record { lets = []; body = query }) names)
    (own_tables : reads_listing schema text ≡ false) (plain : IsPlain (understood schema text)) (whole : is_whole text (length params) (understood schema text) ≡ true)
    (typed : accepts schema query params ≡ true) (sums : (db : Trees) → QueryOverflows query db params → ⊥) where
  module _ (old new : State) (e : Error) (has : old.now.schema ≡ schema) where
    refused : RefusesToRead old.step_limit (Select (record { lets = []; body = query }) names) old.now params e → IsUnread old new e
    refused (inl (told, untyped)) = absurd (let both = sym (ap (λ s. accepts s query params) has ∙ typed) ∙ untyped in cc)
    refused (inr (inl (told, overflows))) = absurd (sums _ overflows)
    refused (inr (inr limit)) = inr (inr limit)

    pub unread : FailsToQuery text params old new e ⊎ IsTooLate text params old new e → IsUnread old new e
    unfolding FailsToQuery
    unread (inl (inl h)) = of_lost old new e (not_run text params schema plain whole old new e has h)
    unread (inl (inr (c, it, h))) =
        let known = sym it.is ∙ ap (λ s. understood s text) has in
        let bare = subst IsPlain (sym known) plain in
        let shown = rw (bare.0, bare.1, append-nil params) at h in
        let db = subst (λ b. IsSourceOf b old.now shown.0) (ap (λ s. reads_listing s text) has ∙ own_tables) shown.1 in
        refused (subst₂ (λ k d. RefusesToRead old.step_limit k d params e) (ap command_of known ∙ asks) db shown.2)
    unread (inr (c, it, returns, outside, told, same)) =
        let bare = subst IsPlain (sym (sym it.is ∙ ap (λ s. understood s text) has)) plain in
        absurd (let none = rw bare.0 at returns in cc)

-- an error that is told as it is
pub unread_told : {A : Type 0} (old new : State) (e : Error) (given : Result A Error) → IsErrAnd given (λ d. d ≡ e) → (HasCleanDisk new → IsUnread old new e) → RefusesNoRead old new given
unread_told old new e (Ok a) told lost clean = tt
unread_told old new e (Err d) told lost clean = subst (IsUnread old new) (sym told) (lost clean)

-- a query over one table sums nothing up
pub no_sums : (rows : List Row) → ⊥ ⊎ Any (λ (r : Row). ⊥) rows → ⊥
no_sums rows (inl none) = none
no_sums rows (inr some) = (any_has (λ (r : Row). ⊥) rows some).2

-- ---- one call after another

-- nothing was done
pub nothing_done : (s : State) → Survives s s (λ _. ⊥)
nothing_done s = record {
  clean = omega arith;
  shield = λ shield. shield;
  counts = omega arith;
  limit = refl;
  closes = λ clean is_open. inl is_open;
  crash = λ clean db left. inl left;
}

module _ (a b c : State) (e : Error) (P Q : Trees → Type 0) where
  -- behind what answered
  pub unread_behind : Survives a b P → Survives b c Q → HasCleanDisk c → IsUnread b c e → IsUnread a c e
  unread_behind before after clean (inl memory) = inl memory
  unread_behind before after clean (inr (inl failed)) = inr (inl (failed_behind a b c P Q before after clean failed))
  unread_behind before after clean (inr (inr limit)) = inr (inr (limit.0, subst IsSome before.limit limit.1))

  -- whatever comes behind it
  pub unread_before : IsUnread a b e → Survives b c Q → IsUnread a c e
  unread_before (inl memory) after = inl memory
  unread_before (inr (inl failed)) after = inr (inl (failed_before a b c Q failed after))
  unread_before (inr (inr limit)) after = inr (inr limit)

-- a whole transaction that reads
module _ {S : Type 0} (g : store.Ghosts S) (old begun mid last : Held S) (begins : begun ≡ record old { in_transaction = true }) {A : Type 0} (e : Error) (given : Result A Error)
    (told : IsErrAnd given (λ d. d ≡ e)) (P Q : Trees → Type 0) (end : Survives (state g mid) (state g last) Q) where
  early : HasCleanDisk (state g last) → HasCleanDisk (state g mid)
  early clean = omega (arith, clean, end.clean)

  -- the reads failed, and it is undone
  pub undone_unread : (HasCleanDisk (state g mid) → IsUnread (state g begun) (state g mid) e) → RefusesNoRead (state g old) (state g last) given
  undone_unread lost =
      unread_told (state g old) (state g last) e given told
      (λ clean. unread_before (state g old) (state g mid) (state g last) e P Q (subst (λ h. IsUnread (state g h) (state g mid) e) begins (lost (early clean))) end)

  -- they answered, and its commit failed
  pub stopped_unread : Survives (state g begun) (state g mid) P → (HasCleanDisk (state g mid) → IsTrue (state g mid).in_transaction) → (HasCleanDisk (state g last) → FailsToCommit (state g mid) (state g last) e)
      → RefusesNoRead (state g old) (state g last) given
  stopped_unread inside within fails =
      unread_told (state g old) (state g last) e given told
      (λ clean. unread_behind (state g old) (state g mid) (state g last) e P Q
      (survives_begin g old (state g mid) P (subst (λ h. Survives (state g h) (state g mid) P) begins inside)) end clean (by clean (fails clean)))
    where
      by : HasCleanDisk (state g last) → FailsToCommit (state g mid) (state g last) e → IsUnread (state g mid) (state g last) e
      by clean (inl failed) = of_lost (state g mid) (state g last) e (failed_lost (state g mid) (state g last) e ⊥ (λ none. none) failed)
      by clean (inr misplaced) = absurd (let yes = within (early clean) in let no = misplaced.1 in cc)

-- who tells such errors blames no disk falsely
pub blames_of_unread : {A : Type 0} (old new : State) (r : Result A Error) → RefusesNoRead old new r → BlamesTruly old new r
blames_of_unread old new (Ok a) lost clean = tt
blames_of_unread old new (Err e) lost clean = λ blamed. by blamed (lost clean)
  where
    by : is_of_disk e ≡ true → IsUnread old new e → HasFailed old new
    by blamed (inl memory) = absurd (let both : true ≡ false = sym blamed ∙ ap is_of_disk memory in cc)
    by blamed (inr (inl failed)) = failed
    by blamed (inr (inr limit)) = absurd (let both : true ≡ false = sym blamed ∙ ap is_of_disk limit.0 in cc)
