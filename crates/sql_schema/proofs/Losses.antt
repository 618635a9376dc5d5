-- What a statement that nothing refuses may tell: want of memory, or a failure of the disk.
use Rattle.std.proofs.Common.{◌≡◌, ◌⊎◌, inl, inr, ℕ, List, length, true, false, Result, Ok, Err, sym, ap, subst, ◌∙◌}
use Rattle.std.specs.Prelude.{◌&&◌, ◌==◌, nat_le}
use Rattle.std.specs.Result.{IsErrAnd}
use Rattle.std.proofs.lemmas.Bool.{and_parts, leb-true, eqb-true}
use Rattle.sqlite.specs.Order.{Row}
use Rattle.sqlite.specs.Schema.{Schema}
use Rattle.sqlite.specs.Listing.{understood}
use Rattle.sqlite.specs.declared.error.Error.{Error}
use Rattle.sqlite.specs.declared.error.Error.TheVariants.{SqliteFailure}
use Rattle.sqlite.specs.declared.error.ErrorCode.TheVariants as code
use Rattle.sqlite.specs.State.{State, HasCleanDisk, Survives, HasCause, Fails, IsNotRun, IsNoStatement, store_error}
use Rattle.sqlite.proofs.Callers.{IsPlain}
use Rattle.sqlite_trees.specs.declared.error.StoreError.{StoreError}
use Rattle.sqlite_trees.specs.declared.error.StoreError.TheVariants.{OutOfMemory, Io, Corrupt, Full, Broken, Unstorable}
use Rattle.sqlite_resolve.specs.declared.compiled.Compiled.{Compiled}
use Rattle.sql_laws.specs.DiskErrors.{is_of_disk, HasFailed, BlamesTruly}
use Rattle.sql_laws.proofs.DiskErrors.{failed_behind}
use Rattle.sql_schema.specs.Errors.{is_whole, RefusesNothing}

-- want of memory, or a failure of the disk
abbrev pub IsLost : State → State → Error → Type 0
IsLost old new e = (e ≡ SqliteFailure code.OutOfMemory) ⊎ HasFailed old new

-- where the store fails, and nothing is too big for it
module _ (old new : State) (e : Error) where
  pub failed_lost : (too_big : Type 0) → (too_big → ⊥) → Fails old new too_big e → IsLost old new e
  failed_lost too_big none h = by h.0 h.1 h.2
    where
      by : (cause : StoreError) → e ≡ store_error cause → HasCause old new too_big cause → IsLost old new e
      by OutOfMemory told h = inl told
      by Io told h = inr (inr h)
      by Corrupt told h = inr (inr h)
      by Full told h = inr (inr h)
      by Broken told h = inr (inl h)
      by Unstorable told h = absurd (none h)

-- a text that is one statement, with as many parameters, over a connection that has this schema
module _ (text : List ℕ) (params : Row) (schema : Schema) (plain : IsPlain (understood schema text)) (whole : is_whole text (length params) (understood schema text) ≡ true) (old new : State) (e : Error)
    (has : old.now.schema ≡ schema) where
  known : (c : Compiled) → understood old.now.schema text ≡ Ok c → Ok c ≡ understood schema text
  known c it = sym it ∙ ap (λ s. understood s text) has

  call : (c : Compiled) → understood old.now.schema text ≡ Ok c → (nat_le (length text) c.tail && (length c.names == length params)) ≡ true
  call c it = ap (is_whole text (length params)) (known c it) ∙ whole

  no_statement : IsNoStatement old text params e → ⊥
  no_statement (inl (fault, bad, told)) = let both : false ≡ true = ap (is_whole text (length params)) (sym bad ∙ ap (λ s. understood s text) has) ∙ whole in cc
  no_statement (inr (c, it, inl (long, told))) = long (leb-true (length text) c.tail (and_parts (nat_le (length text) c.tail) (length c.names == length params) (call c it)).0)
  no_statement (inr (c, it, inr (inl (uneven, told)))) = uneven (sym (eqb-true (length c.names) (length params) (and_parts (nat_le (length text) c.tail) (length c.names == length params) (call c it)).1))
  no_statement (inr (c, it, inr (inr (timed, told)))) = timed (subst IsPlain (sym (known c it)) plain).1

  pub not_run : IsNotRun old new text params e → IsLost old new e
  unfolding IsNotRun
  not_run (inl h) = absurd (no_statement h.0)
  not_run (inr h) = failed_lost old new e ⊥ (λ none. none) h

-- an error that is told as it is
pub lost_told : {A : Type 0} (old new : State) (e : Error) (given : Result A Error) → IsErrAnd given (λ d. d ≡ e) → (HasCleanDisk new → IsLost old new e) → RefusesNothing old new given
lost_told old new e (Ok a) told lost clean = tt
lost_told old new e (Err d) told lost clean = subst (IsLost old new) (sym told) (lost clean)

-- what is lost behind a call that answered
pub lost_behind : (a b c : State) (e : Error) → Survives a b (λ _. ⊥) → Survives b c (λ _. ⊥) → HasCleanDisk c → IsLost b c e → IsLost a c e
lost_behind a b c e before after clean (inl memory) = inl memory
lost_behind a b c e before after clean (inr failed) = inr (failed_behind a b c (λ _. ⊥) (λ _. ⊥) before after clean failed)

-- who is lost so blames no disk falsely
pub blames_of_lost : {A : Type 0} (old new : State) (r : Result A Error) → RefusesNothing old new r → BlamesTruly old new r
blames_of_lost old new (Ok a) lost clean = tt
blames_of_lost old new (Err e) lost clean = λ blamed. by blamed (lost clean)
  where
    by : is_of_disk e ≡ true → IsLost old new e → HasFailed old new
    by blamed (inl memory) = absurd (let both : true ≡ false = sym blamed ∙ ap is_of_disk memory in cc)
    by blamed (inr failed) = failed
