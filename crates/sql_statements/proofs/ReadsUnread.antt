-- Reads and walks that nothing refuses: an error is want of memory, a failure of the disk, or a limit on steps that was met.
use Rattle.std.proofs.Common.{◌≡◌, ◌⊎◌, inl, inr, ℕ, List, [], ◌∷◌, ◌++◌, ◌&&◌, not, length, Bool, true, false, Option, Some, None, Result, Ok, Err, IsTrue, refl, subst, arith}
use Rattle.std.specs.Prelude.{IfErr, is_some}
use Rattle.std.specs.Result.{IsErrAnd}
use Rattle.std.proofs.lemmas.Bool.{and_parts}
use Rattle.sqlite.specs.Command.{Command}
use Rattle.sqlite.specs.Command.TheVariants.{Select}
use Rattle.sqlite.specs.Effect.{Database}
use Rattle.sqlite.specs.Listing.{understood}
use Rattle.sqlite.specs.Order.{Row}
use Rattle.sqlite.specs.Program.{QueryOverflows}
use Rattle.sqlite.specs.Query.{Query}
use Rattle.sqlite.specs.Schema.{Schema}
use Rattle.sqlite.specs.State.{State, HasCleanDisk, Survives, FailsToQuery, IsTooLate}
use Rattle.sqlite.specs.Tree.{Trees}
use Rattle.sqlite.specs.declared.error.Error.{Error}
use Rattle.sqlite.proofs.Callers.{command_of}
use Rattle.sqlite_rules.proofs.ListLemmas.{any_has}
use Rattle.sqlite_sql.specs.Group.{Grouping, Overflows}
use Rattle.sqlite_sql.specs.Query.{Join, end, inner, left, counted, made, folded, first, FoldOverflows, has_no_fold}
use Rattle.sqlite_sql.specs.Term.{Env}
use Rattle.sqlite_typing.specs.Types.{accepts}
use Rattle.sql_schema.specs.Errors.{is_whole, IsUnread, RefusesNoRead}
use Rattle.sql_schema.specs.Inside.{IsSteadyOver, IsReadOf}
use Rattle.sql_schema.specs.Layouts.{Form, Layout, schema_of, HasLayoutOf}
use Rattle.sql_schema.specs.Whole.{IsIdleOver}
use Rattle.sql_schema.proofs.Queries.{Asks}
use Rattle.sql_schema.proofs.Unread.{unread, unread_told, unread_behind}
use Rattle.sql_statements.specs.Unrefused.{RefusesNoWalk}
use Rattle.sql_streams.specs.Walks.{FailsAsQuery}
use Rattle.sql_streams.specs.declared.walking.WalkFault.{WalkFault}
use Rattle.sql_streams.specs.declared.walking.WalkFault.TheVariants.{NoRows, NoSink}

-- ---- which texts are not refused

-- the command is a query that is accepted with these parameters, and sums nothing up
abbrev pub is_accepted_command : Schema → Row → Command → Bool
is_accepted_command schema params (Select q names) = accepts schema q.body params && (not (is_some q.body.group) && has_no_fold q.body.from)
is_accepted_command schema params _ = false

-- the text is one such query, with as many parameters
abbrev pub is_accepted : Schema → List ℕ → Row → Bool
is_accepted schema text params = is_whole text (length params) (understood schema text) && is_accepted_command schema params (command_of (understood schema text))

-- Under each layout of a form it is accepted: of a text that is written out, `refl` finds it.
abbrev pub IsAcceptedBy : Form → List ℕ → Row → Type 0
IsAcceptedBy form text params = (layout : Layout form) → is_accepted (schema_of layout) text params ≡ true

-- where it fails over the tables of a form, or over a connection that is shut, nothing has refused it
abbrev pub IsUnreadBy : Form → List ℕ → Row → Type 1
IsUnreadBy form text params = (old new : State) (e : Error) → (IsTrue old.is_open → HasLayoutOf form old.now)
    → FailsToQuery text params old new e ⊎ IsTooLate text params old new e → IsUnread old new e

-- ---- sums

no_fold : (join : Join) → has_no_fold join ≡ true → (db : Trees) (env : Env) → FoldOverflows db join env → ⊥
no_fold end plain db env h = h
no_fold (inner tree more) plain db env h =
    let some = any_has (λ (r : Row). FoldOverflows db more (env ++ r ∷ [])) (db tree) h in
    no_fold more plain db (env ++ some.0 ∷ []) some.2
no_fold (left tree on more) plain db env h =
    let some = any_has (λ (r : Row). FoldOverflows db more (env ++ r ∷ [])) ([] ∷ db tree) h in
    no_fold more plain db (env ++ some.0 ∷ []) some.2
no_fold (counted most from test more) plain db env (inl h) = no_fold from (and_parts (has_no_fold from) (has_no_fold more) plain).0 db env h
no_fold (counted most from test more) plain db env (inr h) = no_fold more (and_parts (has_no_fold from) (has_no_fold more) plain).1 db _ h
no_fold (made m more) plain db env h = no_fold more plain db _ h
no_fold (folded from test all more) plain db env h = absurd (let both : false ≡ true = plain in cc)
no_fold (first from test order shown more) plain db env (inl h) = no_fold from (and_parts (has_no_fold from) (has_no_fold more) plain).0 db env h
no_fold (first from test order shown more) plain db env (inr h) = no_fold more (and_parts (has_no_fold from) (has_no_fold more) plain).1 db _ h

no_group : (group : Option Grouping) (all : List Env) → not (is_some group) ≡ true → Overflows group all → ⊥
no_group None all plain h = h
no_group (Some g) all plain h = absurd (let both : false ≡ true = plain in cc)

never_sums : (query : Query) → (not (is_some query.group) && has_no_fold query.from) ≡ true → (db : Trees) (params : Row) → QueryOverflows query db params → ⊥
never_sums query plain db params (inl h) = no_group query.group _ (and_parts (not (is_some query.group)) (has_no_fold query.from) plain).0 h
never_sums query plain db params (inr h) = no_fold query.from (and_parts (not (is_some query.group)) (has_no_fold query.from) plain).1 db (params ∷ []) h

-- ---- what is accepted is not refused

pub unread_by : {form : Form} (text : List ℕ) (params : Row) (query : Layout form → Query) (names : List (List ℕ)) → ((layout : Layout form) → Asks layout text (query layout) names) → IsAcceptedBy form text params
    → IsUnreadBy form text params
unread_by {form} text params query names asks accepted old new e has failed = by old.is_open refl
  where
    by : (b : Bool) → old.is_open ≡ b → IsUnread old new e
    by false shut = inr (inl (inl shut))
    by true is_open =
        let it = has is_open in
        let layout = it.0 in
        let schema = schema_of layout in
        let whole = and_parts (is_whole text (length params) (understood schema text)) (is_accepted_command schema params (command_of (understood schema text))) (accepted layout) in
        let fits : is_accepted_command schema params (Select (record { lets = []; body = query layout }) names) ≡ true =
        subst (λ command. is_accepted_command schema params command ≡ true) (asks layout).command whole.1 in
        let typed = and_parts (accepts schema (query layout) params) (not (is_some (query layout).group) && has_no_fold (query layout).from) fits in
        unread text params schema (query layout) names (asks layout).command (asks layout).own_tables (asks layout).plain whole.0 typed.0
        (λ db. never_sums (query layout) typed.1 db params) old new e it.1 failed

module _ {form : Form} (text : List ℕ) (params : Row) (is_unread : IsUnreadBy form text params) (old new : State) where
  -- a read that hands its rows on
  pub read_unread : {A : Type 0} (r : Result A Error) → IsSteadyOver form old → (HasCleanDisk new → IfErr r (λ e. FailsToQuery text params old new e ⊎ IsTooLate text params old new e)) → Survives old new (λ _. ⊥)
      → RefusesNoRead old new r
  read_unread (Ok a) steady failed survives clean = tt
  read_unread (Err e) steady failed survives clean =
      let early : HasCleanDisk old = omega (arith, clean, survives.clean) in
      is_unread old new e (λ is_open. (steady.ready early is_open).schema) (failed clean)

  -- one whose error is told on
  pub failed_unread : {A : Type 0} (e : Error) (given : Result A Error) → IsErrAnd given (λ d. d ≡ e) → IsSteadyOver form old
      → (HasCleanDisk new → FailsToQuery text params old new e ⊎ IsTooLate text params old new e) → Survives old new (λ _. ⊥) → RefusesNoRead old new given
  failed_unread {A} e given told steady failed survives = unread_told old new e given told (read_unread {A = A} (Err e) steady failed survives)

  -- a walk
  pub walk_unread : {A R : Type 0} (r : Result A (WalkFault R)) → IsIdleOver form old → (HasCleanDisk new → IfErr r (FailsAsQuery text params old new)) → Survives old new (λ _. ⊥) → RefusesNoWalk old new r
  walk_unread (Ok a) idle failed survives clean = tt
  walk_unread (Err (NoSink refusal)) idle failed survives clean = tt
  walk_unread (Err (NoRows e)) idle failed survives clean = elim (failed clean) [
    | inl memory ↦ inl memory
    | inr fails ↦ is_unread old new e (λ is_open. (idle.ready (omega (arith, clean, survives.clean)) is_open).schema) (inl fails)
  ]

-- a read failed behind those that answered, and its error is told on
pub unread_after : {form : Form} {A B D : Type 0} (a b c : State) (x : A) (e : Error) (given : Result D Error) (P : Database → A → Type 0) (Q : Database → B → Type 0) → IsErrAnd given (λ d. d ≡ e)
    → IsReadOf {E = Error} form a b (Ok x) P → IsReadOf {E = Error} form b c (Err e) Q → (HasCleanDisk c → IsUnread b c e) → RefusesNoRead a c given
unread_after a b c x e given P Q told one two lost =
    unread_told a c e given told (λ clean. unread_behind a b c e (λ _. ⊥) (λ _. ⊥) one.survives two.survives clean (lost clean))
