-- What is refused blames no disk: an error that tells of the disk comes of a failure of it, whatever the statement.
use Rattle.std.proofs.Common.{◌≡◌, ◌⊎◌, inl, inr, ℕ, ℤ, zero, suc, List, [], ◌∷◌, ◌++◌, Bool, true, false, Option, Some, None, Result, Ok, Err, IsTrue, refl, sym, ap, subst, ◌∙◌, arith}
use Rattle.std.specs.Prelude.{MatchBool, option_map, slice_get, IfErr, is_some}
use Rattle.std.specs.Result.{IsErrAnd, result_and}
use Rattle.sqlite.specs.Disk.{MoreFaults}
use Rattle.sqlite.specs.Order.{Row}
use Rattle.sqlite.specs.Tree.{Trees}
use Rattle.sqlite.specs.Clock.{timed}
use Rattle.sqlite.specs.Effect.{Database, RefusesQuery, RefusesSource, RefusesToRead, RefusesToAlter, IsNoText, edit_error, alter_error}
use Rattle.sqlite.specs.Rows.{Outcome, Part, Gives, Refuses, Then, Queried, Sourced, Edited, Written, Task, Counter, CounterIn, Counts, CountsIn, Updates, Deletes, Inserts, Puts, Clears, Resolves, Meets, Upserts, Judged, Tries, TriesEach, InsertsOr, passes_over, nothing, stamped, sequence, shown, mended, rowids_for}
use Rattle.sqlite.specs.Does.{Does, AtPlace, MakesTable, MakesSequence, MakesIndex, MakesView, Leaves, Counted, Defines, IsKeptAside, Shows, Returns, Concludes, WritesRows, OnRows, Empties, UncountsIn, Drops, OnTable, Redefines, Tally}
use Rattle.sqlite_resolve.specs.declared.compiled.Compiled.{Compiled}
use Rattle.sqlite.specs.State.{State, HasCleanDisk, IsUnchanged, Survives, HasCause, Fails, FailsToQuery, FailsToShow, IsNotRun, IsNoStatement, IsTooLate, RunsCommand, RunsAlone, IsMisplaced, ExecutesIn, ExecutesInside, mode_of, store_error, text_of, shows_rows}
use Rattle.sqlite.specs.Steps.{FailsToCommit}
use Rattle.sqlite.specs.declared.error.Error.{Error}
use Rattle.sqlite.specs.declared.error.Error.TheVariants.{SqliteFailure, ExecuteReturnedResults, InvalidQuery}
use Rattle.sqlite.specs.declared.error.ErrorCode.TheVariants as code
use Rattle.sqlite.specs.declared.run.Mode.{Mode}
use Rattle.sqlite_trees.specs.declared.error.StoreError.{StoreError}
use Rattle.sqlite_trees.specs.declared.error.StoreError.TheVariants.{OutOfMemory, Io, Corrupt, Full, Broken, Unstorable}
use Rattle.sqlite_schema.specs.declared.schema.Constraint.TheVariants.{ForeignKey}
use Rattle.sqlite_schema.specs.declared.schema.Schema.{Schema}
use Rattle.sqlite_schema.specs.declared.schema.Table.{Table}
use Rattle.sqlite_schema.specs.declared.schema.Keys.{Keys}
use Rattle.sqlite_schema.specs.declared.program.Program.{Program}
use Rattle.sqlite_schema.specs.declared.command.Command.{Command}
use Rattle.sqlite_schema.specs.declared.command.Command.TheVariants.{Select, Insert, InsertOr, Update, Delete, CreateTable, CreateIndex, DropTable, DropIndex, Begin, Commit, Rollback, Savepoint, Release, RollbackTo, Nothing, CreateView, DropView, Rows}
use Rattle.sqlite_schema.specs.declared.command.Conflict.{Conflict}
use Rattle.sqlite_schema.specs.declared.command.Conflict.TheVariants.{Abort, Ignore, Replace}
use Rattle.sqlite_schema.specs.declared.command.Upsert.{Upsert}
use Rattle.sqlite_schema.specs.declared.command.Source.{Source}
use Rattle.sqlite_schema.specs.declared.command.Source.TheVariants as source
use Rattle.sqlite_schema.specs.declared.command.Returning.{Returning}
use Rattle.sqlite_rules.specs.declared.error.Refusal.{Refusal}
use Rattle.sqlite_rules.specs.declared.error.Refusal.TheVariants.{Violates, Mismatch, NoRowid, BadReference, TooDeep}
use Rattle.sqlite_rules.specs.Edit.{with_rowid}
use Rattle.sqlite_rules.specs.Cast.{cast_row}
use Rattle.sqlite_value.specs.declared.value.Value.TheVariants.{Null}
use Rattle.sqlite_catalog.specs.Change.{without_index, without_view}
use Rattle.sqlite_catalog.specs.Calls.{RefusesToDropIndex}
use Rattle.sqlite_catalog.specs.declared.error.Refusal as alter
use Rattle.sqlite_catalog.specs.declared.error.Refusal.TheVariants as why
use Rattle.sql_laws.specs.DiskErrors.{is_of_disk, HasFailed, BlamesTruly}

-- ---- what is refused

named : (e other : Error) → e ≡ other → is_of_disk other ≡ false → is_of_disk e ≡ false
named e other same mild = ap is_of_disk same ∙ mild

query_mild : {X Y Z : Type 0} (e : Error)
    → ((e ≡ SqliteFailure code.TypeMismatch) × X) ⊎ (((e ≡ SqliteFailure code.IntegerOverflow) × Y) ⊎ ((e ≡ SqliteFailure code.OperationInterrupted) × Z)) → is_of_disk e ≡ false
query_mild e (inl h) = named e _ h.0 refl
query_mild e (inr (inl h)) = named e _ h.0 refl
query_mild e (inr (inr h)) = named e _ h.0 refl

source_mild : (limit : Option ℕ) (db : Database) (params : Row) (from : Source) (e : Error) → RefusesSource limit db params from e → is_of_disk e ≡ false
source_mild limit db params (source.Values terms width) e (inl h) = named e _ h.0 refl
source_mild limit db params (source.Values terms width) e (inr h) = named e _ h.0 refl
source_mild limit db params (source.Query q) e h = query_mild e h

read_mild : (limit : Option ℕ) (command : Command) (db : Database) (params : Row) (e : Error) → RefusesToRead limit command db params e → is_of_disk e ≡ false
read_mild limit (Select q names) db params e h = query_mild e h
read_mild limit (Rows values width names) db params e h = named e _ h.0 refl
read_mild limit _ db params e h = named e _ h refl

edit_mild : (w : Refusal) → is_of_disk (edit_error w) ≡ false
edit_mild (Violates rule) = refl
edit_mild Mismatch = refl
edit_mild NoRowid = refl
edit_mild BadReference = refl
edit_mild TooDeep = refl

alter_mild : (w : alter.Refusal) → is_of_disk (alter_error w) ≡ false
alter_mild (why.Invalid e) = refl
alter_mild why.NameTaken = refl
alter_mild why.BadName = refl
alter_mild why.TooBig = refl
alter_mild why.BadKey = refl
alter_mild why.BadText = refl
alter_mild (why.Violates rule) = refl

-- ---- the parts of a statement

same_error : {A : Type 0} (e d : Error) → ◌≡◌ {A = Outcome A} (Err (Some e)) (Err (Some d)) → e ≡ d
same_error e d same = cc

-- a refusal is that of the first part or of what follows it
first_or_next : {A B : Type 0} {S : Option Error → Type 0} {T R : A → Type 0} {Q : Type 0} (e : Error)
    → ((stop : Option Error) × S stop × ◌≡◌ {A = Outcome B} (Err (Some e)) (Err stop)) ⊎ ((a : A) × T a × R a) → (S (Some e) → Q) → ((a : A) → R a → Q) → Q
first_or_next {A} {B} {S} e (inl (stop, first, same)) by_first by_next = by_first (subst S (let is : stop ≡ Some e = cc in is) first)
first_or_next e (inr (a, gave, next)) by_first by_next = by_next a next

either : {P Q R : Type 0} (b : Bool) → MatchBool b P Q → (P → R) → (Q → R) → R
either true h p q = p h
either false h p q = q h

-- what gives a value refuses nothing
gives_mild : {A : Type 0} {a : A} (e : Error) → ◌≡◌ {A = Outcome A} (Err (Some e)) (Ok a) → is_of_disk e ≡ false
gives_mild e h = absurd cc

refuses_mild : {A : Type 0} (e other : Error) → is_of_disk other ≡ false → ◌≡◌ {A = Outcome A} (Err (Some e)) (Err (Some other)) → is_of_disk e ≡ false
refuses_mild {A} e other mild h = named e other (same_error {A = A} e other h) mild

edited_mild : {W : Option Refusal → Type 0} (e : Error) → (w : Option Refusal) × W w × (Some e ≡ option_map edit_error w) → is_of_disk e ≡ false
edited_mild e (None, went, same) = absurd cc
edited_mild e (Some w, went, same) = let is : e ≡ edit_error w = cc in named e (edit_error w) is (edit_mild w)

tested_mild : {X : Type 0} (e : Error) → X × ◌≡◌ {A = Option Error} (Some e) (Some (SqliteFailure (code.ConstraintViolation ForeignKey))) → is_of_disk e ≡ false
tested_mild e (broken, same) = let is : e ≡ SqliteFailure (code.ConstraintViolation ForeignKey) = cc in named e _ is refl

-- ---- rows

module _ (task : Task) (e : Error) where
  counter_mild : (db : Trees) → Counter task db (Err (Some e)) → is_of_disk e ≡ false
  counter_mild db h = either task.table.is_counted h (within (sequence task.schema)) (gives_mild e)
    where
      within : (counters : Option Table) → CounterIn task db counters (Err (Some e)) → is_of_disk e ≡ false
      within None h = refuses_mild e InvalidQuery refl h
      within (Some counters) h = gives_mild e h

  counts_mild : (db : Trees) (counter : Option Row) (top : ℤ) → Counts task db counter top (Err (Some e)) → is_of_disk e ≡ false
  counts_mild db counter top h = either _ h (within (sequence task.schema)) (gives_mild e)
    where
      within : (counters : Option Table) → CountsIn task db counter top counters (Err (Some e)) → is_of_disk e ≡ false
      within None h = refuses_mild e InvalidQuery refl h
      within (Some counters) h = edited_mild e h

  updates_mild : (q : Program) (given : Row) (db : Trees) → Updates task q given db (Err (Some e)) → is_of_disk e ≡ false
  updates_mild q given db h = first_or_next e h (query_mild e) (λ rows h. first_or_next e h (edited_mild e) (λ next. gives_mild e))

  deletes_mild : (q : Program) (db : Trees) → Deletes task q db (Err (Some e)) → is_of_disk e ≡ false
  deletes_mild q db h = first_or_next e h (query_mild e) (λ rows h. first_or_next e h (edited_mild e) (λ next. gives_mild e))

  inserts_mild : (from : Source) (db : Trees) → Inserts task from db (Err (Some e)) → is_of_disk e ≡ false
  inserts_mild from db h =
      first_or_next e h (source_mild task.limit (record { schema = task.schema; trees = db }) (stamped task.table task.params) from e) (λ rows h. first_or_next e h (counter_mild db) (λ counter h.
      first_or_next e h (edited_mild e) (λ mid h. first_or_next e h (counts_mild mid counter _) (λ next. gives_mild e))))

  puts_mild : (new : Row) (db : Trees) → Puts task new db (Err (Some e)) → is_of_disk e ≡ false
  puts_mild new db h = first_or_next e h (edited_mild e) (λ next. gives_mild e)

  clears_mild : (way : Conflict) (new : Row) (db : Trees) (found : List Row) → Clears task way new db found (Err (Some e)) → is_of_disk e ≡ false
  clears_mild way new db [] h = puts_mild new db h
  clears_mild Abort new db (x ∷ more) h = puts_mild new db h
  clears_mild Ignore new db (x ∷ more) h = gives_mild e h
  clears_mild Replace new db (x ∷ more) h = first_or_next e h (edited_mild e) (puts_mild new)

  resolves_mild : (new : Row) (db : Trees) (there : Row) (update : Option Program) → Resolves task new db there update (Err (Some e)) → is_of_disk e ≡ false
  resolves_mild new db there None h = gives_mild e h
  resolves_mild new db there (Some q) h = updates_mild q _ db h

  meets_mild : (Otherwise : Part Written) (new : Row) (db : Trees) (clause : Upsert) (found : List Row) → (Otherwise (Err (Some e)) → is_of_disk e ≡ false)
      → Meets task Otherwise new db clause found (Err (Some e)) → is_of_disk e ≡ false
  meets_mild Otherwise new db clause [] mild h = mild h
  meets_mild Otherwise new db clause (there ∷ more) mild h = resolves_mild new db there clause.update h

  upserts_mild : (way : Conflict) (new : Row) (db : Trees) (clauses : List Upsert) → Upserts task way new db clauses (Err (Some e)) → is_of_disk e ≡ false
  upserts_mild way new db [] (found, are, h) = clears_mild way new db found h
  upserts_mild way new db (clause ∷ more) (found, are, h) = meets_mild (Upserts task way new db more) new db clause found (upserts_mild way new db more) h

  judged_mild : (way : Conflict) (clauses : List Upsert) (new : Row) (db : Trees) (verdict : Option Refusal) → Judged task way clauses new db verdict (Err (Some e)) → is_of_disk e ≡ false
  judged_mild way clauses new db None h = upserts_mild way new db clauses h
  judged_mild way clauses new db (Some w) h = either (passes_over way w) h (gives_mild e) (refuses_mild e (edit_error w) (edit_mild w))

  tries_mild : (way : Conflict) (clauses : List Upsert) (new : Row) (db : Trees) → Tries task way clauses new db (Err (Some e)) → is_of_disk e ≡ false
  tries_mild way clauses new db (inl h) = refuses_mild e (SqliteFailure code.NoRowid) refl h.1
  tries_mild way clauses new db (inr (verdict, judged, h)) = judged_mild way clauses new db verdict h

  tries_each_mild : (way : Conflict) (clauses : List Upsert) (rows : List Row) (top : ℤ) (done : Written) → TriesEach task way clauses rows top done (Err (Some e)) → is_of_disk e ≡ false
  tries_each_mild way clauses [] top done h = gives_mild e h
  tries_each_mild way clauses (row ∷ more) top done h = first_or_next e h (tries_mild way clauses (with_rowid (rowids_for task.table top) (done.trees task.table.tree) (cast_row task.table (mended way task.table row))) done.trees) (λ one. tries_each_mild way clauses more _ _)

  inserts_or_mild : (way : Conflict) (clauses : List Upsert) (from : Source) (db : Trees) → InsertsOr task way clauses from db (Err (Some e)) → is_of_disk e ≡ false
  inserts_or_mild way clauses from db h =
      first_or_next e h (source_mild task.limit (record { schema = task.schema; trees = db }) (stamped task.table task.params) from e) (λ rows h. first_or_next e h (counter_mild db) (λ counter h.
      first_or_next e h (tries_each_mild way clauses rows _ _) (λ done h. first_or_next e h (counts_mild done.0.trees counter _) (λ next. gives_mild e))))

  shows_mild : (what : Returning) (now : Trees) (rows : List Row) → Shows task what now rows (Err (Some e)) → is_of_disk e ≡ false
  shows_mild what now [] h = gives_mild e h
  shows_mild what now (row ∷ more) h =
      first_or_next e h (source_mild task.limit (record { schema = task.schema; trees = now }) (task.params ++ Null ∷ shown task.table row) what.row e) (λ first h. first_or_next e h (shows_mild what now more) (λ others. gives_mild e))

  counted_mild : (limit : Option ℕ) (rows : List Row) → Counted limit rows (Err (Some e)) → is_of_disk e ≡ false
  counted_mild limit rows (set, same) = let is : e ≡ SqliteFailure code.OperationInterrupted = cc in named e _ is refl

  returns_mild : (w : Written) (returning : Option Returning) → Returns task w returning (Err (Some e)) → is_of_disk e ≡ false
  returns_mild w None h = gives_mild e h
  returns_mild w (Some what) h = first_or_next e h (shows_mild what w.trees w.rows) (λ rows h. first_or_next e h (counted_mild _ rows) (λ _. gives_mild e))

  concludes_mild : (mode : Mode) (returning : Option Returning) (w : Written) → Concludes task mode returning w (Err (Some e)) → is_of_disk e ≡ false
  concludes_mild mode returning w h = first_or_next e h (tested_mild e) (λ in_doubt h. first_or_next e h (returns_mild w returning) (λ rows. gives_mild e))

  writes_rows_mild : (db : Trees) (command : Command) → WritesRows task db command (Err (Some e)) → is_of_disk e ≡ false
  writes_rows_mild db (Insert at from) h = inserts_mild from db h
  writes_rows_mild db (InsertOr at way from clauses) h = inserts_or_mild way clauses from db h
  writes_rows_mild db (Update at q) h = updates_mild q task.params db h
  writes_rows_mild db (Delete at q) h = deletes_mild q db h
  writes_rows_mild db _ h = refuses_mild e InvalidQuery refl h

  on_rows_mild : (mode : Mode) (returning : Option Returning) (command : Command) (db : Trees) → OnRows task mode returning command db (Err (Some e)) → is_of_disk e ≡ false
  on_rows_mild mode returning command db h = first_or_next e h (writes_rows_mild db command) (concludes_mild mode returning)

  empties_mild : (db : Trees) → Empties task db (Err (Some e)) → is_of_disk e ≡ false
  empties_mild db h = either _ h (edited_mild e) (gives_mild e)

  uncounts_mild : (db : Trees) (counters : Option Table) → UncountsIn task db counters (Err (Some e)) → is_of_disk e ≡ false
  uncounts_mild db None h = gives_mild e h
  uncounts_mild db (Some counters) h = first_or_next e h (counter_mild db) (λ counter. edited_mild e)

  drops_mild : (mode : Mode) (db : Trees) → Drops task mode db (Err (Some e)) → is_of_disk e ≡ false
  drops_mild mode db h =
      first_or_next e h (empties_mild db) (λ emptied h. first_or_next e h (uncounts_mild emptied _) (λ now h. first_or_next e h (tested_mild e) (λ in_doubt h.
      first_or_next e h (λ never. absurd never) (λ after. gives_mild e))))

-- ---- tables, indexes and views

module _ (e : Error) where
  refused_mild : (Refuses : alter.Refusal → Type 0) → RefusesToAlter Refuses e → is_of_disk e ≡ false
  refused_mild Refuses (reason, refuses, is) = named e (alter_error reason) is (alter_mild reason)

  text_mild : (text : List ℕ) (Refuses : alter.Refusal → Type 0) → IsNoText text e ⊎ RefusesToAlter Refuses e → is_of_disk e ≡ false
  text_mild text Refuses (inl h) = named e _ h.1 refl
  text_mild text Refuses (inr h) = refused_mild Refuses h

  aside_mild : {X : Type 0} → X × (e ≡ SqliteFailure code.BadName) → is_of_disk e ≡ false
  aside_mild h = named e _ h.1 refl

  defines_mild : {B : Type 0} {S : Option Error → Type 0} {T : Database → Type 0} {a : Database → B}
      → ((stop : Option Error) × S stop × ◌≡◌ {A = Outcome B} (Err (Some e)) (Err stop)) ⊎ ((after : Database) × T after × ◌≡◌ {A = Outcome B} (Err (Some e)) (Ok (a after)))
      → (S (Some e) → is_of_disk e ≡ false) → is_of_disk e ≡ false
  defines_mild h mild = first_or_next e h mild (λ after. gives_mild e)

  at_place_mild : {X A : Type 0} (P : X → Part A) (x : Option X) → AtPlace P x (Err (Some e)) → ((y : X) → P y (Err (Some e)) → is_of_disk e ≡ false) → is_of_disk e ≡ false
  at_place_mild P None h mild = refuses_mild e InvalidQuery refl h
  at_place_mild P (Some x) h mild = mild x h

  module _ (limit : Option ℕ) (mode : Mode) (params : Row) (db : Database) where
    abbrev on_table : Table → Task
    on_table table = record { limit = limit; keys = mode.keys; schema = db.schema; table = table; params = params }

    redefines_mild : (text : List ℕ) (command : Command) → Redefines limit mode params db text command (Err (Some e)) → is_of_disk e ≡ false
    redefines_mild text CreateTable h =
        defines_mild h (λ h. first_or_next e h (text_mild text _) (λ after h. either _ h (text_mild _ _) (gives_mild e)))
    redefines_mild text (CreateIndex at) h = at_place_mild (λ table. Defines mode (MakesIndex text db table)) (slice_get db.schema.tables at) h (λ table h. defines_mild h (text_mild text _))
    redefines_mild text CreateView h = defines_mild h (text_mild text _)
    redefines_mild text (DropTable at) h = at_place_mild (λ table. Drops (on_table table) mode db.trees) (slice_get db.schema.tables at) h (λ table h. drops_mild (on_table table) e mode db.trees h)
    redefines_mild text (DropIndex at) h =
        at_place_mild (λ index. Defines mode (Leaves (without_index db.schema index.tree) db.trees (RefusesToAlter (RefusesToDropIndex index)))) (slice_get db.schema.indexes at) h (λ index h. defines_mild h (refused_mild _))
    redefines_mild text (DropView at) h =
        at_place_mild (λ view. Defines mode (Leaves (without_view db.schema view.tree) db.trees (IsKeptAside view))) (slice_get db.schema.views at) h (λ view h. defines_mild h aside_mild)
    redefines_mild text _ h = refuses_mild e InvalidQuery refl h

    does_mild : (text : List ℕ) (returning : Option Returning) (command : Command) → Does limit mode params db text returning command (Err (Some e)) → is_of_disk e ≡ false
    does_mild text returning (Insert at from) h =
        at_place_mild (λ table. OnRows (on_table table) mode returning (Insert at from) db.trees) (slice_get db.schema.tables at) h (λ table h. on_rows_mild (on_table table) e mode returning (Insert at from) db.trees h)
    does_mild text returning (InsertOr at way from clauses) h =
        at_place_mild (λ table. OnRows (on_table table) mode returning (InsertOr at way from clauses) db.trees) (slice_get db.schema.tables at) h (λ table h. on_rows_mild (on_table table) e mode returning (InsertOr at way from clauses) db.trees h)
    does_mild text returning (Update at q) h =
        at_place_mild (λ table. OnRows (on_table table) mode returning (Update at q) db.trees) (slice_get db.schema.tables at) h (λ table h. on_rows_mild (on_table table) e mode returning (Update at q) db.trees h)
    does_mild text returning (Delete at q) h =
        at_place_mild (λ table. OnRows (on_table table) mode returning (Delete at q) db.trees) (slice_get db.schema.tables at) h (λ table h. on_rows_mild (on_table table) e mode returning (Delete at q) db.trees h)
    does_mild text returning command h = either (is_some returning) h (refuses_mild e InvalidQuery refl) (redefines_mild text command)

-- ---- whole statements

module _ (old new : State) (e : Error) where
  mild_then : is_of_disk e ≡ false → is_of_disk e ≡ true → HasFailed old new
  mild_then mild blamed = absurd (let never : false ≡ true = sym mild ∙ blamed in cc)

  pub failed_of_disk : (too_big : Type 0) → Fails old new too_big e → is_of_disk e ≡ true → HasFailed old new
  failed_of_disk too_big h blamed = by h.0 h.1 h.2
    where
      by : (cause : StoreError) → e ≡ store_error cause → HasCause old new too_big cause → HasFailed old new
      by OutOfMemory is h = mild_then (named e _ is refl) blamed
      by Io is h = inr h
      by Corrupt is h = inr h
      by Full is h = inr h
      by Broken is h = inl h
      by Unstorable is h = mild_then (named e _ is refl) blamed

  no_statement_mild : (sql : List ℕ) (params : Row) → IsNoStatement old sql params e → is_of_disk e ≡ false
  no_statement_mild sql params (inl h) = named e _ h.2 refl
  no_statement_mild sql params (inr (c, is, inl h)) = named e _ h.1 refl
  no_statement_mild sql params (inr (c, is, inr (inl h))) = named e _ h.1 refl
  no_statement_mild sql params (inr (c, is, inr (inr h))) = named e _ h.1 refl

  not_run_of_disk : (sql : List ℕ) (params : Row) → IsNotRun old new sql params e → is_of_disk e ≡ true → HasFailed old new
  unfolding IsNotRun
  not_run_of_disk sql params (inl h) = mild_then (no_statement_mild sql params h.0)
  not_run_of_disk sql params (inr h) = failed_of_disk ⊥ h

  misplaced_mild : (s : State) (command : Command) → IsMisplaced s command e → is_of_disk e ≡ false
  misplaced_mild s command (inl h) = named e _ h.0 refl
  misplaced_mild s command (inr h) = named e _ h.0 refl

  command_of_disk : (sql : List ℕ) (c : Compiled) (params : Row) → RunsCommand old new sql c params (Err e) → is_of_disk e ≡ true → HasFailed old new
  command_of_disk sql c params (inl (inl h, same)) = mild_then (misplaced_mild old c.command h)
  command_of_disk sql c params (inl (inr h, same)) = mild_then (does_mild e old.step_limit (mode_of old) params old.now (text_of sql c) c.returning c.command h.1)
  command_of_disk sql c params (inr h) = failed_of_disk _ h

  alone_of_disk : (in_batch : Bool) (sql : List ℕ) (c : Compiled) (params : Row) → RunsAlone in_batch old new sql c params (Err e) → is_of_disk e ≡ true → HasFailed old new
  alone_of_disk in_batch sql c params h = by (shows_rows in_batch c) h
    where
      by : (b : Bool) → MatchBool b ((◌≡◌ {A = Result ℕ Error} (Err e) (Err ExecuteReturnedResults)) × IsUnchanged old new) (RunsCommand old new sql c params (Err e)) → is_of_disk e ≡ true → HasFailed old new
      by true h = mild_then (named e ExecuteReturnedResults (let same = h.0 in cc) refl)
      by false h = command_of_disk sql c params h

  pub query_of_disk : (sql : List ℕ) (params : Row) → FailsToQuery sql params old new e ⊎ IsTooLate sql params old new e → is_of_disk e ≡ true → HasFailed old new
  unfolding FailsToQuery
  query_of_disk sql params (inl (inl h)) = not_run_of_disk sql params h
  query_of_disk sql params (inl (inr (c, it, h))) = by c.returning h
    where
      by : (r : Option Returning) → FailsToShow old new sql c (timed params c.formats it.now) e r → is_of_disk e ≡ true → HasFailed old new
      by None h = mild_then (read_mild old.step_limit c.command h.0 (timed params c.formats it.now) e h.2)
      by (Some what) h = command_of_disk sql c (timed params c.formats it.now) h
  query_of_disk sql params (inr h) = mild_then (named e _ h.4 refl)

  pub execute_of_disk : (held : ℕ) (sql : List ℕ) (params : Row) → ExecutesInside held sql params old new (Err e) → is_of_disk e ≡ true → HasFailed old new
  unfolding ExecutesIn
  execute_of_disk held sql params (inl (inl h, how)) = not_run_of_disk sql params h
  execute_of_disk held sql params (inl (inr (c, it, h), how)) = alone_of_disk false sql c (timed params c.formats it.now) h
  execute_of_disk held sql params (inr h) = mild_then (named e _ h.1 refl)

  pub commit_of_disk : FailsToCommit old new e → is_of_disk e ≡ true → HasFailed old new
  commit_of_disk (inl h) = failed_of_disk ⊥ h
  commit_of_disk (inr h) = mild_then (named e _ h.0 refl)

-- ---- what a call tells

module _ {A : Type 0} (sql : List ℕ) (params : Row) (old new : State) where
  pub query_blames : (r : Result A Error) → (HasCleanDisk new → IfErr r (λ e. FailsToQuery sql params old new e ⊎ IsTooLate sql params old new e)) → BlamesTruly old new r
  query_blames (Ok a) fails clean = tt
  query_blames (Err e) fails clean = query_of_disk old new e sql params (fails clean)

  -- and what is told on of its error
  pub failed_query_blames : (e : Error) (given : Result A Error) → IsErrAnd given (λ d. d ≡ e) → (HasCleanDisk new → FailsToQuery sql params old new e ⊎ IsTooLate sql params old new e)
      → BlamesTruly old new given
  failed_query_blames e (Ok a) told fails clean = tt
  failed_query_blames e (Err d) told fails clean = subst (λ x. is_of_disk x ≡ true → HasFailed old new) (sym told) (query_of_disk old new e sql params (fails clean))

  -- outside a transaction nothing is run
  pub execute_blames : {X : Type 0} (r : Result ℕ Error) (given : Result A Error) → (old.in_transaction ≡ false → (r ≡ Err (SqliteFailure code.TransactionState)) × X)
      → (HasCleanDisk new → IsTrue old.in_transaction → ExecutesInside 0 sql params old new r) → (a : A) → given ≡ result_and r (Ok a) → BlamesTruly old new given
  execute_blames {X} r given ended runs a is = subst (BlamesTruly old new) (sym is) (by r old.in_transaction refl ended runs)
    where
      by : (r : Result ℕ Error) (inside : Bool) → old.in_transaction ≡ inside → (old.in_transaction ≡ false → (r ≡ Err (SqliteFailure code.TransactionState)) × X)
          → (HasCleanDisk new → IsTrue old.in_transaction → ExecutesInside 0 sql params old new r) → BlamesTruly old new (result_and r (Ok a))
      by (Ok count) inside was ended runs clean = tt
      by (Err e) true was ended runs clean = execute_of_disk old new e 0 sql params (runs clean was)
      by (Err e) false was ended runs clean = mild_then old new e (named e (SqliteFailure code.TransactionState) (let same : ◌≡◌ {A = Result ℕ Error} (Err e) (Err (SqliteFailure code.TransactionState)) = (ended was).0 in cc) refl)

-- ---- one call after another

module _ (a b c : State) where
  -- what failed in the first part failed in the whole
  pub failed_before : (P : Trees → Type 0) → HasFailed a b → Survives b c P → HasFailed a c
  failed_before P (inl shut) after = inl shut
  failed_before P (inr more) after = inr (omega (arith, more, after.counts))

  -- and so did what failed in the second: a connection that it found shut was so before, or the disk failed in the first
  pub failed_behind : (P Q : Trees → Type 0) → Survives a b P → Survives b c Q → HasCleanDisk c → HasFailed b c → HasFailed a c
  failed_behind P Q before after clean (inr more) = inr (omega (arith, more, before.counts))
  failed_behind P Q before after clean (inl shut) = by a.is_open refl
    where
      later : IsTrue b.is_open ⊎ MoreFaults a.faults b.faults → HasFailed a c
      later (inl is_open) = absurd (let never : true ≡ false = sym is_open ∙ shut in cc)
      later (inr more) = inr (omega (arith, more, after.counts))

      by : (o : Bool) → a.is_open ≡ o → HasFailed a c
      by false is = inl is
      by true is = later (before.closes (omega (arith, clean, after.clean)) is)

module _ {A : Type 0} (a b c : State) where
  -- an error that is told on as it is
  pub told_on : (e : Error) (given : Result A Error) → IsErrAnd given (λ d. d ≡ e) → (HasCleanDisk b → is_of_disk e ≡ true → HasFailed a b) → BlamesTruly a b given
  told_on e (Ok x) told blames clean = tt
  told_on e (Err d) told blames clean = subst (λ x. is_of_disk x ≡ true → HasFailed a b) (sym told) (blames clean)

  -- a call behind one that answered
  pub blames_behind : (P Q : Trees → Type 0) (r : Result A Error) → Survives a b P → Survives b c Q → BlamesTruly b c r → BlamesTruly a c r
  blames_behind P Q (Ok x) before after blames clean = tt
  blames_behind P Q (Err e) before after blames clean = λ blamed. failed_behind a b c P Q before after clean (blames clean blamed)

  -- what came behind it, as the end of a transaction, changes nothing
  pub blames_before : (Q : Trees → Type 0) (r : Result A Error) → BlamesTruly a b r → Survives b c Q → BlamesTruly a c r
  blames_before Q (Ok x) blames after clean = tt
  blames_before Q (Err e) blames after clean = λ blamed. failed_before a b c Q (blames (omega (arith, clean, after.clean)) blamed) after

-- the end of a transaction
module _ {A : Type 0} (old new : State) where
  pub commit_blames : {U : Type 0} (r : Result U Error) (given : Result A Error) → (HasCleanDisk new → IfErr r (FailsToCommit old new)) → (a : A) → given ≡ result_and r (Ok a) → BlamesTruly old new given
  commit_blames {U} r given fails a is = subst (BlamesTruly old new) (sym is) (by r fails)
    where
      by : (r : Result U Error) → (HasCleanDisk new → IfErr r (FailsToCommit old new)) → BlamesTruly old new (result_and r (Ok a))
      by (Ok u) fails clean = tt
      by (Err e) fails clean = commit_of_disk old new e (fails clean)

  pub failed_commit_blames : (e : Error) (given : Result A Error) → IsErrAnd given (λ d. d ≡ e) → (HasCleanDisk new → FailsToCommit old new e) → BlamesTruly old new given
  failed_commit_blames e (Ok x) told fails clean = tt
  failed_commit_blames e (Err d) told fails clean = subst (λ x. is_of_disk x ≡ true → HasFailed old new) (sym told) (commit_of_disk old new e (fails clean))
