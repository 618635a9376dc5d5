-- What INSERT .. ON CONFLICT (..) DO UPDATE makes of the trees, for one row.
use Rattle.std.proofs.Common.{◌≡◌, inl, inr, ℕ, ℤ, ◌/◌, List, [], ◌∷◌, length, false, Option, Some, None, slice_get, Ok, sym, ap, subst, ◌∙◌}
use Rattle.sqlite.specs.Order.{Row}
use Rattle.sqlite.specs.Tree.{Trees}
use Rattle.sqlite.specs.Term.{Term}
use Rattle.sqlite.specs.Effect.{Database, value_rows}
use Rattle.sqlite.specs.Rows.{Task, Written, nothing, stamped, rowids_for, count_of, Tries, TriesEach, Judged, Upserts, Meets, Clears, Puts}
use Rattle.sqlite.specs.Does.{Tally, Does}
use Rattle.sqlite.specs.Source.TheVariants.{Values}
use Rattle.sqlite.specs.Command.TheVariants.{InsertOr}
use Rattle.sqlite.specs.Cast.{cast_row}
use Rattle.sqlite_schema.specs.declared.command.Conflict.TheVariants.{Abort}
use Rattle.sqlite_schema.specs.declared.command.Upsert.{Upsert}
use Rattle.sqlite_schema.specs.declared.program.Program.{Program}
use Rattle.sqlite.specs.declared.run.Mode.{Mode}
use Rattle.sqlite_schema.specs.declared.schema.Table.{Table}
use Rattle.sqlite_rules.specs.declared.error.Rowids.TheVariants.{Chosen, Given}
use Rattle.sqlite_rules.specs.declared.error.Refusal.{Refusal}
use Rattle.sqlite_rules.specs.Edit.{edit_of, with_rowid}
use Rattle.sqlite_rules.specs.Action.{Writes}
use Rattle.sqlite_rules.specs.Keys.{AreConflicts}
use Rattle.sqlite_rules.specs.Steps.{IsJudged}
use Rattle.sqlite_rules.specs.Calls.{ids_of}
use Rattle.sql_laws.specs.Upserts.{PutsOrRenews}
use Rattle.sql_laws.proofs.Writes.{same_ok, went_on, chosen, uncounted}

module _ (task : Task) (target : Option (List ℕ)) (q : Program) (db : Trees) (new : Row) where
  clause : Upsert
  clause = record { target = target; update = Some q }

  puts : (one : Written) → Puts task new db (Ok one)
      → Writes task.schema task.keys db (edit_of db task.table [] Given 0 (new ∷ [])) (Ok one.trees)
  puts one h = let p = went_on h in subst (λ t. Writes task.schema task.keys db (edit_of db task.table [] Given 0 (new ∷ [])) (Ok t)) (sym (ap (λ (w : Written). w.trees) (same_ok p.2))) p.1

  otherwise : (one : Written) → Upserts task Abort new db [] (Ok one)
      → Writes task.schema task.keys db (edit_of db task.table [] Given 0 (new ∷ [])) (Ok one.trees)
  otherwise one h = cleared h.0 h.2
    where
      cleared : (found : List Row) → Clears task Abort new db found (Ok one)
          → Writes task.schema task.keys db (edit_of db task.table [] Given 0 (new ∷ [])) (Ok one.trees)
      cleared [] c = puts one c
      cleared (x ∷ more) c = puts one c

  upserts : (one : Written) → Upserts task Abort new db (record { target = target; update = Some q } ∷ []) (Ok one)
      → PutsOrRenews task.schema task.keys db one.trees task.table task.params new target q
  upserts one h = met h.0 h.1 h.2
    where
      met : (found : List Row) → AreConflicts target task.schema.indexes task.table (db task.table.tree) new found
          → Meets task (Upserts task Abort new db []) new db (record { target = target; update = Some q }) found (Ok one) → PutsOrRenews task.schema task.keys db one.trees task.table task.params new target q
      met [] are m = inl (are, otherwise one m)
      met (there ∷ more) are m =
          let rows = went_on m in
          let next = went_on rows.2 in
          inr (there, more, are, rows.0, rows.1, subst (λ t. Writes task.schema task.keys db (edit_of db task.table (ids_of rows.0) Given 1 rows.0) (Ok t)) (sym (ap (λ (w : Written). w.trees) (same_ok next.2))) next.1)

  tries : (one : Written) → Tries task Abort (record { target = target; update = Some q } ∷ []) new db (Ok one)
      → PutsOrRenews task.schema task.keys db one.trees task.table task.params new target q × IsJudged task.table new None
  tries one (inl unfit) = absurd (let e = unfit.1 in cc)
  tries one (inr judged) = by_verdict judged.0 judged.1 judged.2
    where
      by_verdict : (verdict : Option Refusal) → IsJudged task.table new verdict
          → Judged task Abort (record { target = target; update = Some q } ∷ []) new db verdict (Ok one)
          → PutsOrRenews task.schema task.keys db one.trees task.table task.params new target q × IsJudged task.table new None
      by_verdict None j h = (upserts one h, j)
      by_verdict (Some why) j h = absurd (let e = h in cc)

module _ (limit : Option ℕ) (mode : Mode) (params : Row) (old after : Database) (text : List ℕ) (at : ℕ) (table : Table) (tally : Tally) (there : slice_get old.schema.tables at ≡ Some table) where
  pub upserted : (terms : List Term) (width : ℕ) (source : Row) (target : Option (List ℕ)) (q : Program)
      → table.is_counted ≡ false
      → value_rows (stamped table params) width (length terms / width) terms ≡ source ∷ []
      → Does limit mode params old text None (InsertOr at Abort (Values terms width) (record { target = target; update = Some q } ∷ [])) (Ok (tally, after))
      → (after.schema ≡ old.schema) × PutsOrRenews old.schema mode.keys old.trees after.trees table params (with_rowid Chosen (old.trees table.tree) (cast_row table source)) target q
  upserted terms width source target q plain one done =
      let task : Task = record { limit = limit; keys = mode.keys; schema = old.schema; table = table; params = params } in
      let whole = went_on (rw there at done) in
      let end = same_ok (went_on (went_on whole.2).2).2 in
      let given = went_on whole.1 in
      let counter = went_on given.2 in
      let each = went_on counter.2 in
      let counts = went_on each.2 in
      let clauses : List Upsert = record { target = target; update = Some q } ∷ [] in
      let turn : TriesEach task Abort clauses (source ∷ []) (count_of counter.0) (nothing old.trees) (Ok each.0) =
      subst (λ rows. TriesEach task Abort clauses rows (count_of counter.0) (nothing old.trees) (Ok each.0)) (given.1.1 ∙ one) each.1 in
      let first = went_on turn in
      let tried = (tries task target q old.trees (with_rowid (rowids_for table (count_of counter.0)) (old.trees table.tree) (cast_row table source)) first.0 first.1).0 in
      let row_is = subst (λ ids. PutsOrRenews old.schema mode.keys old.trees first.0.trees table params (with_rowid ids (old.trees table.tree) (cast_row table source)) target q) (chosen table (count_of counter.0) plain) tried in
      let now = ap (λ (p : Tally × Database). p.1) end in
      let last = ap (λ (w : Written). w.trees) (same_ok counts.2) in
      let mid = uncounted task each.0.0.trees counts.0 counter.0 each.0.1 plain counts.1 in
      let tail = ap (λ (p : Written × ℤ). p.0.trees) (same_ok first.2) in
      let trees : after.trees ≡ first.0.trees = ap (λ (d : Database). d.trees) now ∙ last ∙ mid ∙ tail in (
        ap (λ (d : Database). d.schema) now,
        subst (λ t. PutsOrRenews old.schema mode.keys old.trees t table params (with_rowid Chosen (old.trees table.tree) (cast_row table source)) target q) (sym trees) row_is,
      )
