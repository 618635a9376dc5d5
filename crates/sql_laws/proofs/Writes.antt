-- What INSERT and DELETE make of the trees, where they have no RETURNING.
use Rattle.std.proofs.Common.{◌≡◌, ◌⊎◌, inl, inr, ℕ, ℤ, ◌/◌, List, [], length, false, Option, Some, None, slice_get, Result, Ok, Err, MatchBool, if◌then◌else◌, sym, ap, subst, ◌∙◌}
use Rattle.sqlite.specs.Order.{Row}
use Rattle.sqlite.specs.Tree.{Trees}
use Rattle.sqlite.specs.Term.{Term}
use Rattle.sqlite.specs.Effect.{Database, Answers, value_rows}
use Rattle.sqlite.specs.Rows.{Task, Gives, Written, stamped, rowids_for, count_of, Counts, CountsIn, sequence}
use Rattle.sqlite.specs.Does.{Tally, Does}
use Rattle.sqlite.specs.Source.TheVariants.{Values}
use Rattle.sqlite.specs.Command.TheVariants.{Insert, Delete}
use Rattle.sqlite_schema.specs.declared.program.Program.{Program}
use Rattle.sqlite.specs.declared.run.Mode.{Mode}
use Rattle.sqlite_schema.specs.declared.schema.Table.{Table}
use Rattle.sqlite_rules.specs.declared.error.Rowids.TheVariants.{Chosen, Above, Given}
use Rattle.sqlite_rules.specs.Edit.{edit_of}
use Rattle.sqlite_rules.specs.Action.{Writes}
use Rattle.sqlite_rules.specs.Calls.{ids_of}
use Rattle.std.specs.Ordering.{is_lt, int_cmp}

pub same_ok : {B E : Type 0} {a b : B} → ◌≡◌ {A = Result B E} (Ok a) (Ok b) → a ≡ b
same_ok e = cc

pub went_on : {A B E : Type 0} {Stops : E → Type 0} {Goes : A → Type 0} {Next : A → Type 0} {b : B}
    → ((stop : E) × Stops stop × (◌≡◌ {A = Result B E} (Ok b) (Err stop))) ⊎ ((a : A) × Goes a × Next a)
    → (a : A) × Goes a × Next a
went_on (inl stopped) = absurd (let e = stopped.2 in cc)
went_on (inr went) = went

pub chosen : (table : Table) (top : ℤ) → table.is_counted ≡ false → rowids_for table top ≡ Chosen
chosen table top plain = ap (λ b. if b then Above top else Chosen) plain

pub uncounted : (task : Task) (mid next : Trees) (counter : Option Row) (top : ℤ) → task.table.is_counted ≡ false
    → Counts task mid counter top (Ok next) → next ≡ mid
uncounted task mid next counter top plain h =
    same_ok (subst (λ b. MatchBool (if b then is_lt (int_cmp (count_of counter) top) else false) (CountsIn task mid counter top (sequence task.schema) (Ok next)) (Gives mid (Ok next))) plain h)

module _ (limit : Option ℕ) (mode : Mode) (params : Row) (old after : Database) (text : List ℕ) (at : ℕ) (table : Table) (tally : Tally) (there : slice_get old.schema.tables at ≡ Some table) where
  pub inserted : (terms : List Term) (width : ℕ) → table.is_counted ≡ false
      → Does limit mode params old text None (Insert at (Values terms width)) (Ok (tally, after))
      → (after.schema ≡ old.schema) × Writes old.schema mode.keys old.trees (edit_of old.trees table [] Chosen 0 (value_rows (stamped table params) width (length terms / width) terms)) (Ok after.trees)
  inserted terms width plain done =
      let whole = went_on (rw there at done) in
      let end = same_ok (went_on (went_on whole.2).2).2 in
      let given = went_on whole.1 in
      let counter = went_on given.2 in
      let edited = went_on counter.2 in
      let counts = went_on edited.2 in
      let last = ap (λ (w : Written). w.trees) (same_ok counts.2) in
      let now = ap (λ (p : Tally × Database). p.1) end in
      let mid = uncounted (record { limit = limit; keys = mode.keys; schema = old.schema; table = table; params = params }) edited.0 counts.0 counter.0 _ plain counts.1 in
      let trees : after.trees ≡ edited.0 = ap (λ (d : Database). d.trees) now ∙ last ∙ mid in
      let made = subst (λ rows. Writes old.schema mode.keys old.trees (edit_of old.trees table [] (rowids_for table (count_of counter.0)) 0 rows) (Ok edited.0)) given.1.1 edited.1 in
      let free = subst (λ ids. Writes old.schema mode.keys old.trees (edit_of old.trees table [] ids 0 (value_rows (stamped table params) width (length terms / width) terms)) (Ok edited.0)) (chosen table (count_of counter.0) plain) made in (
        ap (λ (d : Database). d.schema) now,
        subst (λ t. Writes old.schema mode.keys old.trees (edit_of old.trees table [] Chosen 0 (value_rows (stamped table params) width (length terms / width) terms)) (Ok t)) (sym trees) free,
      )

  pub deleted : (q : Program) → Does limit mode params old text None (Delete at q) (Ok (tally, after))
      → (after.schema ≡ old.schema) × (rows : List Row) × Answers old q params rows × Writes old.schema mode.keys old.trees (edit_of old.trees table (ids_of rows) Given 0 []) (Ok after.trees)
  deleted q done =
      let whole = went_on (rw there at done) in
      let end = same_ok (went_on (went_on whole.2).2).2 in
      let rows = went_on whole.1 in
      let next = went_on rows.2 in
      let last = ap (λ (w : Written). w.trees) (same_ok next.2) in
      let now = ap (λ (p : Tally × Database). p.1) end in
      let trees : after.trees ≡ next.0 = ap (λ (d : Database). d.trees) now ∙ last in
      (ap (λ (d : Database). d.schema) now, rows.0, rows.1, subst (λ t. Writes old.schema mode.keys old.trees (edit_of old.trees table (ids_of rows.0) Given 0 []) (Ok t)) (sym trees) next.1)
