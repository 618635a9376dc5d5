-- What CREATE TABLE does to a database that has some of the tables.
use Rattle.std.proofs.Common.{◌≡◌, ◌⊎◌, ℕ, ◌+◌, ◌*◌, ◌^◌, List, [], ◌∷◌, ◌++◌, length, codes, Bool, true, false, not, None, Result, Ok, Err, OnOk, IsTrue, sym, ap, subst, ◌∙◌, inl, inr, arith}
use Rattle.std.specs.Prelude.{◌&&◌, nat_lt}
use Rattle.std.specs.List.{list_all}
use Rattle.std.specs.Str.{is_utf8, chars}
use Rattle.std.proofs.lemmas.List.Sums.{fold-append}
use Rattle.sqlite.specs.Effect.{Database}
use Rattle.sqlite.specs.declared.error.Error.{Error}
use Rattle.sqlite.specs.Schema.{Schema}
use Rattle.sqlite.specs.Table.{Table}
use Rattle.sqlite.specs.Tree.{Trees}
use Rattle.sqlite.specs.Command.TheVariants.{CreateTable}
use Rattle.sqlite.specs.Compile.{table_defined_by}
use Rattle.sqlite.specs.Change.{created, next_tree, KeepsRows}
use Rattle.sqlite.specs.Does.{Tally, lacks_sequence}
use Rattle.sqlite.specs.Listing.{understood}
use Rattle.sqlite.specs.State.{State, HasCleanDisk, Survives, Writes, Executes, ExecutesInside}
use Rattle.sqlite.proofs.Callers.{IsPlain, command_of, statement_of, runs_as}
use Rattle.sqlite.specs.declared.types.Value.TheVariants.{Text}
use Rattle.sqlite_catalog.specs.Change.{is_used, is_reserved, automatics}
use Rattle.sqlite_catalog.specs.Listing.{is_formed, is_fit}
use Rattle.sqlite_schema.specs.declared.schema.Index.{Index}
use Rattle.sqlite_schema.specs.Rules.{table_reals, index_reals}
use Rattle.sqlite_trees.specs.Sound as sound
use Rattle.sqlite_value.specs.Order.{value_cmp}
use Rattle.sqlite_rules.specs.Lists.{Has}
use Rattle.sqlite_rules.proofs.ListLemmas.{all_has, all_from, has_either}
use Rattle.sql_laws.proofs.Writes.{same_ok, went_on}
use Rattle.sql_laws.proofs.KeptCommits.{execute_keeps_commit}
use Rattle.sql_schema.specs.Inside.{StaysInside}
use Rattle.sql_schema.specs.Schema.{schema_with}
use Rattle.sql_schema.specs.Errors.{is_whole}
use Rattle.sql_schema.specs.Creation.{AreEmpty, HasTables, IsBegun, CreatesInside}

-- ---- what nothing refuses

-- no name that it makes is taken or reserved
abbrev pub has_free_names : Schema → Table → Bool
has_free_names schema table =
    is_utf8 table.name && (not (is_reserved table.name) && (not (is_used schema table.name) && list_all (λ (i : Index). not (is_used schema i.name)) (automatics table 0 0 table.uniques)))

-- no number of it is past what a file can tell
abbrev pub is_small : Schema → Table → List ℕ → Bool
is_small schema table text =
    nat_lt (next_tree schema + length table.uniques) 65536
    && (nat_lt (table_reals table) (2 ^ 64) && (list_all (λ (key : List ℕ). nat_lt (index_reals (table_reals table) key) (2 ^ 64)) table.uniques && nat_lt (2 * length table.name + length text + 200) (10 ^ 9)))

-- its text can be listed
abbrev pub is_listed : Table → List ℕ → Bool
is_listed table text = is_utf8 text && (is_formed table && is_fit (Text (codes "table")) (Text table.name) (Text table.name) (Text text))

abbrev pub is_allowed : Schema → Table → List ℕ → Bool
is_allowed schema table text = has_free_names schema table && (is_small schema table text && is_listed table text)

-- what unfolds when that is computed
unfoldable pub allowing : Unit {0}
unfolding is_utf8 chars lib.Utf8.encode value_cmp lib.Ieee.is_nan lib.Ieee.lt sound.same_name sound.begins sound.is_free_name sound.fits_kind
allowing = tt

-- The text makes this table after those.
pub record IsCreation (tables : List Table) (table : Table) (text : List ℕ) : Type 0 where
  pub command : command_of (understood (schema_with tables) text) ≡ CreateTable
  pub statement : statement_of text (understood (schema_with tables) text) ≡ text
  pub plain : IsPlain (understood (schema_with tables) text)
  pub defines : table_defined_by text ≡ Ok table
  pub uncounted : lacks_sequence (created (schema_with tables) table) ≡ false
  pub whole : is_whole text 0 (understood (schema_with tables) text) ≡ true
  pub allowed : is_allowed (schema_with tables) table text ≡ true

-- the new table is empty, and the others keep their rows
empty_after : (schema : Schema) (table : Table) (old new : Trees) → AreEmpty schema.tables old → KeepsRows schema.tables old new
    → new (next_tree schema) ≡ [] → AreEmpty (created schema table).tables new
empty_after schema table old new was kept fresh = all_from (λ t. new t.tree ≡ []) (created schema table).tables (λ t there. at t (has_either schema.tables _ t there))
  where
    at : (t : Table) → Has schema.tables t ⊎ Has (record table { tree = next_tree schema } ∷ []) t → new t.tree ≡ []
    at t (inl there) = all_has (λ (t : Table). new t.tree ≡ old t.tree) schema.tables t kept there ∙ all_has (λ (t : Table). old t.tree ≡ []) schema.tables t was there
    at t (inr (inl is)) = subst (λ (t : Table). new t.tree ≡ []) (sym is) fresh
    at t (inr (inr none)) = absurd none

module _ (tables : List Table) (table : Table) (text : List ℕ) (is : IsCreation tables table text) where
  creates : (old new : State) (count : ℕ) → HasTables tables old → Executes text [] old new (Ok count) → HasTables (tables ++ table ∷ []) new
  creates old new count has ran =
      let w = subst (λ t. Writes old new None CreateTable t [] count) is.statement (runs_as text [] old new (schema_with tables) has.schema CreateTable is.command is.plain count ran) in
      let whole = went_on w.changed in
      let first = went_on whole.1 in
      let made = first.1 in
      let same : made.table ≡ table = same_ok (sym made.defined ∙ is.defines) in
      let schema : first.0.schema ≡ created (schema_with tables) table = made.is ∙ ap (λ s. created s made.table) has.schema ∙ ap (created (schema_with tables)) same in
      let plain : lacks_sequence first.0.schema ≡ false = ap lacks_sequence schema ∙ is.uncounted in
      let now : new.now ≡ first.0 = ap (λ (p : Tally × Database). p.1) (same_ok whole.2) ∙ same_ok (rw plain at first.2) in
      let grown : created (schema_with tables) table ≡ schema_with (tables ++ table ∷ []) = sym (fold-append created _ tables (table ∷ [])) in
      let kept = subst (λ s. KeepsRows s.tables old.now.trees first.0.trees) has.schema made.others in
      let fresh = subst (λ s. first.0.trees (next_tree s) ≡ []) has.schema made.empty in
      let empty = empty_after (schema_with tables) table old.now.trees first.0.trees has.empty kept fresh in
      record {
        schema = ap (λ (d : Database). d.schema) now ∙ schema ∙ grown;
        sound = w.sound;
        empty = subst (λ s. AreEmpty s.tables new.now.trees) grown (subst (λ (d : Database). AreEmpty (created (schema_with tables) table).tables d.trees) (sym now) empty);
      }

  went : (old new : State) (r : Result ℕ Error) → (IsTrue old.is_open → HasTables tables old) → ExecutesInside 0 text [] old new r
      → OnOk r (HasTables (tables ++ table ∷ []) new) × OnOk r (StaysInside old new)
  went old new (Err e) has h = (tt, tt)
  went old new (Ok count) has h = (creates old new count (has h.1.was_open) h.0, record { inside = h.1.mode; is_open = h.1.is_open; committed = h.1.committed_is })

  -- the statement adds the table, or fails and commits nothing
  pub creates_inside : (old new : State) (r : Result ℕ Error) → IsBegun tables old
      → (HasCleanDisk new → IsTrue old.in_transaction → ExecutesInside 0 text [] old new r) → Survives old new (λ _. ⊥)
      → CreatesInside old new r (tables ++ table ∷ [])
  creates_inside old new r begun runs survives = record {
    made = λ clean. (at clean).0;
    stays = λ clean. (at clean).1;
    kept = λ clean. execute_keeps_commit text [] old new r (runs clean (begun.inside (early clean)));
    survives = survives;
  }
    where
      early : HasCleanDisk new → HasCleanDisk old
      early clean = omega (arith, survives.clean)

      at : HasCleanDisk new → OnOk r (HasTables (tables ++ table ∷ []) new) × OnOk r (StaysInside old new)
      at clean = went old new r (begun.has (early clean)) (runs clean (begun.inside (early clean)))
