-- Tables that are made beside those of an office: what each text makes, and what there is after each of them.
use Rattle.std.proofs.Common.{◌≡◌, ◌⊎◌, inl, inr, ℕ, zero, suc, ◌+◌, ◌<◌, ◌≤◌, List, [], ◌∷◌, ◌++◌, take, get_or, find, Bool, true, false, cond, append_assoc, Option, Some, None, Result, Ok, Err, OnOk, IsTrue, refl, sym, ap, subst, ◌∙◌, codes, arith}
use Rattle.std.specs.Result.{IsErr}
use Rattle.std.specs.Option.{option_map_or}
use Rattle.std.specs.List.{AllByRecursion}
use Rattle.std.proofs.lemmas.List.{take_all}
use Rattle.std.proofs.lemmas.List.Sums.{fold-append}
use Rattle.sqlite.specs.Effect.{Database}
use Rattle.sqlite.specs.declared.error.Error.{Error}
use Rattle.sqlite.specs.Held.{Held, state}
use Rattle.sqlite.specs.Schema.{Schema}
use Rattle.sqlite.specs.Table.{Table}
use Rattle.sqlite.specs.Tree.{Trees}
use Rattle.sqlite.specs.Command.TheVariants.{CreateTable}
use Rattle.sqlite.specs.Change.{created, next_tree, KeepsRows}
use Rattle.sqlite.specs.Does.{Tally, lacks_sequence}
use Rattle.sqlite.specs.Listing.{understood}
use Rattle.sqlite.specs.State.{State, HasCleanDisk, Survives, Writes, Executes, ExecutesInside}
use Rattle.sqlite.proofs.Callers.{runs_as}
use Rattle.sqlite.proofs.StateLemmas.{survives_then}
use Rattle.sqlite_trees.specs.declared.store.Store as store
use Rattle.sqlite_tied.specs.Compute.{everything}
use Rattle.sqlite_rules.specs.Lists.{Has}
use Rattle.sqlite_rules.proofs.ListLemmas.{all_has, some_has}
use Rattle.sql_laws.specs.ApartRows.{AreApart}
use Rattle.sql_laws.proofs.Writes.{same_ok, went_on}
use Rattle.sql_laws.proofs.KeptCommits.{execute_keeps_commit}
use Rattle.sql_laws.proofs.RowMaps.{texts_are_one}
use Rattle.sql_schema.specs.Schema.{schema_with, domain_tables, domain_table, d_template_table, d_language_table, d_unit_table, d_suggestion_table, d_vote_table, d_vote_sum_table, d_tally_table}
use Rattle.sql_schema.specs.declared.new_tables.TheConstants.{DOMAIN, D_TEMPLATE, D_LANGUAGE, D_UNIT, D_SUGGESTION, D_VOTE, D_VOTE_SUM, D_TALLY}
use Rattle.sql_schema.specs.Layouts.{Form, for_main, by_domain, Layout, made_new, made_second, from_first, from_second, tables_for_main, tables_of, schema_of, IsLaidOut, is_named, own_tables, is_own_table, NamedRows, rows_in, rows_named}
use Rattle.sql_schema.specs.Inside.{AreTablesOf, AreOfficeTablesOf, IsSteadyOver, IsInsideOf, StaysInside}
use Rattle.sql_schema.specs.Creation.{KeepsNamedRows, HasMoreTables, IsMaking}
use Rattle.sql_schema.proofs.Creations.{IsCreation, allowing}
use Rattle.sql_schema.proofs.Layouts.{record_placed, team_placed, policy_placed}
use Rattle.sql_schema.proofs.TablesSoFar.{none_apart}
use Rattle.sql_schema.proofs.Losses.{IsLost, lost_behind}
use Rattle.sql_schema.proofs.Unrefused.{creation_lost}

-- ---- rows by names, where a table comes

-- the rows of each name stay: those of the new table's are none, as they were
named_after : (name : List ℕ) (tables : List Table) (table : Table) (old new : Trees) → AllByRecursion (λ t. new t.tree ≡ old t.tree) tables → new table.tree ≡ []
    → option_map_or (λ (t : Table). new t.tree) (find (is_named name) (tables ++ table ∷ [])) [] ≡ option_map_or (λ (t : Table). old t.tree) (find (is_named name) tables) []
named_after name [] table old new kept fresh = by (is_named name table)
  where
    by : (b : Bool) → option_map_or (λ (t : Table). new t.tree) (cond b (Some table) None) [] ≡ []
    by true = fresh
    by false = refl
named_after name (t ∷ tables) table old new kept fresh = by (named_after name tables table old new kept.1 fresh) (is_named name t)
  where
    by : option_map_or (λ (t : Table). new t.tree) (find (is_named name) (tables ++ table ∷ [])) [] ≡ option_map_or (λ (t : Table). old t.tree) (find (is_named name) tables) []
        → (b : Bool) → option_map_or (λ (t : Table). new t.tree) (cond b (Some t) (find (is_named name) (tables ++ table ∷ []))) []
        ≡ option_map_or (λ (t : Table). old t.tree) (cond b (Some t) (find (is_named name) tables)) []
    by rest true = kept.0
    by rest false = rest

-- ---- one text

module _ (before : Database) (tables : List Table) (table : Table) (text : List ℕ) (is : IsCreation tables table text) where
  creates : (old new : State) (count : ℕ) → HasMoreTables before tables old → Executes text [] old new (Ok count) → HasMoreTables before (tables ++ table ∷ []) new
  creates old new count has ran =
      let w = subst (λ t. Writes old new None CreateTable t [] count) is.statement (runs_as text [] old new (schema_with tables) has.schema CreateTable is.command is.plain count ran) in
      let whole = went_on w.changed in
      let first = went_on whole.1 in
      let made = first.1 in
      let same : made.table ≡ table = same_ok (sym made.defined ∙ is.defines) in
      let schema : first.0.schema ≡ created (schema_with tables) table = made.is ∙ ap (λ s. created s made.table) has.schema ∙ ap (created (schema_with tables)) same in
      let plain : lacks_sequence first.0.schema ≡ false = ap lacks_sequence schema ∙ is.uncounted in
      let now : new.now ≡ first.0 = ap (λ (p : Tally × Database). p.1) (same_ok whole.2) ∙ same_ok (rw plain at first.2) in
      let grown : created (schema_with tables) table ≡ schema_with (tables ++ table ∷ []) = sym (fold-append created _ tables (table ∷ [])) in
      let kept : KeepsRows (schema_with tables).tables old.now.trees first.0.trees = subst (λ s. KeepsRows s.tables old.now.trees first.0.trees) has.schema made.others in
      let fresh : first.0.trees (next_tree (schema_with tables)) ≡ [] = subst (λ s. first.0.trees (next_tree s) ≡ []) has.schema made.empty in
      let rows : (name : List ℕ) → rows_named first.0 name ≡ rows_named old.now name = λ name.
      ap (λ (s : Schema). rows_in s first.0.trees name) schema
      ∙ named_after name (schema_with tables).tables (record table { tree = next_tree (schema_with tables) }) old.now.trees first.0.trees kept fresh
      ∙ sym (ap (λ (s : Schema). rows_in s old.now.trees name) has.schema) in
      record {
        schema = ap (λ (d : Database). d.schema) now ∙ schema ∙ grown;
        sound = w.sound;
        rows = λ name. ap (λ (d : Database). rows_named d name) now ∙ rows name ∙ has.rows name;
      }

  went : (old new : State) (r : Result ℕ Error) → (IsTrue old.is_open → HasMoreTables before tables old) → ExecutesInside 0 text [] old new r
      → OnOk r (HasMoreTables before (tables ++ table ∷ []) new) × OnOk r (StaysInside old new)
  went old new (Err e) has h = (tt, tt)
  went old new (Ok count) has h = (creates old new count (has h.1.was_open) h.0, record { inside = h.1.mode; is_open = h.1.is_open; committed = h.1.committed_is })

  creates_inside : (old new : State) (r : Result ℕ Error) → (HasCleanDisk old → IsTrue old.in_transaction) → (HasCleanDisk old → IsTrue old.is_open → HasMoreTables before tables old)
      → (HasCleanDisk new → IsTrue old.in_transaction → ExecutesInside 0 text [] old new r) → Survives old new (λ _. ⊥)
      → IsMaking (HasMoreTables before (tables ++ table ∷ [])) old new r
  creates_inside old new r inside has runs survives = record {
    made = λ clean. (at clean).0;
    stays = λ clean. (at clean).1;
    kept = λ clean. execute_keeps_commit text [] old new r (runs clean (inside (early clean)));
    survives = survives;
  }
    where
      early : HasCleanDisk new → HasCleanDisk old
      early clean = omega (arith, survives.clean)

      at : HasCleanDisk new → OnOk r (HasMoreTables before (tables ++ table ∷ []) new) × OnOk r (StaysInside old new)
      at clean = went old new r (has (early clean)) (runs clean (inside (early clean)))

-- ---- what each text makes, behind an office's tables without a column for a domain

makes_domain : (figures : Bool) → IsCreation (tables_for_main figures ++ take 0 domain_tables) domain_table DOMAIN.now
unfolding understood everything allowing
makes_domain false = record { command = refl; statement = refl; plain = (refl, refl); defines = refl; uncounted = refl; whole = refl; allowed = refl }
makes_domain true = record { command = refl; statement = refl; plain = (refl, refl); defines = refl; uncounted = refl; whole = refl; allowed = refl }

makes_template : (figures : Bool) → IsCreation (tables_for_main figures ++ take 1 domain_tables) d_template_table D_TEMPLATE.now
unfolding understood everything allowing
makes_template false = record { command = refl; statement = refl; plain = (refl, refl); defines = refl; uncounted = refl; whole = refl; allowed = refl }
makes_template true = record { command = refl; statement = refl; plain = (refl, refl); defines = refl; uncounted = refl; whole = refl; allowed = refl }

makes_language : (figures : Bool) → IsCreation (tables_for_main figures ++ take 2 domain_tables) d_language_table D_LANGUAGE.now
unfolding understood everything allowing
makes_language false = record { command = refl; statement = refl; plain = (refl, refl); defines = refl; uncounted = refl; whole = refl; allowed = refl }
makes_language true = record { command = refl; statement = refl; plain = (refl, refl); defines = refl; uncounted = refl; whole = refl; allowed = refl }

makes_unit : (figures : Bool) → IsCreation (tables_for_main figures ++ take 3 domain_tables) d_unit_table D_UNIT.now
unfolding understood everything allowing
makes_unit false = record { command = refl; statement = refl; plain = (refl, refl); defines = refl; uncounted = refl; whole = refl; allowed = refl }
makes_unit true = record { command = refl; statement = refl; plain = (refl, refl); defines = refl; uncounted = refl; whole = refl; allowed = refl }

makes_suggestion : (figures : Bool) → IsCreation (tables_for_main figures ++ take 4 domain_tables) d_suggestion_table D_SUGGESTION.now
unfolding understood everything allowing
makes_suggestion false = record { command = refl; statement = refl; plain = (refl, refl); defines = refl; uncounted = refl; whole = refl; allowed = refl }
makes_suggestion true = record { command = refl; statement = refl; plain = (refl, refl); defines = refl; uncounted = refl; whole = refl; allowed = refl }

makes_vote : (figures : Bool) → IsCreation (tables_for_main figures ++ take 5 domain_tables) d_vote_table D_VOTE.now
unfolding understood everything allowing
makes_vote false = record { command = refl; statement = refl; plain = (refl, refl); defines = refl; uncounted = refl; whole = refl; allowed = refl }
makes_vote true = record { command = refl; statement = refl; plain = (refl, refl); defines = refl; uncounted = refl; whole = refl; allowed = refl }

makes_sum : (figures : Bool) → IsCreation (tables_for_main figures ++ take 6 domain_tables) d_vote_sum_table D_VOTE_SUM.now
unfolding understood everything allowing
makes_sum false = record { command = refl; statement = refl; plain = (refl, refl); defines = refl; uncounted = refl; whole = refl; allowed = refl }
makes_sum true = record { command = refl; statement = refl; plain = (refl, refl); defines = refl; uncounted = refl; whole = refl; allowed = refl }

makes_tally : (figures : Bool) → IsCreation (tables_for_main figures ++ take 7 domain_tables) d_tally_table D_TALLY.now
unfolding understood everything allowing
makes_tally false = record { command = refl; statement = refl; plain = (refl, refl); defines = refl; uncounted = refl; whole = refl; allowed = refl }
makes_tally true = record { command = refl; statement = refl; plain = (refl, refl); defines = refl; uncounted = refl; whole = refl; allowed = refl }

abbrev pub domain_texts : List (List ℕ)
domain_texts = DOMAIN.now ∷ D_TEMPLATE.now ∷ D_LANGUAGE.now ∷ D_UNIT.now ∷ D_SUGGESTION.now ∷ D_VOTE.now ∷ D_VOTE_SUM.now ∷ D_TALLY.now ∷ []

text_makes : (figures : Bool) (k : ℕ) → k < 8
    → (table : Table) × IsCreation (tables_for_main figures ++ take k domain_tables) table (get_or domain_texts k [])
    × ((tables_for_main figures ++ take k domain_tables) ++ table ∷ [] ≡ tables_for_main figures ++ take (k + 1) domain_tables)
text_makes figures zero within = (domain_table, makes_domain figures, append_assoc (tables_for_main figures) (take 0 domain_tables) (domain_table ∷ []))
text_makes figures (suc zero) within = (d_template_table, makes_template figures, append_assoc (tables_for_main figures) (take 1 domain_tables) (d_template_table ∷ []))
text_makes figures (suc (suc zero)) within = (d_language_table, makes_language figures, append_assoc (tables_for_main figures) (take 2 domain_tables) (d_language_table ∷ []))
text_makes figures (suc (suc (suc zero))) within = (d_unit_table, makes_unit figures, append_assoc (tables_for_main figures) (take 3 domain_tables) (d_unit_table ∷ []))
text_makes figures (suc (suc (suc (suc zero)))) within = (d_suggestion_table, makes_suggestion figures, append_assoc (tables_for_main figures) (take 4 domain_tables) (d_suggestion_table ∷ []))
text_makes figures (suc (suc (suc (suc (suc zero))))) within = (d_vote_table, makes_vote figures, append_assoc (tables_for_main figures) (take 5 domain_tables) (d_vote_table ∷ []))
text_makes figures (suc (suc (suc (suc (suc (suc zero)))))) within = (d_vote_sum_table, makes_sum figures, append_assoc (tables_for_main figures) (take 6 domain_tables) (d_vote_sum_table ∷ []))
text_makes figures (suc (suc (suc (suc (suc (suc (suc zero))))))) within = (d_tally_table, makes_tally figures, append_assoc (tables_for_main figures) (take 7 domain_tables) (d_tally_table ∷ []))
text_makes figures (suc (suc (suc (suc (suc (suc (suc (suc k)))))))) within = absurd (omega (arith, within))

-- ---- one text after the other

-- before the first text
first_tables : {figures : Bool} (layout : Layout (for_main figures)) → tables_of layout ≡ tables_for_main figures ++ take 0 domain_tables
first_tables made_new = refl
first_tables made_second = refl

-- behind the last
laid_out : (figures : Bool) (schema : Schema) → schema ≡ schema_with (tables_for_main figures ++ domain_tables) → IsLaidOut by_domain schema
laid_out false schema is = (from_first, is)
laid_out true schema is = (from_second, is)

abbrev pub HasSoFar : Bool → Database → ℕ → State → Type 0
HasSoFar figures before k = HasMoreTables before (tables_for_main figures ++ take k domain_tables)

makes_both : (Had Has : State → Type 0) (a b c : State) (r : Result ℕ Error) → IsMaking {A = ℕ} {E = Error} Had a b (Ok 0) → IsMaking Has b c r → IsMaking Has a c r
makes_both Had Has a b c r one two = record {
  made = two.made;
  stays = λ clean. stays r (one.stays (early clean)) (two.stays clean);
  kept = λ clean. record {
    was_open = λ is_open. (one.kept (early clean)).was_open ((two.kept clean).was_open is_open);
    committed = λ is_open. (two.kept clean).committed is_open ∙ (one.kept (early clean)).committed ((two.kept clean).was_open is_open);
  };
  survives = survives_then a b c _ _ (λ _. ⊥) (λ _ db none. none) (λ _ db none. none) one.survives two.survives;
}
  where
    early : HasCleanDisk c → HasCleanDisk b
    early clean = omega (arith, two.survives.clean)

    stays : (r : Result ℕ Error) → StaysInside a b → OnOk r (StaysInside b c) → OnOk r (StaysInside a c)
    stays (Ok n) first second = record { inside = second.inside; is_open = second.is_open; committed = second.committed ∙ first.committed }
    stays (Err e) first second = tt

module _ (figures : Bool) {S : Type 0} (g : store.Ghosts S) (old mid : Held S) where
  abbrev before : Database
  before = (state g old).now

  -- before the first text nothing was done
  abbrev pub MadeSoFar : ℕ → Type 0
  MadeSoFar k = ((k ≡ 0) × (mid ≡ old)) ⊎ IsMaking {A = ℕ} {E = Error} (HasSoFar figures before k) (state g old) (state g mid) (Ok 0)

  at_first : IsSteadyOver (for_main figures) (state g old) → HasCleanDisk (state g old) → IsTrue (state g old).is_open → HasSoFar figures before 0 (state g old)
  at_first steady clean is_open = by (steady.ready clean is_open)
    where
      by : AreOfficeTablesOf (for_main figures) before → HasSoFar figures before 0 (state g old)
      by ready = record { schema = schema ready.schema.0 ready.schema.1; sound = ready.sound; rows = λ name. refl }
        where
          schema : (layout : Layout (for_main figures)) → before.schema ≡ schema_of layout → before.schema ≡ schema_with (tables_for_main figures ++ take 0 domain_tables)
          schema layout is = is ∙ ap schema_with (first_tables layout)

  module _ (new : Held S) (steady : IsSteadyOver (for_main figures) (state g old)) (k : ℕ) (within : k < 8) where
    -- the next text makes its table
    pub one_more : (text : List ℕ) (r : Result ℕ Error) → MadeSoFar k
        → (HasCleanDisk (state g new) → IsTrue (state g mid).in_transaction → ExecutesInside 0 text [] (state g mid) (state g new) r) → Survives (state g mid) (state g new) (λ _. ⊥)
        → text ≡ get_or domain_texts k [] → IsMaking (HasSoFar figures before (k + 1)) (state g old) (state g new) r
    one_more text r so_far runs survives is =
        let next = text_makes figures k within in
        let ran = subst (λ (t : List ℕ). HasCleanDisk (state g new) → IsTrue (state g mid).in_transaction → ExecutesInside 0 t [] (state g mid) (state g new) r) is runs in
        by so_far (λ inside has. subst (λ tables. IsMaking (HasMoreTables before tables) (state g mid) (state g new) r) next.2
        (creates_inside before (tables_for_main figures ++ take k domain_tables) next.0 _ next.1 (state g mid) (state g new) r inside has ran survives))
      where
        by : MadeSoFar k
            → ((HasCleanDisk (state g mid) → IsTrue (state g mid).in_transaction) → (HasCleanDisk (state g mid) → IsTrue (state g mid).is_open → HasSoFar figures before k (state g mid))
            → IsMaking (HasSoFar figures before (k + 1)) (state g mid) (state g new) r) → IsMaking (HasSoFar figures before (k + 1)) (state g old) (state g new) r
        by (inl none) makes =
            let first = at_first steady in
            subst (λ (h : Held S). IsMaking (HasSoFar figures before (k + 1)) (state g h) (state g new) r) none.1
            (makes (subst (λ (h : Held S). HasCleanDisk (state g h) → IsTrue (state g h).in_transaction) (sym none.1) steady.inside)
            (subst (λ (h : Held S). HasCleanDisk (state g h) → IsTrue (state g h).is_open → HasSoFar figures before k (state g h)) (sym none.1)
            (λ clean is_open. subst (λ n. HasSoFar figures before n (state g old)) (sym none.0) (first clean is_open))))
        by (inr made) makes =
            makes_both (HasSoFar figures before k) (HasSoFar figures before (k + 1)) (state g old) (state g mid) (state g new) r made
            (makes (λ clean. (made.stays clean).inside) (λ clean is_open. made.made clean))

    -- or is lost
    pub one_lost : (text : List ℕ) (e : Error) → MadeSoFar k
        → (HasCleanDisk (state g new) → IsTrue (state g mid).in_transaction → ExecutesInside 0 text [] (state g mid) (state g new) (Err e)) → Survives (state g mid) (state g new) (λ _. ⊥)
        → text ≡ get_or domain_texts k [] → HasCleanDisk (state g new) → IsLost (state g old) (state g new) e
    one_lost text e so_far runs survives is clean = by so_far
      where
        early : HasCleanDisk (state g mid)
        early = omega (arith, clean, survives.clean)

        lost : IsTrue (state g mid).in_transaction → (IsTrue (state g mid).is_open → HasSoFar figures before k (state g mid)) → IsLost (state g mid) (state g new) e
        lost inside has =
            let next = text_makes figures k within in
            let ran = subst (λ (t : List ℕ). ExecutesInside 0 t [] (state g mid) (state g new) (Err e)) is (runs clean inside) in
            creation_lost (tables_for_main figures ++ take k domain_tables) next.0 _ next.1 (state g mid) (state g new) e (λ is_open. (has is_open).schema) ran

        by : MadeSoFar k → IsLost (state g old) (state g new) e
        by (inl none) =
            let same : state g mid ≡ state g old = ap (λ (h : Held S). state g h) none.1 in
            let early_old : HasCleanDisk (state g old) = subst HasCleanDisk same early in
            let inside = subst (λ (h : Held S). IsTrue (state g h).in_transaction) (sym none.1) (steady.inside early_old) in
            let has = subst (λ (h : Held S). IsTrue (state g h).is_open → HasSoFar figures before k (state g h)) (sym none.1)
            (λ is_open. subst (λ n. HasSoFar figures before n (state g old)) (sym none.0) (at_first steady early_old is_open)) in
            subst (λ (h : Held S). IsLost (state g h) (state g new) e) none.1 (lost inside has)
        by (inr made) = lost_behind (state g old) (state g mid) (state g new) e made.survives survives clean (lost (made.stays early).inside (λ is_open. made.made early))

  -- ---- all of them

  pub counted : (count k : ℕ) → IsMaking {A = ℕ} {E = Error} (HasSoFar figures before k) (state g old) (state g mid) (Ok count) → MadeSoFar k
  counted count k it = inr (record { made = it.made; stays = it.stays; kept = it.kept; survives = it.survives })

-- the rows of each of an office's tables are apart where those of the names of these are
all_tables_of : (form : Form) (rows : NamedRows) → AllByRecursion (λ (t : Table). AreApart (rows t.name)) (own_tables form) → AreTablesOf form rows
all_tables_of form rows each name own =
    let it = some_has (is_named name) (own_tables form) own in
    subst (λ n. AreApart (rows n)) (texts_are_one it.0.name name it.2) (all_has (λ (t : Table). AreApart (rows t.name)) (own_tables form) it.0 each it.1)

-- a name that no table of an earlier form has
missing : {figures : Bool} (name : List ℕ) (db : Database) → find (is_named name) (schema_of made_new).tables ≡ None → find (is_named name) (schema_of made_second).tables ≡ None
    → (layout : Layout (for_main figures)) → db.schema ≡ schema_of layout → rows_named db name ≡ []
missing name db none_new none_second made_new is =
    ap (λ (s : Schema). rows_in s db.trees name) is ∙ ap (λ (found : Option Table). option_map_or (λ (t : Table). db.trees t.tree) found []) none_new
missing name db none_new none_second made_second is =
    ap (λ (s : Schema). rows_in s db.trees name) is ∙ ap (λ (found : Option Table). option_map_or (λ (t : Table). db.trees t.tree) found []) none_second

-- new tables have no rows, and the others theirs
tables_now : {figures : Bool} (was : Database) → AreOfficeTablesOf (for_main figures) was → (rows : NamedRows) → ((name : List ℕ) → rows name ≡ rows_named was name) → AreTablesOf by_domain rows
tables_now {figures} was ready rows same =
    all_tables_of by_domain rows (
      old_one (codes "record") (record_placed ready.schema.0).own,
      (
        old_one (codes "team") (team_placed ready.schema.0).own,
        (
          old_one (codes "policy") (policy_placed ready.schema.0).own,
          (
            new_one (codes "domain") refl refl,
            (
              new_one (codes "d_template") refl refl,
              (
                new_one (codes "d_language") refl refl,
                (
                  new_one (codes "d_unit") refl refl,
                  (
                    new_one (codes "d_suggestion") refl refl,
                    (
                      new_one (codes "d_vote") refl refl,
                      (new_one (codes "d_vote_sum") refl refl, (new_one (codes "d_tally") refl refl, tt)),
                    ),
                  ),
                ),
              ),
            ),
          ),
        ),
      ),
    )
  where
    old_one : (name : List ℕ) → is_own_table (for_main figures) name ≡ true → AreApart (rows name)
    old_one name own = subst AreApart (sym (same name)) (ready.tables name own)

    new_one : (name : List ℕ) → find (is_named name) (schema_of made_new).tables ≡ None → find (is_named name) (schema_of made_second).tables ≡ None → AreApart (rows name)
    new_one name none_new none_second = subst AreApart (sym (same name ∙ missing name was none_new none_second ready.schema.0 ready.schema.1)) none_apart

module _ (figures : Bool) {S : Type 0} (g : store.Ghosts S) (old new : Held S) (steady : IsSteadyOver (for_main figures) (state g old)) where
  -- after the last there are all of them
  pub all_made : {U : Type 0} (u : U) (k : ℕ) → 8 ≤ k → MadeSoFar figures g old new k → IsInsideOf {A = U} {E = Error} by_domain (state g old) (state g new) (Ok u) KeepsNamedRows
  all_made u k past (inl none) = absurd (omega (arith, past, none.0))
  all_made u k past (inr made) =
      let it = subst (λ tables. IsMaking {A = ℕ} {E = Error} (HasMoreTables (state g old).now (tables_for_main figures ++ tables)) (state g old) (state g new) (Ok 0)) (take_all k domain_tables past) made in
      record {
        made = λ clean. (it.made clean).rows;
        ready = λ clean.
            let has = it.made clean in
            let was = steady.ready (omega (arith, it.survives.clean, clean)) ((it.kept clean).was_open (it.stays clean).is_open) in
            record { schema = laid_out figures (state g new).now.schema has.schema; sound = has.sound; tables = tables_now (state g old).now was (rows_named (state g new).now) has.rows };
        stays = it.stays;
        kept = it.kept;
        survives = it.survives;
      }

  -- a text that failed leaves nothing
  pub one_failed : {A B : Type 0} (e : Error) (given : Result B Error) (Has : State → Type 0) → IsErr given → IsMaking {A = A} Has (state g old) (state g new) (Err e)
      → IsInsideOf by_domain (state g old) (state g new) given KeepsNamedRows
  one_failed e (Ok b) Has is it = absurd (let none = is in cc)
  one_failed e (Err f) Has is it = record { made = λ clean. tt; ready = λ clean. tt; stays = λ clean. tt; kept = it.kept; survives = it.survives }
