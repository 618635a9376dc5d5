-- The queries on the rowids of each table, and their test one after another.
use Rattle.std.proofs.Common.{◌≡◌, ◌⊎◌, inl, inr, ℕ, zero, suc, ◌+◌, ◌<◌, ◌≤◌, List, [], ◌∷◌, map, filter, take, get_or, length, codes, Bor, Bool, true, false, Result, None, Ok, Err, IsTrue, All, refl, sym, ap, subst, ◌∙◌, arith}
use Rattle.std.proofs.Math.Path.{fun_ext}
use Rattle.std.specs.Bool.{Decides}
use Rattle.std.specs.List.{AllByRecursion}
use Rattle.sqlite_rules.proofs.ListLemmas.{all_has, all_from, some_has, some_from}
use Rattle.sql_laws.proofs.RowMaps.{texts_are_one, text_ties_itself}
use Rattle.std.specs.Result.{IsErr}
use Rattle.std.specs.List.Sorted.{IsPermutation}
use Rattle.std.proofs.lemmas.Bool.{false≢true}
use Rattle.std.proofs.lemmas.List.{take_all}
use Rattle.std.proofs.lemmas.List.Elements.{All-from_recursion, recursion_from_All, All-more, All-get_or}
use Rattle.sqlite.specs.declared.types.Value.TheVariants.{Null}
use Rattle.sqlite.specs.Order.{Row}
use Rattle.sqlite.specs.Term.{col}
use Rattle.sqlite.specs.Effect.{Database}
use Rattle.sqlite.specs.Table.{Table}
use Rattle.sqlite.specs.Program.{overlay}
use Rattle.sqlite.specs.Listing.{understood}
use Rattle.sqlite.specs.declared.error.Error.{Error}
use Rattle.sqlite.specs.State.{State, HasCleanDisk, KeepsCommit, Survives, Shown, FailsToQuery, IsTooLate}
use Rattle.sqlite.specs.Given.{IsPlain}
use Rattle.sqlite.proofs.Callers.{reads_as}
use Rattle.sqlite.proofs.StateLemmas.{survives_then}
use Rattle.sqlite_tied.specs.Compute.{everything}
use Rattle.sql_laws.specs.ApartRows.{AreApart}
use Rattle.sql_laws.specs.PlainQueries.{passes, shows}
use Rattle.sql_laws.proofs.PlainQueries.{ordered_permuted}
use Rattle.sql_laws.proofs.OrderedQueries.{answers_in_order}
use Rattle.sql_schema.specs.Inside.{AreTablesOf}
use Rattle.sql_schema.specs.Keys.{columns}
use Rattle.sql_schema.proofs.Queries.{rows_read, shows_columns}
use Rattle.sql_schema.specs.Errors.{IsUnread}
use Rattle.sql_schema.proofs.Unread.{unread, no_sums}
use Rattle.sql_layouts.specs.Looks.{IsOver, IsLook, HasSchema}
use Rattle.sql_layouts.specs.RisingRows.{ShowsRowids, are_rising}
use Rattle.sql_layouts.specs.RowidQueries.{IsRowidQuery, AskAll}
use Rattle.sql_layouts.proofs.Looks.{looks_inside, look_mapped, over_next}
use Rattle.sql_layouts.proofs.RowidTests.{rowids_told}
use Rattle.sql_schema.specs.Layouts.{Form, for_main, by_domain, made_new, made_second, made_last, from_first, from_second, own_tables, is_named, schema_of, placed, NamedRows, rows_named}
use Rattle.sql_schema.proofs.Layouts.{record_placed, team_placed, policy_placed, template_placed, language_placed, unit_placed, suggestion_placed, vote_placed, vote_sum_placed, tally_placed, domain_placed, d_template_placed, d_language_placed, d_unit_placed, d_suggestion_placed, d_vote_placed, d_vote_sum_placed, d_tally_placed}
use Rattle.sql_schema.specs.Schema.{record_table, team_table, policy_table, template_table, language_table, unit_table, suggestion_table, vote_table, vote_sum_table, tally_table, domain_table, d_template_table, d_language_table, d_unit_table, d_suggestion_table, d_vote_table, d_vote_sum_table, d_tally_table}

all_pass : (rows : List Row) → filter (passes [] []) rows ≡ rows
all_pass [] = refl
all_pass (row ∷ rows) = ap (λ more. row ∷ more) (all_pass rows)

module _ {form : Form} (text : List ℕ) (table : Table) (query : IsRowidQuery form text table) (old new : State) (rows : List Row) where
  shows_rowids : HasSchema form old.now → Shown text [] old new rows → ShowsRowids table.name old.now rows
  shows_rowids has h =
      let layout = has.schema.0 in
      let tree = (placed layout table).tree in
      let project = map (col 1) (0 ∷ []) in
      let read = reads_as text [] old new (schema_of layout) has.schema.1 _ (query layout).asks (query layout).plain (query layout).own_tables rows h in
      let whole = ordered_permuted tree [] project _ (overlay old.now.trees []) [] rows (read.answer Null) in
      let same = ap (λ l. map (shows [] project) (filter (passes [] []) l)) (rows_read layout table (query layout).is_placed old.now has.schema.1)
      ∙ ap (λ (f : Row → Row). map f (filter (passes [] []) (rows_named old.now table.name))) (fun_ext (shows_columns [] (0 ∷ [])))
      ∙ ap (map (columns (0 ∷ []))) (all_pass (rows_named old.now table.name)) in
      record {
        all = subst (λ l. IsPermutation l rows) same whole;
        in_order = answers_in_order tree 0 [] project (col 1 0) (overlay old.now.trees []) [] rows (λ row. refl) (read.answer Null);
      }

-- what the test of the rows tells of the table
pub apart_told : {form : Form} (text : List ℕ) (table : Table) → IsRowidQuery form text table → (old new : State) (rows : List Row) (apart : Bool) → IsOver (HasSchema form) old → (HasCleanDisk new → Shown text [] old new rows)
    → Survives old new (λ _. ⊥) → apart ≡ are_rising None rows → IsLook {E = Error} old new (Ok apart) (λ db a. Decides a (AreApart (rows_named db table.name)))
apart_told {form} text table query old new rows apart over shown survives is =
    look_mapped old new apart apart (λ db a. (a ≡ are_rising None rows) → Decides a (AreApart (rows_named db table.name))) (λ db a. Decides a (AreApart (rows_named db table.name))) (λ db tells. tells is)
    (looks_inside text [] old new (HasSchema form) (λ db has. subst (λ s. IsPlain (understood s text)) (sym has.schema.1) (query has.schema.0).plain) (λ (a : Bool). rows)
    (λ db a. (a ≡ are_rising None rows) → Decides a (AreApart (rows_named db table.name))) (λ a has h e. rowids_told table.name old.now rows (shows_rowids text table query old new rows has h) a e) (Ok apart) over shown (λ _. tt) survives)

-- a query that isn't answered wants memory, or the disk failed, or a limit was met
pub rowids_unread : {form : Form} (text : List ℕ) (table : Table) → IsRowidQuery form text table → (old new : State) (e : Error) → IsOver (HasSchema form) old
    → (HasCleanDisk new → FailsToQuery text [] old new e ⊎ IsTooLate text [] old new e) → Survives old new (λ _. ⊥) → HasCleanDisk new → IsUnread old new e
rowids_unread {form} text table query old new e over failed survives clean = by old.is_open refl
  where
    by : (b : Bool) → old.is_open ≡ b → IsUnread old new e
    by true is_open =
        let early : HasCleanDisk old = omega (arith, clean, survives.clean) in
        let has = over.holds early is_open in
        let asks = query has.schema.0 in
        unread text [] (schema_of has.schema.0) _ asks.names asks.asks asks.own_tables asks.plain asks.whole asks.typed (λ db. no_sums (db (placed has.schema.0 table).tree)) old new e has.schema.1 (failed clean)
    by false shut = inr (inl (inl shut))

pub record_is : {form : Form} → IsRowidQuery form (codes "SELECT rowid FROM record ORDER BY rowid") record_table
unfolding understood everything
record_is made_new = record { names = _; is_placed = record_placed made_new; asks = refl; own_tables = refl; plain = (refl, refl); whole = refl; typed = refl }
record_is made_second = record { names = _; is_placed = record_placed made_second; asks = refl; own_tables = refl; plain = (refl, refl); whole = refl; typed = refl }
record_is made_last = record { names = _; is_placed = record_placed made_last; asks = refl; own_tables = refl; plain = (refl, refl); whole = refl; typed = refl }
record_is from_first = record { names = _; is_placed = record_placed from_first; asks = refl; own_tables = refl; plain = (refl, refl); whole = refl; typed = refl }
record_is from_second = record { names = _; is_placed = record_placed from_second; asks = refl; own_tables = refl; plain = (refl, refl); whole = refl; typed = refl }

pub team_is : {form : Form} → IsRowidQuery form (codes "SELECT rowid FROM team ORDER BY rowid") team_table
unfolding understood everything
team_is made_new = record { names = _; is_placed = team_placed made_new; asks = refl; own_tables = refl; plain = (refl, refl); whole = refl; typed = refl }
team_is made_second = record { names = _; is_placed = team_placed made_second; asks = refl; own_tables = refl; plain = (refl, refl); whole = refl; typed = refl }
team_is made_last = record { names = _; is_placed = team_placed made_last; asks = refl; own_tables = refl; plain = (refl, refl); whole = refl; typed = refl }
team_is from_first = record { names = _; is_placed = team_placed from_first; asks = refl; own_tables = refl; plain = (refl, refl); whole = refl; typed = refl }
team_is from_second = record { names = _; is_placed = team_placed from_second; asks = refl; own_tables = refl; plain = (refl, refl); whole = refl; typed = refl }

pub policy_is : {form : Form} → IsRowidQuery form (codes "SELECT rowid FROM policy ORDER BY rowid") policy_table
unfolding understood everything
policy_is made_new = record { names = _; is_placed = policy_placed made_new; asks = refl; own_tables = refl; plain = (refl, refl); whole = refl; typed = refl }
policy_is made_second = record { names = _; is_placed = policy_placed made_second; asks = refl; own_tables = refl; plain = (refl, refl); whole = refl; typed = refl }
policy_is made_last = record { names = _; is_placed = policy_placed made_last; asks = refl; own_tables = refl; plain = (refl, refl); whole = refl; typed = refl }
policy_is from_first = record { names = _; is_placed = policy_placed from_first; asks = refl; own_tables = refl; plain = (refl, refl); whole = refl; typed = refl }
policy_is from_second = record { names = _; is_placed = policy_placed from_second; asks = refl; own_tables = refl; plain = (refl, refl); whole = refl; typed = refl }

pub template_is : {figures : Bool} → IsRowidQuery (for_main figures) (codes "SELECT rowid FROM template ORDER BY rowid") template_table
unfolding understood everything
template_is made_new = record { names = _; is_placed = template_placed made_new; asks = refl; own_tables = refl; plain = (refl, refl); whole = refl; typed = refl }
template_is made_second = record { names = _; is_placed = template_placed made_second; asks = refl; own_tables = refl; plain = (refl, refl); whole = refl; typed = refl }

pub language_is : {figures : Bool} → IsRowidQuery (for_main figures) (codes "SELECT rowid FROM language ORDER BY rowid") language_table
unfolding understood everything
language_is made_new = record { names = _; is_placed = language_placed made_new; asks = refl; own_tables = refl; plain = (refl, refl); whole = refl; typed = refl }
language_is made_second = record { names = _; is_placed = language_placed made_second; asks = refl; own_tables = refl; plain = (refl, refl); whole = refl; typed = refl }

pub unit_is : {figures : Bool} → IsRowidQuery (for_main figures) (codes "SELECT rowid FROM unit ORDER BY rowid") unit_table
unfolding understood everything
unit_is made_new = record { names = _; is_placed = unit_placed made_new; asks = refl; own_tables = refl; plain = (refl, refl); whole = refl; typed = refl }
unit_is made_second = record { names = _; is_placed = unit_placed made_second; asks = refl; own_tables = refl; plain = (refl, refl); whole = refl; typed = refl }

pub suggestion_is : {figures : Bool} → IsRowidQuery (for_main figures) (codes "SELECT rowid FROM suggestion ORDER BY rowid") suggestion_table
unfolding understood everything
suggestion_is made_new = record { names = _; is_placed = suggestion_placed made_new; asks = refl; own_tables = refl; plain = (refl, refl); whole = refl; typed = refl }
suggestion_is made_second = record { names = _; is_placed = suggestion_placed made_second; asks = refl; own_tables = refl; plain = (refl, refl); whole = refl; typed = refl }

pub vote_is : {figures : Bool} → IsRowidQuery (for_main figures) (codes "SELECT rowid FROM vote ORDER BY rowid") vote_table
unfolding understood everything
vote_is made_new = record { names = _; is_placed = vote_placed made_new; asks = refl; own_tables = refl; plain = (refl, refl); whole = refl; typed = refl }
vote_is made_second = record { names = _; is_placed = vote_placed made_second; asks = refl; own_tables = refl; plain = (refl, refl); whole = refl; typed = refl }

pub vote_sum_is : IsRowidQuery (for_main true) (codes "SELECT rowid FROM vote_sum ORDER BY rowid") vote_sum_table
unfolding understood everything
vote_sum_is made_second = record { names = _; is_placed = vote_sum_placed made_second; asks = refl; own_tables = refl; plain = (refl, refl); whole = refl; typed = refl }

pub tally_is : IsRowidQuery (for_main true) (codes "SELECT rowid FROM tally ORDER BY rowid") tally_table
unfolding understood everything
tally_is made_second = record { names = _; is_placed = tally_placed made_second; asks = refl; own_tables = refl; plain = (refl, refl); whole = refl; typed = refl }

pub domain_is : IsRowidQuery by_domain (codes "SELECT rowid FROM domain ORDER BY rowid") domain_table
unfolding understood everything
domain_is made_last = record { names = _; is_placed = domain_placed made_last; asks = refl; own_tables = refl; plain = (refl, refl); whole = refl; typed = refl }
domain_is from_first = record { names = _; is_placed = domain_placed from_first; asks = refl; own_tables = refl; plain = (refl, refl); whole = refl; typed = refl }
domain_is from_second = record { names = _; is_placed = domain_placed from_second; asks = refl; own_tables = refl; plain = (refl, refl); whole = refl; typed = refl }

pub d_template_is : IsRowidQuery by_domain (codes "SELECT rowid FROM d_template ORDER BY rowid") d_template_table
unfolding understood everything
d_template_is made_last = record { names = _; is_placed = d_template_placed made_last; asks = refl; own_tables = refl; plain = (refl, refl); whole = refl; typed = refl }
d_template_is from_first = record { names = _; is_placed = d_template_placed from_first; asks = refl; own_tables = refl; plain = (refl, refl); whole = refl; typed = refl }
d_template_is from_second = record { names = _; is_placed = d_template_placed from_second; asks = refl; own_tables = refl; plain = (refl, refl); whole = refl; typed = refl }

pub d_language_is : IsRowidQuery by_domain (codes "SELECT rowid FROM d_language ORDER BY rowid") d_language_table
unfolding understood everything
d_language_is made_last = record { names = _; is_placed = d_language_placed made_last; asks = refl; own_tables = refl; plain = (refl, refl); whole = refl; typed = refl }
d_language_is from_first = record { names = _; is_placed = d_language_placed from_first; asks = refl; own_tables = refl; plain = (refl, refl); whole = refl; typed = refl }
d_language_is from_second = record { names = _; is_placed = d_language_placed from_second; asks = refl; own_tables = refl; plain = (refl, refl); whole = refl; typed = refl }

pub d_unit_is : IsRowidQuery by_domain (codes "SELECT rowid FROM d_unit ORDER BY rowid") d_unit_table
unfolding understood everything
d_unit_is made_last = record { names = _; is_placed = d_unit_placed made_last; asks = refl; own_tables = refl; plain = (refl, refl); whole = refl; typed = refl }
d_unit_is from_first = record { names = _; is_placed = d_unit_placed from_first; asks = refl; own_tables = refl; plain = (refl, refl); whole = refl; typed = refl }
d_unit_is from_second = record { names = _; is_placed = d_unit_placed from_second; asks = refl; own_tables = refl; plain = (refl, refl); whole = refl; typed = refl }

pub d_suggestion_is : IsRowidQuery by_domain (codes "SELECT rowid FROM d_suggestion ORDER BY rowid") d_suggestion_table
unfolding understood everything
d_suggestion_is made_last = record { names = _; is_placed = d_suggestion_placed made_last; asks = refl; own_tables = refl; plain = (refl, refl); whole = refl; typed = refl }
d_suggestion_is from_first = record { names = _; is_placed = d_suggestion_placed from_first; asks = refl; own_tables = refl; plain = (refl, refl); whole = refl; typed = refl }
d_suggestion_is from_second = record { names = _; is_placed = d_suggestion_placed from_second; asks = refl; own_tables = refl; plain = (refl, refl); whole = refl; typed = refl }

pub d_vote_is : IsRowidQuery by_domain (codes "SELECT rowid FROM d_vote ORDER BY rowid") d_vote_table
unfolding understood everything
d_vote_is made_last = record { names = _; is_placed = d_vote_placed made_last; asks = refl; own_tables = refl; plain = (refl, refl); whole = refl; typed = refl }
d_vote_is from_first = record { names = _; is_placed = d_vote_placed from_first; asks = refl; own_tables = refl; plain = (refl, refl); whole = refl; typed = refl }
d_vote_is from_second = record { names = _; is_placed = d_vote_placed from_second; asks = refl; own_tables = refl; plain = (refl, refl); whole = refl; typed = refl }

pub d_vote_sum_is : IsRowidQuery by_domain (codes "SELECT rowid FROM d_vote_sum ORDER BY rowid") d_vote_sum_table
unfolding understood everything
d_vote_sum_is made_last = record { names = _; is_placed = d_vote_sum_placed made_last; asks = refl; own_tables = refl; plain = (refl, refl); whole = refl; typed = refl }
d_vote_sum_is from_first = record { names = _; is_placed = d_vote_sum_placed from_first; asks = refl; own_tables = refl; plain = (refl, refl); whole = refl; typed = refl }
d_vote_sum_is from_second = record { names = _; is_placed = d_vote_sum_placed from_second; asks = refl; own_tables = refl; plain = (refl, refl); whole = refl; typed = refl }

pub d_tally_is : IsRowidQuery by_domain (codes "SELECT rowid FROM d_tally ORDER BY rowid") d_tally_table
unfolding understood everything
d_tally_is made_last = record { names = _; is_placed = d_tally_placed made_last; asks = refl; own_tables = refl; plain = (refl, refl); whole = refl; typed = refl }
d_tally_is from_first = record { names = _; is_placed = d_tally_placed from_first; asks = refl; own_tables = refl; plain = (refl, refl); whole = refl; typed = refl }
d_tally_is from_second = record { names = _; is_placed = d_tally_placed from_second; asks = refl; own_tables = refl; plain = (refl, refl); whole = refl; typed = refl }

-- ---- one table after another

no_query : Bor (List ℕ)
no_query = record { ref_ptr = (0, 0); now = [] }

pub asks_at : (form : Form) (queries : List (Bor (List ℕ))) (tables : List Table) (n : ℕ) → AskAll form queries tables → n < length queries
    → IsRowidQuery form (get_or queries n (record { ref_ptr = (0, 0); now = [] })).now (get_or tables n record_table)
asks_at form [] tables n asks low = absurd (omega (arith, low))
asks_at form (q ∷ queries) [] n asks low = absurd asks
asks_at form (q ∷ queries) (t ∷ tables) zero asks low = asks.0
asks_at form (q ∷ queries) (t ∷ tables) (suc n) asks low = asks_at form queries tables n asks.1 (omega (arith, low))

pub as_many : (form : Form) (queries : List (Bor (List ℕ))) (tables : List Table) → AskAll form queries tables → length queries ≡ length tables
as_many form [] [] asks = refl
as_many form [] (t ∷ tables) asks = absurd asks
as_many form (q ∷ queries) [] asks = absurd asks
as_many form (q ∷ queries) (t ∷ tables) asks = ap suc (as_many form queries tables asks.1)

-- the tables so far have their rowids apart
abbrev pub FirstApart : List Table → ℕ → NamedRows → Type 0
FirstApart tables n rows = All (λ (t : Table). AreApart (rows t.name)) (take n tables)

-- What is known between two tables: nothing has changed, and if something was read the connection is open.
pub record HasLooked (form : Form) (tables : List Table) (a b : State) (n : ℕ) : Type 0 where
  pub over : IsOver (HasSchema form) b
  pub apart : HasCleanDisk b → FirstApart tables n (rows_named a.now)
  pub same : HasCleanDisk b → b.now ≡ a.now
  pub is_open : HasCleanDisk b → 0 < n → IsTrue b.is_open
  pub committed : HasCleanDisk b → b.committed ≡ a.committed
  pub kept : HasCleanDisk b → KeepsCommit a b
  pub survives : Survives a b (λ _. ⊥)

pub nothing_looked : (form : Form) (tables : List Table) (a : State) → IsOver (HasSchema form) a → HasLooked form tables a a 0
nothing_looked form tables a over = record {
  over = over;
  apart = λ clean. All-from_recursion (λ (t : Table). AreApart (rows_named a.now t.name)) [] tt;
  same = λ clean. refl;
  is_open = λ clean some. absurd (omega (arith, some));
  committed = λ clean. refl;
  kept = λ clean. record { was_open = λ is_open. is_open; committed = λ is_open. refl };
  survives = record {
    clean = omega arith;
    shield = λ shield. shield;
    counts = omega arith;
    limit = refl;
    closes = λ clean is_open. inl is_open;
    crash = λ clean db left. inl left;
  };
}

module _ (form : Form) (tables : List Table) (a b c : State) (n : ℕ) (low : n < length tables) (so_far : HasLooked form tables a b n) where
  abbrev This : Database → Bool → Type 0
  This db apart = Decides apart (AreApart (rows_named db (get_or tables n record_table).name))

  early : Survives b c (λ _. ⊥) → HasCleanDisk c → HasCleanDisk b
  early end clean = omega (arith, end.clean)

  keeps_on : Survives b c (λ _. ⊥) → (HasCleanDisk c → KeepsCommit b c) → HasCleanDisk c → KeepsCommit a c
  keeps_on end two clean = record {
    was_open = λ is_open. (so_far.kept (early end clean)).was_open ((two clean).was_open is_open);
    committed = λ is_open. (two clean).committed is_open ∙ so_far.committed (early end clean);
  }

  survives_on : Survives b c (λ _. ⊥) → Survives a c (λ _. ⊥)
  survives_on = survives_then a b c _ _ (λ _. ⊥) (λ _ db none. none) (λ _ db none. none) so_far.survives

  pub this_apart : (apart : Bool) → apart ≡ true → IsLook {E = Error} b c (Ok apart) This → HasLooked form tables a c (n + 1)
  this_apart apart is two = record {
    over = over_next b c _ _ (HasSchema form) (HasSchema form) (λ db has told. has) so_far.over two;
    apart = λ clean.
        let here = subst (λ db. This db apart) (so_far.same (early two.survives clean)) (two.answer clean) in
        All-more (λ (t : Table). AreApart (rows_named a.now t.name)) tables n record_table low (so_far.apart (early two.survives clean)) (here.0 is);
    same = λ clean. two.same clean ∙ so_far.same (early two.survives clean);
    is_open = λ clean some. (two.stays clean).is_open;
    committed = λ clean. (two.stays clean).committed ∙ so_far.committed (early two.survives clean);
    kept = keeps_on two.survives two.kept;
    survives = survives_on two.survives;
  }

  pub this_not : (apart : Bool) → apart ≡ false → IsLook {E = Error} b c (Ok apart) This → IsLook {E = Error} a c (Ok false) (λ db apart. Decides apart (All (λ (t : Table). AreApart (rows_named db t.name)) tables))
  this_not apart is two = record {
    answer = λ clean.
        let here = subst (λ db. This db apart) (so_far.same (early two.survives clean)) (two.answer clean) in (
          λ e. absurd (false≢true e),
          λ all. absurd (false≢true (sym is ∙ here.1 (All-get_or (λ (t : Table). AreApart (rows_named a.now t.name)) tables n record_table low
              all))),
        );
    same = λ clean. two.same clean ∙ so_far.same (early two.survives clean);
    stays = λ clean. record { inside = (two.stays clean).inside; is_open = (two.stays clean).is_open; committed = (two.stays clean).committed ∙ so_far.committed (early two.survives clean) };
    kept = keeps_on two.survives two.kept;
    survives = survives_on two.survives;
  }

  pub this_unread : (e : Error) (r : Result Bool Error) (Q : Database → Bool → Type 0) → IsErr r → IsLook b c (Err e) This → IsLook a c r Q
  this_unread e (Ok y) Q is two = absurd (let none = is in cc)
  this_unread e (Err f) Q is two = record { answer = λ clean. tt; same = λ clean. tt; stays = λ clean. tt; kept = keeps_on two.survives two.kept; survives = survives_on two.survives }

pub all_apart : (form : Form) (tables : List Table) (a b : State) (n : ℕ) → length tables ≤ n → 0 < length tables → HasLooked form tables a b n
    → IsLook {E = Error} a b (Ok true) (λ db apart. Decides apart (All (λ (t : Table). AreApart (rows_named db t.name)) tables))
all_apart form tables a b n past some so_far = record {
  answer = λ clean. (
    λ e. subst (All (λ (t : Table). AreApart (rows_named a.now t.name))) (take_all n tables past) (so_far.apart clean),
    λ all. refl,
  );
  same = so_far.same;
  stays = λ clean. record { inside = so_far.over.inside clean; is_open = so_far.is_open clean (omega (arith, past, some)); committed = so_far.committed clean };
  kept = so_far.kept;
  survives = so_far.survives;
}

-- ---- the tables of a form

-- the rows of each of a form's tables are apart where those of the names of these are
all_own : (form : Form) (rows : NamedRows) → AllByRecursion (λ (t : Table). AreApart (rows t.name)) (own_tables form) → AreTablesOf form rows
all_own form rows each name own =
    let it = some_has (is_named name) (own_tables form) own in
    subst (λ n. AreApart (rows n)) (texts_are_one it.0.name name it.2) (all_has (λ (t : Table). AreApart (rows t.name)) (own_tables form) it.0 each it.1)

each_own : (form : Form) (rows : NamedRows) → AreTablesOf form rows → AllByRecursion (λ (t : Table). AreApart (rows t.name)) (own_tables form)
each_own form rows all =
    all_from (λ (t : Table). AreApart (rows t.name)) (own_tables form) (λ t there. all t.name (some_from (is_named t.name) (own_tables form) t there (text_ties_itself t.name)))

pub tables_told : (form : Form) (a b : State) (r : Result Bool Error) → IsLook a b r (λ db apart. Decides apart (All (λ (t : Table). AreApart (rows_named db t.name)) (own_tables form)))
    → IsLook a b r (λ db apart. Decides apart (AreTablesOf form (rows_named db)))
tables_told form a b (Ok apart) it = look_mapped a b apart apart _ _ (λ db tells. (
  λ e. all_own form (rows_named db) (recursion_from_All (λ (t : Table). AreApart (rows_named db t.name)) (own_tables form) (tells.0 e)),
  λ all. tells.1 (All-from_recursion (λ (t : Table). AreApart (rows_named db t.name)) (own_tables form) (each_own form (rows_named db) all)),
)) it
tables_told form a b (Err e) it = record { answer = λ clean. tt; same = it.same; stays = it.stays; kept = it.kept; survives = it.survives }
