-- The tables that the texts of a layout have made so far.
use Rattle.std.proofs.Common.{◌≡◌, ◌⊎◌, inl, inr, ℕ, ◌+◌, ◌<◌, ◌≤◌, List, [], ◌∷◌, ◌++◌, take, map, length, get_or, Bor, Result, Ok, Err, IsTrue, refl, sym, ap, subst, ◌∙◌, arith}
use Rattle.std.proofs.lemmas.List.{take_all, length-map, get_or-map}
use Rattle.std.specs.Result.{IsErr}
use Rattle.sqlite.specs.declared.error.Error.{Error}
use Rattle.sqlite.specs.Held.{Held, state}
use Rattle.sqlite.specs.State.{HasCleanDisk, Survives, ExecutesInside}
use Rattle.sqlite.specs.Schema.{Schema}
use Rattle.sqlite.specs.Table.{Table}
use Rattle.sqlite_trees.specs.declared.store.Store as store
use Rattle.sql_laws.specs.ApartRows.{AreApart}
use Rattle.sql_schema.specs.Layouts.{Form, Layout, made_new, made_second, made_last, from_first, from_second, tables_of, rows_named}
use Rattle.sql_schema.specs.Creation.{AreEmpty, HasTables, IsFresh, IsBegun, CreatesInside, HaveNoRows, MakesTables}
use Rattle.sql_schema.specs.Inside.{IsInsideOf}
use Rattle.sql_schema.proofs.Layouts.{of_names}
use Rattle.sql_schema.proofs.Creations.{IsCreation, creates_inside}
use Rattle.sql_schema.proofs.Sequences.{creates_both, creates_fails, begun_next}
use Rattle.sql_schema.proofs.Losses.{IsLost, lost_behind}
use Rattle.sql_schema.proofs.Unrefused.{creation_lost}

-- ---- the texts

-- Texts that are lent are those of the tables, in their order.
pub record AreTexts (own : List (List ℕ)) (texts : List (Bor (List ℕ))) : Type 0 where
  pub same : map (λ (t : Bor (List ℕ)). t.now) texts ≡ own

pub text_at : (own : List (List ℕ)) (texts : List (Bor (List ℕ))) → AreTexts own texts → (k : ℕ) (other : Bor (List ℕ)) → k < length own → (get_or texts k other).now ≡ get_or own k []
text_at own texts are k other within =
    let long : length texts ≡ length own = sym (length-map texts (λ (t : Bor (List ℕ)). t.now)) ∙ ap length are.same in
    sym (get_or-map (λ (t : Bor (List ℕ)). t.now) texts k other [] (omega (arith, within, long))) ∙ ap (λ ts. get_or ts k []) are.same

-- each makes its table after those before it
abbrev pub MakeInTurn : {form : Form} → Layout form → List (List ℕ) → Type 0
MakeInTurn layout texts = (k : ℕ) → k < length (tables_of layout)
    → (table : Table) × IsCreation (take k (tables_of layout)) table (get_or texts k []) × (take k (tables_of layout) ++ table ∷ [] ≡ take (k + 1) (tables_of layout))

-- ---- the tables

pub none_apart : AreApart []
none_apart = record { ints = λ r there. absurd there; apart = λ r s there. absurd there; once = tt }

some_tables : {form : Form} (layout : Layout form) → 0 < length (tables_of layout)
some_tables made_new = omega arith
some_tables made_second = omega arith
some_tables made_last = omega arith
some_tables from_first = omega arith
some_tables from_second = omega arith

module _ {form : Form} (layout : Layout form) {S : Type 0} (g : store.Ghosts S) (old mid : Held S) where
  -- before the first text nothing was done
  abbrev pub MadeSoFar : ℕ → Type 0
  MadeSoFar k = ((k ≡ 0) × (mid ≡ old)) ⊎ CreatesInside {A = ℕ} {E = Error} (state g old) (state g mid) (Ok 0) (take k (tables_of layout))

  begun : IsFresh (state g old) → (k : ℕ) → MadeSoFar k → IsBegun (take k (tables_of layout)) (state g mid)
  begun fresh k (inl none) = rw (none.0, none.1) (record {
    inside = fresh.inside;
    has = λ clean is_open. let it = fresh.blank clean is_open in record { schema = it.schema; sound = it.sound; empty = tt };
  })
  begun fresh k (inr made) = begun_next (state g old) (state g mid) 0 (take k (tables_of layout)) made

  module _ (new : Held S) where
    after : (r : Result ℕ Error) (k : ℕ) → MadeSoFar k → CreatesInside (state g mid) (state g new) r (take (k + 1) (tables_of layout)) → CreatesInside (state g old) (state g new) r (take (k + 1) (tables_of layout))
    after r k (inl none) one = subst (λ h. CreatesInside (state g h) (state g new) r (take (k + 1) (tables_of layout))) none.1 one
    after (Ok count) k (inr made) one = creates_both (state g old) (state g mid) (state g new) 0 count count (take k (tables_of layout)) (take (k + 1) (tables_of layout)) made one
    after (Err e) k (inr made) one =
        creates_fails (state g old) (state g mid) (state g new) {A = ℕ} {B = ℕ} {C = ℕ} {D = Error} {E = Error} 0 (Err e) (Err e) (take k (tables_of layout)) (take (k + 1) (tables_of layout)) (take (k + 1) (tables_of layout)) refl made one

    -- the next text makes its table
    pub one_more : (texts : List (List ℕ)) → MakeInTurn layout texts → IsFresh (state g old) → (k : ℕ) (text : List ℕ) (r : Result ℕ Error) → MadeSoFar k → k < length (tables_of layout)
        → (HasCleanDisk (state g new) → IsTrue (state g mid).in_transaction → ExecutesInside 0 text [] (state g mid) (state g new) r) → Survives (state g mid) (state g new) (λ _. ⊥)
        → text ≡ get_or texts k [] → CreatesInside (state g old) (state g new) r (take (k + 1) (tables_of layout))
    one_more texts makes fresh k text r so_far within runs survives is =
        let next = makes k within in
        let ran = subst (λ (t : List ℕ). HasCleanDisk (state g new) → IsTrue (state g mid).in_transaction → ExecutesInside 0 t [] (state g mid) (state g new) r) is runs in
        after r k so_far (subst (CreatesInside (state g mid) (state g new) r) next.2 (creates_inside (take k (tables_of layout)) next.0 _ next.1 (state g mid) (state g new) r (begun fresh k so_far) ran survives))

    -- or is lost
    pub one_lost : (texts : List (List ℕ)) → MakeInTurn layout texts → IsFresh (state g old) → (k : ℕ) (text : List ℕ) (e : Error) → MadeSoFar k → k < length (tables_of layout)
        → (HasCleanDisk (state g new) → IsTrue (state g mid).in_transaction → ExecutesInside 0 text [] (state g mid) (state g new) (Err e)) → Survives (state g mid) (state g new) (λ _. ⊥)
        → text ≡ get_or texts k [] → HasCleanDisk (state g new) → IsLost (state g old) (state g new) e
    one_lost texts makes fresh k text e so_far within runs survives is clean =
        let next = makes k within in
        let began = begun fresh k so_far in
        let early : HasCleanDisk (state g mid) = omega (arith, clean, survives.clean) in
        let ran = subst (λ (t : List ℕ). ExecutesInside 0 t [] (state g mid) (state g new) (Err e)) is (runs clean (began.inside early)) in
        by so_far (creation_lost (take k (tables_of layout)) next.0 _ next.1 (state g mid) (state g new) e (λ is_open. (began.has early is_open).schema) ran)
      where
        by : MadeSoFar k → IsLost (state g mid) (state g new) e → IsLost (state g old) (state g new) e
        by (inl none) lost = subst (λ h. IsLost (state g h) (state g new) e) none.1 lost
        by (inr made) lost = lost_behind (state g old) (state g mid) (state g new) e made.survives survives clean lost

module _ {form : Form} (layout : Layout form) {S : Type 0} (g : store.Ghosts S) (old new : Held S) where
  pub counted : (count k : ℕ) → CreatesInside {A = ℕ} {E = Error} (state g old) (state g new) (Ok count) (take k (tables_of layout)) → MadeSoFar layout g old new k
  counted count k it = inr (record { made = it.made; stays = it.stays; kept = it.kept; survives = it.survives })

  none_has_rows : HasTables (tables_of layout) (state g new) → HaveNoRows (rows_named (state g new).now)
  none_has_rows has = of_names (λ rows. rows ≡ []) (state g new).now.schema (state g new).now.trees refl
      (subst (λ (s : Schema). AreEmpty s.tables (state g new).now.trees) (sym has.schema) has.empty)

  -- after the last there are all of them
  pub all_made : {U : Type 0} (u : U) (k : ℕ) → length (tables_of layout) ≤ k → MadeSoFar layout g old new k → IsInsideOf {A = U} {E = Error} form (state g old) (state g new) (Ok u) MakesTables
  all_made u k past (inl none) = absurd (omega (arith, past, none.0, some_tables layout))
  all_made u k past (inr made) =
      let it = subst (CreatesInside {A = ℕ} {E = Error} (state g old) (state g new) (Ok 0)) (take_all k (tables_of layout) past) made in
      record {
        made = λ clean. none_has_rows (it.made clean);
        ready = λ clean. let has = it.made clean in record {
          schema = (layout, has.schema);
          sound = has.sound;
          tables = λ name own. subst AreApart (sym (none_has_rows has name)) none_apart;
        };
        stays = it.stays;
        kept = it.kept;
        survives = it.survives;
      }

  -- a text that failed leaves nothing
  pub one_failed : {A B : Type 0} (e : Error) (given : Result B Error) (k : ℕ) → IsErr given → CreatesInside {A = A} (state g old) (state g new) (Err e) (take k (tables_of layout))
      → IsInsideOf form (state g old) (state g new) given MakesTables
  one_failed e (Ok b) k is it = absurd (let none = is in cc)
  one_failed e (Err f) k is it = record { made = λ clean. tt; ready = λ clean. tt; stays = λ clean. tt; kept = it.kept; survives = it.survives }
